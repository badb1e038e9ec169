-- A tunnel in which an event changes nothing and nothing is due stays as it is, and gets no order.
use Rattle.std.proofs.Common.{◌≡◌, ℕ, ◌==◌, not, ◌&&◌, ◌||◌, Bool, true, false, List, Option, Some, None, refl, sym, ap, ◌∙◌, if◌then◌else◌, nat_eq}
use Rattle.std.specs.HashSet.{contains}
use Rattle.ctl_tunnels.specs.declared.half.HalfName.{HalfName}
use Rattle.ctl_tunnels.specs.declared.half.Side.{Side}
use Rattle.ctl_tunnels.specs.declared.half.Side.TheVariants as sides
use Rattle.ctl_tunnels.specs.declared.life.HalfOrder.{HalfOrder}
use Rattle.ctl_tunnels.specs.declared.life.Life.{Life}
use Rattle.ctl_tunnels.specs.declared.life.Task.TheVariants as tasks
use Rattle.ctl_tunnels.specs.declared.progress.Progress.{Progress}
use Rattle.ctl_tunnels.specs.declared.tunnel.Direction.{Direction}
use Rattle.ctl_tunnels.specs.declared.tunnel.Pair.{Pair}
use Rattle.ctl_tunnels.specs.declared.tunnel.Tunnel.{Tunnel}
use Rattle.ctl_tunnels.specs.Lives as lives
use Rattle.ctl_tunnels.specs.Steps as steps
use Rattle.ctl_tunnels.specs.Tunnels as tunnels
use Rattle.ctl_core.specs.declared.change.Change.{Change}
use Rattle.ctl_core.specs.declared.change.Change.TheVariants as changes
use Rattle.ctl_core.specs.declared.peer.Station.{Station}
use Rattle.ctl_core.specs.Changes.{changed, has_reqid}
use Rattle.ctl_core.specs.Drafts.{Drafted}
use Rattle.ctl_core.specs.Pass.{advanced, drafted, draft_forth, draft_pair, advanced_pair, draft_with, progress_with, next_of}
use Rattle.ctl_core.specs.Idle.{is_beside, spares, is_free, is_whole, is_quiet, is_idle}

-- ## truth

both : (a b : Bool) → (a && b) ≡ true → (a ≡ true) × (b ≡ true)
both true b e = (refl, e)
both false b e = cc

off : (b : Bool) → not b ≡ true → b ≡ false
off true e = cc
off false e = refl

-- ## no order is due

whole-ended : (x : Life) → is_whole (Some x) ≡ true → x.ended ≡ false
whole-ended x e = off x.ended (both x.out_done (not x.ended) e).1

no-out-removal : (s : Bool) (l : Option Life) → is_whole l ≡ true → steps.asked tasks.RemoveOut (lives.is_out_removable s) l ≡ None
no-out-removal s None e = refl
no-out-removal s (Some x) e =
    ap (λ b. if b && x.out_sent && not x.out_gone && s then Some (record { task = tasks.RemoveOut; serial = x.serial }) else None)
    (whole-ended x e)

no-in-removal : (r : Bool) (l : Option Life) → is_whole l ≡ true → steps.asked tasks.RemoveIn (lives.is_in_removable r) l ≡ None
no-in-removal r None e = refl
no-in-removal r (Some x) e =
    ap (λ b. if b && (not x.out_sent || x.out_gone) && r then Some (record { task = tasks.RemoveIn; serial = x.serial }) else None)
    (whole-ended x e)

no-out-put : (s r : Bool) (l : Option Life) → is_whole l ≡ true → steps.asked tasks.PutOut (lives.is_out_puttable s r) l ≡ None
no-out-put s r None e = refl
no-out-put s r (Some x) e =
    ap (λ b. if (not b && not x.out_done) && not x.out_sent && x.in_done && s
    && r then Some (record { task = tasks.PutOut; serial = x.serial }) else None) (whole-ended x e)
    ∙ ap (λ b. if (not false && not b) && not x.out_sent && x.in_done && s
    && r then Some (record { task = tasks.PutOut; serial = x.serial }) else None) (both x.out_done (not x.ended) e).0

unwanted : (w o s r : Bool) → not (w && not o) ≡ true → (w && not o && s && r) ≡ false
unwanted false o s r e = refl
unwanted true true s r e = refl
unwanted true false s r e = cc

no-in-put : (s r : Bool) (fresh : Option ℕ) (p : Progress) → not (p.wanted && not p.over) ≡ true → steps.in_put s r p fresh ≡ None
no-in-put s r None p e = refl
no-in-put s r (Some n) p e = ap (λ b. if b then Some (record { task = tasks.PutIn; serial = n }) else None) (unwanted p.wanted p.over s r e)

free-waits : (w : Option HalfOrder) → is_free w ≡ true → w ≡ None
free-waits None e = refl
free-waits (Some o) e = cc

pub record Quiet (p : Progress) : Type 0 where
  pub waits : p.waits ≡ None
  pub unowed : not (p.wanted && not p.over) ≡ true
  pub older : is_whole p.older ≡ true
  pub newer : is_whole p.newer ≡ true

quiet : (p : Progress) → is_quiet p ≡ true → Quiet p
quiet p e =
    let a = both (is_free p.waits && not (p.wanted && not p.over) && is_whole p.older) (is_whole p.newer) e in
    let b = both (is_free p.waits && not (p.wanted && not p.over)) (is_whole p.older) a.0 in
    let c = both (is_free p.waits) (not (p.wanted && not p.over)) b.0 in
    record { waits = free-waits p.waits c.0; unowed = c.1; older = b.1; newer = a.1 }

no-order : (s r : Bool) (fresh : Option ℕ) (p : Progress) → Quiet p → steps.next s r fresh p ≡ None
no-order s r fresh p q =
    ap (steps.next_waits s r fresh p) q.waits
    ∙ rw (
      no-out-removal s p.older q.older,
      no-out-removal s p.newer q.newer,
      no-in-removal r p.older q.older,
      no-in-removal r p.newer
          q.newer,
      no-out-put s r p.older q.older,
      no-out-put s r p.newer q.newer,
      no-in-put s r fresh p q.unowed,
    ) refl

-- ## nothing is changed

unread : (has_in : ℕ → Bool) (l : Option Life) → steps.made (steps.read_life false has_in) l ≡ l
unread has_in None = refl
unread has_in (Some x) = refl

not-false : (b : Bool) → (b && (false || false)) ≡ false
not-false true = refl
not-false false = refl

not-missed : (has_in has_out : ℕ → Bool) (l : Option Life) → steps.when (steps.is_missing false false has_in has_out) l ≡ false
not-missed has_in has_out None = refl
not-missed has_in has_out (Some x) = not-false (not x.ended)

not-read : (has_in has_out : ℕ → Bool) (p : Progress) → steps.read false false has_in has_out p ≡ p
not-read has_in has_out p = rw (
  not-missed has_in has_out p.older,
  not-missed has_in has_out p.newer,
  unread has_in p.older,
  unread has_in
      p.newer,
) refl

no-side : (s : Side) → steps.is_side false false s ≡ false
no-side sides.In = refl
no-side sides.Out = refl

not-newest-of : (half : HalfName) (l : Option Life) → steps.when (λ x. steps.is_side false false half.side && (x.serial == half.serial)
    && not x.ended) l ≡ false
not-newest-of half None = refl
not-newest-of half (Some x) = ap (λ b. b && (x.serial == half.serial) && not x.ended) (no-side half.side)

not-newest : (half : HalfName) (p : Progress) → steps.has_newest false false half p ≡ false
not-newest half p = not-newest-of half p.newer

beside : (g : ℕ) (t : Tunnel) → is_beside g t ≡ true → ((t.first == g) ≡ false) × ((t.second == g) ≡ false)
beside g t e = let b = both (not (t.first == g)) (not (t.second == g)) e in (off (t.first == g) b.0, off (t.second == g) b.1)

unanswered : (o : HalfOrder) (status : ℕ) (p : Progress) → p.waits ≡ None → steps.answered o status p ≡ p
unanswered o status p e = ap (λ w. if steps.awaits o.serial w then record {
  over = p.over;
  wanted = p.wanted;
  waits = None;
  older =
      steps.kept (lives.answered o status) p.older;
  newer = steps.kept (lives.answered o status) p.newer;
} else p) e

uncut : (s r : Bool) (p : Progress) → p.waits ≡ None → steps.cut s r p ≡ p
uncut s r p e = ap (steps.cut_waits s r p) e

spared : (ch : Change) (t : Tunnel) (d : Direction) (p : Progress) → spares ch t ≡ true → p.waits ≡ None → d.reqid ≡ t.reqid
    → ((g : ℕ) → is_beside g t ≡ true → ((d.sender == g) ≡ false) × ((d.receiver == g) ≡ false)) → changed ch d p ≡ p
spared changes.Nothing t d p e w i h = refl
spared (changes.Ended r) t d p e w i h = ap (λ n. if n == r then steps.ended p else p) i
    ∙ ap (λ b. if b then steps.ended p else p) (off (t.reqid == r) e)
spared (changes.Rekeyed r) t d p e w i h = ap (λ n. steps.wanted_if (n == r) p) i ∙ ap (λ b. steps.wanted_if b p) (off (t.reqid == r) e)
spared (changes.Cut g) t d p e w i h = uncut (d.sender == g) (d.receiver == g) p w
spared (changes.Answered o status) t d p e w i h = unanswered o status p w
spared (changes.Read g shown) t d p e w i h =
    rw ((h g e).0, (h g e).1) (not-read (contains nat_eq shown.inbound) (contains nat_eq shown.outbound) p)
spared (changes.Acquired g reqids) t d p e w i h = ap (λ b. steps.wanted_if (b && has_reqid reqids.items d.reqid && steps.is_settled p) p)
    (h g e).0
spared (changes.Worn g half) t d p e w i h = rw ((h g e).0, (h g e).1, not-newest half p) refl

swap : {A B : Type 0} → A × B → B × A
swap x = (x.1, x.0)

-- ## one direction, and both

still : (ss : List Station) (ks : List (List ℕ)) (ready : List Bool) (d : Direction) (p q : Progress) (x : Drafted) → q ≡ p → Quiet p
    → (advanced ks ready d q x ≡ p) × (drafted ss ks ready d q x ≡ x)
still ss ks ready d p q x e k =
    let n : next_of ks ready d p x.serials ≡ None = no-order _ _ _ p k in (
      ap (λ y. advanced ks ready d y x) e ∙ ap (λ o. progress_with o p) n,
      ap (λ y. drafted ss ks ready d y x) e ∙ ap (λ o. draft_with ss ks d o x) n,
    )

pub idle-pair : (ss : List Station) (ks : List (List ℕ)) (ch : Change) (ready : List Bool) (t : Tunnel) (p : Pair) (x : Drafted)
    → is_idle ch t p ≡ true → (p ≡ advanced_pair ss ks (changed ch) ready t p x) × (x ≡ draft_pair ss ks (changed ch) ready t p x)
idle-pair ss ks ch ready t p x e =
    let a = both (is_quiet p.forth && is_quiet p.back) (spares ch t) e in
    let b = both (is_quiet p.forth) (is_quiet p.back) a.0 in
    let k : Quiet p.forth = quiet p.forth b.0 in
    let l : Quiet p.back = quiet p.back b.1 in
    let f = still ss ks ready (tunnels.forth t) p.forth (changed ch (tunnels.forth t) p.forth) x
    (spared ch t (tunnels.forth t) p.forth a.1 k.waits refl (λ g y. beside g t y)) k in
    let r = still ss ks ready (tunnels.back t) p.back (changed ch (tunnels.back t) p.back) (draft_forth ss ks (changed ch) ready t p x)
    (spared ch t (tunnels.back t) p.back a.1 l.waits refl (λ g y. swap (beside g t y))) l in (
      sym (ap (λ y. record {
        forth = y;
        back = advanced ks ready (tunnels.back t) (changed ch (tunnels.back t) p.back)
            (draft_forth ss ks (changed ch) ready t p x);
      }) f.0 ∙ ap (λ y. record { forth = p.forth; back = y }) r.0),
      sym (r.1 ∙ f.1),
    )
