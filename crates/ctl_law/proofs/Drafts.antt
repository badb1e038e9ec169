-- A direction's order is drafted as the law has it, and makes of the direction what the law says.
use Rattle.std.proofs.Common.{◌≡◌, ℕ, zero, suc, ◌+◌, ◌-◌, ◌<◌, ◌≤◌, Bool, true, false, ◌==◌, nat_lt, List, [], ◌∷◌, ◌++◌, Option, Some, length, drop, slice_get, refl, sym, subst, ap, ◌∙◌, arith, if◌then◌else◌}
use Rattle.ikl_base.specs.declared.address.Addr.{Addr}
use Rattle.ikeless_tree.specs.declared.command.Peer.{Peer}
use Rattle.ikeless_tree.specs.declared.order as orders
use Rattle.ikeless_tree.specs.declared.order.Order.TheVariants as tree
use Rattle.hist_acts.specs.Past.{after}
use Rattle.hist_controller.specs.Acts.{Way, Association, ControllerOrder, PutIn, PutOut, ControllerAct, Ordered}
use Rattle.hist_controller.specs.Past.{directions, serials, spare, keys, left, is_own}
use Rattle.hist_controller.specs.Past as past
use Rattle.hist_controller.specs.Law.{order, give}
use Rattle.hist_controller.specs.Clauses.{Has, IsControllerPast}
use Rattle.hist_controller.specs.Halves.{PlainAnswers}
use Rattle.hist_controller.specs.Machine.{place}
use Rattle.hist_controller.specs.Told.{peer_address, in_entry, out_entry, order_told}
use Rattle.hist_controller.proofs.Accepts.{few-keys, few-serials, placings}
use Rattle.hist_controller.proofs.Clauses.{past-after, may-given}
use Rattle.hist_controller.proofs.Gives.{Given, nothing, out_removed, in_removed, out_was_put, in_was_put, given}
use Rattle.hist_controller.proofs.Homes.{own-way}
use Rattle.hist_controller.proofs.KeysInTurn.{spare-keys, left-key, left-serial}
use Rattle.hist_controller.proofs.KeptState.{eq-own}
use Rattle.hist_controller.proofs.Serials.{of-way}
use Rattle.ctl_tunnels.specs.declared.life.HalfOrder.{HalfOrder}
use Rattle.ctl_tunnels.specs.declared.life.Task.TheVariants as tasks
use Rattle.ctl_tunnels.specs.Halves as halves
use Rattle.ctl_tunnels.specs.Rings.{key_at}
use Rattle.ctl_core.specs.declared.acts.CtlAct.TheVariants as done
use Rattle.ctl_core.specs.declared.peer.Station.{Station}
use Rattle.ctl_core.specs.Core.{address_of}
use Rattle.ctl_core.specs.Drafts.{Drafted, queued, given as draft_given}
use Rattle.ctl_core.specs.Pass as passes
use Rattle.ctl_law.specs.Stands.{waiting_of, progress_of, direction_of}
use Rattle.ctl_law.proofs.Own.{half, awaits}
use Rattle.ctl_law.proofs.Next.{next_half, next-is}
use Rattle.ctl_law.proofs.Ordered.{progress-put-in, progress-put-out, progress-remove-in, progress-remove-out}

-- ## drafts

abbrev pub serial_after : ControllerOrder → ℕ → ℕ
serial_after (PutIn x) n = x.serial
serial_after (_) n = n

abbrev pub with_order : List Peer → ℕ → ControllerOrder → Drafted → Drafted
with_order ps g o x = record {
  acts = x.acts ++ done.Order g (order_told ps o) ∷ [];
  queues = queued g (waiting_of ps o) x.queues;
  serials =
      serial_after o x.serials;
}

-- with the orders of these acts
abbrev pub drafting : List Peer → List ControllerAct → Drafted → Drafted
drafting ps [] x = x
drafting ps (Ordered g s n o ∷ more) x = drafting ps more (with_order ps g o x)
drafting ps (_ ∷ more) x = drafting ps more x

-- what is at hand for a pass
pub record AtHand (ps : List Peer) (h : List ControllerAct) (ss : List Station) (ks : List (List ℕ)) (ready : List Bool) : Type 0 where
  pub keys : ks ≡ keys h
  pub reads : (g : ℕ) → g < length ps → passes.is_read ready g ≡ past.is_read g h
  pub addresses : (g : ℕ) → address_of ss g ≡ peer_address ps g

-- ## entries

place-slice : {A : Type 0} (i : ℕ) (xs : List A) → place i xs ≡ slice_get xs i
place-slice i [] = refl
place-slice zero (x ∷ xs) = refl
place-slice (suc i) (x ∷ xs) =
    let z : (suc i == 0) ≡ false = grind arith in
    let n : suc i - 1 ≡ i = omega arith in
    rw (z, n) (place-slice i xs)

drop-slice : {A : Type 0} (n : ℕ) (xs : List A) (k : A) (rs : List A) → drop n xs ≡ k ∷ rs → slice_get xs n ≡ Some k
drop-slice zero [] k rs e = cc
drop-slice zero (x ∷ xs) k rs e = let w : x ≡ k = cc in ap Some w
drop-slice (suc n) [] k rs e = cc
drop-slice (suc n) (x ∷ xs) k rs e = drop-slice n xs k rs e

spi : (n : ℕ) → n ≤ 1048576 → halves.spi_of n ≡ 256 + n
spi n e = omega arith

out-entry : (ps : List Peer) (x : Association) (key : List ℕ) (a b : Addr) → x.serial ≤ 1048576 → key ≡ x.key
    → a ≡ peer_address ps x.way.sender → b ≡ peer_address ps x.way.receiver → halves.out_entry (direction_of x.way) x.serial key a b ≡
    out_entry ps x
out-entry ps x key a b n e f g = rw (e, f, g, spi x.serial n) refl

in-entry : (ps : List Peer) (x : Association) (key : List ℕ) (a b : Addr) → x.serial ≤ 1048576 → key ≡ x.key
    → a ≡ peer_address ps x.way.sender → b ≡ peer_address ps x.way.receiver → halves.in_entry (direction_of x.way) x.serial key a b ≡
    in_entry ps x
in-entry ps x key a b n e f g = rw (e, f, g, spi x.serial n) refl

-- the key of a put
key-is : (ks : List (List ℕ)) (n : ℕ) (k : List ℕ) → 0 < n → place (n - 1) ks ≡ Some k → (if nat_lt 0 n then key_at (n - 1) ks else []) ≡ k
key-is ks n k l e =
    let t : nat_lt 0 n ≡ true = grind arith in
    let s : slice_get ks (n - 1) ≡ Some k = sym (place-slice (n - 1) ks) ∙ e in
    rw (t, s) refl

-- ## one direction's order

put-out-told : (ps : List Peer) (h : List ControllerAct) (ss : List Station) (ks : List (List ℕ)) (ready : List Bool) (d : Way)
    (x : Association) → AtHand ps h ss ks ready → x.way ≡ d → 0 < x.serial → x.serial ≤ 1048576 → place (x.serial - 1) (keys h) ≡ Some x.key
    → passes.order_of ss ks (direction_of d) (record { task = tasks.PutOut; serial = x.serial }) ≡ order_told ps (PutOut x)
put-out-told ps h ss ks ready d x b w i j k =
    subst (λ z. passes.order_of ss ks (direction_of z) (record { task = tasks.PutOut; serial = x.serial }) ≡ order_told ps (PutOut x)) w
    (ap tree.Put (out-entry ps x _ _ _ j (key-is ks x.serial x.key i (ap (place (x.serial - 1)) b.keys ∙ k)) (b.addresses x.way.sender)
    (b.addresses x.way.receiver)))

put-in-told : (ps : List Peer) (h : List ControllerAct) (ss : List Station) (ks : List (List ℕ)) (ready : List Bool) (x : Association)
    → AtHand ps h ss ks ready → 0 < x.serial → x.serial ≤ 1048576 → place (x.serial - 1) (keys h) ≡ Some x.key
    → passes.order_of ss ks (direction_of x.way) (record { task = tasks.PutIn; serial = x.serial }) ≡ order_told ps (PutIn x)
put-in-told ps h ss ks ready x b i j k =
    ap tree.Put (in-entry ps x _ _ _ j (key-is ks x.serial x.key i (ap (place (x.serial - 1)) b.keys ∙ k)) (b.addresses x.way.sender)
    (b.addresses x.way.receiver))

with-half : ℕ → Option HalfOrder → Drafted → orders.Order.Order → Drafted
with-half g o x z = draft_given g z o x

first-key : (p : ℕ) (h : List ControllerAct) (k : List ℕ) (ks : List (List ℕ)) → IsControllerPast p h → spare h ≡ k ∷ ks
    → place (serials h + 1 - 1) (keys h) ≡ Some k
first-key p h k ks l e =
    let n : serials h + 1 - 1 ≡ serials h = omega arith in
    rw n (place-slice (serials h) (keys h) ∙ drop-slice (serials h) (keys h) k ks (sym (spare-keys p h l) ∙ e))

draft-given : (ps : List Peer) (p : ℕ) (h : List ControllerAct) (d : Way) (ss : List Station) (ks : List (List ℕ)) (ready : List Bool)
    (x : Drafted) (os : List ControllerAct) → IsControllerPast p h → IsControllerPast p (after h os) → Has d (directions h)
    → AtHand ps h ss ks ready → Given h d os
    → passes.draft_with ss ks (direction_of d) (next_half os) x ≡ drafting ps os x
draft-given ps p h d ss ks ready x _ l m i b (nothing q) = refl
draft-given ps p h d ss ks ready x _ l m i b (out_removed z f j t e) = refl
draft-given ps p h d ss ks ready x _ l m i b (in_removed z f j t e u) = refl
draft-given ps p h d ss ks ready x _ l m i b (out_was_put z f j t e u v) =
    let q = left-serial p h l d z j in
    ap (λ y. draft_given d.sender y (half tasks.PutOut z.serial) x) (put-out-told ps h ss ks ready d z b (sym (own-way p h l d z i j)) q.0
    q.1 (left-key p h l d z j))
draft-given ps p h d ss ks ready x _ l m i b (in_was_put k r f s t u v w) =
    let put : ControllerAct = order h d.receiver (PutIn (record { serial = serials h + 1; key = k; way = d })) in
    let c : length (keys h) ≤ 1048576 = few-keys p h l in
    let e : serials h + 1 ≤ length (keys h) = few-serials p (put ∷ h) m in
    let q : serials h + 1 ≤ 1048576 = omega arith in
    ap (λ y. record {
      acts = x.acts ++ done.Order d.receiver y ∷ [];
      queues =
          queued d.receiver (record { order = y; half = half tasks.PutIn (serials h + 1) }) x.queues;
      serials = serials h + 1;
    })
    (put-in-told ps h ss ks ready (record { serial = serials h + 1; key = k; way = d }) b (omega arith) q (first-key p h k r l s))

advance-given : (p : ℕ) (h : List ControllerAct) (d : Way) (os : List ControllerAct) → IsControllerPast p h
    → IsControllerPast p (after h os) → PlainAnswers h → Has d (directions h) → Given h d os
    → passes.progress_with (next_half os) (progress_of h d) ≡ progress_of (after h os) d
advance-given p h d _ l m y i (nothing q) = refl
advance-given p h d _ l m y i (out_removed z f j t e) = sym (progress-remove-out p h d.sender _ _ z d m i j refl)
advance-given p h d _ l m y i (in_removed z f j t e u) = sym (progress-remove-in p h d.receiver _ _ z d m i j refl)
advance-given p h d _ l m y i (out_was_put z f j t e u v) = sym (progress-put-out p h d.sender _ _ z d m i (of-way h d z j) refl)
advance-given p h d _ l m y i (in_was_put k r f s t u v w) =
    sym (progress-put-in p h d.receiver _ _ (record { serial = serials h + 1; key = k; way = d }) d m y i (eq-own d.id) refl refl)

-- what is drafted for a direction, and how far it comes
pub record Drafts (ps : List Peer) (h : List ControllerAct) (d : Way) (ss : List Station) (ks : List (List ℕ)) (ready : List Bool)
    (x : Drafted) : Type 0 where
  pub draft : passes.drafted ss ks ready (direction_of d) (progress_of h d) x ≡ drafting ps (give h d) x
  pub progress : passes.advanced ks ready (direction_of d) (progress_of h d) x ≡ progress_of (after h (give h d)) d

pub drafts : (ps : List Peer) (h : List ControllerAct) (d : Way) (ss : List Station) (ks : List (List ℕ)) (ready : List Bool) (x : Drafted)
    → IsControllerPast (length ps) h → PlainAnswers h → Has d (directions h) → AtHand ps h ss ks ready → x.serials ≡ serials h
    → Drafts ps h d ss ks ready x
drafts ps h d ss ks ready x l y i b e = record {
  draft = ap (λ o. passes.draft_with ss ks (direction_of d) o x) next ∙ draft-given ps (length ps) h d ss ks ready x (give h d) l m i b
      (given h d);
  progress = ap (λ o. passes.progress_with o (progress_of h d)) next ∙ advance-given (length ps) h d (give h d) l m y i (given h d);
}
  where
    k : (d.sender < length ps) × (d.receiver < length ps) × ((d.sender == d.receiver) ≡ false)
    k = let q = placings (length ps) h l d i in (q.sender, q.receiver, q.apart)

    m : IsControllerPast (length ps) (after h (give h d))
    m = past-after (length ps) h (give h d) l (may-given (length ps) h d (give h d) i (given h d))

    next : passes.next_of ks ready (direction_of d) (progress_of h d) x.serials ≡ next_half (give h d)
    next = rw (b.reads d.sender k.0, b.reads d.receiver k.1, b.keys, e) (next-is (length ps) h d l y (awaits (length ps) h l d i k.2))
