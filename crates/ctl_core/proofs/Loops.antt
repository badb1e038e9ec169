-- Loops over gateways and tunnels, one turn and the end of each.
use Rattle.std.proofs.Common.{◌≡◌, ℕ, zero, suc, ◌+◌, ◌-◌, ◌<◌, ◌≤◌, ◌==◌, not, ◌&&◌, ◌||◌, Bool, true, false, List, [], ◌∷◌, ◌++◌, length, take, drop, get_or, min, nat_le, refl, sym, ap, subst, ◌∙◌, arith, append_assoc, add-one, if◌then◌else◌}
use Rattle.std.proofs.Math.ListN.{set}
use Rattle.std.proofs.lemmas.Grind.{common_steps}
use Rattle.std.specs.Str.{bytes_eq}
use Rattle.ctl_tunnels.specs.declared.tunnel.Pair.{Pair}
use Rattle.ctl_tunnels.specs.declared.tunnel.Tunnel.{Tunnel}
use Rattle.ctl_core.specs.declared.peer.Station.{Station}
use Rattle.ctl_core.specs.declared.peer.Waiting.{Waiting}
use Rattle.ctl_core.specs.Changes.{has_tunnel, is_spent, unspent_tunnels, unspent_pairs}
use Rattle.ctl_core.specs.Drafts.{Drafted}
use Rattle.ctl_core.specs.Pass.{Effect, pass_draft, pass_pairs, draft_pair, advanced_pair, with_queues}
use Rattle.ctl_core.specs.Room.{has_room_for, is_short}
use Rattle.ctl_core.proofs.Places.{drop-item, drop-all}

pub room-step : (ss : List Station) (qs : List (List Waiting)) (i : ℕ) (x : Station) (q : List Waiting) → i < length ss → i < length qs
    → x ≡ get_or ss i x → q ≡ get_or qs i q → has_room_for (drop i ss) (drop i qs) ≡ (is_short (length x.queue) (length q)
    && has_room_for (drop (i + 1) ss) (drop (i + 1) qs))
room-step ss qs i x q l m e f = ap (λ y. has_room_for y (drop i qs)) (drop-item ss i x l e)
    ∙ ap (λ y. has_room_for (x ∷ drop (i + 1) ss) y) (drop-item qs i q m f)

no-room-left : (ss : List Station) → has_room_for ss [] ≡ true
no-room-left [] = refl
no-room-left (s ∷ ss) = refl

-- one of two lists has nothing left after as many places as the shorter one has
ends : {A B : Type 0} (xs : List A) (ys : List B) (i : ℕ) → i ≡ min (length xs) (length ys) → (P : List A → List B → Type 0)
    → ((zs : List B) → P [] zs) → ((zs : List A) → P zs []) → P (drop i xs) (drop i ys)
ends xs ys i e P p q = case (nat_le (length xs) (length ys)) refl
  where
    case : (b : Bool) → nat_le (length xs) (length ys) ≡ b → P (drop i xs) (drop i ys)
    case true h = subst (λ z. P z (drop i ys)) (sym (drop-all xs i (grind (arith, common_steps)))) (p (drop i ys))
    case false h = subst (λ z. P (drop i xs) z) (sym (drop-all ys i (grind (arith, common_steps)))) (q (drop i xs))

pub room-end : (ss : List Station) (qs : List (List Waiting)) (i : ℕ) → i ≡ min (length ss) (length qs)
    → has_room_for (drop i ss) (drop i qs) ≡ true
room-end ss qs i e = ends ss qs i e (λ a b. has_room_for a b ≡ true) (λ b. refl) no-room-left

pub tunnel-step : (r : ℕ) (ts : List Tunnel) (ps : List Pair) (i : ℕ) (t : Tunnel) (p : Pair) → i < length ts → i < length ps
    → t ≡ get_or ts i t → p ≡ get_or ps i p → has_tunnel r (drop i ts) (drop i ps) ≡ (((t.reqid == r) && not (p.forth.over && p.back.over))
    || has_tunnel r (drop (i + 1) ts) (drop (i + 1) ps))
tunnel-step r ts ps i t p l m e f = ap (λ y. has_tunnel r y (drop i ps)) (drop-item ts i t l e)
    ∙ ap (λ y. has_tunnel r (t ∷ drop (i + 1) ts) y) (drop-item ps i p m f)

no-tunnel-left : (r : ℕ) (ts : List Tunnel) → has_tunnel r ts [] ≡ false
no-tunnel-left r [] = refl
no-tunnel-left r (t ∷ ts) = refl

pub tunnel-end : (r : ℕ) (ts : List Tunnel) (ps : List Pair) (i : ℕ) → i ≡ min (length ts) (length ps)
    → has_tunnel r (drop i ts) (drop i ps) ≡ false
tunnel-end r ts ps i e = ends ts ps i e (λ a b. has_tunnel r a b ≡ false) (λ b. refl) (no-tunnel-left r)

-- ## the pass

pub draft-step : (ss : List Station) (ks : List (List ℕ)) (ch : Effect) (ready : List Bool) (ts : List Tunnel) (ps : List Pair)
    (x : Drafted) (i : ℕ) (t : Tunnel) (p : Pair) → i < length ts → i < length ps → t ≡ get_or ts i t → p ≡ get_or ps i p
    → pass_draft ss ks ch ready (drop i ts) (drop i ps) x ≡ pass_draft ss ks ch ready (drop (i + 1) ts) (drop (i + 1) ps)
    (draft_pair ss ks ch ready t p x)
draft-step ss ks ch ready ts ps x i t p l m e f = ap (λ y. pass_draft ss ks ch ready y (drop i ps) x) (drop-item ts i t l e)
    ∙ ap (λ y. pass_draft ss ks ch ready (t ∷ drop (i + 1) ts) y x) (drop-item ps i p m f)

pub pairs-step : (ss : List Station) (ks : List (List ℕ)) (ch : Effect) (ready : List Bool) (ts : List Tunnel) (ps : List Pair)
    (x : Drafted) (i : ℕ) (t : Tunnel) (p : Pair) → i < length ts → i < length ps → t ≡ get_or ts i t → p ≡ get_or ps i p
    → pass_pairs ss ks ch ready (drop i ts) (drop i ps) x ≡ advanced_pair ss ks ch ready t p x
    ∷ pass_pairs ss ks ch ready (drop (i + 1) ts) (drop (i + 1) ps) (draft_pair ss ks ch ready t p x)
pairs-step ss ks ch ready ts ps x i t p l m e f = ap (λ y. pass_pairs ss ks ch ready y (drop i ps) x) (drop-item ts i t l e)
    ∙ ap (λ y. pass_pairs ss ks ch ready (t ∷ drop (i + 1) ts) y x) (drop-item ps i p m f)

no-draft-left : (ss : List Station) (ks : List (List ℕ)) (ch : Effect) (ready : List Bool) (x : Drafted) (ts : List Tunnel)
    → pass_draft ss ks ch ready ts [] x ≡ x
no-draft-left ss ks ch ready x [] = refl
no-draft-left ss ks ch ready x (t ∷ ts) = refl

no-pairs-left : (ss : List Station) (ks : List (List ℕ)) (ch : Effect) (ready : List Bool) (x : Drafted) (ts : List Tunnel)
    → pass_pairs ss ks ch ready ts [] x ≡ []
no-pairs-left ss ks ch ready x [] = refl
no-pairs-left ss ks ch ready x (t ∷ ts) = refl

pub draft-end : (ss : List Station) (ks : List (List ℕ)) (ch : Effect) (ready : List Bool) (ts : List Tunnel) (ps : List Pair) (x : Drafted)
    (i : ℕ) → i ≡ min (length ts) (length ps) → pass_draft ss ks ch ready (drop i ts) (drop i ps) x ≡ x
draft-end ss ks ch ready ts ps x i e = ends ts ps i e (λ a b. pass_draft ss ks ch ready a b x ≡ x) (λ b. refl)
    (no-draft-left ss ks ch ready x)

pub pairs-end : (ss : List Station) (ks : List (List ℕ)) (ch : Effect) (ready : List Bool) (ts : List Tunnel) (ps : List Pair) (x : Drafted)
    (i : ℕ) → i ≡ min (length ts) (length ps) → pass_pairs ss ks ch ready (drop i ts) (drop i ps) x ≡ []
pairs-end ss ks ch ready ts ps x i e = ends ts ps i e (λ a b. pass_pairs ss ks ch ready a b x ≡ []) (λ b. refl)
    (no-pairs-left ss ks ch ready x)

pub unspent-step : (ts : List Tunnel) (ps : List Pair) (i : ℕ) (t : Tunnel) (p : Pair) → i < length ts → i < length ps → t ≡ get_or ts i t
    → p ≡ get_or ps i p → (unspent_tunnels (drop i ts) (drop i ps) ≡ (if is_spent p then unspent_tunnels (drop (i + 1) ts) (drop (i + 1) ps)
    else t ∷ unspent_tunnels (drop (i + 1) ts) (drop (i + 1) ps)))
    × (unspent_pairs (drop i ts) (drop i ps) ≡ (if is_spent p then unspent_pairs (drop (i + 1) ts) (drop (i + 1) ps) else p
    ∷ unspent_pairs (drop (i + 1) ts) (drop (i + 1) ps)))
unspent-step ts ps i t p l m e f = (
  ap (λ y. unspent_tunnels y (drop i ps)) (drop-item ts i t l e) ∙ ap (λ y. unspent_tunnels (t ∷ drop (i + 1) ts) y) (drop-item ps i p m f),
  ap (λ y. unspent_pairs y (drop i ps)) (drop-item ts i t l e) ∙ ap (λ y. unspent_pairs (t ∷ drop (i + 1) ts) y) (drop-item ps i p m f),
)

no-tunnels-kept : (ts : List Tunnel) → (unspent_tunnels ts [] ≡ []) × (unspent_pairs ts [] ≡ [])
no-tunnels-kept [] = (refl, refl)
no-tunnels-kept (t ∷ ts) = (refl, refl)

pub unspent-end : (ts : List Tunnel) (ps : List Pair) (i : ℕ) → i ≡ min (length ts) (length ps)
    → (unspent_tunnels (drop i ts) (drop i ps) ≡ []) × (unspent_pairs (drop i ts) (drop i ps) ≡ [])
unspent-end ts ps i e = ends ts ps i e (λ a b. (unspent_tunnels a b ≡ []) × (unspent_pairs a b ≡ [])) (λ b. (refl, refl)) no-tunnels-kept

-- ## queues that are added to

pub joined : (ss : List Station) (qs : List (List Waiting)) (i : ℕ) (x : Station) (q : List Waiting) → i < length ss → i < length qs
    → x ≡ get_or ss i x → q ≡ get_or qs i q → set (with_queues (take i ss) (take i qs) ++ drop i ss) i (record x { queue = x.queue ++ q }) ≡
    with_queues (take (suc i) ss) (take (suc i) qs) ++ drop (suc i) ss
joined [] qs i x q l m e f = absurd (omega arith)
joined (s ∷ ss) [] i x q l m e f = absurd (omega arith)
joined (s ∷ ss) (y ∷ ys) zero x q l m e f = rw (e, f) refl
joined (s ∷ ss) (y ∷ ys) (suc i) x q l m e f =
    ap (λ z. record s { queue = s.queue ++ y } ∷ z) (joined ss ys i x q (omega arith) (omega arith) e f)

pub place-of-rest : (ss : List Station) (qs : List (List Waiting)) (i : ℕ) (x : Station) → i < length ss → i < length qs
    → x ≡ get_or (with_queues (take i ss) (take i qs) ++ drop i ss) i x → x ≡ get_or ss i x
place-of-rest [] qs i x l m e = absurd (omega arith)
place-of-rest (s ∷ ss) [] i x l m e = absurd (omega arith)
place-of-rest (s ∷ ss) (y ∷ ys) zero x l m e = e
place-of-rest (s ∷ ss) (y ∷ ys) (suc i) x l m e = place-of-rest ss ys i x (omega arith) (omega arith) e

pub with-queues-end : (ss : List Station) (qs : List (List Waiting)) (i : ℕ) → i ≡ min (length ss) (length qs)
    → with_queues (take i ss) (take i qs) ++ drop i ss ≡ with_queues ss qs
with-queues-end [] qs i e = all-none i
  where
    all-none : (k : ℕ) → with_queues (take k []) (take k qs) ++ drop k [] ≡ []
    all-none zero = refl
    all-none (suc k) = refl
with-queues-end (s ∷ ss) [] i e = let z : i ≡ 0 = grind (arith, common_steps) in
    subst (λ k. with_queues (take k (s ∷ ss)) (take k []) ++ drop k (s ∷ ss) ≡ s ∷ ss) (sym z) refl
with-queues-end (s ∷ ss) (q ∷ qs) zero e = absurd (grind (arith, common_steps))
with-queues-end (s ∷ ss) (q ∷ qs) (suc i) e =
    ap (λ z. record s { queue = s.queue ++ q } ∷ z) (with-queues-end ss qs i (grind (arith, common_steps)))

-- one tunnel passed
pub pass-turn : (ss : List Station) (ks : List (List ℕ)) (ch : Effect) (ready : List Bool) (ts : List Tunnel) (ps : List Pair) (i : ℕ)
    (t : Tunnel) (p : Pair) (x y whole : Drafted) (next : Pair) (old new all : List Pair) → i < length ts → i < length ps
    → t ≡ get_or ts i t → p ≡ get_or ps i p → y ≡ draft_pair ss ks ch ready t p x → next ≡ advanced_pair ss ks ch ready t p x → new ≡ old
    ++ next ∷ []
    → pass_draft ss ks ch ready (drop i ts) (drop i ps) x ≡ whole → old ++ pass_pairs ss ks ch ready (drop i ts) (drop i ps) x ≡ all
    → (pass_draft ss ks ch ready (drop (i + 1) ts) (drop (i + 1) ps) y ≡ whole)
    × (new ++ pass_pairs ss ks ch ready (drop (i + 1) ts) (drop (i + 1) ps) y ≡ all)
pass-turn ss ks ch ready ts ps i t p x y whole next old new all l m e f d n a dw pw = (
  ap (pass_draft ss ks ch ready (drop (i + 1) ts) (drop (i + 1) ps)) d ∙ sym (draft-step ss ks ch ready ts ps x i t p l m e f) ∙ dw,
  ap (λ z. z ++ pass_pairs ss ks ch ready (drop (i + 1) ts) (drop (i + 1) ps) y) a
      ∙ append_assoc old (next ∷ []) (pass_pairs ss ks ch ready (drop (i + 1) ts) (drop (i + 1) ps) y)
      ∙ ap (λ z. old ++ z ∷ pass_pairs ss ks ch ready (drop (i + 1) ts) (drop (i + 1) ps) y) n
      ∙ ap (λ z. old ++ advanced_pair ss ks ch ready t p x ∷ pass_pairs ss ks ch ready (drop (i + 1) ts) (drop (i + 1) ps) z) d
      ∙ ap (λ z. old ++ z) (sym (pairs-step ss ks ch ready ts ps x i t p l m e f)) ∙ pw,
)

kept-by : {A : Type 0} (b : Bool) (x : A) (old rest : List A) → (old ++ (if b then [] else x ∷ [])) ++ rest ≡ old
    ++ (if b then rest else x ∷ rest)
kept-by true x old rest = append_assoc old [] rest
kept-by false x old rest = append_assoc old (x ∷ []) rest

-- one tunnel kept or left out
pub unspent-turn : (ts : List Tunnel) (ps : List Pair) (i : ℕ) (t : Tunnel) (p : Pair) (old new all : List Tunnel)
    (old2 new2 all2 : List Pair) → i < length ts → i < length ps → t ≡ get_or ts i t → p ≡ get_or ps i p → new ≡ old
    ++ (if is_spent p then [] else t ∷ []) → new2 ≡ old2 ++ (if is_spent p then [] else p ∷ [])
    → old ++ unspent_tunnels (drop i ts) (drop i ps) ≡ all → old2 ++ unspent_pairs (drop i ts) (drop i ps) ≡ all2
    → (new ++ unspent_tunnels (drop (i + 1) ts) (drop (i + 1) ps) ≡ all)
    × (new2 ++ unspent_pairs (drop (i + 1) ts) (drop (i + 1) ps) ≡ all2)
unspent-turn ts ps i t p old new all old2 new2 all2 l m e f n n2 a a2 =
    let s = unspent-step ts ps i t p l m e f in (
      ap (λ z. z ++ unspent_tunnels (drop (i + 1) ts) (drop (i + 1) ps)) n
          ∙ kept-by (is_spent p) t old (unspent_tunnels (drop (i + 1) ts) (drop (i + 1) ps)) ∙ ap (λ z. old ++ z) (sym s.0) ∙ a,
      ap (λ z. z ++ unspent_pairs (drop (i + 1) ts) (drop (i + 1) ps)) n2
          ∙ kept-by (is_spent p) p old2 (unspent_pairs (drop (i + 1) ts) (drop (i + 1) ps)) ∙ ap (λ z. old2 ++ z) (sym s.1) ∙ a2,
    )

get-drop : {A : Type 0} (xs : List A) (i : ℕ) (d : A) → get_or (drop i xs) 0 d ≡ get_or xs i d
get-drop [] zero d = refl
get-drop [] (suc i) d = refl
get-drop (x ∷ xs) zero d = refl
get-drop (x ∷ xs) (suc i) d = get-drop xs i d

drop-set : {A : Type 0} (xs : List A) (i : ℕ) (y : A) → drop (suc i) (set xs i y) ≡ drop (suc i) xs
drop-set [] zero y = refl
drop-set [] (suc i) y = refl
drop-set (x ∷ xs) zero y = refl
drop-set (x ∷ xs) (suc i) y = drop-set xs i y

drop-next : {A : Type 0} (xs : List A) (i : ℕ) → drop (suc i) xs ≡ drop 1 (drop i xs)
drop-next [] zero = refl
drop-next [] (suc i) = refl
drop-next (x ∷ xs) zero = refl
drop-next (x ∷ xs) (suc i) = drop-next xs i

both : (a b : Bool) → (a && b) ≡ true → (a ≡ true) × (b ≡ true)
both true b e = (refl, e)
both false b e = cc

pub record Appending (s0 ss : List Station) (q0 qs : List (List Waiting)) (i : ℕ) (x : Station) (q : List Waiting) : Type 0 where
  pub station : i < length s0
  pub queue : i < length q0
  pub found : x ≡ get_or ss i x
  pub more : q ≡ get_or qs i q
  pub so_far : ss ≡ with_queues (take i s0) (take i q0) ++ drop i s0
  pub rest : drop i qs ≡ drop i q0
  pub room : has_room_for (drop i s0) (drop i q0) ≡ true

first-station : (s0 ss : List Station) (q0 qs : List (List Waiting)) (i : ℕ) (x : Station) (q : List Waiting) → Appending s0 ss q0 qs i x q
    → x ≡ get_or s0 i x
first-station s0 ss q0 qs i x q a = place-of-rest s0 q0 i x a.station a.queue (a.found ∙ ap (λ z. get_or z i x) a.so_far)

first-queue : (s0 ss : List Station) (q0 qs : List (List Waiting)) (i : ℕ) (x : Station) (q : List Waiting) → Appending s0 ss q0 qs i x q
    → q ≡ get_or q0 i q
first-queue s0 ss q0 qs i x q a = a.more ∙ sym (get-drop qs i q) ∙ ap (λ z. get_or z 0 q) a.rest ∙ get-drop q0 i q

pub room-here : (s0 ss : List Station) (q0 qs : List (List Waiting)) (i : ℕ) (x : Station) (q : List Waiting) → Appending s0 ss q0 qs i x q
    → (is_short (length x.queue) (length q) ≡ true) × (has_room_for (drop (i + 1) s0) (drop (i + 1) q0) ≡ true)
room-here s0 ss q0 qs i x q a =
    both (is_short (length x.queue) (length q)) (has_room_for (drop (i + 1) s0) (drop (i + 1) q0))
    (sym (room-step s0 q0 i x q a.station a.queue (first-station s0 ss q0 qs i x q a) (first-queue s0 ss q0 qs i x q a)) ∙ a.room)

-- one queue added to
pub append-turn : (s0 ss : List Station) (q0 qs : List (List Waiting)) (i : ℕ) (x : Station) (q r j : List Waiting)
    → Appending s0 ss q0 qs i x q → j ≡ x.queue ++ q → (set ss i (record x { queue = j }) ≡ with_queues (take (i + 1) s0) (take (i + 1) q0)
    ++ drop (i + 1) s0) × (drop (i + 1) (set qs i r) ≡ drop (i + 1) q0)
append-turn s0 ss q0 qs i x q r j a e = (
  rw add-one (ap (λ z. set z i (record x { queue = j })) a.so_far
      ∙ ap (λ z. set (with_queues (take i s0) (take i q0) ++ drop i s0) i (record x { queue = z })) e
      ∙ joined s0 q0 i x q a.station a.queue (first-station s0 ss q0 qs i x q a) (first-queue s0 ss q0 qs i x q a)),
  rw add-one (drop-set qs i r ∙ drop-next qs i ∙ ap (drop 1) a.rest ∙ sym (drop-next q0 i)),
)
