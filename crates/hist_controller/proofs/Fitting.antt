-- Every act of a history speaks of a known gateway, where each event does; and so a table stands for what is kept.
use Rattle.std.proofs.Common.{◌≡◌, ℕ, zero, suc, ◌+◌, ◌-◌, ◌<◌, Bool, true, false, ◌==◌, not, ◌&&◌, ◌||◌, List, [], ◌∷◌, ◌++◌, Option, Some, None, length, inl, inr, refl, sym, subst, ◌∙◌, ap, arith, if◌then◌else◌}
use Rattle.std.proofs.lemmas.Grind.{common_steps}
use Rattle.std.specs.List.{list_any}
use Rattle.ikeless_tree.specs.declared.command.Peer.{Peer}
use Rattle.ikeless_tree.specs.declared.command.Refusal.{Refusal}
use Rattle.ikeless_tree.specs.declared.entry.SpdEntry.{SpdEntry}
use Rattle.ikeless_tree.specs.declared.order.Answer.{Answer}
use Rattle.ikeless_tree.specs.declared.order.Notice.{Notice}
use Rattle.ikeless_tree.specs.declared.order.Notice.TheVariants as notices
use Rattle.hist_controller.specs.Acts.{Way, ControllerOrder, Read, Policy, PlacedCommand, SetPolicy, Tunnel, End, Rekey, Keys, ControllerAct, Opened, Cut, Answered, Heard, Ordered, Accepted, Refused, ControllerEvent, Told, Opens, Cuts, Answers, Notices}
use Rattle.hist_acts.specs.Past.{after}
use Rattle.hist_controller.specs.Past.{is_open, openings, answered, queue, newest_list, directions}
use Rattle.hist_controller.specs.Law.{order, give, pass, with_list, is_reading, by_command, by_notice, asked, placed_command, refusal, going, by_refusal, by_answer, block, history}
use Rattle.hist_controller.specs.State.{KeptGateway, gateway_opened, gateway_cut, gateway_answered, gateway_ordered, state_of, did}
use Rattle.hist_controller.specs.Machine.{acts_of}
use Rattle.hist_controller.specs.Clauses.{Has, ControllerMayAct, ControllerMayActAll, IsControllerPast}
use Rattle.hist_controller.specs.Table.{Table, shut, gateway_at, change, listed, told_gates, seen, did_table, did_all_table, next_table, shut_gateways, first_table, fits_placed, Fits, AllFit, EventFits, AllEventsFit}
use Rattle.hist_controller.proofs.Waits.{oldest-has}
use Rattle.hist_controller.proofs.KeptState.{keeps, same-at, same-state}
use Rattle.hist_controller.proofs.Gives.{Given, nothing, out_removed, in_removed, out_was_put, in_was_put, given}
use Rattle.hist_controller.proofs.Blocks.{acts_of-state_of}
use Rattle.hist_controller.proofs.Clauses.{may-block, after-append}
use Rattle.hist_controller.proofs.Befores.{has-queue, has-rest, has-none}
use Rattle.hist_controller.proofs.Tables.{seen-did}

open-fits : (p g : ℕ) (h : List ControllerAct) → AllFit p h → is_open g h ≡ true → g < p
open-fits p g [] a e = cc
open-fits p g (Opened f s ∷ h) a e = case (g == f) refl (λ v. open-fits p g h a.1 v) e
  where
    case : (b : Bool) → (g == f) ≡ b → (is_open g h ≡ true → g < p) → (b || is_open g h) ≡ true → g < p
    case true t k v = let q : f < p = a.0 in let r : g ≡ f = grind arith in rw r q
    case false t k v = k v
open-fits p g (Cut f s ∷ h) a e = open-fits p g h a.1 (part (not (g == f)) (is_open g h) e)
  where
    part : (x y : Bool) → (x && y) ≡ true → y ≡ true
    part true y e = e
    part false y e = cc
open-fits p g (Answered f s n x ∷ h) a e = open-fits p g h a.1 e
open-fits p g (Heard f s t ∷ h) a e = open-fits p g h a.1 e
open-fits p g (Ordered f s n o ∷ h) a e = open-fits p g h a.1 e
open-fits p g (Accepted c ∷ h) a e = open-fits p g h a.1 e
open-fits p g (Refused w ∷ h) a e = open-fits p g h a.1 e

queue-fits : (p g : ℕ) (h : List ControllerAct) (o : ControllerOrder) → AllFit p h → Has o (queue g h) → g < p
queue-fits p g [] o a i = absurd i
queue-fits p g (Opened f s ∷ h) o a i = queue-fits p g h o a.1 (has-none (g == f) (queue g h) o i)
queue-fits p g (Cut f s ∷ h) o a i = queue-fits p g h o a.1 (has-none (g == f) (queue g h) o i)
queue-fits p g (Answered f s n x ∷ h) o a i = queue-fits p g h o a.1 (has-rest (g == f) (queue g h) o i)
queue-fits p g (Heard f s t ∷ h) o a i = queue-fits p g h o a.1 i
queue-fits p g (Ordered f s n z ∷ h) o a i = elim (has-queue (g == f) (queue g h) z o i) as (λ q. g < p) [
  | inl j ↦ queue-fits p g h o a.1 j
  | inr j ↦ let t = j.1 in let q : f < p = a.0 in let r : g ≡ f = grind arith in rw r q
]
queue-fits p g (Accepted c ∷ h) o a i = queue-fits p g h o a.1 i
queue-fits p g (Refused w ∷ h) o a i = queue-fits p g h o a.1 i

told-fits : (p : ℕ) (h : List ControllerAct) (c : PlacedCommand) → refusal p h c ≡ None → fits_placed p c
told-fits p h (SetPolicy g l) e = grind (arith, common_steps)
told-fits p h (Tunnel t) e = tt
told-fits p h (End r) e = tt
told-fits p h (Rekey r) e = tt
told-fits p h (Keys k) e = tt

abbrev pub OpenFits : ℕ → ControllerAct → Type 0
OpenFits p (Opened g s) = g < p
OpenFits p (_) = Unit {0}

-- an act that may follow speaks of a known gateway, where an opening does
pub act-fits : (p : ℕ) (h : List ControllerAct) (a : ControllerAct) → AllFit p h → ControllerMayAct p h a → OpenFits p a → Fits p a
act-fits p h (Opened g s) f m o = o
act-fits p h (Cut g s) f m o = open-fits p g h f m.0
act-fits p h (Answered g s n x) f m o = queue-fits p g h m.0 f (oldest-has (queue g h) m.0 m.1)
act-fits p h (Heard g s t) f m o = open-fits p g h f m.0
act-fits p h (Ordered g s n z) f m o = open-fits p g h f m.2
act-fits p h (Accepted c) f m o = told-fits p h c m
act-fits p h (Refused w) f m o = tt

-- ## of a block only the event's own act can be an opening

abbrev pub OpensFit : ℕ → List ControllerAct → Type 0
OpensFit p [] = Unit {0}
OpensFit p (a ∷ more) = OpenFits p a × OpensFit p more

opens-more : (p : ℕ) (xs ys : List ControllerAct) → OpensFit p xs → OpensFit p ys → OpensFit p (xs ++ ys)
opens-more p [] ys f g = g
opens-more p (x ∷ xs) ys f g = (f.0, opens-more p xs ys f.1 g)

opens-given : (p : ℕ) (h : List ControllerAct) (d : Way) (os : List ControllerAct) → Given h d os → OpensFit p os
opens-given p h d _ (nothing i) = tt
opens-given p h d _ (out_removed x f l m n1) = (tt, tt)
opens-given p h d _ (in_removed x f l m n1 n2) = (tt, tt)
opens-given p h d _ (out_was_put x f l m n1 n2 n3) = (tt, tt)
opens-given p h d _ (in_was_put k ks f s m n1 n2 n3) = (tt, tt)

opens-pass : (p : ℕ) (h : List ControllerAct) (ds : List Way) → OpensFit p (pass h ds)
opens-pass p h [] = tt
opens-pass p h (d ∷ ds) = opens-more p (give h d) (pass (after h (give h d)) ds) (opens-given p h d (give h d) (given h d))
    (opens-pass p (after h (give h d)) ds)

opens-list : (p : ℕ) (h : List ControllerAct) (g : ℕ) (o : Option (List SpdEntry)) → OpensFit p (with_list h g o)
opens-list p h g None = tt
opens-list p h g (Some l) = (tt, tt)

opens-if : (p : ℕ) (b : Bool) (xs ys : List ControllerAct) → OpensFit p xs → OpensFit p ys → OpensFit p (if b then xs else ys)
opens-if p true xs ys f g = f
opens-if p false xs ys f g = g

opens-command : (p : ℕ) (h : List ControllerAct) (c : PlacedCommand) → OpensFit p (by_command h c)
opens-command p h (SetPolicy g l) = opens-if p (is_open g h) (order h g (Policy l) ∷ []) [] (tt, tt) tt
opens-command p h (Tunnel t) = tt
opens-command p h (End r) = tt
opens-command p h (Rekey r) = tt
opens-command p h (Keys k) = tt

opens-notice : (p : ℕ) (h : List ControllerAct) (g : ℕ) (t : Notice) → OpensFit p (by_notice h g t)
opens-notice p h g (notices.Acquire r f) = tt
opens-notice p h g (notices.Expire m b c) = tt
opens-notice p h g (notices.SeqOverflow m) = tt
opens-notice p h g (notices.BadSpi n) = opens-if p (list_any is_reading (queue g h)) [] (order h g Read ∷ []) tt (tt, tt)

opens-asked : (p : ℕ) (h : List ControllerAct) (a : ControllerAct) → OpensFit p (asked h a)
opens-asked p h (Opened g s) = (tt, opens-list p (order h g Read ∷ h) g (newest_list g h))
opens-asked p h (Cut g s) = tt
opens-asked p h (Answered g s n a) = tt
opens-asked p h (Heard g s t) = opens-notice p h g t
opens-asked p h (Ordered g s n o) = tt
opens-asked p h (Accepted c) = opens-command p h c
opens-asked p h (Refused w) = tt

opens-going : (p : ℕ) (h : List ControllerAct) (a : ControllerAct) → OpenFits p a → OpensFit p (going h a)
opens-going p h a o = (
  o,
  opens-more p (asked (a ∷ h) a) _ (opens-asked p (a ∷ h) a)
      (opens-pass p (after (a ∷ h) (asked (a ∷ h) a)) (directions (after (a ∷ h) (asked (a ∷ h) a)))),
)

opens-refusal : (p : ℕ) (h : List ControllerAct) (c : PlacedCommand) (o : Option Refusal) → OpensFit p (by_refusal h c o)
opens-refusal p h c None = opens-going p h (Accepted c) tt
opens-refusal p h c (Some w) = (tt, tt)

opens-answer : (p : ℕ) (h : List ControllerAct) (g : ℕ) (a : Answer) (os : List ControllerOrder) → OpensFit p (by_answer h g a os)
opens-answer p h g a [] = tt
opens-answer p h g a (o ∷ os) = opens-going p h (Answered g (openings g h) (answered g h + 1) a) tt

opens-block : (ps : List Peer) (h : List ControllerAct) (e : ControllerEvent) → EventFits (length ps) e
    → OpensFit (length ps) (block ps h e)
opens-block ps h (Told c) f = opens-refusal (length ps) h (placed_command ps c) (refusal (length ps) h (placed_command ps c))
opens-block ps h (Opens g) f = opens-if (length ps) (is_open g h) [] (going h (Opened g (openings g h + 1))) tt
    (opens-going (length ps) h (Opened g (openings g h + 1)) f)
opens-block ps h (Cuts g) f = opens-if (length ps) (is_open g h) (going h (Cut g (openings g h))) []
    (opens-going (length ps) h (Cut g (openings g h)) tt) tt
opens-block ps h (Answers g a) f = opens-answer (length ps) h g a (queue g h)
opens-block ps h (Notices g t) f = opens-if (length ps) (is_open g h) (going h (Heard g (openings g h) t)) []
    (opens-going (length ps) h (Heard g (openings g h) t) tt) tt

all-fit : (p : ℕ) (h xs : List ControllerAct) → AllFit p h → ControllerMayActAll p h xs → OpensFit p xs → AllFit p (after h xs)
all-fit p h [] f m o = f
all-fit p h (a ∷ xs) f m o = all-fit p (a ∷ h) xs (act-fits p h a f m.0 o.0, f) m.1 o.1

pub fit-block : (ps : List Peer) (h : List ControllerAct) (e : ControllerEvent) → AllFit (length ps) h → EventFits (length ps) e
    → AllFit (length ps) (after h (block ps h e))
fit-block ps h e f t = all-fit (length ps) h (block ps h e) f (may-block ps h e) (opens-block ps h e t)

fit-from : (ps : List Peer) (h : List ControllerAct) (es : List ControllerEvent) → AllFit (length ps) h → AllEventsFit (length ps) es
    → AllFit (length ps) (after h (history ps h es))
fit-from ps h [] f t = f
fit-from ps h (e ∷ es) f t = subst (AllFit (length ps)) (sym (after-append h (block ps h e) (history ps (after h (block ps h e)) es)))
    (fit-from ps (after h (block ps h e)) es (fit-block ps h e f t.0) t.1)

pub fit-history : (ps : List Peer) (es : List ControllerEvent) → AllEventsFit (length ps) es
    → AllFit (length ps) (after [] (history ps [] es))
fit-history ps es t = fit-from ps [] es tt t

-- ## the table

length-change : (f : ℕ) (k : KeptGateway → KeptGateway) (xs : List KeptGateway) → length (change f k xs) ≡ length xs
length-change f k [] = refl
length-change f k (x ∷ xs) = let ih = length-change (f - 1) k xs in grind (arith, ih)

length-told : (c : PlacedCommand) (xs : List KeptGateway) → length (told_gates c xs) ≡ length xs
length-told (SetPolicy f l) xs = length-change f (listed l) xs
length-told (Tunnel t) xs = refl
length-told (End r) xs = refl
length-told (Rekey r) xs = refl
length-told (Keys k) xs = refl

length-did : (t : Table) (a : ControllerAct) → length (did_table t a).gateways ≡ length t.gateways
length-did t (Opened f n) = length-change f gateway_opened t.gateways
length-did t (Cut f n) = length-change f gateway_cut t.gateways
length-did t (Answered f n i a) = length-change f (gateway_answered i) t.gateways
length-did t (Heard f n x) = refl
length-did t (Ordered f n i o) = length-change f (gateway_ordered o) t.gateways
length-did t (Accepted c) = length-told c t.gateways
length-did t (Refused w) = refl

abbrev Stands : ℕ → Table → List ControllerAct → Type 0
Stands p t h = (seen t ≡ state_of h) × (length t.gateways ≡ p) × AllFit p h

stands-all : (p : ℕ) (t : Table) (h xs : List ControllerAct) → Stands p t h → ControllerMayActAll p h xs → OpensFit p xs
    → Stands p (did_all_table t xs) (after h xs)
stands-all p t h [] s m o = s
stands-all p t h (a ∷ xs) s m o =
    let f = act-fits p h a s.2 m.0 o.0 in
    let e = seen-did t a (subst (λ n. Fits n a) (sym s.1) f) in
    stands-all p (did_table t a) (a ∷ h) xs
    (e ∙ (ap (λ z. did z a) s.0 ∙ sym (keeps h a)), length-did t a ∙ s.1, (f, s.2))
    m.1 o.1

pub table-step : (ps : List Peer) (t : Table) (h : List ControllerAct) (e : ControllerEvent) → IsControllerPast (length ps) h
    → AllFit (length ps) h → length t.gateways ≡ length ps → seen t ≡ state_of h → EventFits (length ps) e
    → Stands (length ps) (next_table ps t e) (after h (block ps h e))
table-step ps t h e l f n s v =
    subst (λ xs. Stands (length ps) (did_all_table t xs) (after h (block ps h e)))
    (sym (ap (λ z. acts_of ps z e) s ∙ acts_of-state_of ps h e))
    (stands-all (length ps) t h (block ps h e) (s, n, f) (may-block ps h e) (opens-block ps h e v))

shut-at : (n g : ℕ) → gateway_at g (shut_gateways n) ≡ shut
shut-at zero g = refl
shut-at (suc n) g = by-if (g == 0) (shut-at n (g - 1))
  where
    by-if : (b : Bool) → gateway_at (g - 1) (shut_gateways n) ≡ shut → (if b then shut else gateway_at (g - 1) (shut_gateways n)) ≡ shut
    by-if true e = refl
    by-if false e = e

pub first-seen : (n : ℕ) → seen (first_table n) ≡ state_of []
first-seen n = same-state _ _ _ _ _ _ _ (same-at _ _ (λ g. shut-at n g)) refl
