-- The acts of the controller at an event: what they leave of commands and answers, how many they are, and that they have lines.
use Rattle.std.proofs.Common.{◌≡◌, ℕ, ◌+◌, ◌-◌, ◌<◌, ◌≤◌, ◌==◌, ◌||◌, Bool, true, false, List, [], ◌∷◌, length, Option, Some, None, refl, arith, if◌then◌else◌}
use Rattle.std.specs.List.{AllByRecursion}
use Rattle.std.specs.Str.{bytes_eq}
use Rattle.ikeless_tree.specs.declared.command.Peer.{Peer}
use Rattle.ikeless_tree.specs.declared.command.Refusal.{Refusal}
use Rattle.ikeless_tree.specs.declared.order.Answer.{Answer}
use Rattle.hist_acts.specs.declared.act.Act.{Act}
use Rattle.hist_acts.specs.Gateways.{is_named}
use Rattle.hist_acts.specs.Past.{after}
use Rattle.hist_controller.specs.Acts.{ControllerOrder, PlacedCommand, ControllerAct, Opened, Cut, Answered, Heard, Ordered, Accepted, Refused, ControllerEvent, Told, Opens, Cuts, Answers, Notices}
use Rattle.hist_controller.specs.Clauses.{IsControllerPast}
use Rattle.hist_controller.specs.Entries.{IsSoundCommand, SoundCommands}
use Rattle.hist_controller.specs.Halves.{PlainAnswers, is_plain}
use Rattle.hist_controller.specs.Law.{asked, asked_then, block, by_answer, by_refusal, going, placed_command, refusal}
use Rattle.hist_controller.specs.Past.{answered, is_open, oldest, openings, queue}
use Rattle.hist_controller.specs.Table.{AllFit, Fits}
use Rattle.hist_controller.specs.Told.{all_told, peer_name, told}
use Rattle.hist_controller.proofs.Spent.{short-block}
use Rattle.hist_safety.proofs.Basics.{name-self, no}
use Rattle.hist_world.proofs.Controls.{are_orders, then-orders}
use Rattle.acts_spell.specs.Spelled.{AreSpelledCommands, IsSpelledCommand}
use Rattle.acts_spell.proofs.Counts.{AreFew, count_answered, count_handled, count_opened, count_orders, count_taken}
use Rattle.acts_spell.proofs.Each.{each-append}
use Rattle.acts_spell.proofs.Ordered.{ArePeers, order-good}
use Rattle.acts_spell.proofs.Told.{IsTellable}

-- ---- commands and answers

-- what holds of the commands that were accepted and of the answers that were heard
pub record IsGoodPast (h : List ControllerAct) : Type 0 where
  pub sound : SoundCommands h
  pub spelled : AreSpelledCommands h
  pub plain : PlainAnswers h

-- an event that leaves it so
abbrev pub IsGoodEvent : List Peer → List ControllerAct → ControllerEvent → Type 0
IsGoodEvent ps h (Told c) = IsSoundCommand (placed_command ps c) × IsSpelledCommand (placed_command ps c)
IsGoodEvent ps h (Answers g a) = is_plain (oldest (queue g h)) a.status ≡ true
IsGoodEvent ps h _ = Unit {0}

same-good : (h : List ControllerAct) (a : ControllerAct) → SoundCommands (a ∷ h) → AreSpelledCommands (a ∷ h) → PlainAnswers (a ∷ h)
    → IsGoodPast (a ∷ h)
same-good h a s t p = record { sound = s; spelled = t; plain = p }

orders-good : (h xs : List ControllerAct) → are_orders xs ≡ true → IsGoodPast h → IsGoodPast (after h xs)
orders-good h [] e g = g
orders-good h (Ordered f s n o ∷ xs) e g = orders-good (Ordered f s n o ∷ h) xs e (same-good h (Ordered f s n o) g.sound g.spelled g.plain)
orders-good h (Opened f s ∷ xs) e g = absurd (no e)
orders-good h (Cut f s ∷ xs) e g = absurd (no e)
orders-good h (Answered f s n a ∷ xs) e g = absurd (no e)
orders-good h (Heard f s t ∷ xs) e g = absurd (no e)
orders-good h (Accepted c ∷ xs) e g = absurd (no e)
orders-good h (Refused w ∷ xs) e g = absurd (no e)

going-good : (h : List ControllerAct) (a : ControllerAct) → IsGoodPast (a ∷ h) → IsGoodPast (after h (going h a))
going-good h a g = orders-good (a ∷ h) (asked_then (a ∷ h) (asked (a ∷ h) a)) (then-orders h a) g

refused-good : (h : List ControllerAct) (c : PlacedCommand) (r : Option Refusal) → IsSoundCommand c → IsSpelledCommand c → IsGoodPast h
    → IsGoodPast (after h (by_refusal h c r))
refused-good h c None s t g = going-good h (Accepted c) (same-good h (Accepted c) (s, g.sound) (t, g.spelled) g.plain)
refused-good h c (Some w) s t g = same-good h (Refused w) g.sound g.spelled g.plain

answer-good : (h : List ControllerAct) (g : ℕ) (a : Answer) (q : List ControllerOrder) → is_plain (oldest (queue g h)) a.status ≡ true
    → IsGoodPast h → IsGoodPast (after h (by_answer h g a q))
answer-good h g a [] e p = p
answer-good h g a (o ∷ os) e p =
    let x : ControllerAct = Answered g (openings g h) (answered g h + 1) a in going-good h x (same-good h x p.sound p.spelled (e, p.plain))

either-good : (h : List ControllerAct) (b : Bool) (xs ys : List ControllerAct) → IsGoodPast (after h xs) → IsGoodPast (after h ys)
    → IsGoodPast (after h (if b then xs else ys))
either-good h true xs ys p q = p
either-good h false xs ys p q = q

pub block-good : (ps : List Peer) (h : List ControllerAct) (e : ControllerEvent) → IsGoodEvent ps h e → IsGoodPast h
    → IsGoodPast (after h (block ps h e))
block-good ps h (Told c) e g = refused-good h (placed_command ps c) (refusal (length ps) h (placed_command ps c)) e.0 e.1 g
block-good ps h (Opens f) e g =
    let x : ControllerAct = Opened f (openings f h + 1) in
    either-good h (is_open f h) [] (going h x) g (going-good h x (same-good h x g.sound g.spelled g.plain))
block-good ps h (Cuts f) e g =
    let x : ControllerAct = Cut f (openings f h) in
    either-good h (is_open f h) (going h x) [] (going-good h x (same-good h x g.sound g.spelled g.plain)) g
block-good ps h (Answers f a) e g = answer-good h f a (queue f h) e g
block-good ps h (Notices f t) e g =
    let x : ControllerAct = Heard f (openings f h) t in
    either-good h (is_open f h) (going h x) [] (going-good h x (same-good h x g.sound g.spelled g.plain)) g

-- ---- how many

orders-count : (ps : List Peer) (xs : List ControllerAct) → count_orders (all_told ps xs) ≤ length xs
orders-count ps [] = omega arith
orders-count ps (Ordered g s n o ∷ xs) = let e = orders-count ps xs in omega (arith, e)
orders-count ps (Opened f s ∷ xs) = let e = orders-count ps xs in omega (arith, e)
orders-count ps (Cut f s ∷ xs) = let e = orders-count ps xs in omega (arith, e)
orders-count ps (Answered f s n a ∷ xs) = let e = orders-count ps xs in omega (arith, e)
orders-count ps (Heard f s t ∷ xs) = let e = orders-count ps xs in omega (arith, e)
orders-count ps (Accepted c ∷ xs) = let e = orders-count ps xs in omega (arith, e)
orders-count ps (Refused w ∷ xs) = let e = orders-count ps xs in omega (arith, e)

never-taken : (ps : List Peer) (xs : List ControllerAct) → count_taken (all_told ps xs) ≡ 0
never-taken ps [] = refl
never-taken ps (Ordered g s n o ∷ xs) = never-taken ps xs
never-taken ps (Opened f s ∷ xs) = never-taken ps xs
never-taken ps (Cut f s ∷ xs) = never-taken ps xs
never-taken ps (Answered f s n a ∷ xs) = never-taken ps xs
never-taken ps (Heard f s t ∷ xs) = never-taken ps xs
never-taken ps (Accepted c ∷ xs) = never-taken ps xs
never-taken ps (Refused w ∷ xs) = never-taken ps xs

-- orders alone open, handle and answer nothing
record AreOrdersAlone (xs : List Act) : Type 0 where
  pub opened : count_opened xs ≡ 0
  pub handled : count_handled xs ≡ 0
  pub answered : count_answered xs ≡ 0

alone : (ps : List Peer) (xs : List ControllerAct) → are_orders xs ≡ true → AreOrdersAlone (all_told ps xs)
alone ps [] e = record { opened = refl; handled = refl; answered = refl }
alone ps (Ordered f s n o ∷ xs) e = let m = alone ps xs e in record { opened = m.opened; handled = m.handled; answered = m.answered }
alone ps (Opened f s ∷ xs) e = absurd (no e)
alone ps (Cut f s ∷ xs) e = absurd (no e)
alone ps (Answered f s n a ∷ xs) e = absurd (no e)
alone ps (Heard f s t ∷ xs) e = absurd (no e)
alone ps (Accepted c ∷ xs) e = absurd (no e)
alone ps (Refused w ∷ xs) e = absurd (no e)

-- one act and orders
first-few : (ps : List Peer) (a : ControllerAct) (xs : List ControllerAct) → are_orders xs ≡ true
    → (count_opened (all_told ps (a ∷ xs)) ≤ 1) × (count_handled (all_told ps (a ∷ xs)) ≤ 1) × (count_answered (all_told ps (a ∷ xs)) ≤ 1)
first-few ps (Opened f s) xs e =
    let m = alone ps xs e in let a = m.opened in let b = m.handled in let c = m.answered in
    (omega (arith, a), omega (arith, b), omega (arith, c))
first-few ps (Cut f s) xs e =
    let m = alone ps xs e in let a = m.opened in let b = m.handled in let c = m.answered in
    (omega (arith, a), omega (arith, b), omega (arith, c))
first-few ps (Answered f s n x) xs e =
    let m = alone ps xs e in let a = m.opened in let b = m.handled in let c = m.answered in
    (omega (arith, a), omega (arith, b), omega (arith, c))
first-few ps (Heard f s t) xs e =
    let m = alone ps xs e in let a = m.opened in let b = m.handled in let c = m.answered in
    (omega (arith, a), omega (arith, b), omega (arith, c))
first-few ps (Ordered f s n o) xs e =
    let m = alone ps xs e in let a = m.opened in let b = m.handled in let c = m.answered in
    (omega (arith, a), omega (arith, b), omega (arith, c))
first-few ps (Accepted k) xs e =
    let m = alone ps xs e in let a = m.opened in let b = m.handled in let c = m.answered in
    (omega (arith, a), omega (arith, b), omega (arith, c))
first-few ps (Refused w) xs e =
    let m = alone ps xs e in let a = m.opened in let b = m.handled in let c = m.answered in
    (omega (arith, a), omega (arith, b), omega (arith, c))

-- what there are besides orders
record AreFewBesides (xs : List Act) : Type 0 where
  pub opened : count_opened xs ≤ 1
  pub handled : count_handled xs ≤ 1
  pub answered : count_answered xs ≤ 1

none-besides : AreFewBesides []
none-besides = record { opened = omega arith; handled = omega arith; answered = omega arith }

going-few : (ps : List Peer) (h : List ControllerAct) (a : ControllerAct) → AreFewBesides (all_told ps (going h a))
going-few ps h a =
    let m = first-few ps a (asked_then (a ∷ h) (asked (a ∷ h) a))
    (then-orders h a) in record { opened = m.0; handled = m.1; answered = m.2 }

refused-few : (ps : List Peer) (h : List ControllerAct) (c : PlacedCommand) (r : Option Refusal)
    → AreFewBesides (all_told ps (by_refusal h c r))
refused-few ps h c None = going-few ps h (Accepted c)
refused-few ps h c (Some w) = record { opened = omega arith; handled = omega arith; answered = omega arith }

answer-few : (ps : List Peer) (h : List ControllerAct) (g : ℕ) (a : Answer) (q : List ControllerOrder)
    → AreFewBesides (all_told ps (by_answer h g a q))
answer-few ps h g a [] = none-besides
answer-few ps h g a (o ∷ os) = going-few ps h (Answered g (openings g h) (answered g h + 1) a)

either-few : (ps : List Peer) (b : Bool) (xs ys : List ControllerAct) → AreFewBesides (all_told ps xs) → AreFewBesides (all_told ps ys)
    → AreFewBesides (all_told ps (if b then xs else ys))
either-few ps true xs ys p q = p
either-few ps false xs ys p q = q

few-besides : (ps : List Peer) (h : List ControllerAct) (e : ControllerEvent) → AreFewBesides (all_told ps (block ps h e))
few-besides ps h (Told c) = refused-few ps h (placed_command ps c) (refusal (length ps) h (placed_command ps c))
few-besides ps h (Opens f) =
    either-few ps (is_open f h) [] (going h (Opened f (openings f h + 1))) none-besides (going-few ps h (Opened f (openings f h + 1)))
few-besides ps h (Cuts f) =
    either-few ps (is_open f h) (going h (Cut f (openings f h))) [] (going-few ps h (Cut f (openings f h))) none-besides
few-besides ps h (Answers f a) = answer-few ps h f a (queue f h)
few-besides ps h (Notices f t) =
    either-few ps (is_open f h) (going h (Heard f (openings f h) t)) [] (going-few ps h (Heard f (openings f h) t)) none-besides

pub block-few : (ps : List Peer) (h : List ControllerAct) (e : ControllerEvent) → IsControllerPast (length ps) h
    → AreFew (all_told ps (block ps h e))
block-few ps h e l =
    let m = few-besides ps h e in
    let n = orders-count ps (block ps h e) in
    let k = short-block ps h e l in
    record {
      taken = never-taken ps (block ps h e);
      opened = m.opened;
      handled = m.handled;
      answered = m.answered;
      orders =
          omega (arith, n, k);
    }

-- ---- names

or-true : (b c : Bool) → b ≡ true → (b || c) ≡ true
or-true true c e = refl
or-true false c e = absurd (no e)

or-right : (b c : Bool) → c ≡ true → (b || c) ≡ true
or-right true c e = refl
or-right false c e = e

name-known : (ps : List Peer) (g : ℕ) → g < length ps → is_named ps (peer_name ps g) ≡ true
name-known [] g i = absurd (omega (arith, i))
name-known (p ∷ ps) g i = by-place (g == 0) refl (name-known ps (g - 1)) where
  by-place : (b : Bool) → (g == 0) ≡ b → (g - 1 < length ps → is_named ps (peer_name ps (g - 1)) ≡ true)
      → is_named (p ∷ ps) (if b then p.name else peer_name ps (g - 1)) ≡ true
  by-place true e f = or-true (bytes_eq p.name p.name) (is_named ps p.name) (name-self p.name)
  by-place false e f = or-right (bytes_eq p.name (peer_name ps (g - 1))) (is_named ps (peer_name ps (g - 1))) (f (grind (arith, e, i)))

-- ---- which acts have lines

past-before : (p : ℕ) (h xs : List ControllerAct) → IsControllerPast p (after h xs) → IsControllerPast p h
past-before p h [] l = l
past-before p h (a ∷ xs) l = (past-before p (a ∷ h) xs l).1

fit-before : (p : ℕ) (h xs : List ControllerAct) → AllFit p (after h xs) → AllFit p h
fit-before p h [] l = l
fit-before p h (a ∷ xs) l = (fit-before p (a ∷ h) xs l).1

one-before : (a : ControllerAct) (h : List ControllerAct) → IsGoodPast (a ∷ h) → IsGoodPast h
one-before (Opened f s) h g = record { sound = g.sound; spelled = g.spelled; plain = g.plain }
one-before (Cut f s) h g = record { sound = g.sound; spelled = g.spelled; plain = g.plain }
one-before (Answered f s n a) h g = record { sound = g.sound; spelled = g.spelled; plain = g.plain.1 }
one-before (Heard f s t) h g = record { sound = g.sound; spelled = g.spelled; plain = g.plain }
one-before (Ordered f s n o) h g = record { sound = g.sound; spelled = g.spelled; plain = g.plain }
one-before (Accepted c) h g = record { sound = g.sound.1; spelled = g.spelled.1; plain = g.plain }
one-before (Refused w) h g = record { sound = g.sound; spelled = g.spelled; plain = g.plain }

good-before : (h xs : List ControllerAct) → IsGoodPast (after h xs) → IsGoodPast h
good-before h [] g = g
good-before h (a ∷ xs) g = one-before a h (good-before (a ∷ h) xs g)

one-tellable : (ps : List Peer) (h : List ControllerAct) (a : ControllerAct) → ArePeers ps → IsControllerPast (length ps) (a ∷ h)
    → Fits (length ps) a → IsGoodPast h → AllByRecursion (IsTellable ps) (told ps a)
one-tellable ps h (Opened g s) p l f k = (name-known ps g f, tt)
one-tellable ps h (Cut g s) p l f k = (name-known ps g f, tt)
one-tellable ps h (Answered g s n a) p l f k = (name-known ps g f, tt)
one-tellable ps h (Heard g s t) p l f k = (name-known ps g f, tt)
one-tellable ps h (Ordered g s n o) p l f k = ((name-known ps g f, order-good ps g s n o h p l k.sound k.spelled), tt)
one-tellable ps h (Accepted c) p l f k = tt
one-tellable ps h (Refused w) p l f k = (tt, tt)

pub all-tellable : (ps : List Peer) (h xs : List ControllerAct) → ArePeers ps → IsControllerPast (length ps) (after h xs)
    → AllFit (length ps) (after h xs) → IsGoodPast (after h xs)
    → AllByRecursion (IsTellable ps) (all_told ps xs)
all-tellable ps h [] p l f k = tt
all-tellable ps h (a ∷ xs) p l f k =
    each-append (IsTellable ps) (told ps a) (all_told ps xs)
    (one-tellable ps h a p (past-before (length ps) (a ∷ h) xs l) (fit-before (length ps) (a ∷ h) xs f).0
    (one-before a h (good-before (a ∷ h) xs k)))
    (all-tellable ps (a ∷ h) xs p l f k)
