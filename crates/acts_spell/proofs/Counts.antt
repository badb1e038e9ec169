-- How many sessions, requests, answers and orders acts add, and that there is room for them.
use Rattle.std.proofs.Common.{◌≡◌, ℕ, ◌+◌, ◌*◌, ◌<◌, ◌≤◌, Bool, true, false, List, [], ◌∷◌, refl, ap, ◌∙◌, arith, if◌then◌else◌}
use Rattle.std.specs.List.{list_all}
use Rattle.std.specs.Str.{bytes_eq}
use Rattle.hist_acts.specs.declared.act.Act.{Act}
use Rattle.hist_acts.specs.declared.act.Act.TheVariants as acts
use Rattle.hist_acts.specs.Past.{after, events_taken}
use Rattle.hist_acts.specs.Sessions as sessions
use Rattle.hist_acts.specs.Sessions.{answered, is_session, openings, orders}
use Rattle.hist_gateway.specs.Handle.{requests}
use Rattle.hist_safety.proofs.Basics.{both-left, both-right, no, session-is}
use Rattle.session_pipe.specs.Sessions.{KeepsSessions}
use Rattle.acts_spell.specs.Spelled.{AreFewAt}

-- ---- counts of acts

abbrev pub count_opened : List Act → ℕ
count_opened [] = 0
count_opened (acts.Opened g s ∷ xs) = count_opened xs + 1
count_opened (_ ∷ xs) = count_opened xs

abbrev pub count_handled : List Act → ℕ
count_handled [] = 0
count_handled (acts.Handled g s k a ∷ xs) = count_handled xs + 1
count_handled (_ ∷ xs) = count_handled xs

abbrev pub count_answered : List Act → ℕ
count_answered [] = 0
count_answered (acts.Answered g s k a ∷ xs) = count_answered xs + 1
count_answered (_ ∷ xs) = count_answered xs

abbrev pub count_orders : List Act → ℕ
count_orders [] = 0
count_orders (acts.Order g s k o ∷ xs) = count_orders xs + 1
count_orders (_ ∷ xs) = count_orders xs

abbrev pub count_taken : List Act → ℕ
count_taken [] = 0
count_taken (acts.Took k ∷ xs) = count_taken xs + 1
count_taken (_ ∷ xs) = count_taken xs

-- so many at most, and no further event
pub record AreFew (xs : List Act) : Type 0 where
  pub taken : count_taken xs ≡ 0
  pub opened : count_opened xs ≤ 1
  pub handled : count_handled xs ≤ 1
  pub answered : count_answered xs ≤ 1
  pub orders : count_orders xs ≤ 2051

-- none of these
abbrev pub is_quiet : Act → Bool
is_quiet (acts.Took k) = false
is_quiet (acts.Opened g s) = false
is_quiet (acts.Handled g s k a) = false
is_quiet (acts.Answered g s k a) = false
is_quiet (acts.Order g s k o) = false
is_quiet _ = true

abbrev pub are_quiet : List Act → Bool
are_quiet xs = list_all is_quiet xs

record AreNone (xs : List Act) : Type 0 where
  pub taken : count_taken xs ≡ 0
  pub opened : count_opened xs ≡ 0
  pub handled : count_handled xs ≡ 0
  pub answered : count_answered xs ≡ 0
  pub orders : count_orders xs ≡ 0

quiet-cons : (a : Act) (xs : List Act) → is_quiet a ≡ true → AreNone xs → AreNone (a ∷ xs)
quiet-cons (acts.Took k) xs e n = absurd (no e)
quiet-cons (acts.Opened g s) xs e n = absurd (no e)
quiet-cons (acts.Handled g s k a) xs e n = absurd (no e)
quiet-cons (acts.Answered g s k a) xs e n = absurd (no e)
quiet-cons (acts.Order g s k o) xs e n = absurd (no e)
quiet-cons a xs e n = record { taken = n.taken; opened = n.opened; handled = n.handled; answered = n.answered; orders = n.orders }

quiet-none : (xs : List Act) → are_quiet xs ≡ true → AreNone xs
quiet-none [] e = record { taken = refl; opened = refl; handled = refl; answered = refl; orders = refl }
quiet-none (a ∷ xs) e = quiet-cons a xs (both-left (is_quiet a) (are_quiet xs) e) (quiet-none xs (both-right (is_quiet a) (are_quiet xs) e))

pub quiet-few : (xs : List Act) → are_quiet xs ≡ true → AreFew xs
quiet-few xs e =
    let n = quiet-none xs e in
    let a = n.opened in let b = n.handled in let c = n.answered in let d = n.orders in
    record {
      taken = n.taken;
      opened = omega (arith, a);
      handled = omega (arith, b);
      answered = omega (arith, c);
      orders =
          omega (arith, d);
    }

-- ---- a session that isn't opened yet has none

if-none : (b : Bool) (n : ℕ) → n ≡ 0 → (b ≡ true → ⊥) → (if b then n + 1 else n) ≡ 0
if-none true n e f = absurd (f refl)
if-none false n e f = e

less : (b : Bool) (n s : ℕ) → (if b then n + 1 else n) < s → n < s
less true n s l = omega (arith, l)
less false n s l = l

not-yet : (f g : List ℕ) (t s : ℕ) (h : List Act) → t ≡ openings f h → openings g h < s → is_session f t g s ≡ true → ⊥
not-yet f g t s h e l q =
    let p = session-is f t g s q in
    let same : openings f h ≡ openings g h = ap (λ (z : List ℕ). openings z h) p.0 in
    let is : t ≡ s = p.1 in
    omega (arith, e, same, is, l)

pub no-answers : (g : List ℕ) (s : ℕ) (h : List Act) → KeepsSessions h → openings g h < s → answered g s h ≡ 0
no-answers g s [] k l = refl
no-answers g s (acts.Opened f t ∷ h) k l = no-answers g s h k.1 (less (bytes_eq f g) (openings g h) s l)
no-answers g s (acts.Answered f t j a ∷ h) k l =
    if-none (is_session f t g s) (answered g s h) (no-answers g s h k.1 l) (not-yet f g t s h k.0.0 l)
no-answers g s (a ∷ h) k l = no-answers g s h k.1 l

pub no-orders : (g : List ℕ) (s : ℕ) (h : List Act) → KeepsSessions h → openings g h < s → orders g s h ≡ 0
no-orders g s [] k l = refl
no-orders g s (acts.Opened f t ∷ h) k l = no-orders g s h k.1 (less (bytes_eq f g) (openings g h) s l)
no-orders g s (acts.Order f t j o ∷ h) k l =
    if-none (is_session f t g s) (orders g s h) (no-orders g s h k.1 l) (not-yet f g t s h k.0.1 l)
no-orders g s (a ∷ h) k l = no-orders g s h k.1 l

-- ---- room

-- these acts after this past leave what is counted at a gateway within a bound
pub record HasRoom (bound : ℕ) (g : List ℕ) (h xs : List Act) : Type 0 where
  pub openings : sessions.openings g h + count_opened xs ≤ bound
  pub handled : requests g h + count_handled xs ≤ bound
  pub answered : sessions.answered g (sessions.openings g h) h + count_answered xs ≤ bound
  pub orders : sessions.orders g (sessions.openings g h) h + count_orders xs ≤ 2051 * bound

opened-step : (m : ℕ) (g f : List ℕ) (t : ℕ) (h xs : List Act) → KeepsSessions h → HasRoom m g h (acts.Opened f t ∷ xs) → (b : Bool)
    → bytes_eq f g ≡ b → HasRoom m g (acts.Opened f t ∷ h) xs
opened-step m g f t h xs k r true e =
    let a = r.openings in let b = r.handled in let c = r.answered in let d = r.orders in
    let one : openings g (acts.Opened f t ∷ h) ≡ openings g h + 1 = ap (λ (z : Bool). if z then openings g h + 1 else openings g h) e in
    let two : requests g (acts.Opened f t ∷ h) ≡ 0 = ap (λ (z : Bool). if z then 0 else requests g h) e in
    let new : openings g h < openings g h + 1 = omega arith in
    let three : answered g (openings g (acts.Opened f t ∷ h)) h ≡ 0 = ap (λ (z : ℕ). answered g z h) one
    ∙ no-answers g (openings g h + 1) h k new in
    let four : orders g (openings g (acts.Opened f t ∷ h)) h ≡ 0 = ap (λ (z : ℕ). orders g z h) one ∙ no-orders g (openings g h + 1) h k new
    in
    record {
      openings = omega (arith, one, a);
      handled = omega (arith, two, b);
      answered = omega (arith, three, c);
      orders =
          omega (arith, four, d);
    }
opened-step m g f t h xs k r false e =
    let a = r.openings in let b = r.handled in let c = r.answered in let d = r.orders in
    let one : openings g (acts.Opened f t ∷ h) ≡ openings g h = ap (λ (z : Bool). if z then openings g h + 1 else openings g h) e in
    let two : requests g (acts.Opened f t ∷ h) ≡ requests g h = ap (λ (z : Bool). if z then 0 else requests g h) e in
    let three : answered g (openings g (acts.Opened f t ∷ h)) h ≡ answered g (openings g h) h = ap (λ (z : ℕ). answered g z h) one in
    let four : orders g (openings g (acts.Opened f t ∷ h)) h ≡ orders g (openings g h) h = ap (λ (z : ℕ). orders g z h) one in
    record {
      openings = omega (arith, one, a);
      handled = omega (arith, two, b);
      answered = omega (arith, three, c);
      orders =
          omega (arith, four, d);
    }

one-more : (b : Bool) (n m bound : ℕ) → n + (m + 1) ≤ bound → (if b then n + 1 else n) + m ≤ bound
one-more true n m bound h = omega (arith, h)
one-more false n m bound h = omega (arith, h)

none-more : (b : Bool) (n m bound : ℕ) → n + m ≤ bound → (if b then 0 else n) + m ≤ bound
none-more true n m bound h = omega (arith, h)
none-more false n m bound h = h

pub room-step : (m : ℕ) (g : List ℕ) (a : Act) (h xs : List Act) → KeepsSessions h → HasRoom m g h (a ∷ xs) → HasRoom m g (a ∷ h) xs
room-step m g (acts.Opened f t) h xs k r = opened-step m g f t h xs k r (bytes_eq f g) refl
room-step m g (acts.Boot f) h xs k r =
    record {
      openings = r.openings;
      handled = none-more (bytes_eq f g) (requests g h) (count_handled xs) m r.handled;
      answered = r.answered;
      orders = r.orders;
    }
room-step m g (acts.Handled f t j x) h xs k r =
    record {
      openings = r.openings;
      handled = one-more (bytes_eq f g) (requests g h) (count_handled xs) m r.handled;
      answered = r.answered;
      orders = r.orders;
    }
room-step m g (acts.Answered f t j x) h xs k r =
    record {
      openings = r.openings;
      handled = r.handled;
      answered = one-more (is_session f t g (openings g h)) (answered g (openings g h) h)
          (count_answered xs) m r.answered;
      orders = r.orders;
    }
room-step m g (acts.Order f t j o) h xs k r =
    record {
      openings = r.openings;
      handled = r.handled;
      answered = r.answered;
      orders =
          one-more (is_session f t g (openings g h)) (orders g (openings g h) h) (count_orders xs) (2051 * m) r.orders;
    }
room-step m g a h xs k r = record { openings = r.openings; handled = r.handled; answered = r.answered; orders = r.orders }

-- what was counted and these few more have room
pub room-from : (g : List ℕ) (n : ℕ) (h xs : List Act) → AreFewAt g h → AreFew xs → HasRoom (events_taken h + 1) g (acts.Took n ∷ h) xs
room-from g n h xs few more =
    let a = few.openings in let b = few.handled in let c = few.answered in let d = few.orders in
    let p = more.opened in let q = more.handled in let r = more.answered in let s = more.orders in
    record { openings = omega (arith, a, p); handled = omega (arith, b, q); answered = omega (arith, c, r); orders = omega (arith, d, s) }

-- ---- after the acts

pub taken-same : (h xs : List Act) → count_taken xs ≡ 0 → events_taken (after h xs) ≡ events_taken h
taken-same h [] e = refl
taken-same h (acts.Took k ∷ xs) e = absurd (omega (arith, e))
taken-same h (a ∷ xs) e = taken-same (a ∷ h) xs e

room-end : (m : ℕ) (g : List ℕ) (h : List Act) → events_taken h ≡ m → HasRoom m g h [] → AreFewAt g h
room-end m g h l r =
    let a = r.openings in let b = r.handled in let c = r.answered in let d = r.orders in
    record { openings = omega (arith, a, l); handled = omega (arith, b, l); answered = omega (arith, c, l); orders = omega (arith, d, l) }

all-steps : (m : ℕ) (g : List ℕ) (h xs : List Act) → KeepsSessions (after h xs)
    → ((k xs2 : List Act) → KeepsSessions (after k xs2) → KeepsSessions k) → HasRoom m g h xs → HasRoom m g (after h xs) []
all-steps m g h [] k back r = r
all-steps m g h (a ∷ xs) k back r = all-steps m g (a ∷ h) xs k back (room-step m g a h xs (back (a ∷ h) xs k).1 r)

-- one event more
pub few-after : ((k xs : List Act) → KeepsSessions (after k xs) → KeepsSessions k) → (g : List ℕ) (n : ℕ) (h xs : List Act) → AreFewAt g h
    → AreFew xs
    → KeepsSessions (after (acts.Took n ∷ h) xs) → AreFewAt g (after (acts.Took n ∷ h) xs)
few-after back g n h xs few more k =
    let t = taken-same (acts.Took n ∷ h) xs more.taken in
    room-end (events_taken h + 1) g (after (acts.Took n ∷ h) xs) t
    (all-steps (events_taken h + 1) g (acts.Took n ∷ h) xs k back (room-from g n h xs few more))
