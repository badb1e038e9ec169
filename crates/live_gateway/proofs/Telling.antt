-- What counts, last calls and sessions tell of several calls.
use Rattle.std.proofs.Common.{◌≡◌, ◌⊎◌, inl, inr, ℕ, Bool, true, false, Option, Some, None, Result, Ok, Err, IsSome, IfOk, OnOk, OnErr, List, ◌++◌, length, take, refl, sym, subst, ◌∙◌}
use Rattle.ikl_base.specs.Outside.{HasCause, TellsOutcome}
use Rattle.rc_http.specs.Feeding.{Feeding}
use Rattle.ikl_base.specs.declared.fault.NoMemory.{NoMemory as Failure}
use Rattle.live_messages.specs.Brings.{GoesOn, message_in, taken_of}
use Rattle.live_messages.specs.Holds.{IsReading}
use Rattle.live_messages.specs.declared.feed.Brought.{Brought}
use Rattle.live_messages.specs.declared.feed.Brought.TheVariants.{Nothing}
use Rattle.live_gateway.specs.declared.ended.Ended.{Ended}
use Rattle.live_gateway.specs.declared.ended.Ended.TheVariants.{TurnsSpent, InsideFault, OutsideFault, DockFault, NoMemory}
use Rattle.live_gateway.specs.Causes.{Feeds, IsRead, MayWrite, StaysOrEnds, Tells, is_dock_fault, is_inside_fault, is_outside_fault}
use Rattle.live_gateway.proofs.Making.{later-on, later-same, risen-back}

-- ---- counts

false-true : false ≡ true → ⊥
false-true e = let none : ⊥ = cc in none

pub tells_same : (n : ℕ) (told : Option Bool) → Tells n n told told false
tells_same n told = record {
  later = later-same n;
  risen = λ e. absurd (false-true e);
  failed = λ e. absurd (false-true e);
  calm = λ e calm. calm;
}

pub tells_on : (a b c : ℕ) (x y z : Option Bool) (ended : Bool) → Tells a b x y false → Tells b c y z ended → Tells a c x z ended
tells_on a b c x y z ended p q = record {
  later = later-on a b c p.later q.later;
  risen = λ e. risen-back a b c p.later (q.risen e);
  failed = q.failed;
  calm = λ e calm. q.calm e (p.calm refl calm);
}

-- no call was made
pub tells_none : (a b : ℕ) (x y : Option Bool) (ended : Bool) → b ≡ a → y ≡ x → ended ≡ false → Tells a b x y ended
tells_none a b x y ended same told not =
    subst (λ (m : ℕ). Tells a m x y ended) (sym same)
    (subst (λ (z : Option Bool). Tells a a x z ended) (sym told)
    (subst (λ (e : Bool). Tells a a x x e) (sym not) (tells_same a x)))

-- one call
pub tells_passed : {T E : Type 0} (a b : ℕ) (x y : Option Bool) (v : T) → HasCause {T = T} {E = E} a b (Ok v)
    → TellsOutcome {T = T} {E = E} y (Ok v)
    → Tells a b x y false
tells_passed a b x y v cause told = record {
  later = cause.later;
  risen = λ e. absurd (false-true e);
  failed = λ e. absurd (false-true e);
  calm = λ e calm. told;
}

pub tells_failed : {T E : Type 0} (a b : ℕ) (x y : Option Bool) (v : E) → HasCause {T = T} {E = E} a b (Err v)
    → TellsOutcome {T = T} {E = E} y (Err v)
    → Tells a b x y true
tells_failed a b x y v cause told = record {
  later = cause.later;
  risen = λ e. cause.failed refl;
  failed = λ e. told;
  calm = λ e calm. absurd (false-true (sym e));
}

-- the answer where no device failed
pub ended_calm : (e : Ended) → (is_inside_fault e ≡ true → ⊥) → (is_outside_fault e ≡ true → ⊥) → (is_dock_fault e ≡ true → ⊥)
    → (e ≡ TurnsSpent) ⊎ (e ≡ NoMemory)
ended_calm TurnsSpent p q r = inl refl
ended_calm InsideFault p q r = absurd (p refl)
ended_calm OutsideFault p q r = absurd (q refl)
ended_calm DockFault p q r = absurd (r refl)
ended_calm NoMemory p q r = inr refl

-- ---- sessions

pub may_is : (s : Option Feeding) (r : Feeding) (is_taken : Bool) → s ≡ Some r → MayWrite s is_taken → is_taken ≡ true
may_is s r is_taken e may = subst (λ (z : Option Feeding). MayWrite z is_taken) e may

pub may_true : (s : Option Feeding) (is_taken : Bool) → is_taken ≡ true → MayWrite s is_taken
may_true None is_taken e = tt
may_true (Some r) is_taken e = e

pub may_fed : (old new : Option Feeding) (is_taken : Bool) → (IsSome new → IsSome old) → MayWrite old is_taken → MayWrite new is_taken
may_fed old None is_taken stays may = tt
may_fed None (Some r) is_taken stays may = absurd (false-true (stays refl))
may_fed (Some q) (Some r) is_taken stays may = may

pub stays_same : (s : Option Feeding) → StaysOrEnds s s
stays_same None = tt
stays_same (Some r) = refl

pub stays_none : (s t : Option Feeding) → t ≡ None → StaysOrEnds s t
stays_none s t e = subst (λ (z : Option Feeding). StaysOrEnds s z) (sym e) tt

pub stays_on : (s t u : Option Feeding) → StaysOrEnds s t → StaysOrEnds t u → StaysOrEnds s u
stays_on s t None p q = tt
stays_on s t (Some r) p q = subst (λ (z : Option Feeding). StaysOrEnds s z) q p

pub read_stays : (s t : Option Feeding) → StaysOrEnds s t → IsRead s → IsRead t
read_stays s None p r = tt
read_stays s (Some q) p r = subst IsRead p r

abbrev pub there_of : Option Feeding → Bool
there_of None = false
there_of (Some reader) = true

-- ---- what an answer says

-- a fact that holds anyway
pub on_ok : {T E P : Type 0} (r : Result T E) → P → OnOk r P
on_ok (Ok x) p = p
on_ok (Err e) p = tt

-- a reader that goes on has read its octets
pub read_fed : (r : Result Brought Failure) (old new : Feeding) (piece : List ℕ) → IsReading old → IfOk r (GoesOn old new piece)
    → OnErr r (new ≡ old)
    → IsReading new
read_fed (Ok b) old new piece p goes same = (
  p.0 ++ take (taken_of (length piece) b) piece,
  p.1 ++ message_in b,
  goes.reads p.0 p.1 p.2,
)
read_fed (Err e) old new piece p goes same = subst IsReading (sym same) p

pub feeds_none : (s t : Option Feeding) (piece : List ℕ) → s ≡ None → t ≡ s → Feeds s t piece Nothing
feeds_none s t piece e f = subst (λ (z : Option Feeding). Feeds z t piece Nothing) (sym e) (f ∙ e, refl)

pub feeds_some : (s : Option Feeding) (r q : Feeding) (piece : List ℕ) (b : Brought) → s ≡ Some r → GoesOn r q piece b
    → Feeds s (Some q) piece b
feeds_some s r q piece b e goes = subst (λ (z : Option Feeding). Feeds z (Some q) piece b) (sym e) goes

pub is_read : (s : Option Feeding) (r : Feeding) → s ≡ Some r → IsRead s → IsReading r
is_read s r e p = subst IsRead e p

pub some_there : (s : Option Feeding) → IsSome s → there_of s ≡ true
some_there None e = absurd (false-true e)
some_there (Some r) e = refl
