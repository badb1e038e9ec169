-- How "not ended" is kept without saying what ended is. The law of orders asks, where an outbound half is ordered put, that
-- no removal of its inbound half was ordered. The controller's law says more: that the association isn't ended, and that a
-- removal comes only where it is. One of the reasons to be ended, that its tunnel was, isn't seen in what happened.
use Rattle.std.specs.Prelude.{◌≡◌, ℕ, Bool, true, List, [], ◌∷◌}
use Rattle.ikeless_tree.specs.declared.order.Order.TheVariants as asks
use Rattle.ikeless_tree.specs.Half.{in_half}
use Rattle.hist_acts.specs.declared.act.Act.{Act}
use Rattle.hist_acts.specs.declared.act.Act.TheVariants as acts
use Rattle.hist_safety.specs.Orders.{is_removal_ordered}

-- what is ended stays so
abbrev pub NeverEnds : (List ℕ → List Act → Bool) → Type 0
NeverEnds ended = (serial : List ℕ) (a : Act) (h : List Act) → ended serial h ≡ true → ended serial (a ∷ h) ≡ true

-- each removal of an inbound half was ordered where its association was ended
abbrev pub RemovedEnded : (List ℕ → List Act → Bool) → List Act → Type 0
RemovedEnded ended [] = Unit {0}
RemovedEnded ended (acts.Order f s k (asks.Remove x) ∷ h) = ((serial : List ℕ) → x ≡ in_half serial → ended serial h ≡ true)
    × RemovedEnded ended h
RemovedEnded ended (_ ∷ h) = RemovedEnded ended h

-- so where an association isn't ended, no removal of its inbound half was ordered
abbrev pub DoomedIsEnded : Type 0
DoomedIsEnded =
    (ended : List ℕ → List Act → Bool) → NeverEnds ended → (h : List Act) → RemovedEnded ended h → (serial : List ℕ)
    → is_removal_ordered (in_half serial) h ≡ true → ended serial h ≡ true
