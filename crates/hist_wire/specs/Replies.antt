-- Which answers a gateway gives: those of the replies whose responses are under way. A past has its newest act first.
use Rattle.std.specs.Prelude.{◌≡◌, List, [], ◌∷◌, Some}
use Rattle.ikeless_tree.specs.declared.order.Order.{Order}
use Rattle.hist_acts.specs.declared.act.Act.{Act}
use Rattle.hist_acts.specs.declared.act.Act.TheVariants as acts
use Rattle.hist_acts.specs.Sessions.{next_request}
use Rattle.hist_gateway.specs.Handle.{answer_of}
use Rattle.hist_wire.specs.Wire.{outcome_at}

-- what is handled has the status, the tag and the names of the reply to the next request
abbrev pub IsReplied : Act → List Act → Type 0
IsReplied (acts.Handled g s k a) h = (o : Order) × (next_request g h ≡ Some o) × (a ≡ answer_of (outcome_at g h o))
IsReplied _ h = Unit {0}

-- each answer that a gateway gave was its reply to the request that it handled
abbrev pub AllReplied : List Act → Type 0
AllReplied [] = Unit {0}
AllReplied (a ∷ h) = IsReplied a h × AllReplied h
