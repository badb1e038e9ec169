-- No put that was ordered is refused. A past has its newest act first.
use Rattle.std.specs.Prelude.{◌≡◌, ℕ, List, [], ◌∷◌, Some}
use Rattle.ikeless_tree.specs.declared.sad.SadEntry.{SadEntry}
use Rattle.ikeless_tree.specs.declared.order.Answer.{Answer}
use Rattle.ikeless_tree.specs.declared.order.Order.TheVariants as asks
use Rattle.hist_acts.specs.declared.act.Act.{Act}
use Rattle.hist_acts.specs.declared.act.Act.TheVariants as acts
use Rattle.hist_acts.specs.Sessions.{order_at}

-- where the order with this number puts a half, this answer to it is 201, Created (RFC 8040 section 4.4.1)
abbrev pub IsCreated : List ℕ → ℕ → ℕ → Answer → List Act → Type 0
IsCreated g s k a h = (e : SadEntry) → order_at g s k h ≡ Some (asks.Put e) → a.status ≡ 201

-- so says each answer that a gateway gave, and each that the controller heard
abbrev pub NoneRefused : List Act → Type 0
NoneRefused [] = Unit {0}
NoneRefused (acts.Handled g s k a ∷ h) = IsCreated g s k a h × NoneRefused h
NoneRefused (acts.Answered g s k a ∷ h) = IsCreated g s k a h × NoneRefused h
NoneRefused (_ ∷ h) = NoneRefused h
