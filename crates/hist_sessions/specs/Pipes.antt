-- The calls that acts make of the pipe of a gateway, one after the other.
use Rattle.std.specs.Prelude.{ℕ, List, [], ◌∷◌, if◌then◌else◌}
use Rattle.ikeless_tree.specs.declared.order.Order.{Order}
use Rattle.ikeless_tree.specs.declared.order.Answer.{Answer}
use Rattle.ikeless_tree.specs.declared.order.Notice.{Notice}
use Rattle.hist_acts.specs.declared.act.Act.{Act}
use Rattle.session_pipe.specs.UnderWay.{UnderWay}
use Rattle.session_pipe.specs.Past.{after_act, is_at}

-- what the pipe is after further acts, which stand in their order after a past
abbrev pub piped : (List Act → Order → List ℕ) → (List Act → Answer → List ℕ) → (List Act → Notice → List ℕ) → List ℕ → List Act → List Act
    → UnderWay → UnderWay
piped request response line g h [] p = p
piped request response line g h (a ∷ more) p =
    piped request response line g (a ∷ h) more (if is_at g a then after_act request response line a h p else p)
