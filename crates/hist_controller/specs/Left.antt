-- The associations left of a direction: an older one, and the one that was put last.
use Rattle.std.specs.Prelude.{◌<◌, ◌==◌, nat_lt, List, [], ◌∷◌, Option, Some, None}
use Rattle.hist_controller.specs.Acts.{Way, Association, ControllerAct}
use Rattle.hist_controller.specs.Past.{left, newest_serial}
use Rattle.hist_controller.specs.Law.{first}
use Rattle.hist_controller.specs.Clauses.{Has}

-- the serial of each is below those after it
abbrev pub Ascend : List Association → Type 0
Ascend [] = Unit {0}
Ascend (x ∷ xs) = ((y : Association) → Has y xs → x.serial < y.serial) × Ascend xs

-- an association as a list of at most one
abbrev pub listed : Option Association → List Association
listed None = []
listed (Some x) = x ∷ []

-- the association put last, if it is left
abbrev pub newest_left : Way → List ControllerAct → Option Association
newest_left d h = first (λ x. x.serial == newest_serial d h) (left d h)

-- the one left that was put before it
abbrev pub older_left : Way → List ControllerAct → Option Association
older_left d h = first (λ x. nat_lt x.serial (newest_serial d h)) (left d h)
