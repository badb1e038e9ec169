-- A gateway that did something and has not told it, and then tells it.
use Rattle.std.specs.Prelude.{List}
use Rattle.gw_requests.specs.declared.act.GwAct.{GwAct}
use Rattle.gw_core.specs.Machine.{Event}
use Rattle.world_steps.specs.Nodes.{Node, all_piped, outcome}

-- it did something, and nothing of that is in its pipe
abbrev pub acted : Event → Node → Node
acted e n = record n { kept = (outcome n e).kept }

-- what it did is in its pipe, with its clock as it is
abbrev pub piped_all : List GwAct → Node → Node
piped_all xs n = record n { pipe = all_piped n.kept.clock xs n.pipe }
