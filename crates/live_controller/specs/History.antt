-- What a controller's node did, told as the acts of its history.
use Rattle.std.specs.Prelude.{List, [], ◌∷◌, ◌++◌}
use Rattle.ikeless_tree.specs.declared.command.Peer.{Peer}
use Rattle.ctl_core.specs.declared.acts.CtlAct.{CtlAct}
use Rattle.live_controller.specs.Past.{Item, acts_at}

-- all that was done at what came, the oldest first
abbrev pub did : List Peer → List Item → List CtlAct
did ps [] = []
did ps (x ∷ past) = did ps past ++ acts_at ps past x
