-- A lawful history goes on by blocks of acts, and each of its beginnings is lawful.
use Rattle.std.proofs.Common.{List, [], ◌∷◌}
use Rattle.ikeless_tree.specs.declared.command.Peer.{Peer}
use Rattle.hist_acts.specs.declared.act.Act.{Act}
use Rattle.hist_acts.specs.Past.{after}
use Rattle.hist_safety.specs.Law.{IsLawful, AllMayHappen}

pub lawful-after : (gs : List Peer) (h more : List Act) → IsLawful gs h → AllMayHappen gs h more → IsLawful gs (after h more)
lawful-after gs h [] l m = l
lawful-after gs h (a ∷ more) l m = lawful-after gs (a ∷ h) more (m.0, l) m.1

pub lawful-before : (gs : List Peer) (h more : List Act) → IsLawful gs (after h more) → IsLawful gs h
lawful-before gs h [] l = l
lawful-before gs h (a ∷ more) l = (lawful-before gs (a ∷ h) more l).1
