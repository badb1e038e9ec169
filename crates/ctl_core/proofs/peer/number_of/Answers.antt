use Rattle.std.proofs.Common.{◌≡◌, length, ap}
use Rattle.ctl_core.specs.Core.{place_or}
use Rattle.ctl_core.proofs.peer.number_of.Goals as goal

pub returns-in-Some : goal.returns-in-Some
returns-in-Some c = ap (place_or (length c.args.stations.now)) c.in-Some.ensures

pub returns-in-None : goal.returns-in-None
returns-in-None c = ap (place_or (length c.args.stations.now)) c.in-None.ensures
