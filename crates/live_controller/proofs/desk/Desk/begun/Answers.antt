use Rattle.live_controller.proofs.Keeping.{none_up}
use Rattle.live_controller.proofs.desk.Desk.begun.Goals as goal

pub returns-clause-down : goal.returns-clause-down
returns-clause-down c = none_up c.in_ok-links.links.items c.in_ok-links.ensures.down
