use Rattle.live_controller.proofs.Feeding.{part_begun}
use Rattle.live_controller.proofs.notices.Notices.begun.Goals as goal

pub invariant_of-result : goal.invariant_of-result
invariant_of-result c = part_begun c.new.result c.new.ensures
