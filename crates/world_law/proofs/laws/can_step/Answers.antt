use Rattle.gw_law.proofs.Runs.{sizes-are}
use Rattle.world_law.proofs.Blocks.{Law}
use Rattle.world_law.proofs.Gives.{Texts}
use Rattle.world_law.proofs.Spells.{spells}
use Rattle.world_law.proofs.Steps.{can-step, tells-by}
use Rattle.world_law.proofs.laws.can_step.Goals as goal

pub returns : goal.returns
returns c =
    let law : Law = record {
      sized = sizes-are c.sealed.ensures c.seal_law.ensures.len;
      acts = c.steps.ensures.acts;
      keeps =
          c.steps.ensures.keeps;
    } in
    let texts : Texts = record {
      orders = c.orders_can_be_written.ensures;
      replies = c.replies_can_be_written.ensures.orders;
      heard =
          c.lines_are_short.ensures.heard;
    } in
    λ header p e w i v s few.
    can-step law (spells c.seal_law.ensures.len) texts c.orders_are_read.ensures (tells-by c.each_act_is_spelled.ensures.told) header p w e
    i v s few
