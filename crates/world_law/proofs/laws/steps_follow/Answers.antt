use Rattle.std.proofs.Common.{◌∙◌}
use Rattle.gw_law.proofs.Runs.{sizes-are}
use Rattle.world_law.proofs.Blocks.{Law}
use Rattle.world_law.proofs.Steps.{Tells, follows, tells-by}
use Rattle.world_law.proofs.laws.steps_follow.Goals as goal

pub returns-clause-acts : goal.returns-clause-acts
returns-clause-acts c =
    let law : Law = record {
      sized = sizes-are c.sealed.ensures c.seal_law.ensures.len;
      acts = c.steps.ensures.acts;
      keeps =
          c.steps.ensures.keeps;
    } in
    λ header p e w i v s few. (follows law (tells-by c.each_act_is_spelled.ensures.told) header p w e i v s few).acts

pub returns-clause-genuine : goal.returns-clause-genuine
returns-clause-genuine c =
    let law : Law = record {
      sized = sizes-are c.sealed.ensures c.seal_law.ensures.len;
      acts = c.steps.ensures.acts;
      keeps =
          c.steps.ensures.keeps;
    } in
    λ header p e w i v s few n. (follows law (tells-by c.each_act_is_spelled.ensures.told) header p w e i v s few).forged ∙ n

pub returns-clause-forged : goal.returns-clause-forged
returns-clause-forged c =
    let law : Law = record {
      sized = sizes-are c.sealed.ensures c.seal_law.ensures.len;
      acts = c.steps.ensures.acts;
      keeps =
          c.steps.ensures.keeps;
    } in
    λ header p e w i v s few n. (follows law (tells-by c.each_act_is_spelled.ensures.told) header p w e i v s few).forged ∙ n

pub returns-clause-stands : goal.returns-clause-stands
returns-clause-stands c =
    let law : Law = record {
      sized = sizes-are c.sealed.ensures c.seal_law.ensures.len;
      acts = c.steps.ensures.acts;
      keeps =
          c.steps.ensures.keeps;
    } in
    let tells : Tells = tells-by c.each_act_is_spelled.ensures.told in
    λ header p e w i v s few n. (follows law tells header p w e i v s few).stands n (tells header p w e i v s few n)
