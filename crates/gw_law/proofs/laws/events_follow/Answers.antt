use Rattle.gw_law.proofs.Runs.{Law, block-is, sizes-are}
use Rattle.gw_law.proofs.laws.events_follow.Goals as goal

pub returns-clause-acts : goal.returns-clause-acts
returns-clause-acts c =
    let law : Law = record {
      sized = sizes-are c.sealed.ensures c.seal_law.ensures.len;
      acts = c.steps.ensures.acts;
      keeps =
          c.steps.ensures.keeps;
      lawful = c.blocks_follow.ensures.block;
      safe = c.is_every_history_safe.ensures.lawful;
    } in
    λ gateway h e l t. (block-is law gateway h e l t).acts

pub returns-clause-kept : goal.returns-clause-kept
returns-clause-kept c =
    let law : Law = record {
      sized = sizes-are c.sealed.ensures c.seal_law.ensures.len;
      acts = c.steps.ensures.acts;
      keeps =
          c.steps.ensures.keeps;
      lawful = c.blocks_follow.ensures.block;
      safe = c.is_every_history_safe.ensures.lawful;
    } in
    λ gateway h e l t. (block-is law gateway h e l t).kept

pub returns-clause-naming : goal.returns-clause-naming
returns-clause-naming c =
    let law : Law = record {
      sized = sizes-are c.sealed.ensures c.seal_law.ensures.len;
      acts = c.steps.ensures.acts;
      keeps =
          c.steps.ensures.keeps;
      lawful = c.blocks_follow.ensures.block;
      safe = c.is_every_history_safe.ensures.lawful;
    } in
    λ gateway h e l t. (block-is law gateway h e l t).naming
