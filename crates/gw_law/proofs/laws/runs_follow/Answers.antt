use Rattle.gw_law.proofs.Runs.{Law, run-begun, run-is, sizes-are}
use Rattle.gw_law.proofs.laws.runs_follow.Goals as goal

pub returns-clause-begun : goal.returns-clause-begun
returns-clause-begun c =
    let law : Law = record {
      sized = sizes-are c.sealed.ensures c.seal_law.ensures.len;
      acts = c.steps.ensures.acts;
      keeps =
          c.steps.ensures.keeps;
      lawful = c.blocks_follow.ensures.block;
      safe = c.is_every_history_safe.ensures.lawful;
    } in
    λ gateway es p. (run-begun law gateway es p).acts

pub returns-clause-begun_kept : goal.returns-clause-begun_kept
returns-clause-begun_kept c =
    let law : Law = record {
      sized = sizes-are c.sealed.ensures c.seal_law.ensures.len;
      acts = c.steps.ensures.acts;
      keeps =
          c.steps.ensures.keeps;
      lawful = c.blocks_follow.ensures.block;
      safe = c.is_every_history_safe.ensures.lawful;
    } in
    λ gateway es p. (run-begun law gateway es p).kept

pub returns-clause-past : goal.returns-clause-past
returns-clause-past c =
    let law : Law = record {
      sized = sizes-are c.sealed.ensures c.seal_law.ensures.len;
      acts = c.steps.ensures.acts;
      keeps =
          c.steps.ensures.keeps;
      lawful = c.blocks_follow.ensures.block;
      safe = c.is_every_history_safe.ensures.lawful;
    } in
    λ gateway h es l t p. (run-is law gateway h es l t p).acts

pub returns-clause-past_kept : goal.returns-clause-past_kept
returns-clause-past_kept c =
    let law : Law = record {
      sized = sizes-are c.sealed.ensures c.seal_law.ensures.len;
      acts = c.steps.ensures.acts;
      keeps =
          c.steps.ensures.keeps;
      lawful = c.blocks_follow.ensures.block;
      safe = c.is_every_history_safe.ensures.lawful;
    } in
    λ gateway h es l t p. (run-is law gateway h es l t p).kept
