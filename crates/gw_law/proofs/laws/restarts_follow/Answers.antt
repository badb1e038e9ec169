use Rattle.gw_law.proofs.Runs.{Law, lives-begun, run-restarted, sizes-are}
use Rattle.gw_law.proofs.laws.restarts_follow.Goals as goal

pub returns-clause-run : goal.returns-clause-run
returns-clause-run c =
    let law : Law = record {
      sized = sizes-are c.sealed.ensures c.seal_law.ensures.len;
      acts = c.steps.ensures.acts;
      keeps =
          c.steps.ensures.keeps;
      lawful = c.blocks_follow.ensures.block;
      safe = c.is_every_history_safe.ensures.lawful;
    } in
    λ gateway h es l t p. (run-restarted law gateway h es l t p).acts

pub returns-clause-lives : goal.returns-clause-lives
returns-clause-lives c =
    let law : Law = record {
      sized = sizes-are c.sealed.ensures c.seal_law.ensures.len;
      acts = c.steps.ensures.acts;
      keeps =
          c.steps.ensures.keeps;
      lawful = c.blocks_follow.ensures.block;
      safe = c.is_every_history_safe.ensures.lawful;
    } in
    lives-begun law
