use Rattle.gw_law.proofs.Runs.{Law, safe-lives, safe-run, sizes-are}
use Rattle.gw_law.proofs.laws.is_every_run_safe.Goals as goal

pub returns-clause-lives : goal.returns-clause-lives
returns-clause-lives c =
    let law : Law = record {
      sized = sizes-are c.sealed.ensures c.seal_law.ensures.len;
      acts = c.steps.ensures.acts;
      keeps =
          c.steps.ensures.keeps;
      lawful = c.blocks_follow.ensures.block;
      safe = c.is_every_history_safe.ensures.lawful;
    } in
    safe-lives law

pub returns-clause-past : goal.returns-clause-past
returns-clause-past c =
    let law : Law = record {
      sized = sizes-are c.sealed.ensures c.seal_law.ensures.len;
      acts = c.steps.ensures.acts;
      keeps =
          c.steps.ensures.keeps;
      lawful = c.blocks_follow.ensures.block;
      safe = c.is_every_history_safe.ensures.lawful;
    } in
    safe-run law
