use Rattle.gw_law.proofs.Runs.{Law, sizes-are}
use Rattle.gw_history.proofs.Faults.{Table, sound-history, whole-on}
use Rattle.gw_history.proofs.laws.histories_have_no_fault.Goals as goal

pub returns-clause-acts : goal.returns-clause-acts
returns-clause-acts c =
    let law : Law = record {
      sized = sizes-are c.sealed.ensures c.seal_law.ensures.len;
      acts = c.steps.ensures.acts;
      keeps =
          c.steps.ensures.keeps;
      lawful = c.blocks_follow.ensures.block;
      safe = c.is_every_history_safe.ensures.lawful;
    } in
    let rows : Table = record { fits = c.changes_fit.ensures.before; makes = c.changes_fit.ensures.after } in
    λ config g h es few p t l installs none.
    (whole-on law rows g config es h few p t (record { lawful = l; tunnels = installs; faultless = none })).faultless

pub returns-clause-kept : goal.returns-clause-kept
returns-clause-kept c =
    let law : Law = record {
      sized = sizes-are c.sealed.ensures c.seal_law.ensures.len;
      acts = c.steps.ensures.acts;
      keeps =
          c.steps.ensures.keeps;
      lawful = c.blocks_follow.ensures.block;
      safe = c.is_every_history_safe.ensures.lawful;
    } in
    let rows : Table = record { fits = c.changes_fit.ensures.before; makes = c.changes_fit.ensures.after } in
    sound-history law rows
