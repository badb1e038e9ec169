use Rattle.std.proofs.Common.{[]}
use Rattle.std.proofs.lemmas.List.Elements.{All-nil}
use Rattle.gw_law.specs.Orderly.{InstallsTunnel}
use Rattle.gw_law.proofs.Pasts.{orderly-past}
use Rattle.gw_law.proofs.Runs.{Law, orderly-on, sizes-are}
use Rattle.gw_law.proofs.laws.pasts_are_orderly.Goals as goal

pub returns-clause-lawful : goal.returns-clause-lawful
returns-clause-lawful c = orderly-past

pub returns-clause-history : goal.returns-clause-history
returns-clause-history c =
    let law : Law = record {
      sized = sizes-are c.sealed.ensures c.seal_law.ensures.len;
      acts = c.steps.ensures.acts;
      keeps =
          c.steps.ensures.keeps;
      lawful = c.blocks_follow.ensures.block;
      safe = c.is_every_history_safe.ensures.lawful;
    } in
    λ gateway es p. orderly-on law gateway [] es tt (All-nil InstallsTunnel) p
