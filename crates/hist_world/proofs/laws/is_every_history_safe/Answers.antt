use Rattle.std.proofs.Common.{[]}
use Rattle.hist_acts.specs.Past.{after}
use Rattle.hist_world.specs.Block.{history, nothing}
use Rattle.hist_world.proofs.Ends.{last-history}
use Rattle.hist_world.proofs.Runs.{lawful-history, start}
use Rattle.hist_safety.proofs.Safe.{safe}
use Rattle.hist_world.proofs.laws.is_every_history_safe.Goals as goal

pub returns-clause-parts : goal.returns-clause-parts
returns-clause-parts c = λ shows header events i k. safe header.gateways (after [] (history shows header nothing events))
    (lawful-history shows header nothing events i k (start header))

pub returns-clause-end : goal.returns-clause-end
returns-clause-end c = λ shows header events i k. last-history shows header nothing events i k (start header)
