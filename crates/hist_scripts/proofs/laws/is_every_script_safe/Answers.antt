use Rattle.std.proofs.Common.{[]}
use Rattle.hist_acts.specs.Past.{after}
use Rattle.hist_safety.proofs.Safe.{safe}
use Rattle.hist_world.specs.Block.{history, nothing}
use Rattle.hist_world.proofs.Ends.{last-history}
use Rattle.hist_world.proofs.Runs.{lawful-history, start}
use Rattle.hist_scripts.proofs.HeaderRead.{header-read}
use Rattle.hist_scripts.proofs.EventRead.{lines-read}
use Rattle.hist_scripts.proofs.laws.is_every_script_safe.Goals as goal

pub returns-clause-parts : goal.returns-clause-parts
returns-clause-parts c = λ shows line header lines events is are. safe header.gateways (after [] (history shows header nothing events))
    (lawful-history shows header nothing events (header-read line header is) (lines-read header lines events are) (start header))

pub returns-clause-end : goal.returns-clause-end
returns-clause-end c = λ shows line header lines events is are. last-history shows header nothing events (header-read line header is)
    (lines-read header lines events are) (start header)
