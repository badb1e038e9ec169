use Rattle.hist_world.specs.Block.{nothing}
use Rattle.hist_world.proofs.Runs.{history-at, stands-at, start, step}
use Rattle.hist_world.proofs.laws.stands_between_events.Goals as goal

pub returns-clause-start : goal.returns-clause-start
returns-clause-start c = start

pub returns-clause-event : goal.returns-clause-event
returns-clause-event c = λ shows header p e i k s n. (step shows header p e i k s n).stands

pub returns-clause-history : goal.returns-clause-history
returns-clause-history c = λ shows header events i k g. stands-at shows header nothing events i k g (start header)

pub returns-clause-past : goal.returns-clause-past
returns-clause-past c = λ shows header events g. history-at shows header nothing events g
