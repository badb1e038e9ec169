use Rattle.hist_controller.proofs.Entries.{seen-refused, refused-seen}
use Rattle.hist_controller.proofs.facts.refuses_seen_keys.Goals as goal

pub returns-clause-seen : goal.returns-clause-seen
returns-clause-seen c = seen-refused

pub returns-clause-only : goal.returns-clause-only
returns-clause-only c = refused-seen
