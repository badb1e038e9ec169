use Rattle.hist_wire.proofs.Histories.{keeps-history, last-safe, safe-history}
use Rattle.hist_wire.proofs.laws.is_every_history_safe.Goals as goal

pub returns : goal.returns
returns c = record { parts = safe-history; end = last-safe; sessions = keeps-history }
