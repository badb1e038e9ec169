use Rattle.replay_win.proofs.Windows.{judged-window_after}
use Rattle.store_law.specs.Back.{numbers_marked}
use Rattle.store_law.proofs.Readings.{counts-are, event-is, joins-are, places-are, there-is}
use Rattle.store_law.proofs.laws.looks_back_over_calls.Goals as goal

pub returns-clause-there : goal.returns-clause-there
returns-clause-there c = there-is

pub returns-clause-places : goal.returns-clause-places
returns-clause-places c = places-are

pub returns-clause-joins : goal.returns-clause-joins
returns-clause-joins c = joins-are

pub returns-clause-window : goal.returns-clause-window
returns-clause-window c = λ h e n. judged-window_after e.window (numbers_marked e.name h) n

pub returns-clause-counts : goal.returns-clause-counts
returns-clause-counts c = counts-are

pub returns-clause-event : goal.returns-clause-event
returns-clause-event c = event-is
