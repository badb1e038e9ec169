use Rattle.hist_gateway.proofs.PlainReadings.{live-is, acquires-is, taken-is, sent-is, soft-is, overflow-is}
use Rattle.hist_gateway.proofs.laws.readings.Goals as goal

pub returns-clause-live : goal.returns-clause-live
returns-clause-live c = live-is

pub returns-clause-acquires : goal.returns-clause-acquires
returns-clause-acquires c = acquires-is

pub returns-clause-taken : goal.returns-clause-taken
returns-clause-taken c = taken-is

pub returns-clause-soft : goal.returns-clause-soft
returns-clause-soft c = soft-is

pub returns-clause-overflow : goal.returns-clause-overflow
returns-clause-overflow c = overflow-is

pub returns-clause-sent : goal.returns-clause-sent
returns-clause-sent c = sent-is
