use Rattle.std.proofs.Common.{refl}
use Rattle.hist_gateway.proofs.Since.{installed-since, octets-since, times-since, unused-since, used-since}
use Rattle.hist_gateway.proofs.laws.counts_uses.Goals as goal

pub returns-clause-installed : goal.returns-clause-installed
returns-clause-installed c = installed-since

pub returns-clause-octets : goal.returns-clause-octets
returns-clause-octets c = octets-since

pub returns-clause-packets : goal.returns-clause-packets
returns-clause-packets c = times-since

pub returns-clause-unused : goal.returns-clause-unused
returns-clause-unused c = unused-since

pub returns-clause-used : goal.returns-clause-used
returns-clause-used c = used-since

pub returns-clause-kept : goal.returns-clause-kept
returns-clause-kept c = λ g h e. refl
