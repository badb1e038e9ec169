use Rattle.hist_gateway.proofs.PlacesLemmas.{sent-at, given-at, opened-at, overflow-at, soft-at, hard-at, acquire-at, bad-spi-at}
use Rattle.hist_gateway.proofs.laws.places.Goals as goal

pub returns-clause-sent : goal.returns-clause-sent
returns-clause-sent c = sent-at

pub returns-clause-given : goal.returns-clause-given
returns-clause-given c = given-at

pub returns-clause-opened : goal.returns-clause-opened
returns-clause-opened c = opened-at

pub returns-clause-overflow : goal.returns-clause-overflow
returns-clause-overflow c = overflow-at

pub returns-clause-soft : goal.returns-clause-soft
returns-clause-soft c = soft-at

pub returns-clause-hard : goal.returns-clause-hard
returns-clause-hard c = hard-at

pub returns-clause-acquire : goal.returns-clause-acquire
returns-clause-acquire c = acquire-at

pub returns-clause-bad_spi : goal.returns-clause-bad_spi
returns-clause-bad_spi c = bad-spi-at
