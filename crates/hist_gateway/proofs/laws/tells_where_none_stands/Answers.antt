use Rattle.hist_gateway.proofs.Notices.{acquire-lacks, lacks-acquire, overflow-lacks, lacks-overflow, spi-lacks, lacks-spi, acquires-only, overflows-only, spis-only}
use Rattle.hist_gateway.proofs.laws.tells_where_none_stands.Goals as goal

pub returns-clause-acquire : goal.returns-clause-acquire
returns-clause-acquire c = acquire-lacks

pub returns-clause-no_half : goal.returns-clause-no_half
returns-clause-no_half c = lacks-acquire

pub returns-clause-overflow : goal.returns-clause-overflow
returns-clause-overflow c = overflow-lacks

pub returns-clause-no_number : goal.returns-clause-no_number
returns-clause-no_number c = lacks-overflow

pub returns-clause-bad_spi : goal.returns-clause-bad_spi
returns-clause-bad_spi c = spi-lacks

pub returns-clause-no_spi : goal.returns-clause-no_spi
returns-clause-no_spi c = lacks-spi

pub returns-clause-else_acquire : goal.returns-clause-else_acquire
returns-clause-else_acquire c = acquires-only

pub returns-clause-else_overflow : goal.returns-clause-else_overflow
returns-clause-else_overflow c = overflows-only

pub returns-clause-else_bad_spi : goal.returns-clause-else_bad_spi
returns-clause-else_bad_spi c = spis-only
