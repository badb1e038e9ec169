use Rattle.ip_packet.proofs.Sums.{ones_sum-ones, sum_for-ones}
use Rattle.ip_packet.proofs.laws.header_sums.Goals as goal

pub returns-clause-checked : goal.returns-clause-checked
returns-clause-checked c = λ o octets some. ones_sum-ones o octets some

pub returns-clause-written : goal.returns-clause-written
returns-clause-written c = λ o octets some. sum_for-ones o octets some
