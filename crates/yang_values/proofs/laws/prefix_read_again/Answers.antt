use Rattle.yang_values.proofs.AddressText.{address_again}
use Rattle.yang_values.proofs.PrefixText.{prefix_again}
use Rattle.yang_values.proofs.laws.prefix_read_again.Goals as goal

pub returns : goal.returns
returns c p is = prefix_again p is (address_again p.addr is)
