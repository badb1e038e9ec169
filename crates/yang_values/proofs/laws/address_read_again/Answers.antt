use Rattle.yang_values.proofs.AddressText.{address_again}
use Rattle.yang_values.proofs.laws.address_read_again.Goals as goal

pub returns : goal.returns
returns c = address_again
