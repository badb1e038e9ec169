use Rattle.yang_values.proofs.PrefixText.{decimal_octets, address_plain, prefix_plain}
use Rattle.yang_values.proofs.laws.plain_texts.Goals as goal

pub returns : goal.returns
returns c = record { number = decimal_octets; address = address_plain; prefix = prefix_plain }
