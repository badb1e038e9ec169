-- The canonical text of an address is read again.
use Rattle.std.proofs.Common.{◌≡◌, ◌<◌, Ok}
use Rattle.std.proofs.lemmas.List.Elements.{recursion_from_All}
use Rattle.ikl_base.specs.declared.address.Addr.{Addr}
use Rattle.ikl_base.specs.declared.address.Addr.TheVariants.{V4, V6}
use Rattle.yang_values.specs.Addresses.{IsAddress, address_of, address_text}
use Rattle.yang_values.proofs.QuadText.{v4_again}
use Rattle.yang_values.proofs.GroupText.{v6_again}

pub address_again : (a : Addr) → IsAddress a → address_of (address_text a) ≡ Ok a
unfolding address_text
address_again (V4 octets) is = v4_again octets is.0 (recursion_from_All (λ o. o < 256) octets is.1)
address_again (V6 octets) is = v6_again octets is.0 (recursion_from_All (λ o. o < 256) octets is.1)
