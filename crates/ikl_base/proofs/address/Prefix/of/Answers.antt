use Rattle.std.proofs.Common.{refl}
use Rattle.ikl_base.proofs.AddressLemmas.{is_clear_from-cleared, bits_of-cleared}
use Rattle.ikl_base.proofs.address.Prefix.of.Goals as goal

pub invariant_of-result-clause-in_range : goal.invariant_of-result-clause-in_range
invariant_of-result-clause-in_range c = rw (c.without_host.ensures, bits_of-cleared) c.requires

pub invariant_of-result-clause-cleared : goal.invariant_of-result-clause-cleared
invariant_of-result-clause-cleared c = rw (c.without_host.ensures, is_clear_from-cleared) refl
