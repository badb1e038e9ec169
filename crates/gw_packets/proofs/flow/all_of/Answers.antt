use Rattle.std.proofs.Common.{ap, ◌∙◌}
use Rattle.ikl_base.specs.Address.{address_cleared}
use Rattle.ikl_base.proofs.PrefixLemmas.{same_prefix}
use Rattle.hist_gateway.specs.Datagram.{whole}
use Rattle.gw_packets.proofs.flow.all_of.Goals as goal

pub returns : goal.returns
unfolding whole
returns c = same_prefix c.of.result (whole c.args.a) (c.of.ensures.address ∙ ap (λ n. address_cleared n c.args.a) c.bits.ensures)
    (c.of.ensures.length ∙ c.bits.ensures)
