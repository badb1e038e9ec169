use Rattle.std.proofs.Common.{◌<◌, get_or, sym, rules}
use Rattle.world_nodes.proofs.Bits.{flip, flipped-past}
use Rattle.world_nodes.proofs.damage.flip_bit.Goals as goal

pub returns-then-place-octets : goal.returns-then-place-octets
returns-then-place-octets c =
    let small : get_or c.args.octets.now c.args.offset 0 < 256 = search rules in
    flip c.args.bit c.args.octets.now c.args.offset c.requires c.if-place-octets.true small

pub returns-else-place-octets : goal.returns-else-place-octets
returns-else-place-octets c = sym (flipped-past c.args.bit c.args.octets.now c.args.offset c.if-place-octets.false)
