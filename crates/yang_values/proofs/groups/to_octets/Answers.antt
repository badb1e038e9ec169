use Rattle.std.proofs.Common.{arith, ap, sym, ◌≡◌, length}
use Rattle.yang_values.specs.Addresses.{octets_of}
use Rattle.yang_values.proofs.RunLemmas.{eight_is}
use Rattle.yang_values.proofs.groups.to_octets.Goals as goal

pub returns : goal.returns
returns c =
    let size : length c.args.g.now ≡ 8 = omega arith in
    sym (ap octets_of (eight_is c.args.g.now size))
