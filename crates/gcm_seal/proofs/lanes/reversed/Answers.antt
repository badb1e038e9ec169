use Rattle.std.proofs.Common.{◌∙◌, bit_or}
use Rattle.std.proofs.lemmas.Simd.{zip2_of_maps}
use Rattle.gcm_seal.proofs.LaneSteps.{high_half, low_half, reversed_halves}
use Rattle.gcm_seal.proofs.lanes.reversed.Goals as goal

pub returns : goal.returns
returns c =
    let v = c.args.octets in
    zip2_of_maps bit_or low_half high_half v c.low_reversed.ensures c.high_reversed.ensures ∙ reversed_halves v c.fits-octets
