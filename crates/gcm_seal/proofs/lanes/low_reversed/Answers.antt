use Rattle.std.proofs.Common.{bit_and, arith}
use Rattle.std.proofs.lemmas.Nat.{and_le_r}
use Rattle.std.proofs.lemmas.Simd.{zip2_splat}
use Rattle.gcm_seal.specs.declared.lanes.TheConstants.{LOW_REVERSED}
use Rattle.gcm_seal.proofs.LaneSteps.{looked_up, low_ok}
use Rattle.gcm_seal.proofs.lanes.low_reversed.Goals as goal

pub swizzle : goal.swizzle
swizzle c = low_ok c.args.octets c.fits-octets

pub returns : goal.returns
returns c =
    let v = c.args.octets in
    looked_up LOW_REVERSED (λ x. bit_and x 15) v _ c.fits-octets (zip2_splat bit_and v 16 15 c.fits-octets.0)
    (λ x h. omega (arith, and_le_r x 15))
