use Rattle.std.proofs.Common.{◌/◌, arith}
use Rattle.std.proofs.lemmas.Simd.{zip2_splat}
use Rattle.gcm_seal.specs.declared.lanes.TheConstants.{HIGH_REVERSED}
use Rattle.gcm_seal.proofs.LaneSteps.{down, high_ok, looked_up}
use Rattle.gcm_seal.proofs.lanes.high_reversed.Goals as goal

pub swizzle : goal.swizzle
swizzle c = high_ok c.args.octets c.fits-octets

pub returns : goal.returns
returns c =
    let v = c.args.octets in
    looked_up HIGH_REVERSED (λ x. x / 16) v _ c.fits-octets (zip2_splat down v 16 4 c.fits-octets.0) (λ x h. omega arith)
