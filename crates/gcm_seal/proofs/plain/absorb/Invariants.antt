use Rattle.std.proofs.Common.{◌≡◌, ◌++◌, ◌^◌, ◌<◌, List, ℕ}
use lib.Lanes.{Each1}
use Rattle.gf_poly.specs.Poly.{power_sum}
use Rattle.gcm_seal.specs.Gcm.{blocks}
use Rattle.gcm_seal.proofs.plain.absorb.Given as goal

abbrev pub invariant-chunks : goal.invariant-chunks
invariant-chunks l = (zs : List ℕ) → Each1 (λ z. z < 2 ^ 128) zs → l.before ≡ power_sum 128 0x87 l.h zs
    → l.y ≡ power_sum 128 0x87 l.h (zs ++ blocks l.octets l.i)
