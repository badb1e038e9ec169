use Rattle.std.proofs.Common.{◌≡◌}
use Rattle.gf_poly.proofs.Field.{iterate, lin}
use Rattle.gcm_seal.proofs.Elements.{low_fits}
use Rattle.gcm_seal.proofs.plain.multiply.Given as goal

abbrev pub invariant-coefficients : goal.invariant-coefficients
invariant-coefficients l = record {
  multiple : l.multiple ≡ iterate 128 0x87 low_fits l.i l.h;
  sum : l.sum ≡ lin 128 0x87 low_fits l.i l.h l.y;
}
