use Rattle.std.proofs.Common.{◌≡◌, ◌^◌, ◌%◌, ◌*◌, ℕ}
use Rattle.gf_poly.specs.Poly.{multiply}
use Rattle.gcm_seal.specs.Table.{IsTable}
use Rattle.gcm_seal.proofs.field.multiply.Given as goal

abbrev pub invariant-octets : goal.invariant-octets
invariant-octets l = (h : ℕ) → IsTable l.t h → l.z ≡ multiply 128 0x87 (l.y % 2 ^ (8 * l.i)) h
