-- The table of products by which the code multiplies.
use Rattle.std.specs.Prelude.{◌≡◌, ℕ, ◌*◌, ◌/◌, ◌%◌, ◌^◌, ◌<◌, List, slice_index}
use Rattle.gf_poly.specs.Poly.{multiply}

-- entry 16 i + n of the table is n x^(4 i) h
abbrev pub IsTable : List ℕ → ℕ → Type 0
IsTable t h = (k : ℕ) → k < 512 → slice_index t k ≡ multiply 128 0x87 (k % 16 * 2 ^ (4 * (k / 16))) h
