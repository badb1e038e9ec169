-- What is written for one row, from what is written for a list of one.
use Rattle.std.proofs.Common.{◌≡◌, ◌≤◌, suc, ℕ, true, ◌&&◌, not, max, [], ◌∷◌, arith, codes}
use Rattle.std.proofs.lemmas.Bool.{and_parts}
use Rattle.std.specs.Str.{bytes_eq}
use Rattle.serde_json.specs.Data.{depth}
use Rattle.ikeless_tree.specs.declared.sad.SadRow.{SadRow}
use Rattle.json_tree.specs.SadEntryWritten.{is_free_of, one_row}
use Rattle.json_tree.proofs.FlatRows.{flat_all_rows}
use Rattle.json_tree.proofs.Keyless.{free_all_rows}

deeper_one : (n : ℕ) → suc (max n 0) ≤ 8 → n ≤ 8
deeper_one n h = omega (arith, h)

pub shallow_row : (r : SadRow) → depth (one_row r) ≤ 8
shallow_row r = deeper_one (depth (one_row r)) (flat_all_rows (r ∷ [])).shallow

pub free_row : (r : SadRow) → is_free_of (codes "key") (one_row r) ≡ true
free_row r =
    let parts = and_parts (not (bytes_eq (codes "key") (codes "ietf-i2nsf-ikeless:sad"))) (is_free_of (codes "key") (one_row r) && true)
    (free_all_rows (r ∷ [])).free in
    (and_parts (is_free_of (codes "key") (one_row r)) true parts.1).0
