use Rattle.std.proofs.Common.{set, ◌≡◌, ◌*◌, ◌+◌, ℕ, get_or, arith, refl, inl, inr, ◌∙◌, sym, ap}
use Rattle.std.proofs.lemmas.List.{get_or-set_same, get_or-set_other, length-set}
use Rattle.std.proofs.lemmas.Bool.{cases_lt}
use Rattle.gcm_seal.proofs.Elements.{entry_at, power_at_first, power_at_is, power_at_next}
use Rattle.gcm_seal.proofs.field.fill_table.Goals as goal

pub rows-init : goal.rows-init
rows-init c = record { long = omega arith; power = power_at_first c.args.h; entries = λ k lt. absurd (omega arith) }

pub entries-preserved : goal.entries-preserved
entries-preserved c =
    let h = c.args.h in
    let i = c.rows.i in
    let n = c.entries.n in
    let t = c.entries.t in
    let v : ℕ = get_or c.row_of-row.result n 0 in
    let at : ℕ = 16 * i + n in
    let long = c.entries.invariant.long in
    let row = c.row_of-row.ensures (4 * i) h (omega arith) (omega arith) (power_at_is h i c.rows.p (omega arith) (omega arith)
    c.rows.invariant.power) in
    record {
      long = length-set t at v ∙ long;
      entries = λ k lt. elim (cases_lt k at) [
        | inl below ↦ get_or-set_other t at k v 0 (omega arith) ∙ c.entries.invariant.entries k below
        | inr top ↦
            let e : at ≡ k = omega arith in
            let now : get_or (set t at v) at 0 ≡ v = get_or-set_same t at v 0 (omega arith) in
            ap (λ (j : ℕ). get_or (set t at v) j 0) (sym e) ∙ now ∙ entry_at h i n k v c.row_of-row.result (omega arith) (sym e) row refl
      ];
    }

pub rows-preserved : goal.rows-preserved
rows-preserved c = record {
  long = c.entries.invariant.long;
  power = power_at_next c.args.h c.rows.i c.rows.p _ c.rows.invariant.power c.times_x4-p.ensures;
  entries = λ k lt. c.entries.invariant.entries k (omega (arith, c.entries.auto.n-end));
}
