-- What a reader hears.
use Rattle.std.proofs.Common.{◌≡◌, ℕ, ◌+◌, ◌≤◌, ◌<◌, List, ◌++◌, length, take, Some, None, sym, subst, ◌∙◌, arith, length-append}
use Rattle.ikl_base.specs.declared.fault.OrMemory.TheVariants as failures
use Rattle.ikeless_tree.specs.declared.order.Notice.{Notice}
use Rattle.notice_lines.specs.declared.fault.NoticeFault.{NoticeFault}
use Rattle.notice_lines.specs.Reading.{HasNotice, HasNone, IsNoneOrMemory, line_end, Open, Long, Ends, begins, Reading, Hears, IsFault}
use Rattle.notice_lines.proofs.Ends.{end_none, end_some, end_within, begins_open, begins_ends, begins_long, begins_late, take_past}

pub whole_ends : (kept piece : List ℕ) (end : ℕ) → line_end kept ≡ None → line_end piece ≡ Some end → length kept + end ≤ 4096
    → begins (kept ++ piece) ≡ Ends (length kept + end)
whole_ends kept piece end p q size = begins_ends (kept ++ piece) (length kept + end) (end_some kept piece end p q) size

pub hears : (old : Reading) (piece line : List ℕ) (end : ℕ) (n : Notice) → line_end old.kept ≡ None → line_end piece ≡ Some end
    → length old.kept + end ≤ 4096
    → line ≡ old.kept ++ take end piece → HasNotice line n → Hears old piece n (end + 1)
hears old piece line end n p q size is has =
    let P : List ℕ → Type 0 = λ l. HasNotice l n in
    let within = end_within piece end q in
    record {
      size = length old.kept + end;
      ends = whole_ends old.kept piece end p q size;
      has = subst P (is ∙ sym (take_past old.kept piece end)) has;
      count = omega arith;
      within = omega (arith, within);
    }

pub no_notice : (fault : NoticeFault) (kept piece line : List ℕ) (end : ℕ) → line_end kept ≡ None → line_end piece ≡ Some end
    → length kept + end ≤ 4096
    → line ≡ kept ++ take end piece → IsNoneOrMemory (failures.Refused fault) line → IsFault fault (kept ++ piece)
no_notice fault kept piece line end p q size is none =
    let P : NoticeFault → Type 0 = λ f. IsFault f (kept ++ piece) in
    let Q : List ℕ → Type 0 = λ l. HasNone l in
    subst P (sym none.0) (length kept + end, whole_ends kept piece end p q size, subst Q (is ∙ sym (take_past kept piece end)) none.1)

pub too_long_none : (kept piece : List ℕ) → line_end kept ≡ None → line_end piece ≡ None → 4096 < length kept + length piece
    → begins (kept ++ piece) ≡ Long
too_long_none kept piece p q size = let n = length-append kept piece in
    begins_long (kept ++ piece) (end_none kept piece p q) (omega (arith, n))

pub too_long_some : (kept piece : List ℕ) (end : ℕ) → line_end kept ≡ None → line_end piece ≡ Some end → 4096 < length kept + end
    → begins (kept ++ piece) ≡ Long
too_long_some kept piece end p q size = begins_late (kept ++ piece) (length kept + end) (end_some kept piece end p q) size

pub still_open : (kept piece : List ℕ) → line_end kept ≡ None → line_end piece ≡ None → length kept + length piece ≤ 4096
    → begins (kept ++ piece) ≡ Open
still_open kept piece p q size = let n = length-append kept piece in
    begins_open (kept ++ piece) (end_none kept piece p q) (omega (arith, n))
