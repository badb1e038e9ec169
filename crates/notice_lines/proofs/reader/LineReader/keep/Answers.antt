use Rattle.std.proofs.Common.{◌≡◌, ◌∙◌, ◌++◌, length, None, ap, sym, arith, refl, length-append}
use Rattle.notice_lines.specs.Reading.{line_end}
use Rattle.notice_lines.proofs.Ends.{end_none}
use Rattle.notice_lines.proofs.Hearing.{still_open, too_long_none}
use Rattle.notice_lines.proofs.reader.LineReader.keep.Goals as goal

pub invariant_of-self-2 : goal.invariant_of-self-2
invariant_of-self-2 c =
    let new = c.in_ok-append.ensures.ok in
    let size = ap length new ∙ length-append c.self.inside.kept.items c.args.piece.now in (
      ap line_end new ∙ end_none c.self.inside.kept.items c.args.piece.now c.self.invariant.0 c.requires.part,
      omega
          (arith, size, c.self.invariant),
    )

pub returns : goal.returns
returns c =
    let kept : c.args.self.now.kept ≡ c.self.inside.kept.items = ap (λ r. r.kept) (sym c.self.view_is) in
    let fault : c.args.self.now.fault ≡ c.self.inside.fault = ap (λ r. r.fault) (sym c.self.view_is) in
    let front : line_end c.args.self.now.kept ≡ None = ap line_end kept ∙ c.self.invariant.0 in
    let none : c.self.inside.fault ≡ None = sym fault ∙ c.requires.fresh in
    let new : c.append.new.kept.items ≡ c.args.self.now.kept ++ c.args.piece.now = c.in_ok-append.ensures.ok
    ∙ ap (λ l. l ++ c.args.piece.now) (sym kept) in
    let count = ap length kept in
    (still_open c.args.self.now.kept c.args.piece.now front c.requires.part (omega (arith, count)), cc)

pub returns-then-piece-room : goal.returns-then-piece-room
returns-then-piece-room c =
    let kept : c.args.self.now.kept ≡ c.self.inside.kept.items = ap (λ r. r.kept) (sym c.self.view_is) in
    let front : line_end c.args.self.now.kept ≡ None = ap line_end kept ∙ c.self.invariant.0 in
    let count = ap length kept in
    (too_long_none c.args.self.now.kept c.args.piece.now front c.requires.part (omega (arith, count)), refl)
