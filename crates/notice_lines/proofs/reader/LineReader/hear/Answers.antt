use Rattle.std.proofs.Common.{◌≡◌, ◌∙◌, ◌++◌, length, take, None, ap, sym, subst, arith, refl}
use Rattle.ikl_base.specs.declared.fault.OrMemory.{OrMemory}
use Rattle.notice_lines.specs.declared.fault.NoticeFault.{NoticeFault}
use Rattle.notice_lines.specs.Reading.{line_end, IsNoneOrMemory}
use Rattle.notice_lines.proofs.Ends.{end_within}
use Rattle.notice_lines.proofs.Hearing.{hears, no_notice, too_long_some}
use Rattle.notice_lines.proofs.reader.LineReader.hear.Goals as goal

pub read_joined-requires : goal.read_joined-requires
read_joined-requires c = let within = end_within c.args.piece.now c.args.end c.requires.line in omega (arith, within)

pub returns-in-Ok : goal.returns-in-Ok
returns-in-Ok c =
    let kept : c.args.self.now.kept ≡ c.self.inside.kept.items = ap (λ r. r.kept) (sym c.self.view_is) in
    let fault : c.args.self.now.fault ≡ c.self.inside.fault = ap (λ r. r.fault) (sym c.self.view_is) in
    let count = ap length kept in
    let front : line_end c.args.self.now.kept ≡ None = ap line_end kept ∙ c.self.invariant.0 in
    let line : c.deref.result.now ++ take c.args.end c.args.piece.now ≡ c.args.self.now.kept ++ take c.args.end c.args.piece.now =
    ap (λ l. l ++ take c.args.end c.args.piece.now) (c.deref.ensures.value ∙ sym kept) in
    let none : c.self.inside.fault ≡ None = sym fault ∙ c.requires.fresh in
    let empty = c.clear.ensures.items in (
      hears c.args.self.now c.args.piece.now _ c.args.end c.in-Ok.notice front c.requires.line (omega (arith, count)) line
          c.in-Ok.ensures.notice,
      cc,
    )

pub returns-in-Err-Refused : goal.returns-in-Err-Refused
returns-in-Err-Refused c =
    let kept : c.args.self.now.kept ≡ c.self.inside.kept.items = ap (λ r. r.kept) (sym c.self.view_is) in
    let count = ap length kept in
    let front : line_end c.args.self.now.kept ≡ None = ap line_end kept ∙ c.self.invariant.0 in
    let line : c.deref.result.now ++ take c.args.end c.args.piece.now ≡ c.args.self.now.kept ++ take c.args.end c.args.piece.now =
    ap (λ l. l ++ take c.args.end c.args.piece.now) (c.deref.ensures.value ∙ sym kept) in
    let P : OrMemory NoticeFault → Type 0 = λ e. IsNoneOrMemory e (c.deref.result.now ++ take c.args.end c.args.piece.now) in (
      no_notice c.in-Err-Refused.fault c.args.self.now.kept c.args.piece.now _ c.args.end front c.requires.line (omega (arith, count)) line
          (subst P c.in-Err-Refused.field-0-is c.in-Err-Refused.ensures.fault),
      refl,
    )

pub returns-then-end-room : goal.returns-then-end-room
returns-then-end-room c =
    let kept : c.args.self.now.kept ≡ c.self.inside.kept.items = ap (λ r. r.kept) (sym c.self.view_is) in
    let front : line_end c.args.self.now.kept ≡ None = ap line_end kept ∙ c.self.invariant.0 in
    let count = ap length kept in
    (too_long_some c.args.self.now.kept c.args.piece.now c.args.end front c.requires.line (omega (arith, count)), refl)
