use Rattle.std.proofs.Common.{◌≡◌, ◌+◌, ◌-◌, ◌<◌, ◌≤◌, length, subst, ap, ◌∙◌, arith, ⊎_elim}
use Rattle.ikeless_cli.specs.Reader.{Fits, State, lines_of}
use Rattle.ikeless_cli.proofs.Ends.{overflows-long, overflows-too_long}
use Rattle.ikeless_cli.proofs.reader.Reader.fits.Goals as goal

pub returns-then-left-short-clause-err : goal.returns-then-left-short-clause-err
returns-then-left-short-clause-err c =
    let s : State = c.args.self.now in
    let fits = subst (λ (x : State). Fits x 0) c.self.view_is c.self.invariant.fits in
    let short = fits.short in
    let within = fits.within in
    let whole = ap (λ (x : State). x.whole) c.self.view_is in
    let size = ap (λ (x : State). length x.line) c.self.view_is in
    let left : 67108864 - c.self.inside.whole - c.len.result ≡ 67108864 - (s.whole + length s.line) = omega
    (arith, whole, size, c.len.ensures) in
    let less : 67108864 - (s.whole + length s.line) < c.args.count =
    ⊎_elim (λ both. omega (arith, both.1, c.if-left-short.true, left)) (λ one. omega (arith, one, left)) c.else-count-left.either in
    let before : length s.line + (67108864 - (s.whole + length s.line)) ≤ 1048576 = omega
    (arith, c.if-left-short.true, short, within, left, size, c.len-short.ensures) in
    overflows-too_long s c.args.count (67108864 - (s.whole + length s.line)) fits (omega (arith, within)) before less

pub returns-clause-err : goal.returns-clause-err
returns-clause-err c =
    let s : State = c.args.self.now in
    let fits = subst (λ (x : State). Fits x 0) c.self.view_is c.self.invariant.fits in
    let short = fits.short in
    let within = fits.within in
    let whole = ap (λ (x : State). x.whole) c.self.view_is in
    let size = ap (λ (x : State). length x.line) c.self.view_is in
    let number : c.next_line-line.result ≡ lines_of s.running + 1 = c.next_line-line.ensures ∙ ap (λ (x : State). lines_of x.running + 1)
    c.self.view_is in
    let left : 67108864 - c.self.inside.whole - c.len.result ≡ 67108864 - (s.whole + length s.line) = omega
    (arith, whole, size, c.len.ensures) in
    let most : 1048576 - c.len-short.result ≡ 1048576 - length s.line = omega (arith, size, c.len-short.ensures) in
    let room : s.whole + length s.line + (1048576 - length s.line) < 67108864 = omega
    (arith, c.if-left-short.false, left, most, short, within) in
    let less : 1048576 - length s.line < c.args.count =
    ⊎_elim (λ both. omega (arith, both.1, most)) (λ one. omega (arith, one, c.if-left-short.false, left, most)) c.else-count-left.either in
    overflows-long s c.args.count (1048576 - length s.line) _ number (omega (arith, short)) room less
