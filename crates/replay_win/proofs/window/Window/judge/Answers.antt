use Rattle.std.proofs.Common.{◌≡◌, ◌==◌, true, false, sym, ap, ◌∙◌, arith}
use Rattle.std.proofs.lemmas.Bool.Decides.{nat_tests}
use Rattle.replay_win.specs.Marks.{judged, is_below}
use Rattle.replay_win.specs.Bitmap.{is_held}
use Rattle.replay_win.proofs.Windows.{judged-view_of}
use Rattle.replay_win.proofs.window.Window.judge.Goals as goal

pub returns-then-holds : goal.returns-then-holds
returns-then-holds c =
    let w = c.self.inside in
    let some : (c.args.s == 0) ≡ false = grind (arith, nat_tests) in
    let above : is_below w.size w.top c.args.s ≡ false = grind (arith, nat_tests) in
    let held : is_held w.words.items w.top c.args.s ≡ true = cc in
    sym (ap (λ v. judged v c.args.s) (sym c.self.view_is) ∙ judged-view_of w.size w.top w.words.items c.args.s true some above held)

pub returns-else-holds : goal.returns-else-holds
returns-else-holds c =
    let w = c.self.inside in
    let some : (c.args.s == 0) ≡ false = grind (arith, nat_tests) in
    let above : is_below w.size w.top c.args.s ≡ false = grind (arith, nat_tests) in
    let held : is_held w.words.items w.top c.args.s ≡ false = cc in
    sym (ap (λ v. judged v c.args.s) (sym c.self.view_is) ∙ judged-view_of w.size w.top w.words.items c.args.s false some above held)
