use Rattle.std.proofs.Common.{◌+◌, ◌/◌, List, ℕ, ap}
use Rattle.replay_win.specs.Marks.{Marks}
use Rattle.replay_win.specs.Bitmap.{is_held}
use Rattle.replay_win.proofs.Windows.{spanned-none}
use Rattle.replay_win.proofs.Words.{none-held}
use Rattle.replay_win.proofs.window.Window.new.Goals as goal

pub returns : goal.returns
returns c =
    let words : List ℕ = c.in_ok-words.words.items in
    let with_inside : List ℕ → Marks = λ inside. record { size = c.args.w; top = 0; inside = inside } in
    ap with_inside (spanned-none c.args.w 0 (is_held words 0)
    (λ k. none-held ((c.args.w + 127) / 64) words 0 k (c.in_ok-words.ensures.items_if_clones_equal (λ y e. e))))
