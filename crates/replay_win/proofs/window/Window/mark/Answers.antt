use Rattle.std.proofs.Common.{◌≡◌, ◌<◌, ◌+◌, ◌-◌, ◌*◌, ◌==◌, ◌||◌, List, ℕ, max, length, sym, ap, ◌∙◌, subst, arith}
use Rattle.std.proofs.lemmas.List.{with_items_is}
use Rattle.replay_win.specs.Marks.{Marks, marked}
use Rattle.replay_win.specs.Bitmap.{is_held}
use Rattle.replay_win.proofs.Windows.{spanned-after, view_of}
use Rattle.replay_win.proofs.window.Window.mark.Goals as goal

pub returns : goal.returns
returns c =
    let w = c.self.inside in
    let s = c.args.s in
    let new = c.mark_bit.new.words in
    let with_inside : List ℕ → Marks = λ inside. record { size = w.size; top = max w.top s; inside = inside } in
    let held = subst (λ (ws : List ℕ). (k : ℕ) → max w.top s < k + 64 * (length ws - 1)
    → is_held new (max w.top s) k ≡ ((s == k) || is_held ws w.top k)) c.deref_mut.ensures.value c.mark_bit.ensures.held in
    let room = c.self.invariant.room in
    let size : length new ≡ w.words.len = c.mark_bit.ensures.length ∙ (ap length c.deref_mut.ensures.value ∙ sym w.words.ok.0) in
    ap (view_of w.size c.max-self-inside.result) (with_items_is w.words new size)
    ∙ ap (λ t. view_of w.size t new) c.max-self-inside.ensures
    ∙ ap with_inside (spanned-after w.size w.top s w.words.items new (λ k near. held k (omega arith)))
    ∙ ap (λ v. marked v s) c.self.view_is
