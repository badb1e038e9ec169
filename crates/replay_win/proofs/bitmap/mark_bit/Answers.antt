use Rattle.std.proofs.Common.{◌≡◌, ◌+◌, ◌/◌, ◌%◌, ◌==◌, max, ℕ, length, refl, ap, ◌∙◌, if◌then◌else◌, arith}
use Rattle.replay_win.specs.Bitmap.{is_bit_set, is_held, is_one_word}
use Rattle.replay_win.proofs.Held.{set-held, set-ahead, begin-held, first-passed}
use Rattle.replay_win.proofs.bitmap.mark_bit.Goals as goal

pub returns-then-block-newest-clause-ahead : goal.returns-then-block-newest-clause-ahead
returns-then-block-newest-clause-ahead c = set-ahead c.args.words.now _ (length c.args.words.now) c.args.top c.args.s c.requires.some
    c.requires.near (omega arith) c.requires.ahead c.set.ensures.bits

pub returns-then-block-newest-clause-held : goal.returns-then-block-newest-clause-held
returns-then-block-newest-clause-held c = set-held c.args.words.now _ (length c.args.words.now) c.args.top c.args.s refl c.requires.some
    c.requires.near (omega arith) c.requires.ahead c.set.ensures.bits

pub returns-clause-held : goal.returns-clause-held
returns-clause-held c = λ k within.
    let n : ℕ = length c.args.words.now in
    let s : ℕ = c.args.s in
    let first : ℕ = c.max-first.result in
    let later : max c.args.top s ≡ s = omega arith in
    let is : first ≡ first-passed n c.args.top s = c.max-first.ensures ∙ ap (λ b. max (c.args.top / 64 + 1) b) c.saturating_sub.ensures in
    ap (λ t. is_held c.begin.new.words t k) later
    ∙ begin-held c.args.words.now c.begin.new.words n c.args.top s first is c.requires.some (omega arith) c.requires.ahead
    (λ k. c.begin.ensures.bits k
    ∙ (ap (λ m. if is_one_word m s k then s % 64 == k % 64 else is_bit_set c.clear.new.words k) c.clear.ensures.length
    ∙ ap (λ b. if is_one_word n s k then s % 64 == k % 64 else b) (c.clear.ensures.bits k)))
    k (omega arith)
