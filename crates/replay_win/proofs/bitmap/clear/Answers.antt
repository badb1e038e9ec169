use Rattle.std.proofs.Common.{◌≡◌, ◌<◌, ◌≤◌, ◌-◌, ◌+◌, ◌/◌, ◌%◌, ◌&&◌, ◌||◌, ◌==◌, not, ℕ, zero, Bool, List, length, refl, sym, ap, ◌∙◌, slice_set, arith}
use Rattle.std.proofs.lemmas.List.{length-set}
use Rattle.std.proofs.lemmas.Bool.Decides.{nat_tests}
use Rattle.replay_win.specs.Bitmap.{is_bit_set, is_block_word}
use Rattle.replay_win.proofs.Words.{bit-cleared, block-more}
use Rattle.replay_win.proofs.bitmap.clear.Goals as goal

none-yet : (n first i : ℕ) (b : Bool) → b ≡ (not (is_block_word n first (first - first) i) && b)
none-yet n first i b = let none : zero ≡ first - first = omega arith in ap (λ m. not (is_block_word n first m i) && b) none

flip : (a b : ℕ) → (a == b) ≡ (b == a)
flip a b = grind (arith, nat_tests)

not-or : (a b c : Bool) → (not b && (not a && c)) ≡ (not (a || b) && c)
not-or a b c = grind arith

one-more : (old ws : List ℕ) (first block i k : ℕ) → length ws ≡ length old → i ≡ block % length ws → i < length ws → first ≤ block →
    is_bit_set ws k ≡ (not (is_block_word (length old) first (block - first) (k / 64 % length old)) && is_bit_set old k) →
    is_bit_set (slice_set ws i 0) k ≡ (not (is_block_word (length old) first (block + 1 - first) (k / 64 % length old)) && is_bit_set old k)
one-more old ws first block i k same place within order bits =
    let n : ℕ = length old in
    let p : ℕ = k / 64 % n in
    bit-cleared ws i k within
    ∙ (ap (λ m. not (i == k / 64 % m) && is_bit_set ws k) same
    ∙ (ap (λ j. not (j == p) && is_bit_set ws k) (place ∙ ap (λ m. block % m) same)
    ∙ (ap (λ b. not b && is_bit_set ws k) (flip (block % n) p)
    ∙ (ap (λ b. not (p == block % n) && b) bits
    ∙ (not-or (is_block_word n first (block - first) p) (p == block % n) (is_bit_set old k)
    ∙ ap (λ b. not b && is_bit_set old k) (sym (block-more n first block p order)))))))

pub loop-block-init : goal.loop-block-init
loop-block-init c = record {
  len = refl;
  bits = λ k. none-yet (length c.args.words.now) c.args.first (k / 64 % length c.args.words.now) (is_bit_set c.args.words.now k);
}

pub loop-block-preserved : goal.loop-block-preserved
loop-block-preserved c = record {
  len = length-set c.loop-block.words c.word_of-i.result 0 ∙ c.loop-block.invariant.len;
  bits = λ k. one-more c.args.words.now c.loop-block.words c.args.first c.loop-block.block c.word_of-i.result k c.loop-block.invariant.len
      c.word_of-i.ensures.place c.word_of-i.ensures.within c.loop-block.auto.block (c.loop-block.invariant.bits k);
}

pub returns-clause-bits : goal.returns-clause-bits
returns-clause-bits c = λ k.
    let end : c.loop-block.block ≡ c.args.end = omega arith in
    c.loop-block.invariant.bits k
    ∙ ap (λ e. not (is_block_word (length c.args.words.now) c.args.first (e - c.args.first) (k / 64 % length c.args.words.now))
    && is_bit_set c.args.words.now k) end
