use Rattle.std.proofs.Common.{◌≡◌, ◌-◌, ◌/◌, ◌%◌, ◌&&◌, not, ℕ}
use Rattle.std.specs.Prelude.{length}
use Rattle.replay_win.specs.Bitmap.{is_bit_set, is_block_word}
use Rattle.replay_win.proofs.bitmap.clear.Given as goal

abbrev pub invariant-loop-block : goal.invariant-loop-block
invariant-loop-block l = record {
  len : length l.words ≡ length l.initial.words;
  bits : (k : ℕ) → is_bit_set l.words k ≡
      (not (is_block_word (length l.initial.words) l.first (l.block - l.first) (k / 64 % length l.initial.words))
      && is_bit_set l.initial.words k);
}
