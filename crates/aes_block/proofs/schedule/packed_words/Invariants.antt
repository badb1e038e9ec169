use Rattle.std.proofs.Common.{◌≡◌, ◌<◌, ℕ, [], get_or, length}
use Rattle.std.specs.Int.{w32, to_be_bytes}
use Rattle.aes_block.proofs.schedule.packed_words.Given as goal

abbrev pub invariant-words : goal.invariant-words
invariant-words l = record {
  long : length l.numbers ≡ 60;
  same : (k : ℕ) → k < l.i → to_be_bytes w32 (get_or l.numbers k 0) ≡ get_or l.words k [];
}
