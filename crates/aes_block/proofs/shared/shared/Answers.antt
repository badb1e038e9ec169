use Rattle.std.proofs.Common.{ℕ, [], ◌∷◌, ◌∙◌, get_or, bit_xor, map, arith, ap}
use Rattle.std.specs.Prelude.{slice_index}
use Rattle.std.specs.Int.{w32, to_be_bytes}
use Rattle.aes_block.specs.Aes.{add_key, square}
use Rattle.aes_block.specs.Columns.{entry}
use Rattle.aes_block.specs.Shared.{SharesWords}
use Rattle.aes_block.proofs.TwoRounds.{after_two_is}
use Rattle.aes_block.proofs.shared.shared.Goals as goal

pub returns : goal.returns
unfolding SharesWords
returns c = λ o lt.
    let s = c.first-s.result in
    let w = c.args.w.now in
    let start = c.first-s.ensures ∙ ap (add_key (map (to_be_bytes w32) w) 0) c.without_last.ensures in
    let last : ℕ = entry 3 (bit_xor (get_or s 3 0) o) in
    let a : ℕ = bit_xor (bit_xor (bit_xor (bit_xor c.entry_0.result c.entry_1.result) c.entry_2.result) (get_or w 4 0)) last in
    let cols = c.columns_without.ensures in
    (λ i. square (bit_xor (slice_index (cols i) 0) (entry 0 a) ∷ bit_xor (slice_index (cols i) 1) (entry 3 a)
    ∷ bit_xor (slice_index (cols i) 2) (entry 2 a) ∷ bit_xor (slice_index (cols i) 3) (entry 1 a) ∷ []))
    ∙ after_two_is w c.args.b.now (get_or s 0 0) (get_or s 1 0) (get_or s 2 0) (get_or s 3 0) o a _ _ _ (omega arith) lt start
    (λ i. bit_xor (bit_xor (bit_xor (bit_xor (c.entry_0.ensures i) (c.entry_1.ensures i)) (c.entry_2.ensures i)) (get_or w 4 0)) last)
    c.column-q.ensures c.column-r.ensures c.column-t.ensures
