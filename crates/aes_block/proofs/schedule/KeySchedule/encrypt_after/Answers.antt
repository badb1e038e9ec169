use Rattle.std.proofs.Common.{◌≡◌, ◌+◌, ◌-◌, ◌*◌, ◌∙◌, List, ℕ, ap, arith, map, sym}
use Rattle.std.specs.Int.{w32, to_be_bytes}
use Rattle.aes_block.specs.Aes.{add_key, after_rounds, shift_rows, square, sub_octets}
use Rattle.aes_block.specs.Shared.{SharesWords, with_last}
use Rattle.aes_block.proofs.Schedules.{cipher-take, cipher_is, one_round}
use Rattle.aes_block.proofs.schedule.KeySchedule.encrypt_after.Goals as goal

pub pairs-init : goal.pairs-init
unfolding SharesWords
pairs-init c = λ b shares.
    let ws = map (to_be_bytes w32) c.args.self.now.words in
    one_round ws (with_last b c.args.octet) 2 3 (2 * 0 + 3) _ _ (omega arith) (omega arith)
    (ap square c.after_two.ensures ∙ shares c.args.octet (omega arith)) c.round-state.ensures

pub pairs-preserved : goal.pairs-preserved
pairs-preserved c = λ b shares.
    let ws = map (to_be_bytes w32) c.args.self.now.words in
    let block = with_last b c.args.octet in
    let i = c.pairs.i in
    one_round ws block (2 * i + 4) (2 * i + 5) (2 * (i + 1) + 3) _ _ (omega arith) (omega arith)
    (one_round ws block (2 * i + 3) (2 * i + 4) (2 * i + 4) _ _ (omega arith) (omega arith) (c.pairs.invariant b shares)
    c.round-middle.ensures)
    c.round-state-in-pairs.ensures

pub returns : goal.returns
returns c = λ b shares.
    let ws = map (to_be_bytes w32) c.args.self.now.words in
    let block = with_last b c.args.octet in
    let n = c.args.self.now.rounds in
    let done : 2 * c.pairs.i + 3 ≡ n - 1 = omega (arith, c.pairs.auto.i-end) in
    c.last.ensures
    ∙ ap (λ (s : List ℕ). add_key ws n (shift_rows (sub_octets s))) (c.pairs.invariant b shares ∙ ap (after_rounds ws block) done)
    ∙ sym (cipher_is ws n block) ∙ sym (cipher-take ws n block (omega arith))
