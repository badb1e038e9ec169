use Rattle.std.proofs.Common.{◌≡◌, ◌+◌, ◌-◌, ◌∙◌, List, ℕ, ap, arith, map, sym}
use Rattle.std.specs.Int.{w32, to_be_bytes}
use Rattle.aes_block.specs.Aes.{add_key, after_rounds, mix_columns, shift_rows, sub_octets}
use Rattle.aes_block.proofs.Schedules.{after_rounds-suc, cipher-take, cipher_is}
use Rattle.aes_block.proofs.plain.encrypt.Goals as goal

pub rounds-init : goal.rounds-init
unfolding after_rounds
rounds-init c = c.add_key-state.ensures

pub rounds-preserved : goal.rounds-preserved
rounds-preserved c =
    let ws = map (to_be_bytes w32) c.args.k.now.words in
    c.add_key-state-in-rounds.ensures
    ∙ ap (λ (s : List ℕ). add_key ws (c.rounds.i + 1) s)
    (c.mix_columns.ensures ∙ ap (λ (s : List ℕ). mix_columns s) (c.sub_and_shift.ensures
    ∙ ap (λ (s : List ℕ). shift_rows (sub_octets s)) c.rounds.invariant))
    ∙ sym (after_rounds-suc ws c.args.b.now c.rounds.i)

pub returns : goal.returns
returns c =
    let ws = map (to_be_bytes w32) c.args.k.now.words in
    let n = c.args.k.now.rounds in
    let done : c.rounds.i ≡ n - 1 = omega (arith, c.rounds.auto.i-end) in
    c.add_key.ensures
    ∙ ap (λ (s : List ℕ). add_key ws n s) (c.sub_and_shift-2.ensures ∙ ap (λ (s : List ℕ). shift_rows (sub_octets s)) (c.rounds.invariant
    ∙ ap (after_rounds ws c.args.b.now) done))
    ∙ sym (cipher_is ws n c.args.b.now) ∙ sym (cipher-take ws n c.args.b.now (omega arith))
