use Rattle.std.proofs.Common.{◌≡◌, ◌+◌, ◌-◌, ◌*◌, ◌∙◌, List, ℕ, ap, arith, map, sym}
use Rattle.std.specs.Int.{w32, to_be_bytes}
use Rattle.aes_block.specs.Aes.{add_key, after_rounds, shift_rows, sub_octets}
use Rattle.aes_block.proofs.Schedules.{cipher-take, cipher_is, first_round, one_round}
use Rattle.aes_block.proofs.schedule.KeySchedule.encrypt.Goals as goal

pub pairs-init : goal.pairs-init
pairs-init c = first_round (map (to_be_bytes w32) c.args.self.now.words) c.args.b.now _ _ c.first.ensures c.round-state.ensures

pub pairs-preserved : goal.pairs-preserved
pairs-preserved c =
    let ws = map (to_be_bytes w32) c.args.self.now.words in
    let i = c.pairs.i in
    one_round ws c.args.b.now (2 * i + 2) (2 * i + 3) (2 * (i + 1) + 1) _ _ (omega arith) (omega arith)
    (one_round ws c.args.b.now (2 * i + 1) (2 * i + 2) (2 * i + 2) _ _ (omega arith) (omega arith) c.pairs.invariant c.round-middle.ensures)
    c.round-state-in-pairs.ensures

pub returns : goal.returns
returns c =
    let ws = map (to_be_bytes w32) c.args.self.now.words in
    let n = c.args.self.now.rounds in
    let done : 2 * c.pairs.i + 1 ≡ n - 1 = omega (arith, c.pairs.auto.i-end) in
    c.last.ensures
    ∙ ap (λ (s : List ℕ). add_key ws n (shift_rows (sub_octets s))) (c.pairs.invariant ∙ ap (after_rounds ws c.args.b.now) done)
    ∙ sym (cipher_is ws n c.args.b.now) ∙ sym (cipher-take ws n c.args.b.now (omega arith))
