use Rattle.std.proofs.Common.{◌≡◌, ◌+◌, ◌*◌, List, ℕ, map}
use Rattle.std.specs.Int.{w32, to_be_bytes}
use Rattle.aes_block.specs.Aes.{after_rounds, square}
use Rattle.aes_block.specs.Shared.{Shares, with_last}
use Rattle.aes_block.proofs.schedule.KeySchedule.encrypt_after.Given as goal

abbrev pub invariant-pairs : goal.invariant-pairs
invariant-pairs l = (b : List ℕ) → Shares l.shared l.self b → square l.state ≡ after_rounds (map (to_be_bytes w32) l.self.words)
    (with_last b l.octet) (2 * l.i + 3)
