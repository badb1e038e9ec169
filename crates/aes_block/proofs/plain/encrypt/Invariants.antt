use Rattle.std.proofs.Common.{◌≡◌, map}
use Rattle.std.specs.Int.{w32, to_be_bytes}
use Rattle.aes_block.specs.Aes.{after_rounds}
use Rattle.aes_block.proofs.plain.encrypt.Given as goal

abbrev pub invariant-rounds : goal.invariant-rounds
invariant-rounds l = l.state ≡ after_rounds (map (to_be_bytes w32) l.k.words) l.b l.i
