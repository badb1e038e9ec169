use Rattle.std.proofs.Common.{arith}
use Rattle.aes_block.proofs.TTables.{packed_is}
use Rattle.aes_block.proofs.schedule.packed_words.Goals as goal

pub returns : goal.returns
returns c = packed_is c.args.words.now c.words.numbers (omega arith) (λ k lt. c.words.invariant.same k (omega (arith, c.words.auto.i-end)))
