use Rattle.aes_block.proofs.Computed.{inverse_zero, times_inverse}
use Rattle.aes_block.proofs.inverse_law.Goals as goal

pub returns-clause-inverts : goal.returns-clause-inverts
returns-clause-inverts c = times_inverse

pub returns-clause-of_zero : goal.returns-clause-of_zero
returns-clause-of_zero c = inverse_zero
