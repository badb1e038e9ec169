use Rattle.aes_block.proofs.TTables.{loaded_xor}
use Rattle.aes_block.proofs.columns.first_column.Goals as goal

pub returns : goal.returns
returns c = loaded_xor c.packed.result c.args.k c.args.a c.args.b c.args.c c.args.d c.packed.ensures
