use Rattle.std.proofs.Common.{arith}
use Rattle.aes_block.proofs.TTables.{first_is}
use Rattle.aes_block.proofs.columns.first.Goals as goal

pub returns : goal.returns
returns c = first_is c.args.w.now c.args.b.now _ _ _ _ (omega arith) c.first_column-p.ensures c.first_column-q.ensures
    c.first_column-r.ensures c.first_column-t.ensures
