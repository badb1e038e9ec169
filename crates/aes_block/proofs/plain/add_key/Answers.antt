use Rattle.std.proofs.Common.{arith}
use Rattle.aes_block.proofs.TTables.{add_key_is}
use Rattle.aes_block.proofs.plain.add_key.Goals as goal

pub returns : goal.returns
returns c =
    add_key_is c.args.words.now c.args.b.now c.args.i c.to_be_bytes-p.result c.to_be_bytes-q.result c.to_be_bytes-r.result
    c.to_be_bytes-s.result (omega arith)
    c.to_be_bytes-p.ensures c.to_be_bytes-q.ensures c.to_be_bytes-r.ensures c.to_be_bytes-s.ensures
