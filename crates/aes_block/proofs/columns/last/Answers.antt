use Rattle.std.proofs.Common.{arith, ◌∙◌}
use Rattle.aes_block.proofs.TTables.{last_is, subbed}
use Rattle.aes_block.proofs.columns.last.Goals as goal

pub returns : goal.returns
unfolding subbed
returns c =
    last_is c.args.w.now c.args.s.now c.args.i c.to_be_bytes-p.result c.to_be_bytes-q.result c.to_be_bytes-r.result c.to_be_bytes-t.result
    (omega arith)
    (c.to_be_bytes-p.ensures ∙ c.last_column.ensures) (c.to_be_bytes-q.ensures ∙ c.last_column-2.ensures)
    (c.to_be_bytes-r.ensures ∙ c.last_column-3.ensures) (c.to_be_bytes-t.ensures ∙ c.last_column-4.ensures)
