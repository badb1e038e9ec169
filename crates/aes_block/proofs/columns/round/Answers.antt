use Rattle.std.proofs.Common.{◌∙◌, ap, arith}
use Rattle.std.specs.Int.{w32, to_be_bytes}
use Rattle.aes_block.proofs.TTables.{column_of_is, mixed, round_is}
use Rattle.aes_block.proofs.columns.round.Goals as goal

pub returns : goal.returns
unfolding mixed
returns c = round_is c.args.w.now c.args.s.now c.args.i _ _ _ _ (omega arith)
    (ap (to_be_bytes w32) c.column-p.ensures ∙ column_of_is _ _ _ _ _) (ap (to_be_bytes w32) c.column-q.ensures ∙ column_of_is _ _ _ _ _)
    (ap (to_be_bytes w32) c.column-r.ensures ∙ column_of_is _ _ _ _ _) (ap (to_be_bytes w32) c.column-t.ensures ∙ column_of_is _ _ _ _ _)
