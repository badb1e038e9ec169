use Rattle.std.proofs.Common.{◌++◌, ◌∷◌, [], List, map, take, ap, ◌∙◌}
use Rattle.ikeless_tree.specs.declared.sad.SadRow.{SadRow}
use Rattle.hist_gateway.specs.Machine.{row_from}
use Rattle.gw_tables.proofs.Lists.{mapped-next}
use Rattle.gw_tables.proofs.rows.rows.Goals as goal

pub loop-i-preserved : goal.loop-i-preserved
loop-i-preserved c =
    let f = row_from c.args.clock in
    c.in_ok-push.ensures.ok
    ∙ (ap (λ (rs : List SadRow). rs ++ c.in_ok-row.field-0 ∷ []) c.loop-i.invariant
    ∙ (ap (λ (r : SadRow). map f (take c.loop-i.i c.args.halves.now) ++ r ∷ []) c.in_ok-row.ensures
    ∙ mapped-next f c.args.halves.now c.loop-i.i c.half.result.now c.half.ensures))
