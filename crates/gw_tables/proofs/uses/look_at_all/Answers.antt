use Rattle.std.proofs.Common.{◌<◌, length, ap, ◌∙◌, arith}
use Rattle.sad_store.specs.Halves.{changed, look_at}
use Rattle.gw_tables.proofs.Lists.{changed-length, changed-next}
use Rattle.gw_tables.proofs.uses.look_at_all.Goals as goal

pub loop-i-preserved : goal.loop-i-preserved
loop-i-preserved c =
    let f = look_at c.args.clock in
    let xs = c.args.halves.now in
    let test = c.loop-i-test.true in
    let end = c.len-i-end.ensures in
    let within : c.loop-i.i < length xs = omega arith in
    record {
      length = ap length c.tick.ensures.halves ∙ (changed-length f c.loop-i.i c.loop-i.halves ∙ c.loop-i.invariant.length);
      looked = c.tick.ensures.halves ∙ (ap (changed f c.loop-i.i) c.loop-i.invariant.looked ∙ changed-next f c.loop-i.i xs within);
    }
