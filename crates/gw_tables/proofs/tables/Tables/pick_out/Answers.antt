use Rattle.std.proofs.Common.{length, ap, sym, ◌∙◌}
use Rattle.ip_packet.specs.View.{seen}
use Rattle.sad_store.specs.Halves.{newest_place}
use Rattle.gw_tables.specs.Kept.{Kept}
use Rattle.gw_tables.proofs.Lists.{if-some, newest-within}
use Rattle.gw_tables.proofs.tables.Tables.pick_out.Goals as goal

pub returns-clause-within : goal.returns-clause-within
returns-clause-within c =
    let v = seen c.args.v.now in
    let place = c.pick_out.ensures.place ∙ ap (λ (k : Kept). newest_place c.args.reqid v k.halves) c.self.view_is in
    if-some c.pick_out.result (length c.args.self.now.halves) (λ i at. newest-within c.args.reqid v c.args.self.now.halves i (sym place
    ∙ at))
