use Rattle.std.proofs.Common.{◌≡◌, false, Some, slice_get, option_map, sym, ap, ◌∙◌}
use Rattle.ip_packet.specs.View.{seen}
use Rattle.sad_store.specs.Columns.{is_key}
use Rattle.sad_store.proofs.PlaceLemmas.{seal-other}
use Rattle.sad_store.proofs.find.seals_at.Goals as goal

pub returns-else-is_at : goal.returns-else-is_at
returns-else-is_at c =
    let i = c.args.i in
    let r = c.args.reqid in
    seal-other r (seen c.args.v.now) c.args.halves.now i c.requires.within
    (ap (λ ks. option_map (is_key r) (slice_get ks i)) (sym c.requires.column) ∙ (c.is_at.ensures ∙ ap Some c.if-is_at.false))
    ∙ ap Some (sym c.if-is_at.false)
