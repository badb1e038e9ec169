use Rattle.std.proofs.Common.{ap, ◌∙◌, option_and_then, slice_get}
use Rattle.ip_packet.specs.View.{seen}
use Rattle.sad_store.specs.Halves.{newest_place}
use Rattle.sad_store.proofs.PlaceLemmas.{newest-there}
use Rattle.sad_store.proofs.store.SadStore.pick_out.Goals as goal

pub returns-clause-half : goal.returns-clause-half
returns-clause-half c =
    let xs = c.args.self.now in
    let r = c.args.reqid in
    let v = seen c.args.v.now in
    ap (λ place. option_and_then (slice_get xs) place) (c.newest_of.ensures
    ∙ ap (newest_place r v) (c.deref.ensures.value ∙ c.self.view_is)) ∙ newest-there r v xs
