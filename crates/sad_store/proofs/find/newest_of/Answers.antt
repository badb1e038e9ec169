use Rattle.std.proofs.Common.{◌≡◌, ℕ, List, Option, Some, None, map, sym, ap, ◌∙◌}
use Rattle.ip_packet.specs.View.{seen}
use Rattle.sad_store.specs.Columns.{last_place}
use Rattle.sad_store.specs.Halves.{entries_of}
use Rattle.sad_store.specs.Kept.{reqid_key}
use Rattle.sad_store.proofs.PlaceLemmas.{newest-none, newest-within}
use Rattle.sad_store.proofs.find.newest_of.Goals as goal

pub returns-in-None : goal.returns-in-None
returns-in-None c =
    let last = ap (λ ks. last_place c.args.reqid ks) (sym c.requires.column) ∙ (sym c.last.ensures ∙ c.in-None.is) in
    sym (newest-none c.args.reqid (seen c.args.v.now) c.args.halves.now last)

pub newest_up_to-requires-clause-within : goal.newest_up_to-requires-clause-within
newest_up_to-requires-clause-within c =
    let last = ap (λ ks. last_place c.args.reqid ks) (sym c.requires.column) ∙ (sym c.last.ensures ∙ c.in-Some.is) in
    (newest-within c.args.reqid (seen c.args.v.now) c.args.halves.now c.in-Some.last last).0

pub newest_up_to-requires-clause-none_later : goal.newest_up_to-requires-clause-none_later
newest_up_to-requires-clause-none_later c =
    let last = ap (λ ks. last_place c.args.reqid ks) (sym c.requires.column) ∙ (sym c.last.ensures ∙ c.in-Some.is) in
    (newest-within c.args.reqid (seen c.args.v.now) c.args.halves.now c.in-Some.last last).1
