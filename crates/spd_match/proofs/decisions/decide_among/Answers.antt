use Rattle.std.proofs.Common.{◌≡◌, ◌∙◌, ap, sym, subst, refl, arith, length, slice_get, Some}
use Rattle.std.proofs.lemmas.Option.{slice_get_read}
use Rattle.ip_packet.specs.View.{seen}
use Rattle.spd_match.specs.declared.flow.Flow.{Flow}
use Rattle.spd_match.specs.Kept.{IsOf}
use Rattle.spd_match.proofs.KeptLemmas.{kept-more, kept-there, own-decision}
use Rattle.spd_match.proofs.decisions.decide_among.Goals as goal

pub returns-in-Some-clause-place : goal.returns-in-Some-clause-place
returns-in-Some-clause-place c =
    let places = c.args.places.now.items in
    let own = own-decision c.args.list.now c.args.d (seen c.args.v.now) c.in-Some.place in
    let there : slice_get places c.place_among-at.result ≡ Some (Some (record { flow = c.of-flow.result; place = c.in-Some.place })) =
    slice_get_read places (length places) c.place_among-at.result c.index.result.now refl (omega (
      arith,
      c.place_among-at.ensures,
      c.len.ensures,
    )) c.index.ensures ∙ ap (λ kept. Some kept) c.in-Some.ensures in
    own.1 (subst (λ (f : Flow). IsOf c.args.list.now (record { flow = f; place = c.in-Some.place })) c.of-flow.ensures
    (kept-there c.args.list.now places c.place_among-at.result _ there c.requires.kept))

pub returns-clause-kept : goal.returns-clause-kept
returns-clause-kept c =
    let own = own-decision c.args.list.now c.args.d (seen c.args.v.now) c.first_match-place.result in
    kept-more c.args.list.now c.args.places.now.items c.place_among-at.result _
    (subst (λ (f : Flow). IsOf c.args.list.now (record { flow = f; place = c.first_match-place.result })) (sym c.of-flow.ensures)
    (own.0 c.first_match-place.ensures.place)) c.requires.kept
