use Rattle.std.proofs.Common.{◌≡◌, sym, ap, ◌∙◌, position}
use Rattle.sad_store.specs.Halves.{is_half_named}
use Rattle.sad_store.proofs.PlaceLemmas.{none-there, some-there, without-absent, removed-there}
use Rattle.sad_store.proofs.StoredLemmas.{stored-without}
use Rattle.sad_store.proofs.find.take_out.Goals as goal

pub returns-in-None-clause-found : goal.returns-in-None-clause-found
returns-in-None-clause-found c =
    let name = c.args.name.now in
    let place : c.place_of.result ≡ position (is_half_named name) c.args.halves.now.items =
    c.place_of.ensures ∙ (ap (λ n. position (is_half_named n) c.deref.result.now) c.as_slice.ensures
    ∙ ap (position (is_half_named name)) c.deref.ensures.value) in
    sym (none-there (is_half_named name) c.args.halves.now.items (sym place ∙ c.in-None.is))

pub returns-in-None-clause-halves : goal.returns-in-None-clause-halves
returns-in-None-clause-halves c =
    let name = c.args.name.now in
    let place : c.place_of.result ≡ position (is_half_named name) c.args.halves.now.items =
    c.place_of.ensures ∙ (ap (λ n. position (is_half_named n) c.deref.result.now) c.as_slice.ensures
    ∙ ap (position (is_half_named name)) c.deref.ensures.value) in
    sym (without-absent name c.args.halves.now.items (none-there (is_half_named name) c.args.halves.now.items (sym place ∙ c.in-None.is)))

pub returns-in-Some-clause-stored : goal.returns-in-Some-clause-stored
returns-in-Some-clause-stored c =
    let name = c.args.name.now in
    let xs = c.args.halves.now.items in
    let place : c.place_of.result ≡ position (is_half_named name) c.args.halves.now.items =
    c.place_of.ensures ∙ (ap (λ n. position (is_half_named n) c.deref.result.now) c.as_slice.ensures
    ∙ ap (position (is_half_named name)) c.deref.ensures.value) in
    let gone = removed-there name xs c.in-Some.i c.requires.stored.kept.apart (sym place ∙ c.in-Some.is) in
    rw (c.remove-gone.ensures.items, gone)
    (stored-without name xs c.args.spis.now c.args.reqids.now c.remove.new.self c.remove-in-Some.new.self c.in-Some.i c.requires.stored gone
    c.remove.ensures.keys c.remove-in-Some.ensures.keys c.remove.ensures.indexed c.remove-in-Some.ensures.indexed)

pub returns-in-Some-clause-found : goal.returns-in-Some-clause-found
returns-in-Some-clause-found c =
    let name = c.args.name.now in
    let place : c.place_of.result ≡ position (is_half_named name) c.args.halves.now.items =
    c.place_of.ensures ∙ (ap (λ n. position (is_half_named n) c.deref.result.now) c.as_slice.ensures
    ∙ ap (position (is_half_named name)) c.deref.ensures.value) in
    sym (some-there (is_half_named name) c.args.halves.now.items c.in-Some.i (sym place ∙ c.in-Some.is)).0

pub returns-in-Some-clause-halves : goal.returns-in-Some-clause-halves
returns-in-Some-clause-halves c =
    let name = c.args.name.now in
    let place : c.place_of.result ≡ position (is_half_named name) c.args.halves.now.items =
    c.place_of.ensures ∙ (ap (λ n. position (is_half_named n) c.deref.result.now) c.as_slice.ensures
    ∙ ap (position (is_half_named name)) c.deref.ensures.value) in
    c.remove-gone.ensures.items ∙ removed-there name c.args.halves.now.items c.in-Some.i c.requires.stored.kept.apart (sym place
    ∙ c.in-Some.is)
