use Rattle.std.proofs.Common.{ℕ, List, ap, ◌∙◌, option_and_then, slice_get, position}
use Rattle.sad_store.specs.declared.half.Half.{Half}
use Rattle.sad_store.specs.Columns.{last_place}
use Rattle.sad_store.specs.Halves.{is_half_of_spi}
use Rattle.sad_store.proofs.PlaceLemmas.{found-there, spi-there}
use Rattle.sad_store.proofs.store.SadStore.by_spi.Goals as goal

pub returns-clause-place : goal.returns-clause-place
returns-clause-place c =
    let spi = c.args.spi in
    let keys = c.self.inside.spis.keys.items in
    c.last.ensures
    ∙ (ap (λ (n : ℕ). last_place n keys) c.from.ensures
    ∙ (spi-there spi c.self.inside.halves.items keys c.self.invariant.kept.spis c.self.invariant.apart
    ∙ ap (λ (xs : List Half). position (is_half_of_spi spi) xs) c.self.view_is))

pub returns-clause-half : goal.returns-clause-half
returns-clause-half c =
    let spi = c.args.spi in
    let xs = c.args.self.now in
    let keys = c.self.inside.spis.keys.items in
    let place = c.last.ensures
    ∙ (ap (λ (n : ℕ). last_place n keys) c.from.ensures
    ∙ (spi-there spi c.self.inside.halves.items keys c.self.invariant.kept.spis c.self.invariant.apart
    ∙ ap (λ (ys : List Half). position (is_half_of_spi spi) ys) c.self.view_is)) in
    ap (λ p. option_and_then (slice_get xs) p) place ∙ found-there (is_half_of_spi spi) xs
