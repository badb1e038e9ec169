use Rattle.std.proofs.Common.{◌≡◌, ◌&&◌, ℕ, List, Bool, true, is_some, sym, ap, ◌∙◌}
use Rattle.std.specs.List.{list_any}
use Rattle.ikeless_tree.specs.Half.{is_inbound}
use Rattle.sad_store.specs.declared.half.Half.{Half}
use Rattle.sad_store.specs.Columns.{last_place}
use Rattle.sad_store.specs.Halves.{is_half_of_spi}
use Rattle.sad_store.proofs.PlaceLemmas.{spi-taken}
use Rattle.sad_store.proofs.store.SadStore.has_spi_of.Goals as goal

pub returns-then-comes_in : goal.returns-then-comes_in
returns-then-comes_in c =
    let spi : ℕ = c.args.e.now.spi in
    let keys = c.self.inside.spis.keys.items in
    let own : is_inbound c.args.e.now.name ≡ true = sym c.comes_in.ensures ∙ c.if-comes_in.true in
    c.is_some.ensures
    ∙ (ap is_some (c.last.ensures ∙ ap (λ (n : ℕ). last_place n keys) c.from.ensures)
    ∙ (spi-taken spi c.self.inside.halves.items keys c.self.invariant.kept.spis
    ∙ (ap (λ (xs : List Half). list_any (is_half_of_spi spi) xs) c.self.view_is
    ∙ ap (λ (b : Bool). b && list_any (is_half_of_spi spi) c.args.self.now) (sym own))))
