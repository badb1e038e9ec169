use Rattle.std.proofs.Common.{length, position, ap, sym, ◌∙◌}
use Rattle.sad_store.specs.Halves.{is_half_of_spi}
use Rattle.sad_store.proofs.PlaceLemmas.{some-within}
use Rattle.gw_tables.specs.Kept.{Kept}
use Rattle.gw_tables.proofs.Lists.{if-some}
use Rattle.gw_tables.proofs.tables.Tables.by_spi.Goals as goal

pub returns-clause-within : goal.returns-clause-within
returns-clause-within c =
    let spi = c.args.spi in
    let place = c.by_spi.ensures.place ∙ ap (λ (k : Kept). position (is_half_of_spi spi) k.halves) c.self.view_is in
    if-some c.by_spi.result (length c.args.self.now.halves) (λ i at. some-within (is_half_of_spi spi) c.args.self.now.halves i (sym place
    ∙ at))
