use Rattle.std.proofs.Common.{Some, ◌++◌, ◌∷◌, [], sym, subst}
use Rattle.sad_store.specs.Columns.{IsIndexed}
use Rattle.sad_store.proofs.ColumnLemmas.{indexed-none}
use Rattle.sad_store.proofs.column.noted.Goals as goal

pub returns-in-Some-None : goal.returns-in-Some-None
returns-in-Some-None c =
    let m = c.in-Some-None.places in
    let before = c.args.before.now in
    let is = subst (λ p. IsIndexed before p) c.in-Some-None.is-0 c.requires in
    subst (λ k. IsIndexed (before ++ k ∷ []) (Some m)) (sym c.in-Some-None.is-1) (indexed-none m before is)
