use Rattle.sad_store.proofs.ColumnLemmas.{indexed-more}
use Rattle.sad_store.proofs.column.inserted.Goals as goal

pub returns-in-Ok : goal.returns-in-Ok
returns-in-Ok c = indexed-more c.args.places c.insert.new.self c.args.before.now c.args.key c.requires c.in-Ok.ensures.updates
