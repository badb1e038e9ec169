use Rattle.std.proofs.Common.{arith}
use Rattle.std.proofs.lemmas.Bool.Decides.{nat_tests}
use Rattle.sad_store.proofs.WindowLemmas.{window-fits}
use Rattle.sad_store.proofs.store.begin.Goals as goal

pub new-requires-clause-least : goal.new-requires-clause-least
new-requires-clause-least c = let w = window-fits c.args.e c.requires in grind (arith, nat_tests)

pub new-requires-clause-most : goal.new-requires-clause-most
new-requires-clause-most c = let w = window-fits c.args.e c.requires in grind (arith, nat_tests)
