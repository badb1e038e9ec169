-- What is told of a sink that nothing was written to.
use Rattle.std.proofs.Common.{ℕ, List, [], Option, Some, None, sym, append-nil}
use Rattle.ikl_base.specs.Outside.{Gains}

pub gains_none : (a : Option (List ℕ)) → Gains a a []
gains_none None = tt
gains_none (Some x) = sym (append-nil x)
