use Rattle.std.proofs.Common.{◌≡◌, take}
use Rattle.sad_store.specs.Halves.{names_of}
use Rattle.sad_store.proofs.store.names_in.Given as goal

abbrev pub invariant-loop-half : goal.invariant-loop-half
invariant-loop-half l = l.names.items ≡ names_of (take l.half-index l.halves)
