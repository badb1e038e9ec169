use Rattle.std.proofs.Common.{◌≡◌, drop}
use Rattle.hist_gateway.specs.Places.{without_all}
use Rattle.gw_tables.proofs.uses.take_out.Given as goal

abbrev pub invariant-loop-name : goal.invariant-loop-name
invariant-loop-name l = without_all (drop l.name-index l.names) l.halves ≡ without_all l.names l.initial.halves
