use Rattle.std.proofs.Common.{◌≡◌, drop}
use Rattle.rc_request.specs.Queries.{texts, with_parameters}
use Rattle.rc_request.proofs.query.with_parameters.Given as goal

abbrev pub invariant-loop-text : goal.invariant-loop-text
invariant-loop-text l = with_parameters l.found (texts (drop l.text-index l.list)) ≡ with_parameters l.initial.found (texts l.list)
