use Rattle.std.proofs.Common.{◌≡◌}
use Rattle.serde_json.specs.View.{members_view}
use Rattle.json_values.specs.Shapes.{names_in, has_unknown}
use Rattle.json_values.proofs.shapes.some_is_unknown.Given as goal

abbrev pub invariant-loop-key : goal.invariant-loop-key
invariant-loop-key l =
    (goal.iterator-loop-key).can_next l.key-iterator ×
    (goal.iterator-loop-key).is_finite l.key-iterator ×
    (has_unknown (names_in l.fn.names) (members_view l.key-iterator) ≡ has_unknown (names_in l.fn.names)
    (members_view l.fn.members.entries))
