use Rattle.std.proofs.Common.{◌≡◌, ◌++◌}
use Rattle.drill_script.specs.Script.{keys_text}
use Rattle.drill_script.proofs.script.put_keys.Given as goal

abbrev pub invariant-keys : goal.invariant-keys
invariant-keys l = l.out.items ≡ l.initial.out.items ++ keys_text l.k
