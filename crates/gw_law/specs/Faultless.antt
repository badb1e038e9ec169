-- Acts that put nothing with a fault into a gateway's databases.
use Rattle.std.specs.Prelude.{◌≡◌, None}
use Rattle.ikeless_tree.specs.Check.{sad_fault, spd_fault}
use Rattle.hist_acts.specs.declared.act.Act.{Act}
use Rattle.hist_acts.specs.declared.act.Act.TheVariants as acts

-- a list that is put in force has no fault, nor has a half that is installed
abbrev pub HasNoFault : Act → Type 0
HasNoFault (acts.Policy f list) = spd_fault list ≡ None
HasNoFault (acts.Put f e) = sad_fault e ≡ None
HasNoFault _ = Unit {0}
