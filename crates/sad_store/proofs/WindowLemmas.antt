-- What an association without a fault says of its window.
use Rattle.std.proofs.Common.{◌≡◌, Bool, true, false, not, nat_lt, length, Option, Some, None, refl, if◌then◌else◌}
use Rattle.ikeless_tree.specs.declared.sad.SadEntry.{SadEntry}
use Rattle.ikeless_tree.specs.declared.fault.TreeFault.{TreeFault}
use Rattle.ikeless_tree.specs.declared.fault.TreeFault.TheVariants as faults
use Rattle.ikeless_tree.specs.Check.{sad_fault, is_sad_name, is_key_length, is_window}

passed : (b : Bool) (fault : TreeFault) (rest : Option TreeFault) → (if b then Some fault else rest) ≡ None → (b ≡ false) × (rest ≡ None)
passed true fault rest e = cc
passed false fault rest e = (refl, e)

pub window-fits : (e : SadEntry) → sad_fault e ≡ None → is_window e.window ≡ true
unfolding sad_fault
window-fits e none =
    let a = passed (not (is_sad_name e.name)) faults.BadName _ none in
    let b = passed (nat_lt e.spi 256) faults.BadSpi _ a.1 in
    let c = passed (not (is_key_length (length e.key))) faults.BadKeyLength _ b.1 in
    let d = passed (not (is_window e.window)) faults.BadWindow _ c.1 in
    fits (is_window e.window) d.0
  where
    fits : (b : Bool) → not b ≡ false → b ≡ true
    fits true p = refl
    fits false p = cc
