-- What an entry without a fault says of its key and its addresses.
use Rattle.std.proofs.Common.{◌≡◌, ◌⊎◌, ℕ, Bool, true, false, not, nat_lt, length, Option, Some, None, refl, if◌then◌else◌, arith}
use Rattle.std.proofs.lemmas.Bool.Decides.{nat_tests}
use Rattle.ikl_base.specs.Address.{is_one_family}
use Rattle.ikeless_tree.specs.declared.sad.SadEntry.{SadEntry}
use Rattle.ikeless_tree.specs.declared.fault.TreeFault.{TreeFault}
use Rattle.ikeless_tree.specs.declared.fault.TreeFault.TheVariants as faults
use Rattle.ikeless_tree.specs.declared.fault.Feature.TheVariants as features
use Rattle.ikeless_tree.specs.Check.{sad_fault, is_sad_name, is_key_length, is_window, has_empty_range, has_many_ranges}

passed : (b : Bool) (fault : TreeFault) (rest : Option TreeFault) → (if b then Some fault else rest) ≡ None → (b ≡ false) × (rest ≡ None)
passed true fault rest e = cc
passed false fault rest e = (refl, e)

holds : (b : Bool) → not b ≡ false → b ≡ true
holds true e = refl
holds false e = cc

one-of : (n : ℕ) → is_key_length n ≡ true → (n ≡ 20) ⊎ (n ≡ 36)
one-of n e = grind (arith, nat_tests)

pub key-fits : (e : SadEntry) → sad_fault e ≡ None → (length e.key ≡ 20) ⊎ (length e.key ≡ 36)
unfolding sad_fault
key-fits e none =
    let a = passed (not (is_sad_name e.name)) faults.BadName _ none in
    let b = passed (nat_lt e.spi 256) faults.BadSpi _ a.1 in
    let c = passed (not (is_key_length (length e.key))) faults.BadKeyLength _ b.1 in
    one-of (length e.key) (holds (is_key_length (length e.key)) c.0)

pub family-fits : (e : SadEntry) → sad_fault e ≡ None → is_one_family e.local e.remote ≡ true
unfolding sad_fault
family-fits e none =
    let a = passed (not (is_sad_name e.name)) faults.BadName _ none in
    let b = passed (nat_lt e.spi 256) faults.BadSpi _ a.1 in
    let c = passed (not (is_key_length (length e.key))) faults.BadKeyLength _ b.1 in
    let d = passed (not (is_window e.window)) faults.BadWindow _ c.1 in
    let f = passed (has_empty_range e.selector) faults.EmptyRange _ d.1 in
    let g = passed (has_many_ranges e.selector) (faults.Unsupported features.Ports) _ f.1 in
    let h = passed (not (is_one_family e.local e.remote)) (faults.Unsupported features.Tunnel) _ g.1 in
    holds (is_one_family e.local e.remote) h.0
