-- What a call that reads and allocates answers.
use Rattle.std.specs.Prelude.{◌≡◌, Result, Ok, Err}
use Rattle.ikl_base.specs.declared.fault.OrMemory.{OrMemory}
use Rattle.ikl_base.specs.declared.fault.OrMemory.TheVariants.{Refused, NoMemory}
use Rattle.yang_values.specs.declared.value.BadValue.{BadValue}

-- the answer is what reading gives, unless memory ran out
abbrev pub Reads : {A : Type 0} → Result A (OrMemory BadValue) → Result A BadValue → Type 0
Reads (Ok x) reading = reading ≡ Ok x
Reads (Err (Refused e)) reading = reading ≡ Err e
Reads (Err NoMemory) reading = Unit {0}
