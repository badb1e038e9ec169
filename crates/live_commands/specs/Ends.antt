-- What the status of a command tells of its words.
use Rattle.std.specs.Prelude.{Result, IsErr, IsOk}
use Rattle.ikl_base.specs.declared.status.LineFault.{LineFault}
use Rattle.ikl_base.specs.declared.status.Status.{Status}
use Rattle.ikl_base.specs.declared.status.Status.TheVariants as statuses

-- Words exactly where the words aren't the command's, unless memory ran out
abbrev pub IsOfWords : {A : Type 0} → Status → Result A LineFault → Type 0
IsOfWords statuses.Words stated = IsErr stated
IsOfWords statuses.NoMemory stated = Unit {0}
IsOfWords _ stated = IsOk stated
