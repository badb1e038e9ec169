-- The exit number and the printed name of each status, of this project.
use Rattle.std.specs.Prelude.{ℕ, List, codes}
use Rattle.ikl_base.specs.declared.status.Status.{Status}
use Rattle.ikl_base.specs.declared.status.Status.TheVariants as statuses

-- the exit number of the process; 0 is success
abbrev pub number_of : Status → ℕ
number_of statuses.Done = 0
number_of statuses.Words = 2
number_of (statuses.Line line reason) = 3
number_of statuses.ReadFault = 4
number_of statuses.WriteFault = 5
number_of statuses.NoMemory = 6
number_of (statuses.Forged line octets) = 7
number_of statuses.TooLong = 8
number_of statuses.DeviceFault = 9
number_of statuses.TurnsSpent = 10
number_of statuses.LinkFault = 11
number_of statuses.BadReply = 12
number_of statuses.Denied = 13

-- the name on the last line of standard error, for each status but Done
abbrev pub name_text : Status → List ℕ
name_text statuses.Done = codes "Done"
name_text statuses.Words = codes "Words"
name_text (statuses.Line line reason) = codes "Line"
name_text statuses.ReadFault = codes "ReadFault"
name_text statuses.WriteFault = codes "WriteFault"
name_text statuses.NoMemory = codes "NoMemory"
name_text (statuses.Forged line octets) = codes "Forged"
name_text statuses.TooLong = codes "TooLong"
name_text statuses.DeviceFault = codes "DeviceFault"
name_text statuses.TurnsSpent = codes "TurnsSpent"
name_text statuses.LinkFault = codes "LinkFault"
name_text statuses.BadReply = codes "BadReply"
name_text statuses.Denied = codes "Denied"
