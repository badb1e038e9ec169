-- What a body stands for, or the first fault of it (RFC 7951, RFC 8259).
use Rattle.std.specs.Prelude.{◌≡◌, ℕ, List, Option, Some, None, Result, Err, if◌then◌else◌}
use Rattle.std.specs.Str.{is_utf8}
use Rattle.serde_json.specs.Data.{Data}
use Rattle.serde_json.specs.Read.{read}
use Rattle.ikl_base.specs.declared.fault.OrMemory.{OrMemory}
use Rattle.ikl_base.specs.declared.fault.OrMemory.TheVariants as failures
use Rattle.ikeless_tree.specs.declared.entry.SpdEntry.{SpdEntry}
use Rattle.ikeless_tree.specs.declared.sad.SadEntry.{SadEntry}
use Rattle.ikeless_tree.specs.declared.command.Command.{Command}
use Rattle.json_values.specs.declared.fault.Fault.{Fault}
use Rattle.json_values.specs.declared.fault.CodecFault.{CodecFault}
use Rattle.json_values.specs.Faults.{no_json, told}
use Rattle.json_tree.specs.PolicyRead.{spd_in, one_spd_entry_in}
use Rattle.json_tree.specs.SadEntryRead.{one_sad_entry_in}
use Rattle.json_codec.specs.CommandRead.{command_in}

-- the value of octets that are JSON in UTF-8
unfoldable pub json_of : List ℕ → Option Data
json_of body = if is_utf8 body then read body else None

-- the refusal is that of octets that aren't JSON, unless memory ran out
abbrev pub IsNoJson : OrMemory CodecFault → Option Data → Type 0
IsNoJson (failures.Refused fault) json = (json ≡ None) × (fault ≡ no_json)
IsNoJson failures.NoMemory json = Unit {0}

-- what is read of a body, or the refusal of one that isn't JSON in UTF-8
abbrev pub body_read : {A : Type 0} → (Data → Result A Fault) → Option Data → Result A CodecFault
body_read f None = Err no_json
body_read f (Some d) = told (f d)

-- the policies of a body
abbrev pub spd_of : List ℕ → Result (List SpdEntry) CodecFault
spd_of body = body_read spd_in (json_of body)

-- the one policy of a body
abbrev pub spd_entry_of : List ℕ → Result SpdEntry CodecFault
spd_entry_of body = body_read one_spd_entry_in (json_of body)

-- the one half of a body
abbrev pub sad_entry_of : List ℕ → Result SadEntry CodecFault
sad_entry_of body = body_read one_sad_entry_in (json_of body)

-- the command that a body gives to an operation
abbrev pub command_of : List ℕ → List ℕ → Result Command CodecFault
command_of operation body = body_read (command_in operation) (json_of body)
