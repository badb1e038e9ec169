-- What the words of a command stand for. A reason for which words stand for nothing is one of a line of a script, and isn't told.
use Rattle.std.specs.Prelude.{◌≡◌, ℕ, ◌-◌, ◌^◌, nat_le, Bool, false, List, [], ◌∷◌, map, if◌then◌else◌, codes, Option, Some, Result, Ok, Err, IsErr}
use Rattle.std.specs.Str.{bytes_eq}
use Rattle.std.specs.String.{string_bytes}
use Rattle.std.specs.declared.string.String.{String}
use Rattle.std.specs.declared.alloc.Global.{Global}
use Rattle.ikl_base.specs.Answers.{Refuses}
use Rattle.ikl_base.specs.declared.address.Addr.{Addr}
use Rattle.ikl_base.specs.declared.fault.OrMemory.{OrMemory}
use Rattle.ikl_base.specs.declared.fault.OrMemory.TheVariants as failures
use Rattle.ikl_base.specs.declared.status.LineFault.{LineFault}
use Rattle.ikl_base.specs.declared.status.LineFault.TheVariants as faults
use Rattle.yang_values.specs.Addresses.{address_of}
use Rattle.yang_values.specs.Numbers.{number_of}
use Rattle.line_words.specs.Words.{◌>>=◌, or_fault, one_of, number_in}
use Rattle.clap.specs.Words.{App, Row, Text, all_of, fault_of, first_of, found_of, matches_of, rows_of}
use Rattle.clap.specs.Kinds.{Kinds}
use Rattle.clap.specs.declared.parser.matches.ArgMatches.{ArgMatches}
use Rattle.live_words.specs.declared.matching.BadWords.{BadWords}

-- ---- the answer

-- the words aren't those of the command
abbrev pub IsRefused : {A : Type 0} → OrMemory BadWords → Result A LineFault → Type 0
IsRefused (failures.Refused bad) stated = IsErr stated
IsRefused failures.NoMemory stated = Unit {0}

-- the answer is the value stated, or a refusal where none is, unless memory ran out
abbrev pub Reads : {A : Type 0} → Result A (OrMemory BadWords) → Result A LineFault → Type 0
Reads (Ok x) stated = stated ≡ Ok x
Reads (Err e) stated = IsRefused e stated

-- ---- what is matched

-- the first word is the name of the command
abbrev pub begins_with : List ℕ → List (String Global) → Bool
begins_with name [] = false
begins_with name (word ∷ words) = bytes_eq (string_bytes word) name

-- nothing is matched where there is a fault of any kind
abbrev pub unless_faults : Kinds → List Row → Result (List Row) LineFault
unless_faults [] rows = Ok rows
unless_faults (kind ∷ kinds) rows = Err faults.Word

-- the values of the command's arguments, where the words are its
unfoldable pub matched : App → List (String Global) → Result (List Row) LineFault
matched app words = unless_faults (fault_of app (map string_bytes words)) (matches_of app (map string_bytes words))

-- the same, where the first word is its name
abbrev pub matched_by : List ℕ → App → List (String Global) → Result (List Row) LineFault
matched_by name app words = if begins_with name words then matched app words else Err faults.Word

-- what `clap` found is what is stated, or it refuses where nothing is, unless memory ran out
abbrev pub GivesRows : Result ArgMatches (OrMemory LineFault) → Result (List Row) LineFault → Type 0
GivesRows (Ok m) stated = stated ≡ Ok (rows_of (found_of m))
GivesRows (Err e) stated = Refuses e stated

-- the value of an argument
abbrev pub value_at : Text → List Row → Result (List ℕ) LineFault
value_at name rows = one_of faults.Count (first_of name rows)

-- the values of an argument that has several
abbrev pub values_at : Text → List Row → Result (List (List ℕ)) LineFault
values_at name rows = one_of faults.Count (all_of name rows)

-- ---- single values

-- a number from 1
abbrev pub not_zero : ℕ → Result ℕ LineFault
not_zero n = if nat_le 1 n then Ok n else Err faults.Number

-- a port from 1 to 65,535
abbrev pub port_of : List ℕ → Result ℕ LineFault
port_of w = number_in faults.Number 65535 w >>= not_zero

-- a number from 1 to 2 ^ 32 - 1
abbrev pub count_of : List ℕ → Result ℕ LineFault
count_of w = number_in faults.Number (2 ^ 32 - 1) w >>= not_zero

-- an IPv4 or IPv6 address, spelled as in scripts
abbrev pub address_in : List ℕ → Result Addr LineFault
address_in w = or_fault faults.Number (address_of w)

-- the port, from 1 to 65,535, that is the value of this argument
abbrev pub port_at : Text → List Row → Result ℕ LineFault
port_at name rows = value_at name rows >>= port_of

-- the number from 1 to 2^32 - 1 that is the value of this argument
abbrev pub count_at : Text → List Row → Result ℕ LineFault
count_at name rows = value_at name rows >>= count_of

-- the address that is the value of this argument
abbrev pub address_at : Text → List Row → Result Addr LineFault
address_at name rows = value_at name rows >>= address_in

-- a number from 0 to 2 ^ 64 - 1
abbrev pub wide_at : Text → List Row → Result ℕ LineFault
wide_at name rows = value_at name rows >>= number_in faults.Number (2 ^ 64 - 1)
