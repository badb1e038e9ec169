-- The words of a line (the format of scripts is of this project: docs/FORMATS.md).
use Rattle.std.specs.Prelude.{ℕ, ◌-◌, ◌==◌, ◌&&◌, nat_le, Bool, List, [], ◌∷◌, ◌++◌, codes, if◌then◌else◌, Option, Some, None, Result, Ok, Err}
use Rattle.std.specs.List.{slice_split}
use Rattle.std.specs.Str.{bytes_eq}
use Rattle.ikl_base.specs.declared.status.LineFault.{LineFault}
use Rattle.ikl_base.specs.declared.status.LineFault.TheVariants as faults
use Rattle.ikl_base.specs.declared.address.Prefix.{Prefix}
use Rattle.ikeless_tree.specs.Check.{is_gateway, is_sad_name}
use Rattle.ikeless_tree.specs.declared.command.Peer.{Peer}
use Rattle.ikeless_tree.specs.declared.order.Lane.{Lane}
use Rattle.ikeless_tree.specs.Words as table
use Rattle.hist_acts.specs.Gateways.{is_named}
use Rattle.yang_values.specs.declared.value.BadValue.{BadValue}
use Rattle.yang_values.specs.Numbers.{number_of}
use Rattle.yang_values.specs.Prefixes.{prefix_of}
use Rattle.yang_values.specs.HexText.{digits_of}

-- What is read next, by what was read before; where that refuses the line, its reason stays.
infixl 10 ◌>>=◌
abbrev pub ◌>>=◌ : {A B : Type 0} → Result A LineFault → (A → Result B LineFault) → Result B LineFault
(Ok x) >>= f = f x
(Err e) >>= f = Err e

-- a value that isn't one refuses the line for this reason
abbrev pub or_fault : {A : Type 0} → LineFault → Result A BadValue → Result A LineFault
or_fault fault (Ok x) = Ok x
or_fault fault (Err e) = Err fault

-- a word that is none of an enumeration refuses the line for this reason
abbrev pub one_of : {A : Type 0} → LineFault → Option A → Result A LineFault
one_of fault (Some x) = Ok x
one_of fault None = Err fault

-- the octet between two words, 0x20
abbrev pub is_space : ℕ → Bool
is_space c = c == 32

-- a line is cut at each space, so a word may be empty
abbrev pub words : List ℕ → List (List ℕ)
words line = slice_split is_space line

-- the octets that a line may have
abbrev pub is_printable : ℕ → Bool
is_printable c = nat_le 32 c && nat_le c 126

-- the name of a gateway, which the header may lack
abbrev pub gateway_of : List ℕ → Result (List ℕ) LineFault
gateway_of w = if is_gateway w then Ok w else Err faults.Gateway

-- the name of one of the gateways
abbrev pub known_of : List Peer → List ℕ → Result (List ℕ) LineFault
known_of gateways w = if is_named gateways w then Ok w else Err faults.Gateway

-- what is read as the name of a half, or why it is none
abbrev pub half_name_of : List ℕ → Result (List ℕ) LineFault
half_name_of w = if is_sad_name w then Ok w else Err faults.Entry

-- a lane between a gateway and its controller
abbrev pub lane_of : List ℕ → Result Lane LineFault
lane_of w = one_of faults.Mode (table.lane_of w)

-- a number that is at most this
abbrev pub number_in : LineFault → ℕ → List ℕ → Result ℕ LineFault
number_in fault most w = or_fault fault (number_of most w)

-- a word that stands for a prefix of addresses, or else the line is refused for this reason
abbrev pub prefix_in : LineFault → List ℕ → Result Prefix LineFault
prefix_in fault w = or_fault fault (prefix_of w)

-- octets as hex digits, or a dash for none
abbrev pub octets_of : List ℕ → Result (List ℕ) LineFault
octets_of w = if bytes_eq w (codes "-") then Ok [] else or_fault faults.Hex (digits_of w)

-- what was read before, and what is read of the rest
abbrev pub onto : {A : Type 0} → List A → Result (List A) LineFault → Result (List A) LineFault
onto front (Ok rest) = Ok (front ++ rest)
onto front (Err e) = Err e

-- each word read, or the reason of the first that can't be
abbrev pub each : {A : Type 0} → (List ℕ → Result A LineFault) → List (List ℕ) → Result (List A) LineFault
each f [] = Ok []
each f (w ∷ ws) = f w >>= (λ x. each f ws >>= (λ xs. Ok (x ∷ xs)))
