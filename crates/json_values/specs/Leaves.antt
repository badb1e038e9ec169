-- Leaves (RFC 7951 section 6, over the YANG module ietf-i2nsf-ikeless of RFC 9061): first the kind of the value and
-- its spelling, then its range, then whether it is supported.
use Rattle.std.specs.Prelude.{ℕ, ◌-◌, ◌^◌, ◌==◌, ◌&&◌, nat_le, Bool, true, false, List, codes, length, if◌then◌else◌, Option, Some, None, option_and_then, Result, Ok, Err, ⊤}
use Rattle.std.specs.Str.{bytes_eq}
use Rattle.serde_json.specs.Data.{Data}
use Rattle.serde_json.specs.Find.{get, as_number, as_u64, as_str, as_bool}
use Rattle.ikl_base.specs.declared.address.Addr.{Addr}
use Rattle.ikl_base.specs.declared.address.Prefix.{Prefix}
use Rattle.ikeless_tree.specs.declared.entry.Direction.{Direction}
use Rattle.ikeless_tree.specs.declared.entry.Action.{Action}
use Rattle.ikeless_tree.specs.declared.entry.Action.TheVariants as actions
use Rattle.ikeless_tree.specs.declared.sad.Df.{Df}
use Rattle.ikeless_tree.specs.declared.sad.Df.TheVariants as bits
use Rattle.ikeless_tree.specs.Check.{is_key_length}
use Rattle.yang_values.specs.Numbers.{u64_of}
use Rattle.yang_values.specs.Addresses.{address_of}
use Rattle.yang_values.specs.Prefixes.{prefix_of}
use Rattle.yang_values.specs.HexText.{hex_of}
use Rattle.json_values.specs.declared.fault.Fault.{Fault}
use Rattle.json_values.specs.declared.fault.Kind.{Kind}
use Rattle.json_values.specs.declared.fault.Kind.TheVariants as kinds
use Rattle.json_values.specs.Faults.{at_member, ◌>>=◌, or_kind}
use Rattle.ikeless_tree.specs.Words.{direction_of_word, action_of, df_of, mode_of}

-- ---- kinds of values

-- a value of another kind than the leaf has is misspelt
abbrev pub or_form : {A : Type 0} → Option A → Result A Kind
or_form None = Err kinds.Form
or_form (Some x) = Ok x

-- an absent leaf is missing
abbrev pub or_missing : {A : Type 0} → Option A → Result A Kind
or_missing None = Err kinds.Missing
or_missing (Some x) = Ok x

-- the octets of a JSON string
abbrev pub text_in : Data → Result (List ℕ) Kind
text_in d = or_form (as_str d)

-- the number, if it is from `least` to `most`
abbrev pub in_range : ℕ → ℕ → ℕ → Result ℕ Kind
in_range least most n = if nat_le least n && nat_le n most then Ok n else Err kinds.Range

-- a number from `least` to `most`
abbrev pub number_in : ℕ → ℕ → Data → Result ℕ Kind
number_in least most d = or_form (option_and_then as_u64 (as_number d)) >>= in_range least most

-- a number of 64 bits, which stands as a string (RFC 7951 section 6.1)
abbrev pub wide_from : List ℕ → Result ℕ Kind
wide_from t = or_kind (u64_of t)

-- the number of 64 bits in a JSON string
abbrev pub wide_in : Data → Result ℕ Kind
wide_in d = text_in d >>= wide_from

-- ---- leaves of their own

-- the string of a leaf that is needed
abbrev pub needed_text : Option Data → Result (List ℕ) Kind
needed_text leaf = or_missing leaf >>= text_in

-- the number of a leaf that is needed, from `least` to `most`
abbrev pub needed_number : ℕ → ℕ → Option Data → Result ℕ Kind
needed_number least most leaf = or_missing leaf >>= number_in least most

-- the number of 64 bits of a leaf that is needed
abbrev pub needed_wide : Option Data → Result ℕ Kind
needed_wide leaf = or_missing leaf >>= wide_in

-- an absent number is this one
abbrev pub number_or : ℕ → ℕ → ℕ → Option Data → Result ℕ Kind
number_or absent least most None = Ok absent
number_or absent least most (Some d) = number_in least most d

-- an absent number of 64 bits is this one
abbrev pub wide_or : ℕ → Option Data → Result ℕ Kind
wide_or absent None = Ok absent
wide_or absent (Some d) = wide_in d

-- an absent number of 32 bits is this one
abbrev pub count_or : ℕ → Option Data → Result ℕ Kind
count_or absent leaf = number_or absent 0 (2 ^ 32 - 1) leaf

-- the prefix that a text spells; one out of range differs from one misspelt
abbrev pub prefix_from : List ℕ → Result Prefix Kind
prefix_from t = or_kind (prefix_of t)

-- the prefix of a leaf that is needed
abbrev pub prefix_leaf : Option Data → Result Prefix Kind
prefix_leaf leaf = needed_text leaf >>= prefix_from

-- the address that a text spells
abbrev pub address_from : List ℕ → Result Addr Kind
address_from t = or_kind (address_of t)

-- the address of a leaf that is needed
abbrev pub address_leaf : Option Data → Result Addr Kind
address_leaf leaf = needed_text leaf >>= address_from

-- the word `any`, the only one that a protocol may be
abbrev pub any_protocol : List ℕ → Result (Option ℕ) Kind
any_protocol t = if bytes_eq t (codes "any") then Ok None else Err kinds.Unsupported

-- the number of one protocol, from 0 to 255
abbrev pub one_protocol : Data → Result (Option ℕ) Kind
one_protocol d = number_in 0 255 d >>= (λ n. Ok (Some n))

-- a protocol as a string is a word, else a number
abbrev pub protocol_from : Option (List ℕ) → Data → Result (Option ℕ) Kind
protocol_from None d = one_protocol d
protocol_from (Some t) d = any_protocol t

-- a number below 256, or any
abbrev pub protocol_leaf : Option Data → Result (Option ℕ) Kind
protocol_leaf None = Ok None
protocol_leaf (Some d) = protocol_from (as_str d) d

-- the value of a word, which is one of the enumeration
abbrev pub or_unsupported : {A : Type 0} → Option A → Result A Kind
or_unsupported None = Err kinds.Unsupported
or_unsupported (Some x) = Ok x

-- the direction of a word
abbrev pub direction_from : List ℕ → Result Direction Kind
direction_from t = or_unsupported (direction_of_word t)

-- the direction of a policy, which is needed
abbrev pub direction_leaf : Option Data → Result Direction Kind
direction_leaf leaf = needed_text leaf >>= direction_from

-- the action of a word
abbrev pub action_from : List ℕ → Result Action Kind
action_from t = or_unsupported (action_of t)

-- the action of a policy; an absent one is `discard`
abbrev pub action_leaf : Option Data → Result Action Kind
action_leaf None = Ok actions.Discard
action_leaf (Some d) = text_in d >>= action_from

-- the rule for the outer DF bit, of a word
abbrev pub df_from : List ℕ → Result Df Kind
df_from t = or_unsupported (df_of t)

-- the rule for the outer DF bit; an absent one is `copy`
abbrev pub df_leaf : Option Data → Result Df Kind
df_leaf None = Ok bits.Copy
df_leaf (Some d) = text_in d >>= df_from

-- whether a word says that keys are asked for at once
abbrev pub mode_from : List ℕ → Result Bool Kind
mode_from t = or_unsupported (mode_of t)

-- whether keys are asked for at once, in a leaf that is needed
abbrev pub mode_leaf : Option Data → Result Bool Kind
mode_leaf leaf = needed_text leaf >>= mode_from

-- ---- leaves that have one value, which an absent one has too

-- the one word that is supported
abbrev pub this_word : List ℕ → List ℕ → Result ⊤ Kind
this_word word t = if bytes_eq t word then Ok tt else Err kinds.Unsupported

-- a leaf that may be absent, and else is this word
abbrev pub fixed_word : List ℕ → Option Data → Result ⊤ Kind
fixed_word word None = Ok tt
fixed_word word (Some d) = text_in d >>= this_word word

-- the one number that is supported
abbrev pub this_number : ℕ → ℕ → Result ⊤ Kind
this_number n m = if m == n then Ok tt else Err kinds.Unsupported

-- a leaf that may be absent, and else is this number
abbrev pub fixed_number : ℕ → Option Data → Result ⊤ Kind
fixed_number n None = Ok tt
fixed_number n (Some d) = or_form (option_and_then as_u64 (as_number d)) >>= this_number n

-- what isn't supported must not be asked for
abbrev pub not_set : Bool → Result ⊤ Kind
not_set false = Ok tt
not_set true = Err kinds.Unsupported

-- a leaf that may be absent, and else is `false`
abbrev pub unset_leaf : Option Data → Result ⊤ Kind
unset_leaf None = Ok tt
unset_leaf (Some d) = or_form (as_bool d) >>= not_set

-- ---- names and keys

-- a text that passes the test of a name
abbrev pub name_where : (List ℕ → Bool) → List ℕ → Result (List ℕ) Kind
name_where is_name t = if is_name t then Ok t else Err kinds.Name

-- a name that passes this test
abbrev pub name_leaf : (List ℕ → Bool) → Option Data → Result (List ℕ) Kind
name_leaf is_name leaf = needed_text leaf >>= name_where is_name

-- the name in the member of this name, with the place of its fault
abbrev pub name_in : List ℕ → (List ℕ → Bool) → Data → Result (List ℕ) Fault
name_in name is_name d = at_member name (name_leaf is_name (get name d))

-- the octets that a `hex-string` spells
abbrev pub octets_from : List ℕ → Result (List ℕ) Kind
octets_from t = or_kind (hex_of t)

-- the octets of a leaf that is needed
abbrev pub octets_leaf : Option Data → Result (List ℕ) Kind
octets_leaf leaf = needed_text leaf >>= octets_from

-- octets that have a length of keying material, 20 or 36
abbrev pub keying : List ℕ → Result (List ℕ) Kind
keying key = if is_key_length (length key) then Ok key else Err kinds.Range

-- an AES key and its salt, as a `hex-string`
abbrev pub key_leaf : Option Data → Result (List ℕ) Kind
key_leaf leaf = octets_leaf leaf >>= keying
