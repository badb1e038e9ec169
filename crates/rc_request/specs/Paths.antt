-- The paths of the resources (RFC 8040 section 3.5.3): the databases of the container ipsec-ikeless of the module
-- ietf-i2nsf-ikeless (RFC 9061 section 5.3), and their entries by name.
use Rattle.std.specs.Prelude.{ℕ, ◌/◌, ◌%◌, ◌||◌, ◌==◌, List, [], ◌∷◌, ◌++◌, length, take, drop, Bool, true, codes, if◌then◌else◌, Option, Some, None}
use Rattle.std.specs.List.{flat_map, list_any}
use Rattle.std.specs.Option.{option_map}
use Rattle.std.specs.Char.{is_ascii_alphanumeric}
use Rattle.std.specs.Fmt.{digit_glyph}
use Rattle.std.specs.Str.{bytes_eq}
use Rattle.percent_encoding.specs.Percent.{percent_decode}
use Rattle.ikeless_tree.specs.Check.{is_spd_name, is_sad_name}
use Rattle.rc_request.specs.declared.resource.Resource.{Resource}
use Rattle.rc_request.specs.declared.resource.Resource.TheVariants as resources

-- ---- list keys

-- a letter, a digit, `-`, `.`, `_` or `~` (RFC 3986 section 2.3)
abbrev pub is_unreserved : ℕ → Bool
is_unreserved b = is_ascii_alphanumeric b || list_any (λ c. c == b) (codes "-._~")

-- an octet as it is written in a list key: every other one as `%` and two hex digits
abbrev pub escape_octet : ℕ → List ℕ
escape_octet b = if is_unreserved b then b ∷ [] else 37 ∷ digit_glyph true (b / 16 % 16) ∷ digit_glyph true (b % 16) ∷ []

-- a name as it is written in a path
unfoldable pub escaped : List ℕ → List ℕ
escaped name = flat_map escape_octet name

-- a name as it is read in a path: a text with a slash in it, or one that decodes to no name, is none
unfoldable pub key_of : (List ℕ → Bool) → List ℕ → Option (List ℕ)
key_of is_name text =
    if list_any (λ c. c == 47) text then None
    else if is_name (percent_decode text) then Some (percent_decode text)
    else None

-- ---- paths

-- what stands behind this front, where the text has it
abbrev pub after_front : List ℕ → List ℕ → Option (List ℕ)
after_front front text = if bytes_eq (take (length front) text) front then Some (drop (length front) text) else None

-- the databases in the container
abbrev pub database_at : List ℕ → Option Resource
database_at text =
    if bytes_eq text (codes "/spd") then Some resources.Spd
    else if bytes_eq text (codes "/sad") then Some resources.Sad
    else None

-- a half by its key, or what the path is else
abbrev pub or_half : List ℕ → Option (List ℕ) → Option Resource
or_half text (Some key) = option_map resources.SadEntry (key_of is_sad_name key)
or_half text None = database_at text

-- a policy by its key, or what the path is else
abbrev pub or_policy : List ℕ → Option (List ℕ) → Option Resource
or_policy text (Some key) = option_map resources.SpdEntry (key_of is_spd_name key)
or_policy text None = or_half text (after_front (codes "/sad/sad-entry=") text)

-- the resources in the container
abbrev pub resource_in : List ℕ → Option Resource
resource_in text = or_policy text (after_front (codes "/spd/spd-entry=") text)

-- the resource of what stands behind the container's path, where the path has it
abbrev pub in_container : Option (List ℕ) → Option Resource
in_container (Some text) = resource_in text
in_container None = None

-- the resource of a path
unfoldable pub resource_of : List ℕ → Option Resource
resource_of path = in_container (after_front (codes "/restconf/data/ietf-i2nsf-ikeless:ipsec-ikeless") path)

-- the path that is written for an entry of the policies, and of the halves
abbrev pub policy_path : List ℕ → List ℕ
policy_path name = codes "/restconf/data/ietf-i2nsf-ikeless:ipsec-ikeless/spd/spd-entry=" ++ escaped name

-- the path that is written for an entry of the halves
abbrev pub half_path : List ℕ → List ℕ
half_path name = codes "/restconf/data/ietf-i2nsf-ikeless:ipsec-ikeless/sad/sad-entry=" ++ escaped name
