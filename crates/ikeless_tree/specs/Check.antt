-- What is wrong in a list of policies or in an association: the profile of this project on the databases of RFC 4301.
use Rattle.std.specs.Prelude.{ℕ, ◌==◌, ◌&&◌, ◌||◌, not, nat_lt, nat_le, length, take, drop, Bool, List, [], ◌∷◌, ◌++◌, Option, Some, None, codes, if◌then◌else◌}
use Rattle.std.specs.List.{list_any, list_all}
use Rattle.std.specs.Str.{bytes_eq}
use Rattle.ikl_base.specs.Address.{is_one_family}
use Rattle.ikeless_tree.specs.declared.entry.Range.{Range}
use Rattle.ikeless_tree.specs.declared.entry.Selector.{Selector}
use Rattle.ikeless_tree.specs.declared.entry.SpdEntry.{SpdEntry}
use Rattle.ikeless_tree.specs.declared.sad.SadEntry.{SadEntry}
use Rattle.ikeless_tree.specs.declared.fault.TreeFault.{TreeFault}
use Rattle.ikeless_tree.specs.declared.fault.TreeFault.TheVariants as faults
use Rattle.ikeless_tree.specs.declared.fault.Feature.TheVariants as features

-- letters, digits, dot, underscore and dash
abbrev pub is_word_octet : ℕ → Bool
is_word_octet b = (nat_le 65 b && nat_le b 90) || (nat_le 97 b && nat_le b 122) || (nat_le 48 b && nat_le b 57) || (b == 46) || (b == 95)
    || (b == 45)

-- letters, digits, dot, underscore, dash and slash
abbrev pub is_path_octet : ℕ → Bool
is_path_octet b = is_word_octet b || (b == 47)

-- the name of a policy: 1 to 64 letters, digits and . _ / -
abbrev pub is_spd_name : List ℕ → Bool
is_spd_name name = nat_le 1 (length name) && nat_le (length name) 64 && list_all is_path_octet name

-- the part of an association's name after its direction: 1 to 60 letters, digits and . _ -
abbrev pub is_serial : List ℕ → Bool
is_serial text = nat_le 1 (length text) && nat_le (length text) 60 && list_all is_word_octet text

-- the name is this direction with its slash, and then a serial
abbrev pub has_front : List ℕ → List ℕ → Bool
has_front front name = nat_le (length front) (length name)
    && (bytes_eq (take (length front) name) front && is_serial (drop (length front) name))

-- the name of an association: its direction, a slash and a serial
abbrev pub is_sad_name : List ℕ → Bool
is_sad_name name = has_front (codes "in/") name || has_front (codes "out/") name

-- the size of an anti-replay window in numbers: 32 to 4,096
abbrev pub is_window : ℕ → Bool
is_window size = nat_le 32 size && nat_le size 4096

-- a range of ports that starts above its end
abbrev pub is_empty_range : Range → Bool
is_empty_range r = nat_lt r.end r.start

-- a range of ports that starts above its end
abbrev pub has_empty_range : Selector → Bool
has_empty_range s = list_any is_empty_range s.local_ports || list_any is_empty_range s.remote_ports

-- more than 8 ranges in a list of ports
abbrev pub has_many_ranges : Selector → Bool
has_many_ranges s = nat_lt 8 (length s.local_ports) || nat_lt 8 (length s.remote_ports)

-- the policy has this name
abbrev pub is_named : List ℕ → SpdEntry → Bool
is_named name e = bytes_eq e.name name

-- the first fault of an entry after those before it
unfoldable pub entry_fault : List SpdEntry → SpdEntry → Option TreeFault
entry_fault before e =
    if list_any (is_named e.name) before then Some faults.DuplicateName
    else if not (is_spd_name e.name) then Some faults.BadName
    else if not (is_window e.window) then Some faults.BadWindow
    else if has_empty_range e.selector then Some faults.EmptyRange
    else if has_many_ranges e.selector then Some (faults.Unsupported features.Ports)
    else None

-- the first fault, else that of the rest
abbrev pub first_of : Option TreeFault → Option TreeFault → Option TreeFault
first_of None rest = rest
first_of (Some fault) rest = Some fault

-- the first fault of the entries, after those before them
abbrev pub entries_fault : List SpdEntry → List SpdEntry → Option TreeFault
entries_fault before [] = None
entries_fault before (e ∷ es) = first_of (entry_fault before e) (entries_fault (before ++ e ∷ []) es)

-- the first fault of a list of policies
unfoldable pub spd_fault : List SpdEntry → Option TreeFault
spd_fault list = if nat_lt 256 (length list) then Some faults.TooMany else entries_fault [] list

-- lower case letters and digits
abbrev pub is_gateway_octet : ℕ → Bool
is_gateway_octet b = (nat_le 97 b && nat_le b 122) || (nat_le 48 b && nat_le b 57)

-- the name of a gateway: 1 to 32 lower case letters and digits
abbrev pub is_gateway : List ℕ → Bool
is_gateway name = nat_le 1 (length name) && nat_le (length name) 32 && list_all is_gateway_octet name

-- keying material of an AES key of 16 or 32 octets and a salt of 4 (RFC 4106 section 8.1)
abbrev pub is_key_length : ℕ → Bool
is_key_length n = (n == 20) || (n == 36)

-- the first fault of an association
unfoldable pub sad_fault : SadEntry → Option TreeFault
sad_fault e =
    if not (is_sad_name e.name) then Some faults.BadName
    else if nat_lt e.spi 256 then Some faults.BadSpi
    else if not (is_key_length (length e.key)) then Some faults.BadKeyLength
    else if not (is_window e.window) then Some faults.BadWindow
    else if has_empty_range e.selector then Some faults.EmptyRange
    else if has_many_ranges e.selector then Some (faults.Unsupported features.Ports)
    else if not (is_one_family e.local e.remote) then Some (faults.Unsupported features.Tunnel)
    else None
