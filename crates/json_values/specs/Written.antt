-- The one value that is written for a policy, a half, a database or a command: RFC 7951 over the YANG module
-- ietf-i2nsf-ikeless (RFC 9061 section 5.3).
use Rattle.std.specs.Prelude.{ℕ, Bool, List, [], ◌∷◌, codes, map, Option, Some, None}
use Rattle.std.specs.Fmt.{decimal}
use Rattle.serde_json.specs.View.{items_of}
use Rattle.serde_json.specs.Data.{unsigned, Data, number, string, array, object, Items, Members, no_members, put}
use Rattle.ikeless_tree.specs.declared.entry.Range.{Range}
use Rattle.ikeless_tree.specs.declared.entry.Selector.{Selector}
use Rattle.ikeless_tree.specs.declared.entry.SpdEntry.{SpdEntry}
use Rattle.yang_values.specs.Prefixes.{prefix_text}
use Rattle.ikeless_tree.specs.Check.{is_spd_name}
use Rattle.ikeless_tree.specs.Words.{direction_word, action_text}

-- a number of at most 32 bits
abbrev pub count : ℕ → Data
count n = number (unsigned n)

-- a number of 64 bits, which stands as a string (RFC 7951 section 6.1)
abbrev pub wide : ℕ → Data
wide n = string (decimal n)

-- a word of an enumeration, as a JSON string
abbrev pub word : List ℕ → Data
word text = string text

-- an object of one member
abbrev pub only : List ℕ → Data → Data
only name d = object (put name d no_members)

-- ---- selectors

-- a range of ports as an object of its ends
abbrev pub range_data : Range → Data
range_data r = object (put (codes "end") (count r.end) (put (codes "start") (count r.start) no_members))

-- ranges of ports as the items of an array
abbrev pub range_items : List Range → Items
range_items rs = items_of (map range_data rs)

-- no ranges stand for any port, and are left out
abbrev pub with_ports : List ℕ → List Range → Members → Members
with_ports name [] ms = ms
with_ports name (r ∷ rs) ms = put name (array (range_items (r ∷ rs))) ms

-- the number of a protocol, or the word `any`
abbrev pub proto_data : Option ℕ → Data
proto_data None = word (codes "any")
proto_data (Some n) = count n

-- `traffic-selector`: which packets a policy or a half holds
unfoldable pub selector_data : Selector → Data
selector_data s = object (put (codes "inner-protocol") (proto_data s.proto)
    (with_ports (codes "local-ports") s.local_ports
    (put (codes "local-prefix") (string (prefix_text s.local))
    (with_ports (codes "remote-ports") s.remote_ports
    (put (codes "remote-prefix") (string (prefix_text s.remote)) no_members)))))

-- ---- policies

-- `ipsec-policy-config`: the window, the action and the selector of a policy
unfoldable pub policy_data : SpdEntry → Data
policy_data e = object (put (codes "anti-replay-window-size") (count e.window)
    (put (codes "processing-info") (only (codes "action") (word (action_text e.action)))
    (put (codes "traffic-selector") (selector_data e.selector) no_members)))

-- `spd-entry`: a policy as an object
unfoldable pub spd_entry_data : SpdEntry → Data
spd_entry_data e = object (put (codes "direction") (word (direction_word e.direction))
    (put (codes "ipsec-policy-config") (policy_data e)
    (put (codes "name") (string e.name)
    (put (codes "reqid") (wide e.reqid) no_members))))

-- policies as the items of an array
abbrev pub spd_entry_items : List SpdEntry → Items
spd_entry_items es = items_of (map spd_entry_data es)

-- policies as an array
abbrev pub spd_entries_data : List SpdEntry → Data
spd_entries_data es = array (spd_entry_items es)

-- the body that has one policy
abbrev pub one_policy : SpdEntry → Data
one_policy e = only (codes "ietf-i2nsf-ikeless:spd-entry") (spd_entries_data (e ∷ []))

-- the body that has all policies
abbrev pub all_policies : List SpdEntry → Data
all_policies es = only (codes "ietf-i2nsf-ikeless:spd") (only (codes "spd-entry") (spd_entries_data es))

-- the policy's name is one that is read again
abbrev pub is_named_well : SpdEntry → Bool
is_named_well e = is_spd_name e.name
