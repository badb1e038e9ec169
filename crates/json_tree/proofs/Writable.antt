-- What is written for policies and halves can be read again: its numbers fit 64 bits, and its texts are UTF-8.
use Rattle.std.proofs.Common.{
  ◌≡◌,
  ℕ,
  ◌<◌,
  ◌^◌,
  ◌==◌,
  Bool,
  true,
  false,
  if◌then◌else◌,
  List,
  [],
  ◌∷◌,
  codes,
  Option,
  Some,
  None,
  refl,
  arith,
  decimal,
  All,
  IsUtf8,
}
use Rattle.std.specs.List.{AllByRecursion, list_all}
use Rattle.std.proofs.lemmas.Bool.{and_parts}
use Rattle.std.proofs.lemmas.List.Elements.{recursion_from_All}
use Rattle.json.proofs.Printed.Utf8.{are_ascii}
use Rattle.serde_json.specs.Data.{Data, Members, no_members}
use Rattle.ikl_base.specs.declared.address.Addr.{Addr}
use Rattle.ikl_base.specs.declared.address.Prefix.{Prefix}
use Rattle.ikeless_tree.specs.declared.entry.Action.{Action}
use Rattle.ikeless_tree.specs.declared.entry.Action.TheVariants as actions
use Rattle.ikeless_tree.specs.declared.entry.Direction.{Direction}
use Rattle.ikeless_tree.specs.declared.entry.Direction.TheVariants as directions
use Rattle.ikeless_tree.specs.declared.entry.Range.{Range}
use Rattle.ikeless_tree.specs.declared.entry.Selector.{Selector}
use Rattle.ikeless_tree.specs.declared.entry.SpdEntry.{SpdEntry}
use Rattle.ikeless_tree.specs.declared.sad.Df.{Df}
use Rattle.ikeless_tree.specs.declared.sad.Df.TheVariants as bits
use Rattle.ikeless_tree.specs.declared.sad.Limits.{Limits}
use Rattle.ikeless_tree.specs.declared.sad.SadEntry.{SadEntry}
use Rattle.ikeless_tree.specs.declared.sad.SadRow.{SadRow}
use Rattle.ikeless_tree.specs.declared.sad.SaState.{SaState}
use Rattle.ikeless_tree.specs.Check.{is_spd_name, is_sad_name, spd_fault, sad_fault}
use Rattle.ikeless_tree.specs.Typed.{
  AreOctets,
  IsTypedRange,
  IsTypedProtocol,
  IsTypedSelector,
  IsTypedPolicy,
  AreTypedPolicies,
  IsTypedLimits,
  IsTypedHalf,
  IsTypedState,
  IsTypedRow,
  AreTypedRows,
}
use Rattle.ikeless_tree.specs.Words.{direction_word, action_text, df_text}
use Rattle.yang_values.specs.Addresses.{IsAddress, address_text}
use Rattle.yang_values.specs.HexText.{hex_colons}
use Rattle.yang_values.specs.Prefixes.{prefix_text}
use Rattle.yang_values.proofs.PrefixText.{address_plain, prefix_plain}
use Rattle.json_values.specs.Written.{
  only,
  range_data,
  range_items,
  with_ports,
  proto_data,
  selector_data,
  policy_data,
  spd_entry_data,
  spd_entry_items,
  spd_entries_data,
  one_policy,
  all_policies,
  is_named_well,
}
use Rattle.json_values.proofs.Plain.{utf8_number, utf8_value, utf8_name, utf8_hex}
use Rattle.json_values.proofs.ReadAgain.{
  IsWritable,
  AreWritable,
  HaveWritable,
  write_number,
  write_boolean,
  write_text,
  write_word,
  write_array,
  write_object,
  write_item,
  write_no_items,
  write_none,
  write_member,
}
use Rattle.json_tree.specs.SadEntryWritten.{
  with_count,
  with_wide,
  limits_members,
  has_no_limits,
  with_lifetime,
  with_soft,
  tunnel_data,
  with_key,
  encryption_data,
  with_ends,
  with_fixed,
  with_sealing,
  config_data,
  sad_entry_data,
  counts_data,
  state_data,
  with_state,
  row_data,
  row_items,
  one_sad_entry,
  one_row,
  all_rows,
  is_row_named,
  ArePassed,
}
use Rattle.json_tree.proofs.Passed.{path_octets, half_octets, passed_name, passed_names, passed_half, passed_rows}

-- ---- texts

pub prefix_utf8 : (p : Prefix) → IsAddress p.addr → IsUtf8 (prefix_text p)
prefix_utf8 p is = utf8_value (prefix_text p) (prefix_plain p is)

address_utf8 : (a : Addr) → IsAddress a → IsUtf8 (address_text a)
address_utf8 a is = utf8_value (address_text a) (address_plain a is)

policy_utf8 : (name : List ℕ) → is_spd_name name ≡ true → IsUtf8 name
policy_utf8 name h = utf8_name name (path_octets name h)

half_utf8 : (name : List ℕ) → is_sad_name name ≡ true → IsUtf8 name
half_utf8 name h = utf8_name name (half_octets name h)

direction_ascii : (d : Direction) → are_ascii (direction_word d) ≡ true
direction_ascii directions.In = refl
direction_ascii directions.Out = refl

action_ascii : (a : Action) → are_ascii (action_text a) ≡ true
action_ascii actions.Protect = refl
action_ascii actions.Bypass = refl
action_ascii actions.Discard = refl

df_ascii : (df : Df) → are_ascii (df_text df) ≡ true
df_ascii bits.Clear = refl
df_ascii bits.Set = refl
df_ascii bits.Copy = refl

-- ---- numbers

pub narrow : (n : ℕ) → n < 2 ^ 32 → n < 2 ^ 64
narrow n h = omega arith

port : (n : ℕ) → n < 2 ^ 16 → n < 2 ^ 64
port n h = omega arith

octet : (n : ℕ) → n < 2 ^ 8 → n < 2 ^ 64
octet n h = omega arith

-- ---- selectors

members_if : (b : Bool) (x y : Members) → HaveWritable x → HaveWritable y → HaveWritable (if b then x else y)
members_if true x y p q = p
members_if false x y p q = q

write_range : (r : Range) → IsTypedRange r → IsWritable (range_data r)
write_range r typed = write_object _ (write_member (codes "end") _ _ refl (write_number r.end (port r.end typed.1))
    (write_member (codes "start") _ _ refl (write_number r.start (port r.start typed.0)) write_none))

write_ranges : (rs : List Range) → AllByRecursion IsTypedRange rs → AreWritable (range_items rs)
write_ranges [] typed = write_no_items
write_ranges (r ∷ rs) typed = write_item _ _ (write_range r typed.0) (write_ranges rs typed.1)

write_ports : (name : List ℕ) (rs : List Range) (ms : Members) → are_ascii name ≡ true → All IsTypedRange rs → HaveWritable ms →
    HaveWritable (with_ports name rs ms)
write_ports name [] ms ascii typed h = h
write_ports name (r ∷ rs) ms ascii typed h = write_member name _ ms ascii
    (write_array _ (write_ranges (r ∷ rs) (recursion_from_All IsTypedRange (r ∷ rs) typed))) h

write_proto : (p : Option ℕ) → IsTypedProtocol p → IsWritable (proto_data p)
write_proto None typed = write_word (codes "any") refl
write_proto (Some n) typed = write_number n (octet n typed)

pub write_selector : (s : Selector) → IsTypedSelector s → IsWritable (selector_data s)
unfolding selector_data
write_selector s typed = write_object _ (write_member (codes "inner-protocol") _ _ refl (write_proto s.proto typed.proto)
    (write_ports (codes "local-ports") s.local_ports _ refl typed.local_ports
    (write_member (codes "local-prefix") _ _ refl (write_text (prefix_text s.local) (prefix_utf8 s.local typed.local))
    (write_ports (codes "remote-ports") s.remote_ports _ refl typed.remote_ports
    (write_member (codes "remote-prefix") _ _ refl (write_text (prefix_text s.remote) (prefix_utf8 s.remote typed.remote)) write_none)))))

pub write_only : (name : List ℕ) (d : Data) → are_ascii name ≡ true → IsWritable d → IsWritable (only name d)
write_only name d ascii h = write_object _ (write_member name d no_members ascii h write_none)

-- ---- policies

write_policy : (e : SpdEntry) → IsTypedPolicy e → IsWritable (policy_data e)
unfolding policy_data
write_policy e typed = write_object _ (write_member (codes "anti-replay-window-size") _ _ refl
    (write_number e.window (narrow e.window typed.window))
    (write_member (codes "processing-info") _ _ refl (write_only (codes "action") _ refl
    (write_word (action_text e.action) (action_ascii e.action)))
    (write_member (codes "traffic-selector") _ _ refl (write_selector e.selector typed.selector) write_none)))

write_entry : (e : SpdEntry) → IsTypedPolicy e → is_spd_name e.name ≡ true → IsWritable (spd_entry_data e)
unfolding spd_entry_data
write_entry e typed name = write_object _ (write_member (codes "direction") _ _ refl
    (write_word (direction_word e.direction) (direction_ascii e.direction))
    (write_member (codes "ipsec-policy-config") _ _ refl (write_policy e typed)
    (write_member (codes "name") _ _ refl (write_text e.name (policy_utf8 e.name name))
    (write_member (codes "reqid") _ _ refl (write_text (decimal e.reqid) (utf8_number e.reqid typed.reqid)) write_none))))

write_entries : (es : List SpdEntry) → AllByRecursion IsTypedPolicy es → list_all is_named_well es ≡ true → AreWritable (spd_entry_items es)
write_entries [] typed h = write_no_items
write_entries (e ∷ es) typed h =
    let parts = and_parts (is_named_well e) (list_all is_named_well es) h in
    write_item _ _ (write_entry e typed.0 parts.0) (write_entries es typed.1 parts.1)

pub write_one_policy : (e : SpdEntry) → IsTypedPolicy e → spd_fault (e ∷ []) ≡ None → IsWritable (one_policy e)
write_one_policy e typed h = write_only (codes "ietf-i2nsf-ikeless:spd-entry") _ refl
    (write_array _ (write_item _ _ (write_entry e typed (passed_name e h)) write_no_items))

pub write_list : (es : List SpdEntry) → AreTypedPolicies es → spd_fault es ≡ None → IsWritable (spd_entries_data es)
write_list es typed h = write_array _ (write_entries es (recursion_from_All IsTypedPolicy es typed) (passed_names es h))

pub write_policies : (es : List SpdEntry) → AreTypedPolicies es → spd_fault es ≡ None → IsWritable (all_policies es)
write_policies es typed h =
    write_only (codes "ietf-i2nsf-ikeless:spd") _ refl
    (write_only (codes "spd-entry") _ refl (write_list es typed h))

-- ---- lifetimes

write_count : (name : List ℕ) (n : ℕ) (ms : Members) → are_ascii name ≡ true → n < 2 ^ 32 → HaveWritable ms → HaveWritable
    (with_count name n ms)
write_count name n ms ascii small h = members_if (n == 0) _ _ h (write_member name _ ms ascii (write_number n (narrow n small)) h)

write_wide : (name : List ℕ) (n : ℕ) (ms : Members) → are_ascii name ≡ true → n < 2 ^ 64 → HaveWritable ms → HaveWritable
    (with_wide name n ms)
write_wide name n ms ascii small h = members_if (n == 0) _ _ h (write_member name _ ms ascii (write_text (decimal n) (utf8_number n small))
    h)

write_limits : (l : Limits) → IsTypedLimits l → HaveWritable (limits_members l)
write_limits l typed = write_wide (codes "bytes") l.bytes _ refl typed.bytes (write_count (codes "idle") l.idle _ refl typed.idle
    (write_count (codes "packets") l.packets _ refl typed.packets (write_count (codes "time") l.time no_members refl typed.time
    write_none)))

pub write_lifetime : (name : List ℕ) (l : Limits) (ms : Members) → are_ascii name ≡ true → IsTypedLimits l → HaveWritable ms → HaveWritable
    (with_lifetime name l ms)
write_lifetime name l ms ascii typed h = members_if (has_no_limits l) _ _ h
    (write_member name _ ms ascii (write_object _ (write_limits l typed)) h)

write_soft : (l : Limits) (ms : Members) → IsTypedLimits l → HaveWritable ms → HaveWritable (with_soft l ms)
write_soft l ms typed h = members_if (has_no_limits l) _ _ h
    (write_member (codes "sa-lifetime-soft") _ ms refl
    (write_object _ (write_member (codes "action") _ (limits_members l) refl (write_word (codes "replace") refl) (write_limits l typed))) h)

pub write_counts : (l : Limits) → IsTypedLimits l → IsWritable (counts_data l)
write_counts l typed = write_object _ (write_member (codes "bytes") _ _ refl
    (write_text (decimal l.bytes) (utf8_number l.bytes typed.bytes))
    (write_member (codes "idle") _ _ refl (write_number l.idle (narrow l.idle typed.idle))
    (write_member (codes "packets") _ _ refl (write_number l.packets (narrow l.packets typed.packets))
    (write_member (codes "time") _ _ refl (write_number l.time (narrow l.time typed.time)) write_none))))

-- ---- halves

write_tunnel : (e : SadEntry) → IsTypedHalf e → IsWritable (tunnel_data e)
unfolding tunnel_data
write_tunnel e typed = write_object _ (write_member (codes "df-bit") _ _ refl (write_word (df_text e.df) (df_ascii e.df))
    (write_member (codes "local") _ _ refl (write_text (address_text e.local) (address_utf8 e.local typed.local))
    (write_member (codes "remote") _ _ refl (write_text (address_text e.remote) (address_utf8 e.remote typed.remote)) write_none)))

-- the key that is written, where there is one, has octets
abbrev HasOctets : Option (List ℕ) → Type 0
HasOctets None = Unit {0}
HasOctets (Some key) = AreOctets key

write_key : (key : Option (List ℕ)) → HasOctets key → HaveWritable (with_key key no_members)
write_key None h = write_none
write_key (Some key) h = write_member (codes "key") _ _ refl (write_text (hex_colons key) (utf8_hex key h)) write_none

write_encryption : (key : Option (List ℕ)) → HasOctets key → IsWritable (only (codes "encryption") (encryption_data key))
write_encryption key h = write_only (codes "encryption") _ refl
    (write_object _ (write_member (codes "encryption-algorithm") _ _ refl (write_number 20 (omega arith)) (write_key key h)))

write_ends : (e : SadEntry) (ms : Members) → IsTypedHalf e → HaveWritable ms → HaveWritable (with_ends e ms)
unfolding with_ends
write_ends e ms typed h = write_member (codes "spi") _ _ refl (write_number e.spi (narrow e.spi typed.spi))
    (write_member (codes "traffic-selector") _ _ refl (write_selector e.selector typed.selector)
    (write_member (codes "tunnel") _ ms refl (write_tunnel e typed) h))

write_fixed : (ms : Members) → HaveWritable ms → HaveWritable (with_fixed ms)
unfolding with_fixed
write_fixed ms h = write_member (codes "ext-seq-num") _ _ refl (write_boolean false)
    (write_member (codes "mode") _ _ refl (write_word (codes "tunnel") refl)
    (write_member (codes "protocol-parameters") _ _ refl (write_word (codes "esp") refl)
    (write_member (codes "seq-overflow") _ ms refl (write_boolean false) h)))

write_sealing : (window : ℕ) (key : Option (List ℕ)) (ms : Members) → window < 2 ^ 32 → HasOctets key → HaveWritable ms → HaveWritable
    (with_sealing window key ms)
unfolding with_sealing
write_sealing window key ms small octets h = write_member (codes "anti-replay-window-size") _ _ refl
    (write_number window (narrow window small))
    (write_member (codes "esp-sa") _ ms refl (write_encryption key octets) h)

write_config : (e : SadEntry) (key : Option (List ℕ)) → IsTypedHalf e → HasOctets key → IsWritable (config_data e key)
unfolding config_data
write_config e key typed octets = write_object _ (write_sealing e.window key _ typed.window octets (write_fixed _
    (write_lifetime (codes "sa-lifetime-hard") e.hard _ refl typed.hard
    (write_soft e.soft _ typed.soft (write_ends e no_members typed write_none)))))

write_half : (e : SadEntry) → IsTypedHalf e → is_sad_name e.name ≡ true → IsWritable (sad_entry_data e)
unfolding sad_entry_data
write_half e typed name = write_object _ (write_member (codes "ipsec-sa-config") _ _ refl (write_config e (Some e.key) typed typed.key)
    (write_member (codes "name") _ _ refl (write_text e.name (half_utf8 e.name name))
    (write_member (codes "reqid") _ _ refl (write_text (decimal e.reqid) (utf8_number e.reqid typed.reqid)) write_none)))

pub write_one_half : (e : SadEntry) → IsTypedHalf e → sad_fault e ≡ None → IsWritable (one_sad_entry e)
write_one_half e typed h = write_only (codes "ietf-i2nsf-ikeless:sad-entry") _ refl
    (write_array _ (write_item _ _ (write_half e typed (passed_half e h)) write_no_items))

-- ---- rows

write_state : (s : SaState) → IsTypedState s → IsWritable (state_data s)
unfolding state_data
write_state s typed = write_object _ (write_member (codes "replay-stats") _ _ refl
    (write_only (codes "last-sequence") _ refl (write_text (decimal s.top) (utf8_number s.top typed.top)))
    (write_member (codes "sa-lifetime-current") _ _ refl (write_counts s.current typed.current) write_none))

write_row : (r : SadRow) → IsTypedRow r → is_row_named r ≡ true → IsWritable (row_data r)
unfolding row_data with_state
write_row r typed name = write_object _ (write_member (codes "ipsec-sa-config") _ _ refl (write_config r.entry None typed.entry tt)
    (write_member (codes "ipsec-sa-state") _ _ refl (write_state r.state typed.state)
    (write_member (codes "name") _ _ refl (write_text r.entry.name (half_utf8 r.entry.name name))
    (write_member (codes "reqid") _ _ refl (write_text (decimal r.entry.reqid) (utf8_number r.entry.reqid typed.entry.reqid)) write_none))))

pub write_one_row : (r : SadRow) → IsTypedRow r → sad_fault r.entry ≡ None → IsWritable (one_row r)
write_one_row r typed h = write_only (codes "ietf-i2nsf-ikeless:sad-entry") _ refl
    (write_array _ (write_item _ _ (write_row r typed (passed_half r.entry h)) write_no_items))

write_each : (rs : List SadRow) → AllByRecursion IsTypedRow rs → list_all is_row_named rs ≡ true → AreWritable (row_items rs)
write_each [] typed h = write_no_items
write_each (r ∷ rs) typed h =
    let parts = and_parts (is_row_named r) (list_all is_row_named rs) h in
    write_item _ _ (write_row r typed.0 parts.0) (write_each rs typed.1 parts.1)

pub write_rows : (rs : List SadRow) → AreTypedRows rs → ArePassed rs → IsWritable (all_rows rs)
write_rows rs typed h =
    write_only (codes "ietf-i2nsf-ikeless:sad") _ refl
    (write_only (codes "sad-entry") _ refl (write_array _ (write_each rs (recursion_from_All IsTypedRow rs typed) (passed_rows rs h))))
