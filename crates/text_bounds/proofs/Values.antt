-- How long the values of policies, halves and errors are at most.
use Rattle.std.proofs.Common.{◌≡◌, ◌==◌, ◌+◌, ◌*◌, ◌^◌, ◌<◌, ◌≤◌, ◌||◌, nat_lt, ℕ, true, false, List, [], ◌∷◌, codes, length, All, Option, Some, None, refl, arith}
use Rattle.std.specs.List.{AllByRecursion, list_all}
use Rattle.std.specs.Fmt.{decimal}
use Rattle.std.proofs.lemmas.Bool.Decides.{nat_tests}
use Rattle.std.proofs.lemmas.Fmt.{length-decimal-le}
use Rattle.std.proofs.lemmas.List.Elements.{recursion_from_All}
use Rattle.serde_json.specs.Data.{Data, boolean, string, array, object, Members, no_members}
use Rattle.ikl_base.specs.declared.address.Addr.{Addr}
use Rattle.ikl_base.specs.declared.address.Prefix.{Prefix}
use Rattle.ikeless_tree.specs.declared.entry.Action.{Action}
use Rattle.ikeless_tree.specs.declared.entry.Action.TheVariants as actions
use Rattle.ikeless_tree.specs.declared.entry.Direction.{Direction}
use Rattle.ikeless_tree.specs.declared.entry.Direction.TheVariants as directions
use Rattle.ikeless_tree.specs.declared.entry.Range.{Range}
use Rattle.ikeless_tree.specs.declared.entry.Selector.{Selector}
use Rattle.ikeless_tree.specs.declared.entry.SpdEntry.{SpdEntry}
use Rattle.ikeless_tree.specs.declared.sad.Df.{Df}
use Rattle.ikeless_tree.specs.declared.sad.Df.TheVariants as bits
use Rattle.ikeless_tree.specs.declared.sad.Limits.{Limits}
use Rattle.ikeless_tree.specs.declared.sad.SadEntry.{SadEntry}
use Rattle.ikeless_tree.specs.declared.sad.SadRow.{SadRow}
use Rattle.ikeless_tree.specs.declared.sad.SaState.{SaState}
use Rattle.ikeless_tree.specs.Check.{has_many_ranges, is_path_octet}
use Rattle.ikeless_tree.specs.Typed.{IsTypedRange, IsTypedProtocol, IsTypedSelector, IsTypedPolicy, IsTypedLimits, IsTypedHalf, IsTypedState, IsTypedRow}
use Rattle.ikeless_tree.specs.Words.{direction_word, action_text, df_text}
use Rattle.yang_values.specs.Addresses.{IsAddress, address_text}
use Rattle.yang_values.specs.HexText.{hex_colons}
use Rattle.yang_values.specs.Prefixes.{prefix_text}
use Rattle.yang_values.proofs.PrefixText.{address_plain, decimal_octets, prefix_plain}
use Rattle.json_values.specs.Written.{count, wide, word, only, with_ports, range_data, range_items, proto_data, selector_data, policy_data, spd_entry_data, spd_entry_items}
use Rattle.json_tree.specs.SadEntryWritten.{with_count, with_wide, limits_members, has_no_limits, with_lifetime, with_soft, tunnel_data, with_key, encryption_data, with_ends, with_fixed, with_sealing, config_data, sad_entry_data, counts_data, state_data, with_state, row_data, row_items}
use Rattle.notice_lines.proofs.Prefixes.{prefix_size}
use Rattle.notice_lines.proofs.Text.{IsSized, AreSized, AreSizedItems, sized_none, sized_object, sized_array, sized_item, sized_no_items, sized_string, sized_number, sized_boolean}
use Rattle.text_bounds.proofs.Names.{address_size}
use Rattle.text_bounds.proofs.Texts.{hex_size, is_plain, more_members, plain_path, plain_value, sized_if, sized_text, tight_put}

pub same : (n : ℕ) → n ≤ n
same n = omega arith

-- ---- leaves

sized_port : (n : ℕ) → n < 2 ^ 16 → IsSized 5 (count n)
sized_port n h = sized_number 5 n (omega arith) (omega arith) (omega arith)

sized_count : (n : ℕ) → n < 2 ^ 32 → IsSized 10 (count n)
sized_count n h = sized_number 10 n (omega arith) (omega arith) (omega arith)

sized_wide : (n : ℕ) → n < 2 ^ 64 → IsSized 22 (wide n)
sized_wide n h = sized_text 20 (decimal n) (plain_value (decimal n) (decimal_octets n h)) (length-decimal-le 20 n (omega arith)
    (omega arith) h)

sized_prefix : (p : Prefix) → IsAddress p.addr → IsSized 48 (string (prefix_text p))
sized_prefix p h = sized_text 46 (prefix_text p) (plain_value (prefix_text p) (prefix_plain p h)) (prefix_size p h)

sized_address : (a : Addr) → IsAddress a → IsSized 47 (string (address_text a))
sized_address a h = sized_text 45 (address_text a) (plain_value (address_text a) (address_plain a h)) (address_size a h)

sized_name : (name : List ℕ) → list_all is_path_octet name ≡ true → length name ≤ 64 → IsSized 66 (string name)
sized_name name octets short = sized_text 64 name (plain_path name octets) short

-- ---- selectors

sized_range : (r : Range) → IsTypedRange r → IsSized 28 (range_data r)
sized_range r h =
    sized_object 27 _ (tight_put 15 5 3 (codes "end") (count r.end) _ refl (same 3) (sized_port r.end h.1)
    (tight_put 1 5 5 (codes "start") (count r.start) no_members refl (same 5) (sized_port r.start h.0) sized_none))

sized_ranges : (rs : List Range) → AllByRecursion IsTypedRange rs → AreSizedItems (29 * length rs + 1) (range_items rs)
sized_ranges [] h = sized_no_items
sized_ranges (r ∷ rs) h =
    let one = (sized_item (29 * length rs + 1) 28 (range_data r) (range_items rs) (sized_range r h.0) (sized_ranges rs h.1)).size in
    record { size = omega (arith, one) }

sized_ports : (m n : ℕ) (name : List ℕ) (rs : List Range) (ms : Members) → list_all is_plain name ≡ true → length name ≤ n
    → length rs ≤ 8 → All IsTypedRange rs → AreSized m ms → AreSized (m + 234 + n + 4) (with_ports name rs ms)
sized_ports m n name [] ms plain short few h f = more_members m (m + 234 + n + 4) ms (omega arith) f
sized_ports m n name (r ∷ rs) ms plain short few h f =
    let all = (sized_ranges (r ∷ rs) (recursion_from_All IsTypedRange (r ∷ rs) h)).size in
    let bound : AreSizedItems 233 (range_items (r ∷ rs)) = record { size = omega (arith, all, few) } in
    tight_put m 234 n name (array (range_items (r ∷ rs))) ms plain short (sized_array 233 (range_items (r ∷ rs)) bound) f

sized_proto : (p : Option ℕ) → IsTypedProtocol p → IsSized 5 (proto_data p)
sized_proto None h = sized_text 3 (codes "any") refl (same 3)
sized_proto (Some n) h = sized_number 5 n (omega arith) (omega arith) (omega arith)

few_left : (a b : ℕ) → (nat_lt 8 a || nat_lt 8 b) ≡ false → a ≤ 8
few_left a b e = grind (arith, nat_tests)

few_right : (a b : ℕ) → (nat_lt 8 a || nat_lt 8 b) ≡ false → b ≤ 8
few_right a b e = grind (arith, nat_tests)

sized_selector : (s : Selector) → has_many_ranges s ≡ false → IsTypedSelector s → IsSized 653 (selector_data s)
unfolding selector_data
sized_selector s few h =
    sized_object 652 _
    (tight_put 629 5 14 (codes "inner-protocol") (proto_data s.proto) _ refl (same 14) (sized_proto s.proto h.proto)
    (sized_ports 380 11 (codes "local-ports") s.local_ports _ refl (same 11) (few_left (length s.local_ports)
    (length s.remote_ports) few) h.local_ports
    (tight_put 316 48 12 (codes "local-prefix") (string (prefix_text s.local)) _ refl (same 12) (sized_prefix s.local h.local)
    (sized_ports 66 12 (codes "remote-ports") s.remote_ports _ refl (same 12) (few_right (length s.local_ports)
    (length s.remote_ports) few) h.remote_ports
    (tight_put 1 48 13 (codes "remote-prefix") (string (prefix_text s.remote)) no_members refl (same 13)
    (sized_prefix s.remote h.remote) sized_none)))))

pub sized_only : (m n : ℕ) (name : List ℕ) (d : Data) → list_all is_plain name ≡ true → length name ≤ n → IsSized m d
    → IsSized (1 + m + n + 4 + 1) (only name d)
sized_only m n name d plain short f = sized_object (1 + m + n + 4) _ (tight_put 1 m n name d no_members plain short f sized_none)

-- ---- policies

sized_action : (a : Action) → IsSized 9 (word (action_text a))
sized_action actions.Protect = sized_text 7 (codes "protect") refl (same 7)
sized_action actions.Bypass = sized_text 7 (codes "bypass") refl (omega arith)
sized_action actions.Discard = sized_text 7 (codes "discard") refl (same 7)

sized_direction : (d : Direction) → IsSized 10 (word (direction_word d))
sized_direction directions.In = sized_text 8 (codes "inbound") refl (omega arith)
sized_direction directions.Out = sized_text 8 (codes "outbound") refl (same 8)

-- what is known of an entry without a fault
pub record IsSizedPolicy (e : SpdEntry) : Type 0 where
  pub octets : list_all is_path_octet e.name ≡ true
  pub short : length e.name ≤ 64
  pub few : has_many_ranges e.selector ≡ false

sized_policy : (e : SpdEntry) → IsSizedPolicy e → IsTypedPolicy e → IsSized 752 (policy_data e)
unfolding policy_data
sized_policy e is h =
    sized_object 751 _
    (tight_put 714 10 23 (codes "anti-replay-window-size") (count e.window) _ refl (same 23) (sized_count e.window h.window)
    (tight_put 674 21 15 (codes "processing-info") (only (codes "action") (word (action_text e.action))) _ refl (same 15)
    (sized_only 9 6 (codes "action") (word (action_text e.action)) refl (same 6) (sized_action e.action))
    (tight_put 1 653 16 (codes "traffic-selector") (selector_data e.selector) no_members refl (same 16)
    (sized_selector e.selector is.few h.selector) sized_none)))

pub sized_entry : (e : SpdEntry) → IsSizedPolicy e → IsTypedPolicy e → IsSized 905 (spd_entry_data e)
unfolding spd_entry_data
sized_entry e is h =
    sized_object 904 _
    (tight_put 881 10 9 (codes "direction") (word (direction_word e.direction)) _ refl (same 9) (sized_direction e.direction)
    (tight_put 106 752 19 (codes "ipsec-policy-config") (policy_data e) _ refl (same 19) (sized_policy e is h)
    (tight_put 32 66 4 (codes "name") (string e.name) _ refl (same 4) (sized_name e.name is.octets is.short)
    (tight_put 1 22 5 (codes "reqid") (wide e.reqid) no_members refl (same 5) (sized_wide e.reqid h.reqid) sized_none))))

pub sized_entries : (es : List SpdEntry) → AllByRecursion IsSizedPolicy es → AllByRecursion IsTypedPolicy es
    → AreSizedItems (906 * length es + 1) (spd_entry_items es)
sized_entries [] is h = sized_no_items
sized_entries (e ∷ es) is h =
    let one = (sized_item (906 * length es + 1) 905 (spd_entry_data e) (spd_entry_items es) (sized_entry e is.0 h.0)
    (sized_entries es is.1 h.1)).size in
    record { size = omega (arith, one) }

-- ---- lifetimes

sized_with_count : (m n : ℕ) (name : List ℕ) (k : ℕ) (ms : Members) → list_all is_plain name ≡ true → length name ≤ n → k < 2 ^ 32
    → AreSized m ms → AreSized (m + 10 + n + 4) (with_count name k ms)
sized_with_count m n name k ms plain short small f =
    sized_if (k == 0) (m + 10 + n + 4) _ _ (more_members m (m + 10 + n + 4) ms (omega arith) f) (tight_put m 10 n name
    (count k) ms plain short (sized_count k small) f)

sized_with_wide : (m n : ℕ) (name : List ℕ) (k : ℕ) (ms : Members) → list_all is_plain name ≡ true → length name ≤ n → k < 2 ^ 64
    → AreSized m ms → AreSized (m + 22 + n + 4) (with_wide name k ms)
sized_with_wide m n name k ms plain short small f =
    sized_if (k == 0) (m + 22 + n + 4) _ _ (more_members m (m + 22 + n + 4) ms (omega arith) f) (tight_put m 22 n name
    (wide k) ms plain short (sized_wide k small) f)

sized_limits : (l : Limits) → IsTypedLimits l → AreSized 89 (limits_members l)
sized_limits l h =
    sized_with_wide 58 5 (codes "bytes") l.bytes _ refl (same 5) h.bytes
    (sized_with_count 40 4 (codes "idle") l.idle _ refl (same 4) h.idle
    (sized_with_count 19 7 (codes "packets") l.packets _ refl (same 7) h.packets
    (sized_with_count 1 4 (codes "time") l.time no_members refl (same 4) h.time sized_none)))

sized_lifetime : (m n : ℕ) (name : List ℕ) (l : Limits) (ms : Members) → list_all is_plain name ≡ true → length name ≤ n
    → IsTypedLimits l → AreSized m ms → AreSized (m + 90 + n + 4) (with_lifetime name l ms)
sized_lifetime m n name l ms plain short h f =
    sized_if (has_no_limits l) (m + 90 + n + 4) _ _ (more_members m (m + 90 + n + 4) ms (omega arith) f)
    (tight_put m 90 n name (object (limits_members l)) ms plain short (sized_object 89 (limits_members l) (sized_limits l h)) f)

sized_soft : (m : ℕ) (l : Limits) (ms : Members) → IsTypedLimits l → AreSized m ms → AreSized (m + 109 + 16 + 4) (with_soft l ms)
sized_soft m l ms h f =
    sized_if (has_no_limits l) (m + 109 + 16 + 4) _ _ (more_members m (m + 109 + 16 + 4) ms (omega arith) f)
    (tight_put m 109 16 (codes "sa-lifetime-soft") _ ms refl (same 16)
    (sized_object 108 _ (tight_put 89 9 6 (codes "action") (word (codes "replace")) (limits_members l) refl (same 6) (sized_text 7
    (codes "replace") refl (same 7)) (sized_limits l h))) f)

sized_counts : (l : Limits) → IsTypedLimits l → IsSized 90 (counts_data l)
sized_counts l h =
    sized_object 89 _
    (tight_put 58 22 5 (codes "bytes") (wide l.bytes) _ refl (same 5) (sized_wide l.bytes h.bytes)
    (tight_put 40 10 4 (codes "idle") (count l.idle) _ refl (same 4) (sized_count l.idle h.idle)
    (tight_put 19 10 7 (codes "packets") (count l.packets) _ refl (same 7) (sized_count l.packets h.packets)
    (tight_put 1 10 4 (codes "time") (count l.time) no_members refl (same 4) (sized_count l.time h.time) sized_none))))

-- ---- halves

-- what is known of a half without a fault
pub record IsSizedHalf (e : SadEntry) : Type 0 where
  pub octets : list_all is_path_octet e.name ≡ true
  pub short : length e.name ≤ 64
  pub key : length e.key ≤ 36
  pub few : has_many_ranges e.selector ≡ false

sized_df : (df : Df) → IsSized 7 (word (df_text df))
sized_df bits.Clear = sized_text 5 (codes "clear") refl (same 5)
sized_df bits.Set = sized_text 5 (codes "set") refl (omega arith)
sized_df bits.Copy = sized_text 5 (codes "copy") refl (omega arith)

sized_tunnel : (e : SadEntry) → IsTypedHalf e → IsSized 132 (tunnel_data e)
unfolding tunnel_data
sized_tunnel e h =
    sized_object 131 _
    (tight_put 114 7 6 (codes "df-bit") (word (df_text e.df)) _ refl (same 6) (sized_df e.df)
    (tight_put 58 47 5 (codes "local") (string (address_text e.local)) _ refl (same 5) (sized_address e.local h.local)
    (tight_put 1 47 6 (codes "remote") (string (address_text e.remote)) no_members refl (same 6)
    (sized_address e.remote h.remote) sized_none)))

-- the key that is written, if any, has 36 octets at most
abbrev HasKey : Option (List ℕ) → Type 0
HasKey None = Unit {0}
HasKey (Some key) = length key ≤ 36

sized_key : (key : Option (List ℕ)) → HasKey key → AreSized 658 (with_key key no_members)
sized_key None h = more_members 1 658 no_members (omega arith) sized_none
sized_key (Some key) h =
    let all = hex_size key in
    tight_put 1 650 3 (codes "key") (string (hex_colons key)) no_members refl (same 3) (sized_string 108 (hex_colons key) (omega
    (arith, all, h))) sized_none

sized_encryption : (key : Option (List ℕ)) → HasKey key → IsSized 709 (only (codes "encryption") (encryption_data key))
sized_encryption key h =
    sized_only 693 10 (codes "encryption") (encryption_data key) refl (same 10)
    (sized_object 692 _ (tight_put 658 10 20 (codes "encryption-algorithm") (count 20) _ refl (same 20) (sized_count 20 (omega arith))
    (sized_key key h)))

sized_ends : (e : SadEntry) → IsSizedHalf e → IsTypedHalf e → AreSized 833 (with_ends e no_members)
unfolding with_ends
sized_ends e is h =
    tight_put 816 10 3 (codes "spi") (count e.spi) _ refl (same 3) (sized_count e.spi h.spi)
    (tight_put 143 653 16 (codes "traffic-selector") (selector_data e.selector) _ refl (same 16)
    (sized_selector e.selector is.few h.selector)
    (tight_put 1 132 6 (codes "tunnel") (tunnel_data e) no_members refl (same 6) (sized_tunnel e h) sized_none))

sized_fixed : (ms : Members) → AreSized 1072 ms → AreSized 1157 (with_fixed ms)
unfolding with_fixed
sized_fixed ms f =
    tight_put 1137 5 11 (codes "ext-seq-num") (boolean false) _ refl (same 11) (sized_boolean false)
    (tight_put 1121 8 4 (codes "mode") (word (codes "tunnel")) _ refl (same 4) (sized_text 6 (codes "tunnel") refl (same 6))
    (tight_put 1093 5 19 (codes "protocol-parameters") (word (codes "esp")) _ refl (same 19) (sized_text 3 (codes "esp") refl (same 3))
    (tight_put 1072 5 12 (codes "seq-overflow") (boolean false) ms refl (same 12) (sized_boolean false) f)))

sized_sealing : (window : ℕ) (key : Option (List ℕ)) (ms : Members) → window < 2 ^ 32 → HasKey key → AreSized 1157 ms
    → AreSized 1913 (with_sealing window key ms)
unfolding with_sealing
sized_sealing window key ms small h f =
    tight_put 1876 10 23 (codes "anti-replay-window-size") (count window) _ refl (same 23) (sized_count window small)
    (tight_put 1157 709 6 (codes "esp-sa") _ ms refl (same 6) (sized_encryption key h) f)

sized_config : (e : SadEntry) (key : Option (List ℕ)) → HasKey key → IsSizedHalf e → IsTypedHalf e → IsSized 1914 (config_data e key)
unfolding config_data
sized_config e key short is h =
    sized_object 1913 _ (sized_sealing e.window key _ h.window short (sized_fixed _
    (sized_lifetime 962 16 (codes "sa-lifetime-hard") e.hard _ refl (same 16) h.hard
    (sized_soft 833 e.soft _ h.soft (sized_ends e is h)))))

pub sized_half : (e : SadEntry) → IsSizedHalf e → IsTypedHalf e → IsSized 2040 (sad_entry_data e)
unfolding sad_entry_data
sized_half e is h =
    sized_object 2039 _
    (tight_put 106 1914 15 (codes "ipsec-sa-config") (config_data e (Some e.key)) _ refl (same 15) (sized_config e (Some e.key) is.key is h)
    (tight_put 32 66 4 (codes "name") (string e.name) _ refl (same 4) (sized_name e.name is.octets is.short)
    (tight_put 1 22 5 (codes "reqid") (wide e.reqid) no_members refl (same 5) (sized_wide e.reqid h.reqid) sized_none)))

-- ---- rows

sized_state : (s : SaState) → IsTypedState s → IsSized 172 (state_data s)
unfolding state_data
sized_state s h =
    sized_object 171 _
    (tight_put 114 41 12 (codes "replay-stats") (only (codes "last-sequence") (wide s.top)) _ refl (same 12)
    (sized_only 22 13 (codes "last-sequence") (wide s.top) refl (same 13) (sized_wide s.top h.top))
    (tight_put 1 90 19 (codes "sa-lifetime-current") (counts_data s.current) no_members refl (same 19)
    (sized_counts s.current h.current) sized_none))

pub sized_row : (r : SadRow) → IsSizedHalf r.entry → IsTypedRow r → IsSized 2230 (row_data r)
unfolding row_data with_state
sized_row r is h =
    sized_object 2229 _
    (tight_put 296 1914 15 (codes "ipsec-sa-config") (config_data r.entry None) _ refl (same 15) (sized_config r.entry None tt is h.entry)
    (tight_put 106 172 14 (codes "ipsec-sa-state") (state_data r.state) _ refl (same 14) (sized_state r.state h.state)
    (tight_put 32 66 4 (codes "name") (string r.entry.name) _ refl (same 4) (sized_name r.entry.name is.octets is.short)
    (tight_put 1 22 5 (codes "reqid") (wide r.entry.reqid) no_members refl (same 5) (sized_wide r.entry.reqid h.entry.reqid) sized_none))))

-- each half in the rows
abbrev pub AreSizedHalves : List SadRow → Type 0
AreSizedHalves [] = Unit {0}
AreSizedHalves (r ∷ rs) = IsSizedHalf r.entry × AreSizedHalves rs

pub sized_rows : (rs : List SadRow) → AreSizedHalves rs → AllByRecursion IsTypedRow rs → AreSizedItems (2231 * length rs + 1) (row_items rs)
sized_rows [] is h = sized_no_items
sized_rows (r ∷ rs) is h =
    let one = (sized_item (2231 * length rs + 1) 2230 (row_data r) (row_items rs) (sized_row r is.0 h.0) (sized_rows rs is.1 h.1)).size in
    record { size = omega (arith, one) }
