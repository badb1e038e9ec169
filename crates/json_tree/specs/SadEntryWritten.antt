-- The one value that is written for a half: RFC 7951 over the YANG module ietf-i2nsf-ikeless (RFC 9061
-- section 5.3).
use Rattle.std.specs.Prelude.{◌≡◌, ℕ, ◌==◌, ◌&&◌, not, Bool, true, false, List, [], ◌∷◌, codes, map, if◌then◌else◌, Option, Some, None}
use Rattle.std.specs.Str.{bytes_eq}
use Rattle.serde_json.specs.View.{items_of}
use Rattle.serde_json.specs.Data.{Data, null, boolean, number, string, array, object, Items, no_items, item, Members, no_members, member, put}
use Rattle.ikeless_tree.specs.declared.sad.Limits.{Limits}
use Rattle.ikeless_tree.specs.declared.sad.SadEntry.{SadEntry}
use Rattle.ikeless_tree.specs.declared.sad.SadRow.{SadRow}
use Rattle.ikeless_tree.specs.declared.sad.SaState.{SaState}
use Rattle.ikeless_tree.specs.Check.{is_sad_name, sad_fault}
use Rattle.yang_values.specs.Addresses.{address_text}
use Rattle.yang_values.specs.HexText.{hex_colons}
use Rattle.ikeless_tree.specs.Words.{df_text}
use Rattle.json_values.specs.Written.{count, wide, word, only, selector_data}

-- ---- lifetimes

-- a limit of 0 is no limit, and is left out
abbrev pub with_count : List ℕ → ℕ → Members → Members
with_count name n ms = if n == 0 then ms else put name (count n) ms

-- the same of a limit of 64 bits, which stands as a string
abbrev pub with_wide : List ℕ → ℕ → Members → Members
with_wide name n ms = if n == 0 then ms else put name (wide n) ms

-- the members of limits, without those that are none
abbrev pub limits_members : Limits → Members
limits_members l = with_wide (codes "bytes") l.bytes
    (with_count (codes "idle") l.idle (with_count (codes "packets") l.packets (with_count (codes "time") l.time no_members)))

-- all four limits are none
abbrev pub has_no_limits : Limits → Bool
has_no_limits l = (l.time == 0) && (l.bytes == 0) && (l.packets == 0) && (l.idle == 0)

-- a lifetime with no limits is left out
abbrev pub with_lifetime : List ℕ → Limits → Members → Members
with_lifetime name l ms = if has_no_limits l then ms else put name (object (limits_members l)) ms

-- soft limits, at which the half is to be replaced; where there are none they are left out
abbrev pub with_soft : Limits → Members → Members
with_soft l ms = if has_no_limits l then ms else put (codes "sa-lifetime-soft")
    (object (put (codes "action") (word (codes "replace")) (limits_members l))) ms

-- ---- halves

-- `tunnel`: the ends of a half's tunnel, and where its outer DF bit comes from
unfoldable pub tunnel_data : SadEntry → Data
tunnel_data e = object (put (codes "df-bit") (word (df_text e.df))
    (put (codes "local") (string (address_text e.local))
    (put (codes "remote") (string (address_text e.remote)) no_members)))

-- the keying material, where it may be shown
abbrev pub with_key : Option (List ℕ) → Members → Members
with_key None ms = ms
with_key (Some key) ms = put (codes "key") (string (hex_colons key)) ms

-- AES-GCM with an ICV of 16 octets has the number 20 (RFC 4106 section 8.4, RFC 9061's use of the IKEv2 registry)
abbrev pub encryption_data : Option (List ℕ) → Data
encryption_data key = object (put (codes "encryption-algorithm") (count 20) (with_key key no_members))

-- the SPI of a half, the packets that it holds and the ends of its tunnel
unfoldable pub with_ends : SadEntry → Members → Members
with_ends e ms = put (codes "spi") (count e.spi)
    (put (codes "traffic-selector") (selector_data e.selector)
    (put (codes "tunnel") (tunnel_data e) ms))

-- what stands the same in each half
unfoldable pub with_fixed : Members → Members
with_fixed ms = put (codes "ext-seq-num") (boolean false)
    (put (codes "mode") (word (codes "tunnel"))
    (put (codes "protocol-parameters") (word (codes "esp"))
    (put (codes "seq-overflow") (boolean false) ms)))

-- the window of a half, and its cipher with a key or without one
unfoldable pub with_sealing : ℕ → Option (List ℕ) → Members → Members
with_sealing window key ms = put (codes "anti-replay-window-size") (count window)
    (put (codes "esp-sa") (only (codes "encryption") (encryption_data key)) ms)

-- what is configured, with a key or without one
unfoldable pub config_data : SadEntry → Option (List ℕ) → Data
config_data e key = object (with_sealing e.window key (with_fixed
    (with_lifetime (codes "sa-lifetime-hard") e.hard (with_soft e.soft (with_ends e no_members)))))

-- `sad-entry`: a half with its key, as it is put
unfoldable pub sad_entry_data : SadEntry → Data
sad_entry_data e = object (put (codes "ipsec-sa-config") (config_data e (Some e.key))
    (put (codes "name") (string e.name)
    (put (codes "reqid") (wide e.reqid) no_members)))

-- counts, each of which is written
abbrev pub counts_data : Limits → Data
counts_data l = object (put (codes "bytes") (wide l.bytes) (put (codes "idle") (count l.idle)
    (put (codes "packets") (count l.packets) (put (codes "time") (count l.time) no_members))))

-- `ipsec-sa-state`: the last sequence number of a half and its counts
unfoldable pub state_data : SaState → Data
state_data s = object (put (codes "replay-stats") (only (codes "last-sequence") (wide s.top))
    (put (codes "sa-lifetime-current") (counts_data s.current) no_members))

-- the state of a half with its name and its `reqid`
unfoldable pub with_state : SadRow → Members → Members
with_state r ms = put (codes "ipsec-sa-state") (state_data r.state)
    (put (codes "name") (string r.entry.name)
    (put (codes "reqid") (wide r.entry.reqid) ms))

-- a half with its state, and without its key
unfoldable pub row_data : SadRow → Data
row_data r = object (put (codes "ipsec-sa-config") (config_data r.entry None) (with_state r no_members))

-- halves with their states as the items of an array
abbrev pub row_items : List SadRow → Items
row_items rs = items_of (map row_data rs)

-- the body that has one half
abbrev pub one_sad_entry : SadEntry → Data
one_sad_entry e = only (codes "ietf-i2nsf-ikeless:sad-entry") (array (item (sad_entry_data e) no_items))

-- the body that shows one half with its state, and without its key
abbrev pub one_row : SadRow → Data
one_row r = only (codes "ietf-i2nsf-ikeless:sad-entry") (array (item (row_data r) no_items))

-- the body that has all rows
abbrev pub all_rows : List SadRow → Data
all_rows rs = only (codes "ietf-i2nsf-ikeless:sad") (only (codes "sad-entry") (array (row_items rs)))

-- the half's name is one that is read again
abbrev pub is_row_named : SadRow → Bool
is_row_named r = is_sad_name r.entry.name

-- no fault in the entry of any row
abbrev pub ArePassed : List SadRow → Type 0
ArePassed [] = Unit {0}
ArePassed (r ∷ rs) = (sad_fault r.entry ≡ None) × ArePassed rs

-- no object in the value, however deep, has a member of this name
abbrev mutual
  pub is_free_of : List ℕ → Data → Bool
  is_free_of name null = true
  is_free_of name (boolean b) = true
  is_free_of name (number n) = true
  is_free_of name (string s) = true
  is_free_of name (array ds) = are_free_of name ds
  is_free_of name (object ms) = have_not name ms

  pub are_free_of : List ℕ → Items → Bool
  are_free_of name no_items = true
  are_free_of name (item d ds) = is_free_of name d && are_free_of name ds

  pub have_not : List ℕ → Members → Bool
  have_not name no_members = true
  have_not name (member k d ms) = not (bytes_eq name k) && (is_free_of name d && have_not name ms)
