-- What is written for halves has no floats, and nests a few levels deep.
use Rattle.std.proofs.Common.{◌==◌, ℕ, Bool, true, false, if◌then◌else◌, List, [], ◌∷◌, Option, Some, None, refl, arith, codes, decimal}
use Rattle.serde_json.specs.Data.{string, boolean, object, Members, no_members, put}
use Rattle.ikeless_tree.specs.declared.sad.Limits.{Limits}
use Rattle.ikeless_tree.specs.declared.sad.SadEntry.{SadEntry}
use Rattle.ikeless_tree.specs.declared.sad.SadRow.{SadRow}
use Rattle.ikeless_tree.specs.declared.sad.SaState.{SaState}
use Rattle.json_values.specs.Written.{count, wide, only}
use Rattle.json_tree.specs.SadEntryWritten.{
  with_count,
  with_wide,
  limits_members,
  has_no_limits,
  with_lifetime,
  with_soft,
  tunnel_data,
  encryption_data,
  with_key,
  with_sealing,
  with_fixed,
  with_ends,
  config_data,
  sad_entry_data,
  counts_data,
  state_data,
  with_state,
  row_data,
  row_items,
  one_sad_entry,
  all_rows,
}
use Rattle.json_tree.proofs.Flat.{
  IsFlat,
  AreFlat,
  AreFlatItems,
  flat_put,
  flat_none,
  flat_object,
  flat_array,
  flat_string,
  flat_count,
  flat_item,
  flat_no_items,
  flat_only,
  flat_selector,
}

flat_if : (n : ℕ) (b : Bool) (x y : Members) → AreFlat n x → AreFlat n y → AreFlat n (if b then x else y)
flat_if n true x y f g = f
flat_if n false x y f g = g

pub flat_bool : (n : ℕ) (b : Bool) → IsFlat n (boolean b)
flat_bool n b = record { plain = refl; shallow = omega arith }

flat_with_count : (n : ℕ) (name : List ℕ) (c : ℕ) (ms : Members) → AreFlat n ms → AreFlat n (with_count name c ms)
flat_with_count n name c ms m = flat_if n (c == 0) _ _ m (flat_put n name (count c) ms (flat_count n c) m)

flat_with_wide : (n : ℕ) (name : List ℕ) (c : ℕ) (ms : Members) → AreFlat n ms → AreFlat n (with_wide name c ms)
flat_with_wide n name c ms m = flat_if n (c == 0) _ _ m (flat_put n name (wide c) ms (flat_string n (decimal c)) m)

flat_limits : (l : Limits) → AreFlat 1 (limits_members l)
flat_limits l = flat_with_wide 1 (codes "bytes") l.bytes _ (flat_with_count 1 (codes "idle") l.idle _
    (flat_with_count 1 (codes "packets") l.packets _ (flat_with_count 1 (codes "time") l.time no_members (flat_none 1))))

pub flat_lifetime : (name : List ℕ) (l : Limits) (ms : Members) → AreFlat 3 ms → AreFlat 3 (with_lifetime name l ms)
flat_lifetime name l ms m =
    flat_if 3 (has_no_limits l) _ _ m
    (flat_put 3 name (object (limits_members l)) ms (deeper (flat_object 1 (limits_members l) (flat_limits l))) m)
  where
    deeper : IsFlat 2 (object (limits_members l)) → IsFlat 3 (object (limits_members l))
    deeper f = let shallow = f.shallow in record { plain = f.plain; shallow = omega arith }

flat_soft : (l : Limits) (ms : Members) → AreFlat 3 ms → AreFlat 3 (with_soft l ms)
flat_soft l ms m =
    let inner : Members = put (codes "action") (string (codes "replace")) (limits_members l) in
    flat_if 3 (has_no_limits l) _ _ m (flat_put 3 (codes "sa-lifetime-soft") (object inner) ms
    (deeper inner (flat_object 1 inner (flat_put 1 (codes "action") _ (limits_members l) (flat_string 1 (codes "replace"))
    (flat_limits l)))) m)
  where
    deeper : (inner : Members) → IsFlat 2 (object inner) → IsFlat 3 (object inner)
    deeper inner f = let shallow = f.shallow in record { plain = f.plain; shallow = omega arith }

flat_tunnel : (e : SadEntry) → IsFlat 3 (tunnel_data e)
unfolding tunnel_data
flat_tunnel e = flat_object 2 _ (flat_put 2 (codes "df-bit") _ _ (flat_string 2 _)
    (flat_put 2 (codes "local") _ _ (flat_string 2 _) (flat_put 2 (codes "remote") _ _ (flat_string 2 _) (flat_none 2))))

flat_key : (key : Option (List ℕ)) → AreFlat 1 (with_key key no_members)
flat_key None = flat_none 1
flat_key (Some key) = flat_put 1 (codes "key") _ no_members (flat_string 1 _) (flat_none 1)

flat_encryption : (key : Option (List ℕ)) → IsFlat 3 (only (codes "encryption") (encryption_data key))
flat_encryption key =
    flat_only 2 (codes "encryption") _ (flat_object 1 _ (flat_put 1 (codes "encryption-algorithm") _ _ (flat_count 1 20) (flat_key key)))

flat_ends : (e : SadEntry) (ms : Members) → AreFlat 3 ms → AreFlat 3 (with_ends e ms)
unfolding with_ends
flat_ends e ms m = flat_put 3 (codes "spi") _ _ (flat_count 3 e.spi)
    (flat_put 3 (codes "traffic-selector") _ _ (flat_selector e.selector) (flat_put 3 (codes "tunnel") _ ms (flat_tunnel e) m))

flat_fixed : (ms : Members) → AreFlat 3 ms → AreFlat 3 (with_fixed ms)
unfolding with_fixed
flat_fixed ms m = flat_put 3 (codes "ext-seq-num") _ _ (flat_bool 3 false)
    (flat_put 3 (codes "mode") _ _ (flat_string 3 _) (flat_put 3 (codes "protocol-parameters") _ _ (flat_string 3 _)
    (flat_put 3 (codes "seq-overflow") _ ms (flat_bool 3 false) m)))

flat_sealing : (window : ℕ) (key : Option (List ℕ)) (ms : Members) → AreFlat 3 ms → AreFlat 3 (with_sealing window key ms)
unfolding with_sealing
flat_sealing window key ms m = flat_put 3 (codes "anti-replay-window-size") _ _ (flat_count 3 window)
    (flat_put 3 (codes "esp-sa") _ ms (flat_encryption key) m)

flat_config : (e : SadEntry) (key : Option (List ℕ)) → IsFlat 4 (config_data e key)
unfolding config_data
flat_config e key = flat_object 3 _ (flat_sealing e.window key _ (flat_fixed _
    (flat_lifetime (codes "sa-lifetime-hard") e.hard _ (flat_soft e.soft _ (flat_ends e no_members (flat_none 3))))))

flat_sad_entry : (e : SadEntry) → IsFlat 5 (sad_entry_data e)
unfolding sad_entry_data
flat_sad_entry e = flat_object 4 _ (flat_put 4 (codes "ipsec-sa-config") _ _ (flat_config e (Some e.key))
    (flat_put 4 (codes "name") _ _ (flat_string 4 e.name) (flat_put 4 (codes "reqid") _ _ (flat_string 4 _) (flat_none 4))))

pub flat_counts : (l : Limits) → IsFlat 3 (counts_data l)
flat_counts l = flat_object 2 _ (flat_put 2 (codes "bytes") _ _ (flat_string 2 _) (flat_put 2 (codes "idle") _ _ (flat_count 2 l.idle)
    (flat_put 2 (codes "packets") _ _ (flat_count 2 l.packets) (flat_put 2 (codes "time") _ _ (flat_count 2 l.time) (flat_none 2)))))

flat_state : (s : SaState) → IsFlat 4 (state_data s)
unfolding state_data
flat_state s = flat_object 3 _ (flat_put 3 (codes "replay-stats") _ _ (flat_only 2 (codes "last-sequence") (wide s.top) (flat_string 2 _))
    (flat_put 3 (codes "sa-lifetime-current") _ _ (flat_counts s.current) (flat_none 3)))

flat_row : (r : SadRow) → IsFlat 5 (row_data r)
unfolding row_data with_state
flat_row r = flat_object 4 _ (flat_put 4 (codes "ipsec-sa-config") _ _ (flat_config r.entry None)
    (flat_put 4 (codes "ipsec-sa-state") _ _ (flat_state r.state)
    (flat_put 4 (codes "name") _ _ (flat_string 4 r.entry.name) (flat_put 4 (codes "reqid") _ _ (flat_string 4 _) (flat_none 4)))))

flat_rows : (rs : List SadRow) → AreFlatItems 5 (row_items rs)
flat_rows [] = flat_no_items 5
flat_rows (r ∷ rs) = flat_item 5 _ _ (flat_row r) (flat_rows rs)

pub flat_one_sad_entry : (e : SadEntry) → IsFlat 7 (one_sad_entry e)
flat_one_sad_entry e = flat_only 6 (codes "ietf-i2nsf-ikeless:sad-entry") _
    (flat_array 5 _ (flat_item 5 _ _ (flat_sad_entry e) (flat_no_items 5)))

pub flat_all_rows : (rs : List SadRow) → IsFlat 8 (all_rows rs)
flat_all_rows rs = flat_only 7 (codes "ietf-i2nsf-ikeless:sad") _ (flat_only 6 (codes "sad-entry") _ (flat_array 5 _ (flat_rows rs)))
