-- What is written for all halves has no member `key`, at any depth.
use Rattle.std.proofs.Common.{◌≡◌, ◌==◌, ◌&&◌, not, ℕ, Bool, true, false, if◌then◌else◌, List, [], ◌∷◌, Option, Some, None, Ordering, Less, Equal, Greater, refl, codes}
use Rattle.std.specs.Str.{bytes_eq}
use Rattle.std.specs.Ordering.{nat_cmp, match_ordering}
use Rattle.std.specs.Cmp.Lexicographic.{slice_cmp}
use Rattle.std.proofs.lemmas.Bool.{and_parts, and_from}
use Rattle.serde_json.specs.Data.{Data, string, boolean, array, object, Items, no_items, item, Members, no_members, member, put}
use Rattle.ikeless_tree.specs.declared.entry.Range.{Range}
use Rattle.ikeless_tree.specs.declared.entry.Selector.{Selector}
use Rattle.ikeless_tree.specs.declared.sad.Limits.{Limits}
use Rattle.ikeless_tree.specs.declared.sad.SadEntry.{SadEntry}
use Rattle.ikeless_tree.specs.declared.sad.SadRow.{SadRow}
use Rattle.ikeless_tree.specs.declared.sad.SaState.{SaState}
use Rattle.json_values.specs.Written.{count, wide, only, range_data, range_items, with_ports, proto_data, selector_data}
use Rattle.json_tree.specs.SadEntryWritten.{with_count, with_wide, limits_members, has_no_limits, with_lifetime, with_soft, tunnel_data, encryption_data, with_sealing, with_fixed, with_ends, config_data, counts_data, state_data, with_state, row_data, row_items, all_rows, is_free_of, are_free_of, have_not}

pub record IsFree (d : Data) : Type 0 where
  pub free : is_free_of (codes "key") d ≡ true

record HaveNone (ms : Members) : Type 0 where
  pub free : have_not (codes "key") ms ≡ true

record AreFree (ds : Items) : Type 0 where
  pub free : are_free_of (codes "key") ds ≡ true

free_member : (k : List ℕ) (d : Data) (ms : Members) → not (bytes_eq (codes "key") k) ≡ true → IsFree d → HaveNone ms
    → HaveNone (member k d ms)
free_member k d ms other f m = record { free = and_from _ _ other (and_from _ _ f.free m.free) }

free_order : (o : Ordering) (a b c : Members) → HaveNone a → HaveNone b → HaveNone c → HaveNone (match_ordering o a b c)
free_order Less a b c x y z = x
free_order Equal a b c x y z = y
free_order Greater a b c x y z = z

free_put : (k : List ℕ) (d : Data) (ms : Members) → not (bytes_eq (codes "key") k) ≡ true → IsFree d → HaveNone ms → HaveNone (put k d ms)
free_put k d no_members other f m = free_member k d no_members other f m
free_put k d (member l e ms) other f m =
    let parts = and_parts (not (bytes_eq (codes "key") l)) (is_free_of (codes "key") e && have_not (codes "key") ms) m.free in
    let inner = and_parts (is_free_of (codes "key") e) (have_not (codes "key") ms) parts.1 in
    let rest : HaveNone ms = record { free = inner.1 } in
    let here : IsFree e = record { free = inner.0 } in
    free_order (slice_cmp nat_cmp k l) _ _ _
    (free_member k d (member l e ms) other f m)
    (free_member l d ms parts.0 f rest)
    (free_member l e (put k d ms) parts.0 here (free_put k d ms other f rest))

none : HaveNone no_members
none = record { free = refl }

free_object : (ms : Members) → HaveNone ms → IsFree (object ms)
free_object ms m = record { free = m.free }

free_array : (ds : Items) → AreFree ds → IsFree (array ds)
free_array ds m = record { free = m.free }

free_string : (s : List ℕ) → IsFree (string s)
free_string s = record { free = refl }

free_count : (n : ℕ) → IsFree (count n)
free_count n = record { free = refl }

free_bool : (b : Bool) → IsFree (boolean b)
free_bool b = record { free = refl }

free_item : (d : Data) (ds : Items) → IsFree d → AreFree ds → AreFree (item d ds)
free_item d ds f m = record { free = and_from _ _ f.free m.free }

free_no_items : AreFree no_items
free_no_items = record { free = refl }

free_only : (name : List ℕ) (d : Data) → not (bytes_eq (codes "key") name) ≡ true → IsFree d → IsFree (only name d)
free_only name d other f = free_object _ (free_put name d no_members other f none)

free_if : (b : Bool) (x y : Members) → HaveNone x → HaveNone y → HaveNone (if b then x else y)
free_if true x y f g = f
free_if false x y f g = g

free_range : (r : Range) → IsFree (range_data r)
free_range r = free_object _ (free_put (codes "end") _ _ refl (free_count r.end) (free_put (codes "start") _ _ refl (free_count r.start)
    none))

free_ranges : (rs : List Range) → AreFree (range_items rs)
free_ranges [] = free_no_items
free_ranges (r ∷ rs) = free_item _ _ (free_range r) (free_ranges rs)

free_ports : (name : List ℕ) (rs : List Range) (ms : Members) → not (bytes_eq (codes "key") name) ≡ true → HaveNone ms
    → HaveNone (with_ports name rs ms)
free_ports name [] ms other m = m
free_ports name (r ∷ rs) ms other m = free_put name _ ms other (free_array _ (free_ranges (r ∷ rs))) m

free_proto : (p : Option ℕ) → IsFree (proto_data p)
free_proto None = free_string (codes "any")
free_proto (Some n) = free_count n

free_selector : (s : Selector) → IsFree (selector_data s)
unfolding selector_data
free_selector s = free_object _ (free_put (codes "inner-protocol") _ _ refl (free_proto s.proto)
    (free_ports (codes "local-ports") s.local_ports _ refl (free_put (codes "local-prefix") _ _ refl (free_string _)
    (free_ports (codes "remote-ports") s.remote_ports _ refl (free_put (codes "remote-prefix") _ _ refl (free_string _) none)))))

free_with_count : (name : List ℕ) (c : ℕ) (ms : Members) → not (bytes_eq (codes "key") name) ≡ true → HaveNone ms
    → HaveNone (with_count name c ms)
free_with_count name c ms other m = free_if (c == 0) _ _ m (free_put name (count c) ms other (free_count c) m)

free_with_wide : (name : List ℕ) (c : ℕ) (ms : Members) → not (bytes_eq (codes "key") name) ≡ true → HaveNone ms
    → HaveNone (with_wide name c ms)
free_with_wide name c ms other m = free_if (c == 0) _ _ m (free_put name (wide c) ms other (free_string _) m)

free_limits : (l : Limits) → HaveNone (limits_members l)
free_limits l = free_with_wide (codes "bytes") l.bytes _ refl (free_with_count (codes "idle") l.idle _ refl
    (free_with_count (codes "packets") l.packets _ refl (free_with_count (codes "time") l.time no_members refl none)))

free_lifetime : (name : List ℕ) (l : Limits) (ms : Members) → not (bytes_eq (codes "key") name) ≡ true → HaveNone ms
    → HaveNone (with_lifetime name l ms)
free_lifetime name l ms other m =
    free_if (has_no_limits l) _ _ m (free_put name (object (limits_members l)) ms other (free_object _ (free_limits l)) m)

free_soft : (l : Limits) (ms : Members) → HaveNone ms → HaveNone (with_soft l ms)
free_soft l ms m = free_if (has_no_limits l) _ _ m (free_put (codes "sa-lifetime-soft") _ ms refl
    (free_object _ (free_put (codes "action") _ (limits_members l) refl (free_string (codes "replace")) (free_limits l))) m)

free_tunnel : (e : SadEntry) → IsFree (tunnel_data e)
unfolding tunnel_data
free_tunnel e = free_object _ (free_put (codes "df-bit") _ _ refl (free_string _)
    (free_put (codes "local") _ _ refl (free_string _) (free_put (codes "remote") _ _ refl (free_string _) none)))

free_encryption : IsFree (only (codes "encryption") (encryption_data None))
free_encryption = free_only (codes "encryption") _ refl
    (free_object _ (free_put (codes "encryption-algorithm") _ no_members refl (free_count 20) none))

free_config : (e : SadEntry) → IsFree (config_data e None)
unfolding config_data with_sealing with_fixed with_ends
free_config e = free_object _ (free_put (codes "anti-replay-window-size") _ _ refl (free_count e.window)
    (free_put (codes "esp-sa") _ _ refl free_encryption
    (free_put (codes "ext-seq-num") _ _ refl (free_bool false)
    (free_put (codes "mode") _ _ refl (free_string _)
    (free_put (codes "protocol-parameters") _ _ refl (free_string _)
    (free_put (codes "seq-overflow") _ _ refl (free_bool false)
    (free_lifetime (codes "sa-lifetime-hard") e.hard _ refl
    (free_soft e.soft _
    (free_put (codes "spi") _ _ refl (free_count e.spi)
    (free_put (codes "traffic-selector") _ _ refl (free_selector e.selector)
    (free_put (codes "tunnel") _ _ refl (free_tunnel e) none)))))))))))

free_counts : (l : Limits) → IsFree (counts_data l)
free_counts l = free_object _ (free_put (codes "bytes") _ _ refl (free_string _) (free_put (codes "idle") _ _ refl (free_count l.idle)
    (free_put (codes "packets") _ _ refl (free_count l.packets) (free_put (codes "time") _ _ refl (free_count l.time) none))))

free_state : (s : SaState) → IsFree (state_data s)
unfolding state_data
free_state s = free_object _ (free_put (codes "replay-stats") _ _ refl (free_only (codes "last-sequence") (wide s.top) refl (free_string _))
    (free_put (codes "sa-lifetime-current") _ _ refl (free_counts s.current) none))

free_row : (r : SadRow) → IsFree (row_data r)
unfolding row_data with_state
free_row r = free_object _ (free_put (codes "ipsec-sa-config") _ _ refl (free_config r.entry)
    (free_put (codes "ipsec-sa-state") _ _ refl (free_state r.state)
    (free_put (codes "name") _ _ refl (free_string r.entry.name) (free_put (codes "reqid") _ _ refl (free_string _) none))))

free_rows : (rs : List SadRow) → AreFree (row_items rs)
free_rows [] = free_no_items
free_rows (r ∷ rs) = free_item _ _ (free_row r) (free_rows rs)

pub free_all_rows : (rs : List SadRow) → IsFree (all_rows rs)
free_all_rows rs = free_only (codes "ietf-i2nsf-ikeless:sad") _ refl (free_only (codes "sad-entry") _ refl (free_array _ (free_rows rs)))
