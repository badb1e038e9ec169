-- What is written has no floats, and nests a few levels deep.
use Rattle.std.proofs.Common.{◌≡◌, ◌≤◌, ℕ, suc, max, false, List, [], ◌∷◌, Option, Some, None, Ordering, Less, Equal, Greater, refl, arith, codes}
use Rattle.std.specs.Ordering.{nat_cmp, match_ordering}
use Rattle.std.proofs.lemmas.Bool.{or_from, or_parts}
use Rattle.std.specs.Cmp.Lexicographic.{slice_cmp}
use Rattle.serde_json.specs.Data.{Data, string, array, object, Items, no_items, item, Members, no_members, member, put, depth, items_depth, members_depth}
use Rattle.serde_json.specs.Written.{has_float, items_have_float, members_have_float}
use Rattle.ikeless_tree.specs.declared.entry.Range.{Range}
use Rattle.ikeless_tree.specs.declared.entry.Selector.{Selector}
use Rattle.ikeless_tree.specs.declared.entry.SpdEntry.{SpdEntry}
use Rattle.json_values.specs.Written.{count, range_data, range_items, with_ports, proto_data, selector_data, policy_data, spd_entry_data, spd_entry_items, spd_entries_data, only, one_policy, all_policies}

pub record IsFlat (n : ℕ) (d : Data) : Type 0 where
  pub plain : has_float d ≡ false
  pub shallow : depth d ≤ n

pub record AreFlat (n : ℕ) (ms : Members) : Type 0 where
  pub plain : members_have_float ms ≡ false
  pub shallow : members_depth ms ≤ n

pub record AreFlatItems (n : ℕ) (ds : Items) : Type 0 where
  pub plain : items_have_float ds ≡ false
  pub shallow : items_depth ds ≤ n

both_small : (a b n : ℕ) → a ≤ n → b ≤ n → max a b ≤ n
both_small a b n p q = omega arith

flat_member : (n : ℕ) (k : List ℕ) (d : Data) (ms : Members) → IsFlat n d → AreFlat n ms → AreFlat n (member k d ms)
flat_member n k d ms f m = record { plain = or_from _ _ f.plain m.plain; shallow = both_small _ _ n f.shallow m.shallow }

member_flat : (n : ℕ) (k : List ℕ) (d : Data) (ms : Members) → AreFlat n (member k d ms) → IsFlat n d × AreFlat n ms
member_flat n k d ms h =
    let parts = or_parts (has_float d) (members_have_float ms) h.plain in
    let deep : max (depth d) (members_depth ms) ≤ n = h.shallow in
    let here : depth d ≤ n = omega arith in
    let there : members_depth ms ≤ n = omega arith in
    (record { plain = parts.0; shallow = here }, record { plain = parts.1; shallow = there })

pub flat_order : (n : ℕ) (o : Ordering) (a b c : Members) → AreFlat n a → AreFlat n b → AreFlat n c → AreFlat n (match_ordering o a b c)
flat_order n Less a b c x y z = x
flat_order n Equal a b c x y z = y
flat_order n Greater a b c x y z = z

pub flat_put : (n : ℕ) (k : List ℕ) (d : Data) (ms : Members) → IsFlat n d → AreFlat n ms → AreFlat n (put k d ms)
flat_put n k d no_members f m = flat_member n k d no_members f m
flat_put n k d (member l e ms) f m =
    let parts = member_flat n l e ms m in
    flat_order n (slice_cmp nat_cmp k l) _ _ _
    (flat_member n k d (member l e ms) f m)
    (flat_member n l d ms f parts.1)
    (flat_member n l e (put k d ms) parts.0 (flat_put n k d ms f parts.1))

pub flat_none : (n : ℕ) → AreFlat n no_members
flat_none n = record { plain = refl; shallow = omega arith }

pub flat_object : (n : ℕ) (ms : Members) → AreFlat n ms → IsFlat (suc n) (object ms)
flat_object n ms m = let deep : members_depth ms ≤ n = m.shallow in record { plain = m.plain; shallow = omega arith }

pub flat_array : (n : ℕ) (ds : Items) → AreFlatItems n ds → IsFlat (suc n) (array ds)
flat_array n ds m = let deep : items_depth ds ≤ n = m.shallow in record { plain = m.plain; shallow = omega arith }

pub flat_string : (n : ℕ) (s : List ℕ) → IsFlat n (string s)
flat_string n s = record { plain = refl; shallow = omega arith }

pub flat_count : (n c : ℕ) → IsFlat n (count c)
flat_count n c = record { plain = refl; shallow = omega arith }

pub flat_item : (n : ℕ) (d : Data) (ds : Items) → IsFlat n d → AreFlatItems n ds → AreFlatItems n (item d ds)
flat_item n d ds f m = record { plain = or_from _ _ f.plain m.plain; shallow = both_small _ _ n f.shallow m.shallow }

pub flat_no_items : (n : ℕ) → AreFlatItems n no_items
flat_no_items n = record { plain = refl; shallow = omega arith }

-- ---- selectors

flat_range : (r : Range) → IsFlat 1 (range_data r)
flat_range r = flat_object 0 _ (flat_put 0 (codes "end") _ _ (flat_count 0 r.end) (flat_put 0 (codes "start") _ _ (flat_count 0 r.start)
    (flat_none 0)))

flat_ranges : (rs : List Range) → AreFlatItems 1 (range_items rs)
flat_ranges [] = flat_no_items 1
flat_ranges (r ∷ rs) = flat_item 1 _ _ (flat_range r) (flat_ranges rs)

flat_ports : (name : List ℕ) (rs : List Range) (ms : Members) → AreFlat 2 ms → AreFlat 2 (with_ports name rs ms)
flat_ports name [] ms m = m
flat_ports name (r ∷ rs) ms m = flat_put 2 name _ ms (flat_array 1 _ (flat_ranges (r ∷ rs))) m

flat_proto : (p : Option ℕ) → IsFlat 2 (proto_data p)
flat_proto None = flat_string 2 (codes "any")
flat_proto (Some n) = flat_count 2 n

pub flat_selector : (s : Selector) → IsFlat 3 (selector_data s)
unfolding selector_data
flat_selector s = flat_object 2 _ (flat_put 2 (codes "inner-protocol") _ _ (flat_proto s.proto)
    (flat_ports (codes "local-ports") s.local_ports _ (flat_put 2 (codes "local-prefix") _ _ (flat_string 2 _)
    (flat_ports (codes "remote-ports") s.remote_ports _ (flat_put 2 (codes "remote-prefix") _ _ (flat_string 2 _) (flat_none 2))))))

-- ---- policies

flat_action : (w : List ℕ) → IsFlat 3 (only (codes "action") (string w))
flat_action w = flat_object 2 _ (flat_put 2 (codes "action") _ _ (flat_string 2 w) (flat_none 2))

flat_policy : (e : SpdEntry) → IsFlat 4 (policy_data e)
unfolding policy_data
flat_policy e = flat_object 3 _ (flat_put 3 (codes "anti-replay-window-size") _ _ (flat_count 3 e.window)
    (flat_put 3 (codes "processing-info") _ _ (flat_action _) (flat_put 3 (codes "traffic-selector") _ _ (flat_selector e.selector)
    (flat_none 3))))

flat_spd_entry : (e : SpdEntry) → IsFlat 5 (spd_entry_data e)
unfolding spd_entry_data
flat_spd_entry e = flat_object 4 _ (flat_put 4 (codes "direction") _ _ (flat_string 4 _)
    (flat_put 4 (codes "ipsec-policy-config") _ _ (flat_policy e)
    (flat_put 4 (codes "name") _ _ (flat_string 4 e.name) (flat_put 4 (codes "reqid") _ _ (flat_string 4 _) (flat_none 4)))))

flat_spd_items : (es : List SpdEntry) → AreFlatItems 5 (spd_entry_items es)
flat_spd_items [] = flat_no_items 5
flat_spd_items (e ∷ es) = flat_item 5 _ _ (flat_spd_entry e) (flat_spd_items es)

pub flat_spd_entries : (es : List SpdEntry) → IsFlat 6 (spd_entries_data es)
flat_spd_entries es = flat_array 5 _ (flat_spd_items es)

pub flat_only : (n : ℕ) (name : List ℕ) (d : Data) → IsFlat n d → IsFlat (suc n) (only name d)
flat_only n name d f = flat_object n _ (flat_put n name d no_members f (flat_none n))

pub flat_one_policy : (e : SpdEntry) → IsFlat 7 (one_policy e)
flat_one_policy e = flat_only 6 (codes "ietf-i2nsf-ikeless:spd-entry") _ (flat_spd_entries (e ∷ []))

pub flat_all_policies : (es : List SpdEntry) → IsFlat 8 (all_policies es)
flat_all_policies es = flat_only 7 (codes "ietf-i2nsf-ikeless:spd") _ (flat_only 6 (codes "spd-entry") _ (flat_spd_entries es))
