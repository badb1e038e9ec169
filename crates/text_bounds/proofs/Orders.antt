-- Every order can be written.
use Rattle.std.proofs.Common.{◌≡◌, ◌+◌, ◌*◌, ◌<◌, ◌≤◌, not, nat_lt, IsTrue, ℕ, Bool, true, false, List, [], ◌∷◌, ◌++◌, codes, length, None, if◌then◌else◌, refl, ◌∙◌, arith, length-append}
use Rattle.std.specs.List.{AllByRecursion, flat_map, list_all, list_any}
use Rattle.std.proofs.lemmas.Bool.{agree_below, agree_below_at, and_parts, and_from, not-false}
use Rattle.std.proofs.lemmas.Bool.Decides.{nat_tests}
use Rattle.std.proofs.lemmas.List.Elements.{recursion_from_All}
use Rattle.std.proofs.lemmas.List.Folds.{list_all-append}
use Rattle.serde_json.specs.Data.{array, item, no_items}
use Rattle.serde_json.specs.Written.{compact_text}
use Rattle.ikl_base.specs.declared.address.Addr.{Addr}
use Rattle.ikl_base.specs.declared.address.Addr.TheVariants.{V4, V6}
use Rattle.ikeless_tree.specs.declared.entry.SpdEntry.{SpdEntry}
use Rattle.ikeless_tree.specs.declared.order.Order.{Order}
use Rattle.ikeless_tree.specs.declared.order.Order.TheVariants as orders
use Rattle.ikeless_tree.specs.declared.sad.SadEntry.{SadEntry}
use Rattle.ikeless_tree.specs.declared.fault.Feature.TheVariants as features
use Rattle.ikeless_tree.specs.declared.fault.TreeFault.TheVariants as faults
use Rattle.ikeless_tree.specs.Check.{entries_fault, entry_fault, has_empty_range, has_many_ranges, is_key_length, is_named, is_path_octet, is_sad_name, is_spd_name, is_window, sad_fault, spd_fault}
use Rattle.ikeless_tree.specs.Typed.{AreTypedPolicies, IsTypedHalf, IsTypedOrder, IsTypedPolicy}
use Rattle.yang_values.specs.Addresses.{IsAddress, address_text}
use Rattle.yang_values.proofs.PrefixText.{address_plain}
use Rattle.json_values.specs.Written.{all_policies, one_policy, only, spd_entries_data, spd_entry_items}
use Rattle.json_tree.specs.SadEntryWritten.{one_sad_entry, sad_entry_data}
use Rattle.json_tree.proofs.Passed.{first_none, half_octets, no_fault, path_octets}
use Rattle.rc_http.specs.Written.{is_target, is_target_octet, IsWritableRequest}
use Rattle.rc_request.specs.Paths.{escape_octet, escaped, half_path, is_unreserved, policy_path}
use Rattle.rc_resource.specs.Messages.{host_text, order_message, IsOrder}
use Rattle.notice_lines.proofs.Text.{AreSizedItems, sized_array, sized_item, sized_no_items}
use Rattle.text_bounds.proofs.Fields.{asking_writable, is_seen, seen_octets}
use Rattle.text_bounds.proofs.Names.{address_size, half_size, policy_size}
use Rattle.text_bounds.proofs.Values.{IsSizedHalf, IsSizedPolicy, same, sized_entries, sized_half, sized_only}

-- ---- paths

targets_escaped : agree_below (λ b. list_all is_target_octet (escape_octet b)) (λ b. true) 256 ≡ true
targets_escaped = refl

seen_escaped : agree_below (λ b. list_all is_seen (escape_octet b)) (λ b. true) 256 ≡ true
seen_escaped = refl

octet_small : (c : ℕ) → is_path_octet c ≡ true → c < 256
octet_small c h = grind (arith, nat_tests, h)

all_escaped : (p : ℕ → Bool) → agree_below (λ b. list_all p (escape_octet b)) (λ b. true) 256 ≡ true → (name : List ℕ)
    → list_all is_path_octet name ≡ true → list_all p (escaped name) ≡ true
unfolding escaped
all_escaped p each [] h = refl
all_escaped p each (b ∷ bs) h =
    let parts = and_parts (is_path_octet b) (list_all is_path_octet bs) h in
    let one : list_all p (escape_octet b) ≡ true = agree_below_at (λ c. list_all p (escape_octet c)) (λ c. true) 256 b each
    (octet_small b parts.0) in
    list_all-append p (escape_octet b) (flat_map escape_octet bs) ∙ and_from _ _ one (all_escaped p each bs parts.1)

one_size : (t : Bool) (a b c d : ℕ) → length (if t then a ∷ [] else b ∷ c ∷ d ∷ []) ≤ 3
one_size true a b c d = omega arith
one_size false a b c d = omega arith

escaped_size : (name : List ℕ) → length (escaped name) ≤ 3 * length name
unfolding escaped
escaped_size [] = omega arith
escaped_size (b ∷ bs) =
    let one : length (escape_octet b) ≤ 3 = one_size (is_unreserved b) _ _ _ _ in
    let ih = escaped_size bs in
    let both = length-append (escape_octet b) (flat_map escape_octet bs) in
    omega (arith, one, ih, both)

-- a path with a name in it is short, and visible ASCII
pub record IsPath (p : List ℕ) : Type 0 where
  pub target : IsTrue (is_target p)
  pub seen : list_all is_seen p ≡ true
  pub size : length p ≤ 300

behind_front : (p : ℕ → Bool) (front name : List ℕ) → list_all p front ≡ true → list_all p (escaped name) ≡ true
    → list_all p (front ++ escaped name) ≡ true
behind_front p front name f e = list_all-append p front (escaped name) ∙ and_from _ _ f e

path_size : (front name : List ℕ) → length front ≤ 100 → length name ≤ 64 → length (front ++ escaped name) ≤ 300
path_size front name short few =
    let all = length-append front (escaped name) in
    let size = escaped_size name in
    omega (arith, all, size, short, few)

positive : (n : ℕ) → 0 < n → nat_lt 0 n ≡ true
positive n h = grind (arith, nat_tests, h)

pub half_is_path : (name : List ℕ) → list_all is_path_octet name ≡ true → length name ≤ 64 → IsPath (half_path name)
half_is_path name octets short =
    let front : List ℕ = codes "/restconf/data/ietf-i2nsf-ikeless:ipsec-ikeless/sad/sad-entry=" in
    let both : length (half_path name) ≡ length (codes "/restconf/data/ietf-i2nsf-ikeless:ipsec-ikeless/sad/sad-entry=") + length
    (escaped name) = length-append front (escaped name) in
    record {
      target = and_from _ _ (positive (length (half_path name)) (omega (arith, both))) (behind_front is_target_octet front name refl
          (all_escaped is_target_octet targets_escaped name octets));
      seen = behind_front is_seen front name refl (all_escaped is_seen seen_escaped name octets);
      size = path_size front name (omega arith) short;
    }

pub policy_is_path : (name : List ℕ) → list_all is_path_octet name ≡ true → length name ≤ 64 → IsPath (policy_path name)
policy_is_path name octets short =
    let front : List ℕ = codes "/restconf/data/ietf-i2nsf-ikeless:ipsec-ikeless/spd/spd-entry=" in
    let both : length (policy_path name) ≡ length (codes "/restconf/data/ietf-i2nsf-ikeless:ipsec-ikeless/spd/spd-entry=") + length
    (escaped name) = length-append front (escaped name) in
    record {
      target = and_from _ _ (positive (length (policy_path name)) (omega (arith, both))) (behind_front is_target_octet front name refl
          (all_escaped is_target_octet targets_escaped name octets));
      seen = behind_front is_seen front name refl (all_escaped is_seen seen_escaped name octets);
      size = path_size front name (omega arith) short;
    }

-- ---- hosts

host_seen : (a : Addr) → IsAddress a → list_all is_seen (host_text a) ≡ true
host_seen (V4 octets) h = seen_octets (address_text (V4 octets)) (address_plain (V4 octets) h)
host_seen (V6 octets) h =
    and_from _ _ refl (list_all-append is_seen (address_text (V6 octets)) (93 ∷ []) ∙ and_from _ _ (seen_octets (address_text
    (V6 octets)) (address_plain (V6 octets) h)) refl)

host_size : (a : Addr) → IsAddress a → length (host_text a) ≤ 100
host_size (V4 octets) h = let short = address_size (V4 octets) h in omega (arith, short)
host_size (V6 octets) h =
    let short = address_size (V6 octets) h in
    let both = length-append (address_text (V6 octets)) (93 ∷ []) in
    omega (arith, short, both)

-- ---- entries without a fault

sized_policy : (before : List SpdEntry) (e : SpdEntry) → entry_fault before e ≡ None → IsSizedPolicy e
unfolding entry_fault
sized_policy before e h =
    let first = no_fault (list_any (is_named e.name) before) faults.DuplicateName _ h in
    let second = no_fault (not (is_spd_name e.name)) faults.BadName _ first.1 in
    let third = no_fault (not (is_window e.window)) faults.BadWindow _ second.1 in
    let fourth = no_fault (has_empty_range e.selector) faults.EmptyRange _ third.1 in
    let fifth = no_fault (has_many_ranges e.selector) (faults.Unsupported features.Ports) _ fourth.1 in
    let name = not-false _ second.0 in
    record { octets = path_octets e.name name; short = policy_size e.name name; few = fifth.0 }

sized_policies : (before es : List SpdEntry) → entries_fault before es ≡ None → AllByRecursion IsSizedPolicy es
sized_policies before [] h = tt
sized_policies before (e ∷ es) h =
    let parts = first_none (entry_fault before e) (entries_fault (before ++ e ∷ []) es) h in
    (sized_policy before e parts.0, sized_policies (before ++ e ∷ []) es parts.1)

few_by : (n : ℕ) → nat_lt 256 n ≡ false → n ≤ 256
few_by n h = grind (arith, nat_tests, h)

pub few_policies : (es : List SpdEntry) → spd_fault es ≡ None → length es ≤ 256
unfolding spd_fault
few_policies es h = few_by (length es) (no_fault _ _ _ h).0

pub passed_policies : (es : List SpdEntry) → spd_fault es ≡ None → AllByRecursion IsSizedPolicy es
unfolding spd_fault
passed_policies es h = sized_policies [] es (no_fault _ _ _ h).1

key_by : (n : ℕ) → is_key_length n ≡ true → n ≤ 36
key_by n h = grind (arith, nat_tests, h)

pub passed_entry : (e : SadEntry) → sad_fault e ≡ None → IsSizedHalf e
unfolding sad_fault
passed_entry e h =
    let first = no_fault (not (is_sad_name e.name)) faults.BadName _ h in
    let second = no_fault (nat_lt e.spi 256) faults.BadSpi _ first.1 in
    let third = no_fault (not (is_key_length (length e.key))) faults.BadKeyLength _ second.1 in
    let fourth = no_fault (not (is_window e.window)) faults.BadWindow _ third.1 in
    let fifth = no_fault (has_empty_range e.selector) faults.EmptyRange _ fourth.1 in
    let sixth = no_fault (has_many_ranges e.selector) (faults.Unsupported features.Ports) _ fifth.1 in
    let name = not-false _ first.0 in
    record {
      octets = half_octets e.name name;
      short = half_size e.name name;
      key = key_by (length e.key)
          (not-false _ third.0);
      few = sixth.0;
    }

-- ---- bodies

pub policies_size : (es : List SpdEntry) → spd_fault es ≡ None → AreTypedPolicies es → length (compact_text (all_policies es)) ≤ 231981
policies_size es h typed =
    let few = few_policies es h in
    let all = (sized_entries es (passed_policies es h) (recursion_from_All IsTypedPolicy es typed)).size in
    let items : AreSizedItems 231937 (spd_entry_items es) = record { size = omega (arith, all, few) } in
    (sized_only 231953 22 (codes "ietf-i2nsf-ikeless:spd") (only (codes "spd-entry") (spd_entries_data es)) refl (same 22)
    (sized_only 231938 9 (codes "spd-entry") (spd_entries_data es) refl (same 9) (sized_array 231937 (spd_entry_items es) items))).size

pub policy_text_size : (e : SpdEntry) → IsSizedPolicy e → IsTypedPolicy e → length (compact_text (one_policy e)) ≤ 942
policy_text_size e is typed =
    (sized_only 908 28 (codes "ietf-i2nsf-ikeless:spd-entry") (spd_entries_data (e ∷ [])) refl (same 28)
    (sized_array 907 (spd_entry_items (e ∷ [])) (sized_entries (e ∷ []) (is, tt) (typed, tt)))).size

pub half_text_size : (e : SadEntry) → sad_fault e ≡ None → IsTypedHalf e → length (compact_text (one_sad_entry e)) ≤ 2077
half_text_size e h typed =
    (sized_only 2043 28 (codes "ietf-i2nsf-ikeless:sad-entry") (array (item (sad_entry_data e) no_items)) refl (same 28)
    (sized_array 2042 _ (sized_item 1 2040 (sad_entry_data e) no_items (sized_half e (passed_entry e h) typed) sized_no_items))).size

-- ---- orders

pub order_writable : (host : Addr) (o : Order) → IsAddress host → IsOrder o → IsTypedOrder o → IsWritableRequest (order_message host o)
order_writable host orders.Read a h typed =
    asking_writable (codes "GET") _ (host_text host) [] (record {
      method_is = refl;
      method_size = omega arith;
      target_is = refl;
      target_size = omega arith;
      host_is = host_seen host a;
      host_size = host_size host a;
      body_size = omega arith;
    })
order_writable host (orders.Policy list) a h typed =
    let size = policies_size list h typed in
    asking_writable (codes "PUT") _ (host_text host) (compact_text (all_policies list)) (record {
      method_is = refl;
      method_size = omega arith;
      target_is = refl;
      target_size = omega arith;
      host_is = host_seen host a;
      host_size = host_size host a;
      body_size = omega (arith, size);
    })
order_writable host (orders.Put e) a h typed =
    let size = half_text_size e h typed in
    asking_writable (codes "POST") _ (host_text host) (compact_text (one_sad_entry e)) (record {
      method_is = refl;
      method_size = omega arith;
      target_is = refl;
      target_size = omega arith;
      host_is = host_seen host a;
      host_size = host_size host a;
      body_size = omega (arith, size);
    })
order_writable host (orders.Remove name) a h typed =
    let path = half_is_path name (half_octets name h) (half_size name h) in
    let short = path.size in
    asking_writable (codes "DELETE") (half_path name) (host_text host) [] (record {
      method_is = refl;
      method_size = omega arith;
      target_is = path.target;
      target_size = omega (arith, short);
      host_is = host_seen host a;
      host_size = host_size host a;
      body_size = omega arith;
    })
