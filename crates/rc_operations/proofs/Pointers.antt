-- The pointers in refusals of commands: ASCII, and short.
use Rattle.std.proofs.Common.{◌≡◌, ◌+◌, ◌≤◌, nat_lt, ℕ, true, List, [], ◌∷◌, ◌++◌, codes, length, Option, Some, None, Result, Ok, Err, refl, subst, arith, length-append}
use Rattle.std.specs.Str.{bytes_eq}
use Rattle.std.proofs.lemmas.Bool.{and_parts}
use Rattle.json.proofs.Printed.Utf8.{are_ascii}
use Rattle.serde_json.specs.Data.{Data, member, no_members, object}
use Rattle.serde_json.specs.Find.{as_array, get}
use Rattle.ikeless_tree.specs.declared.entry.SpdEntry.{SpdEntry}
use Rattle.ikeless_tree.specs.Check.{is_gateway, spd_fault}
use Rattle.json_values.specs.declared.fault.Fault.{Fault}
use Rattle.json_values.specs.declared.fault.Kind.TheVariants as kinds
use Rattle.json_values.specs.Faults.{at_member, checked, deeper, within, ◌>>=◌}
use Rattle.json_values.specs.Leaves.{mode_leaf, name_leaf, needed_number, needed_wide, octets_leaf, prefix_leaf}
use Rattle.json_values.specs.Members.{list_input_shape, tunnel_input_shape}
use Rattle.json_values.specs.Shapes.{items_read, only_in, shape}
use Rattle.json_tree.specs.PolicyRead.{all_entries, database_in, entries_of, spd_entry_in, spd_in}
use Rattle.json_tree.specs.SadEntryRead.{limits_of}
use Rattle.json_codec.specs.CommandRead.{command_fault, command_in, end_command, first_in, input_in, inputs_in, keys_command, list_command, only_key, only_reqid, rekey_command, second_in, tunnel_command}
use Rattle.text_bounds.proofs.Pointers.{IsGood, IsText, good_checked, good_choice, good_here, good_limits, good_member, good_ok, good_only, good_shape, good_spd, good_then, good_within}

-- ---- texts

behind_ascii : (a b : List ℕ) → are_ascii (a ++ b) ≡ true → are_ascii b ≡ true
behind_ascii [] b p = p
behind_ascii (x ∷ a) b p = behind_ascii a b (and_parts (nat_lt x 128) (are_ascii (a ++ b)) p).1

-- what stands below a member is shorter
below_text : (m n : ℕ) (name path : List ℕ) → n ≤ length name + 1 + m → IsText n (deeper name path) → IsText m path
below_text m n name path fits is =
    let both = length-append name path in
    let p = is.size in
    record {
      octets = behind_ascii name path (and_parts (nat_lt 47 128) (are_ascii (name ++ path)) is.octets).1;
      size = omega (arith, both, p, fits);
    }

-- ---- lists of policies

-- the body that has all policies of a list
abbrev only_member : List ℕ → Data → Data
only_member name d = object (member name d no_members)

abbrev as_body : Data → Data
as_body list = only_member (codes "ietf-i2nsf-ikeless:spd") (only_member (codes "spd-entry") list)

abbrev in_body : Result (List SpdEntry) Fault → Result (List SpdEntry) Fault
in_body r = within (codes "ietf-i2nsf-ikeless:spd") (within (codes "spd-entry") r) >>= (λ list. checked list (spd_fault list))

body_is : (list : Data) → spd_in (as_body list) ≡ in_body (items_read spd_entry_in (as_array list))
unfolding spd_in all_entries database_in only_in shape
body_is list = refl

below_body : (r : Result (List SpdEntry) Fault) → IsGood 230 (in_body r) → IsGood 207 (within (codes "spd-entry") r)
below_body (Ok list) g = record { is = tt }
below_body (Err f) g = record {
  is = below_text 207 230 (codes "ietf-i2nsf-ikeless:spd") (deeper (codes "spd-entry") f.path) (omega arith)
      g.is;
}

good_entries : (o : Option Data) → IsGood 207 (entries_of o)
good_entries None = good_here 207 kinds.Missing
good_entries (Some list) =
    let P : Result (List SpdEntry) Fault → Type 0 = λ r. IsGood 230 r in
    below_body (items_read spd_entry_in (as_array list)) (subst P (body_is list) (good_spd (as_body list)))

-- ---- limits

good_limits_of : (name : List ℕ) → are_ascii name ≡ true → length name ≤ 4 → (o : Option Data) → IsGood 207 (limits_of name o)
good_limits_of name ascii short None = good_ok 207 _
good_limits_of name ascii short (Some d) = good_within 10 207 name _ ascii (omega (arith, short)) (good_limits d)

-- ---- commands

good_list : (d : Data) → IsGood 207 (list_command d)
unfolding list_command list_input_shape
good_list d =
    good_then 207 _ _ (good_shape 207 _ _ d) (λ done.
    good_then 207 _ _ (good_member 207 (codes "gateway") (name_leaf is_gateway (get (codes "gateway") d)) refl (omega arith)) (λ gateway.
    good_then 207 _ _ (good_entries (get (codes "spd-entry") d)) (λ list. good_ok 207 _)))

good_prefix : (name : List ℕ) (d : Data) → are_ascii name ≡ true → length name ≤ 13 → IsGood 207 (at_member name (prefix_leaf (get name d)))
good_prefix name d ascii short = good_member 207 name (prefix_leaf (get name d)) ascii (omega (arith, short))

good_first : (d : Data) → IsGood 207 (first_in d)
unfolding first_in
good_first d =
    good_then 207 _ _ (good_member 207 (codes "anti-replay-window-size") (needed_number 32 4096 (get (codes "anti-replay-window-size") d))
    refl (omega arith)) (λ window.
    good_then 207 _ _ (good_member 207 (codes "first") (name_leaf is_gateway (get (codes "first") d)) refl (omega arith)) (λ name.
    good_then 207 _ _ (good_prefix (codes "first-prefix") d refl (omega arith)) (λ prefix.
    good_then 207 _ _ (good_limits_of (codes "hard") refl (omega arith) (get (codes "hard") d)) (λ hard. good_ok 207 _))))

good_second : (d : Data) → IsGood 207 (second_in d)
unfolding second_in
good_second d =
    good_then 207 _ _ (good_member 207 (codes "mode") (mode_leaf (get (codes "mode") d)) refl (omega arith)) (λ now.
    good_then 207 _ _ (good_member 207 (codes "reqid") (needed_wide (get (codes "reqid") d)) refl (omega arith)) (λ reqid.
    good_then 207 _ _ (good_member 207 (codes "second") (name_leaf is_gateway (get (codes "second") d)) refl (omega arith)) (λ name.
    good_then 207 _ _ (good_prefix (codes "second-prefix") d refl (omega arith)) (λ prefix.
    good_then 207 _ _ (good_limits_of (codes "soft") refl (omega arith) (get (codes "soft") d)) (λ soft. good_ok 207 _)))))

good_tunnel : (d : Data) → IsGood 207 (tunnel_command d)
unfolding tunnel_command tunnel_input_shape
good_tunnel d =
    good_then 207 _ _ (good_shape 207 _ _ d) (λ done.
    good_then 207 _ _ (good_first d) (λ first.
    good_then 207 _ _ (good_second d) (λ second. good_ok 207 _)))

good_reqid : (d : Data) → IsGood 207 (only_reqid d)
unfolding only_reqid
good_reqid d = good_then 207 _ _ (good_only 207 (codes "reqid") d) (λ leaf. good_member 207 (codes "reqid") (needed_wide (Some leaf)) refl
    (omega arith))

good_key : (d : Data) → IsGood 207 (only_key d)
unfolding only_key
good_key d = good_then 207 _ _ (good_only 207 (codes "key") d) (λ leaf. good_member 207 (codes "key") (octets_leaf (Some leaf)) refl
    (omega arith))

good_end : (d : Data) → IsGood 207 (end_command d)
unfolding end_command
good_end d = good_then 207 _ _ (good_reqid d) (λ reqid. good_ok 207 _)

good_rekey : (d : Data) → IsGood 207 (rekey_command d)
unfolding rekey_command
good_rekey d = good_then 207 _ _ (good_reqid d) (λ reqid. good_ok 207 _)

good_keys : (d : Data) → IsGood 207 (keys_command d)
unfolding keys_command
good_keys d = good_then 207 _ _ (good_key d) (λ key. good_ok 207 _)

good_input : (op : List ℕ) (d : Data) → IsGood 207 (input_in op d)
unfolding input_in
good_input op d =
    good_choice 207 (bytes_eq op (codes "policy")) _ _ (good_list d)
    (good_choice 207 (bytes_eq op (codes "tunnel")) _ _ (good_tunnel d)
    (good_choice 207 (bytes_eq op (codes "end")) _ _ (good_end d)
    (good_choice 207 (bytes_eq op (codes "rekey")) _ _ (good_rekey d) (good_keys d))))

pub good_command : (op : List ℕ) (d : Data) → IsGood 230 (command_in op d)
unfolding command_in inputs_in
good_command op d =
    good_then 230 _ _ (good_then 230 _ _ (good_only 230 (codes "ikl-control:input") d) (λ inner.
    good_within 207 230 (codes "ikl-control:input") _ refl (omega arith) (good_input op inner)))
    (λ c. good_checked 230 c (command_fault c))
