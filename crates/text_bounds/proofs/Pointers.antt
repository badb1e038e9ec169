-- The pointers in refusals: ASCII, and short.
use Rattle.std.proofs.Common.{◌≡◌, ◌==◌, ◌+◌, ◌-◌, ◌^◌, ◌<◌, ◌≤◌, ◌/◌, ◌%◌, nat_lt, ℕ, zero, suc, Bool, true, false, List, [], ◌∷◌, ◌++◌, codes, length, Option, Some, None, Result, Ok, Err, if◌then◌else◌, refl, arith, length-append}
use Rattle.std.specs.List.{list_any}
use Rattle.std.specs.Fmt.{decimal, digits, digits_onto, digit_glyph}
use Rattle.std.proofs.lemmas.Bool.{and_from, and_parts}
use Rattle.std.proofs.lemmas.Bool.Decides.{nat_tests}
use Rattle.json.proofs.Printed.Utf8.{are_ascii}
use Rattle.serde_json.specs.Data.{Data, Items, no_items, item, Members}
use Rattle.serde_json.specs.Find.{as_array, as_object, get}
use Rattle.ikeless_tree.specs.declared.fault.TreeFault.{TreeFault}
use Rattle.ikeless_tree.specs.Check.{is_sad_name, is_spd_name}
use Rattle.json_values.specs.declared.fault.Fault.{Fault}
use Rattle.json_values.specs.declared.fault.Kind.{Kind}
use Rattle.json_values.specs.declared.fault.Kind.TheVariants as kinds
use Rattle.json_values.specs.Faults.{at_member, checked, deeper, here, of_member, within, ◌>>=◌}
use Rattle.json_values.specs.Leaves.{action_leaf, address_leaf, count_or, df_leaf, direction_leaf, fixed_number, fixed_word, key_leaf, name_leaf, needed_number, number_or, prefix_leaf, protocol_leaf, unset_leaf, wide_or}
use Rattle.json_values.specs.Members.{config_shape, encryption_shape, limits_shape, policy_shape, processing_shape, range_shape, sad_entry_shape, selector_shape, soft_shape, spd_entry_shape, suite_shape, tunnel_shape}
use Rattle.json_values.specs.Shapes.{each_item, has_unknown, items_read, lacks, needed_data, one_read, only_in, shape, shape_of}
use Rattle.json_tree.specs.SelectorRead.{limits_from, ports_in, range_in, selector_in, selector_of, side_in}
use Rattle.json_tree.specs.PolicyRead.{all_entries, database_in, one_entry, one_spd_entry_in, policy_in, policy_of, processing_in, processing_of, spd_entry_in, spd_in, suite_back, suite_front, suite_in, suite_of, unset_in, word_in}
use Rattle.json_tree.specs.SadEntryRead.{config_in, config_of, encryption_in, lifetimes_in, limits_in, limits_of, one_half, one_sad_entry_in, sad_entry_in, sealing_in, soft_in, soft_of, suite_key, suite_key_of, traffic_in, tunnel_in, tunnel_of}

-- ---- texts

pub record IsText (n : ℕ) (p : List ℕ) : Type 0 where
  pub octets : are_ascii p ≡ true
  pub size : length p ≤ n

ascii_joined : (a b : List ℕ) → are_ascii a ≡ true → are_ascii b ≡ true → are_ascii (a ++ b) ≡ true
ascii_joined [] b p q = q
ascii_joined (x ∷ a) b p q = let parts = and_parts (nat_lt x 128) (are_ascii a) p in and_from _ _ parts.0 (ascii_joined a b parts.1 q)

deeper_text : (m n : ℕ) (name path : List ℕ) → are_ascii name ≡ true → length name + 1 + m ≤ n → IsText m path → IsText n (deeper name path)
deeper_text m n name path ascii fits is =
    let both = length-append name path in
    let p = is.size in
    record { octets = and_from _ _ refl (ascii_joined name path ascii is.octets); size = omega (arith, both, p, fits) }

-- ---- numbers

glyph_small : (n : ℕ) → n < 10 → nat_lt (digit_glyph false n) 128 ≡ true
glyph_small n h = grind (arith, nat_tests, h)

text_choice : (b : Bool) (n : ℕ) (x y : List ℕ) → IsText n x → IsText n y → IsText n (if b then x else y)
text_choice true n x y p q = p
text_choice false n x y p q = q

digits_text : (fuel n k : ℕ) (acc : List ℕ) → IsText k acc → IsText (fuel + k) (digits_onto fuel 10 false n acc)
digits_text zero n k acc h = let p = h.size in record { octets = h.octets; size = omega (arith, p) }
digits_text (suc fuel) n k acc h =
    let p = h.size in
    let glyph : ℕ = digit_glyph false (n % 10) in
    let all : are_ascii (glyph ∷ acc) ≡ true = and_from _ _ (glyph_small (n % 10) (omega arith)) h.octets in
    let more = digits_text fuel (n / 10) (k + 1) (glyph ∷ acc) (record { octets = all; size = omega (arith, p) }) in
    let q = more.size in
    text_choice (n / 10 == 0) (suc fuel + k) (glyph ∷ acc) (digits_onto fuel 10 false (n / 10) (glyph ∷ acc))
    (record { octets = all; size = omega (arith, p) }) (record { octets = more.octets; size = omega (arith, q) })

decimal_text : (n : ℕ) → IsText 64 (decimal n)
unfolding digits
decimal_text n = digits_text 64 n 0 [] (record { octets = refl; size = omega arith })

-- ---- what is read, or a fault at a short pointer

abbrev Holds : {A : Type 0} → ℕ → Result A Fault → Type 0
Holds n (Ok x) = Unit {0}
Holds n (Err f) = IsText n f.path

pub record IsGood {A : Type 0} (n : ℕ) (r : Result A Fault) : Type 0 where
  pub is : Holds n r

pub good_ok : {A : Type 0} (n : ℕ) (x : A) → IsGood n (Ok x)
good_ok n x = record { is = tt }

pub good_here : {A : Type 0} (n : ℕ) (kind : Kind) → IsGood {A = A} n (Err (here kind))
good_here n kind = record { is = record { octets = refl; size = omega arith } }

pub good_then : {A B : Type 0} (n : ℕ) (r : Result A Fault) (f : A → Result B Fault) → IsGood n r → ((x : A) → IsGood n (f x))
    → IsGood n (r >>= f)
good_then n (Ok x) f g h = h x
good_then n (Err e) f g h = record { is = g.is }

pub good_choice : {A : Type 0} (n : ℕ) (b : Bool) (x y : Result A Fault) → IsGood n x → IsGood n y → IsGood n (if b then x else y)
good_choice n true x y p q = p
good_choice n false x y p q = q

pub good_within : {A : Type 0} (m n : ℕ) (name : List ℕ) (r : Result A Fault) → are_ascii name ≡ true → length name + 1 + m ≤ n
    → IsGood m r → IsGood n (within name r)
good_within m n name (Ok x) ascii fits g = record { is = tt }
good_within m n name (Err f) ascii fits g = record { is = deeper_text m n name f.path ascii fits g.is }

member_text : (n : ℕ) (name : List ℕ) → are_ascii name ≡ true → length name + 1 ≤ n → IsText n (deeper name [])
member_text n name ascii fits = deeper_text 0 n name [] ascii (omega (arith, fits)) (record { octets = refl; size = omega arith })

member_fault : (n : ℕ) (name : List ℕ) (kind : Kind) → are_ascii name ≡ true → length name + 1 ≤ n → IsText n (of_member name kind).path
member_fault n name kinds.Missing ascii fits = record { octets = refl; size = omega arith }
member_fault n name kinds.Unknown ascii fits = member_text n name ascii fits
member_fault n name kinds.Form ascii fits = member_text n name ascii fits
member_fault n name kinds.Range ascii fits = member_text n name ascii fits
member_fault n name kinds.Unsupported ascii fits = member_text n name ascii fits
member_fault n name kinds.Name ascii fits = member_text n name ascii fits
member_fault n name kinds.Full ascii fits = member_text n name ascii fits

pub good_member : {A : Type 0} (n : ℕ) (name : List ℕ) (r : Result A Kind) → are_ascii name ≡ true → length name + 1 ≤ n
    → IsGood n (at_member name r)
good_member n name (Ok x) ascii fits = record { is = tt }
good_member n name (Err kind) ascii fits = record { is = member_fault n name kind ascii fits }

good_shape_of : (n : ℕ) (names needed : List (List ℕ)) (d : Data) (o : Option Members) → IsGood n (shape_of names needed d o)
good_shape_of n names needed d None = good_here n kinds.Form
good_shape_of n names needed d (Some ms) =
    good_choice n (has_unknown names ms) _ _ (good_here n kinds.Unknown) (good_choice n (list_any (lacks d) needed) _ _
    (good_here n kinds.Missing) (good_ok n tt))

pub good_shape : (n : ℕ) (names needed : List (List ℕ)) (d : Data) → IsGood n (shape names needed d)
unfolding shape
good_shape n names needed d = good_shape_of n names needed d (as_object d)

good_needed : (n : ℕ) (o : Option Data) → IsGood n (needed_data o)
good_needed n None = good_here n kinds.Missing
good_needed n (Some d) = good_ok n d

pub good_only : (n : ℕ) (name : List ℕ) (d : Data) → IsGood n (only_in name d)
unfolding only_in
good_only n name d = good_then n _ _ (good_shape n _ _ d) (λ done. good_needed n (get name d))

pub good_checked : {A : Type 0} (n : ℕ) (x : A) (o : Option TreeFault) → IsGood n (checked x o)
good_checked n x None = good_ok n x
good_checked n x (Some fault) = record { is = record { octets = refl; size = omega arith } }

good_item : {A : Type 0} (m : ℕ) (i : ℕ) (r : Result A Fault) → IsGood m r → IsGood (65 + m) (within (decimal i) r)
good_item m i r g = let text = decimal_text i in let p = text.size in good_within m (65 + m) (decimal i) r text.octets (omega (arith, p)) g

good_each : {A : Type 0} (m : ℕ) (f : Data → Result A Fault) → ((d : Data) → IsGood m (f d)) → (i : ℕ) (ds : Items)
    → IsGood (65 + m) (each_item f i ds)
unfolding each_item
good_each m f g i no_items = good_ok (65 + m) []
good_each m f g i (item d ds) =
    good_then (65 + m) _ _ (good_item m i (f d) (g d)) (λ x. good_then (65 + m) _ _ (good_each m f g (i + 1) ds) (λ xs. good_ok (65 + m)
    (x ∷ xs)))

good_items : {A : Type 0} (m : ℕ) (f : Data → Result A Fault) → ((d : Data) → IsGood m (f d)) → (o : Option Items)
    → IsGood (65 + m) (items_read f o)
good_items m f g None = good_here (65 + m) kinds.Form
good_items m f g (Some ds) = good_each m f g 0 ds

good_one : {A : Type 0} (m : ℕ) (f : Data → Result A Fault) → ((d : Data) → IsGood m (f d)) → (o : Option Items)
    → IsGood (65 + m) (one_read f o)
good_one m f g None = good_here (65 + m) kinds.Form
good_one m f g (Some no_items) = good_here (65 + m) kinds.Missing
good_one m f g (Some (item d no_items)) = good_item m 0 (f d) (g d)
good_one m f g (Some (item d (item e ds))) = good_here (65 + m) kinds.Missing

-- ---- selectors and limits

good_range : (d : Data) → IsGood 10 (range_in d)
unfolding range_in range_shape
good_range d =
    good_then 10 _ _ (good_shape 10 _ _ d) (λ done.
    good_then 10 _ _ (good_member 10 (codes "end") (needed_number 0 65535 (get (codes "end") d)) refl (omega arith)) (λ end.
    good_then 10 _ _ (good_member 10 (codes "start") (needed_number 0 65535 (get (codes "start") d)) refl (omega arith))
    (λ start. good_ok 10 _)))

good_ports : (name : List ℕ) → are_ascii name ≡ true → length name ≤ 12 → (o : Option Data) → IsGood 90 (ports_in name o)
good_ports name ascii short None = good_ok 90 []
good_ports name ascii short (Some d) = good_within 75 90 name _ ascii (omega (arith, short)) (good_items 10 range_in good_range
    (as_array d))

good_side : (ports prefix : List ℕ) (d : Data) → are_ascii ports ≡ true → length ports ≤ 12 → are_ascii prefix ≡ true
    → length prefix ≤ 13 → IsGood 90 (side_in ports prefix d)
unfolding side_in
good_side ports prefix d a p b q =
    good_then 90 _ _ (good_ports ports a p (get ports d)) (λ ranges.
    good_then 90 _ _ (good_member 90 prefix (prefix_leaf (get prefix d)) b (omega (arith, q))) (λ network. good_ok 90 _))

good_selector : (d : Data) → IsGood 90 (selector_in d)
unfolding selector_in selector_shape
good_selector d =
    good_then 90 _ _ (good_shape 90 _ _ d) (λ done.
    good_then 90 _ _ (good_member 90 (codes "inner-protocol") (protocol_leaf (get (codes "inner-protocol") d)) refl (omega arith)) (λ proto.
    good_then 90 _ _ (good_side (codes "local-ports") (codes "local-prefix") d refl (omega arith) refl (omega arith)) (λ local.
    good_then 90 _ _ (good_side (codes "remote-ports") (codes "remote-prefix") d refl (omega arith) refl (omega arith))
    (λ remote. good_ok 90 _))))

good_selector_of : (o : Option Data) → IsGood 110 (selector_of o)
good_selector_of None = good_here 110 kinds.Missing
good_selector_of (Some d) = good_within 90 110 (codes "traffic-selector") _ refl (omega arith) (good_selector d)

good_limits_from : (d : Data) → IsGood 10 (limits_from d)
unfolding limits_from
good_limits_from d =
    good_then 10 _ _ (good_member 10 (codes "bytes") (wide_or 0 (get (codes "bytes") d)) refl (omega arith)) (λ bytes.
    good_then 10 _ _ (good_member 10 (codes "idle") (count_or 0 (get (codes "idle") d)) refl (omega arith)) (λ idle.
    good_then 10 _ _ (good_member 10 (codes "packets") (count_or 0 (get (codes "packets") d)) refl (omega arith)) (λ packets.
    good_then 10 _ _ (good_member 10 (codes "time") (count_or 0 (get (codes "time") d)) refl (omega arith)) (λ time. good_ok 10 _))))

-- ---- policies

good_unset : (n : ℕ) (name : List ℕ) (d : Data) → are_ascii name ≡ true → length name + 1 ≤ n → IsGood n (unset_in name d)
good_unset n name d ascii fits = good_member n name (unset_leaf (get name d)) ascii fits

good_word : (n : ℕ) (name w : List ℕ) (d : Data) → are_ascii name ≡ true → length name + 1 ≤ n → IsGood n (word_in name w d)
good_word n name w d ascii fits = good_member n name (fixed_word w (get name d)) ascii fits

good_suite : (d : Data) → IsGood 30 (suite_in d)
unfolding suite_in suite_front suite_back suite_shape
good_suite d =
    good_then 30 _ _ (good_shape 30 _ _ d) (λ a. good_then 30 _ _
    (good_then 30 _ _ (good_unset 30 (codes "ext-seq-num") d refl (omega arith)) (λ b.
    good_then 30 _ _ (good_word 30 (codes "mode") (codes "tunnel") d refl (omega arith)) (λ c. good_unset 30 (codes "pfp-flag") d refl
    (omega arith))))
    (λ front. good_then 30 _ _ (good_word 30 (codes "protocol-parameters") (codes "esp") d refl (omega arith)) (λ b.
    good_then 30 _ _ (good_unset 30 (codes "seq-overflow") d refl (omega arith)) (λ c. good_unset 30
    (codes "stateful-frag-check") d refl (omega arith)))))

good_suite_of : (o : Option Data) → IsGood 45 (suite_of o)
good_suite_of None = good_ok 45 tt
good_suite_of (Some d) = good_within 30 45 (codes "ipsec-sa-cfg") _ refl (omega arith) (good_suite d)

good_processing : (d : Data) → IsGood 45 (processing_in d)
unfolding processing_in processing_shape
good_processing d =
    good_then 45 _ _ (good_shape 45 _ _ d) (λ done.
    good_then 45 _ _ (good_member 45 (codes "action") (action_leaf (get (codes "action") d)) refl (omega arith)) (λ action.
    good_then 45 _ _ (good_suite_of (get (codes "ipsec-sa-cfg") d)) (λ suite. good_ok 45 _)))

good_processing_of : (o : Option Data) → IsGood 110 (processing_of o)
good_processing_of None = good_ok 110 _
good_processing_of (Some d) = good_within 45 110 (codes "processing-info") _ refl (omega arith) (good_processing d)

good_policy : (d : Data) → IsGood 110 (policy_in d)
unfolding policy_in policy_shape
good_policy d =
    good_then 110 _ _ (good_shape 110 _ _ d) (λ done.
    good_then 110 _ _ (good_member 110 (codes "anti-replay-window-size") (number_or 64 32 4096 (get
    (codes "anti-replay-window-size") d)) refl (omega arith)) (λ window.
    good_then 110 _ _ (good_processing_of (get (codes "processing-info") d)) (λ action.
    good_then 110 _ _ (good_selector_of (get (codes "traffic-selector") d)) (λ selector. good_ok 110 _))))

good_policy_of : (o : Option Data) → IsGood 130 (policy_of o)
good_policy_of None = good_here 130 kinds.Missing
good_policy_of (Some d) = good_within 110 130 (codes "ipsec-policy-config") _ refl (omega arith) (good_policy d)

good_entry : (d : Data) → IsGood 130 (spd_entry_in d)
unfolding spd_entry_in spd_entry_shape
good_entry d =
    good_then 130 _ _ (good_shape 130 _ _ d) (λ done.
    good_then 130 _ _ (good_member 130 (codes "direction") (direction_leaf (get (codes "direction") d)) refl (omega arith)) (λ direction.
    good_then 130 _ _ (good_policy_of (get (codes "ipsec-policy-config") d)) (λ policy.
    good_then 130 _ _ (good_member 130 (codes "name") (name_leaf is_spd_name (get (codes "name") d)) refl (omega arith)) (λ name.
    good_then 130 _ _ (good_member 130 (codes "reqid") (wide_or 0 (get (codes "reqid") d)) refl (omega arith)) (λ reqid. good_ok 130 _)))))

good_database : (d : Data) → IsGood 205 (database_in d)
unfolding database_in
good_database d =
    good_then 205 _ _ (good_only 205 (codes "spd-entry") d) (λ list.
    good_within 195 205 (codes "spd-entry") _ refl (omega arith) (good_items 130 spd_entry_in good_entry (as_array list)))

pub good_spd : (d : Data) → IsGood 230 (spd_in d)
unfolding spd_in all_entries
good_spd d =
    good_then 230 _ _ (good_then 230 _ _ (good_only 230 (codes "ietf-i2nsf-ikeless:spd") d) (λ inner.
    good_within 205 230 (codes "ietf-i2nsf-ikeless:spd") _ refl (omega arith) (good_database inner)))
    (λ list. good_checked 230 list _)

pub good_spd_entry : (d : Data) → IsGood 230 (one_spd_entry_in d)
unfolding one_spd_entry_in one_entry
good_spd_entry d =
    good_then 230 _ _ (good_then 230 _ _ (good_only 230 (codes "ietf-i2nsf-ikeless:spd-entry") d) (λ list.
    good_within 195 230 (codes "ietf-i2nsf-ikeless:spd-entry") _ refl (omega arith) (good_one 130 spd_entry_in good_entry (as_array list))))
    (λ e. good_checked 230 e _)

-- ---- halves

good_encryption : (d : Data) → IsGood 30 (encryption_in d)
unfolding encryption_in encryption_shape
good_encryption d =
    good_then 30 _ _ (good_shape 30 _ _ d) (λ done.
    good_then 30 _ _ (good_member 30 (codes "encryption-algorithm") (fixed_number 20 (get (codes "encryption-algorithm") d)) refl
    (omega arith)) (λ algorithm. good_member 30 (codes "key") (key_leaf (get (codes "key") d)) refl (omega arith)))

good_suite_key : (d : Data) → IsGood 45 (suite_key d)
unfolding suite_key
good_suite_key d =
    good_then 45 _ _ (good_only 45 (codes "encryption") d) (λ inner. good_within 30 45 (codes "encryption") _ refl (omega arith)
    (good_encryption inner))

good_suite_key_of : (o : Option Data) → IsGood 110 (suite_key_of o)
good_suite_key_of None = good_here 110 kinds.Missing
good_suite_key_of (Some d) = good_within 45 110 (codes "esp-sa") _ refl (omega arith) (good_suite_key d)

good_sealing : (d : Data) → IsGood 110 (sealing_in d)
unfolding sealing_in
good_sealing d =
    good_then 110 _ _ (good_member 110 (codes "anti-replay-window-size") (number_or 64 32 4096 (get
    (codes "anti-replay-window-size") d)) refl (omega arith)) (λ window.
    good_then 110 _ _ (good_suite_key_of (get (codes "esp-sa") d)) (λ key.
    good_then 110 _ _ (good_unset 110 (codes "ext-seq-num") d refl (omega arith)) (λ narrow.
    good_then 110 _ _ (good_word 110 (codes "mode") (codes "tunnel") d refl (omega arith)) (λ mode.
    good_then 110 _ _ (good_word 110 (codes "protocol-parameters") (codes "esp") d refl (omega arith)) (λ protocol. good_ok 110 _)))))

pub good_limits : (d : Data) → IsGood 10 (limits_in d)
unfolding limits_in limits_shape
good_limits d = good_then 10 _ _ (good_shape 10 _ _ d) (λ done. good_limits_from d)

good_limits_of : (o : Option Data) → IsGood 110 (limits_of (codes "sa-lifetime-hard") o)
good_limits_of None = good_ok 110 _
good_limits_of (Some d) = good_within 10 110 (codes "sa-lifetime-hard") _ refl (omega arith) (good_limits d)

good_soft : (d : Data) → IsGood 10 (soft_in d)
unfolding soft_in soft_shape
good_soft d =
    good_then 10 _ _ (good_shape 10 _ _ d) (λ done.
    good_then 10 _ _ (good_word 10 (codes "action") (codes "replace") d refl (omega arith)) (λ action. good_limits_from d))

good_soft_of : (o : Option Data) → IsGood 110 (soft_of o)
good_soft_of None = good_ok 110 _
good_soft_of (Some d) = good_within 10 110 (codes "sa-lifetime-soft") _ refl (omega arith) (good_soft d)

good_lifetimes : (d : Data) → IsGood 110 (lifetimes_in d)
unfolding lifetimes_in
good_lifetimes d =
    good_then 110 _ _ (good_limits_of (get (codes "sa-lifetime-hard") d)) (λ hard.
    good_then 110 _ _ (good_soft_of (get (codes "sa-lifetime-soft") d)) (λ soft.
    good_then 110 _ _ (good_unset 110 (codes "seq-overflow") d refl (omega arith)) (λ overflow. good_ok 110 _)))

good_tunnel : (d : Data) → IsGood 10 (tunnel_in d)
unfolding tunnel_in tunnel_shape
good_tunnel d =
    good_then 10 _ _ (good_shape 10 _ _ d) (λ done.
    good_then 10 _ _ (good_member 10 (codes "df-bit") (df_leaf (get (codes "df-bit") d)) refl (omega arith)) (λ df.
    good_then 10 _ _ (good_member 10 (codes "local") (address_leaf (get (codes "local") d)) refl (omega arith)) (λ local.
    good_then 10 _ _ (good_member 10 (codes "remote") (address_leaf (get (codes "remote") d)) refl (omega arith))
    (λ remote. good_ok 10 _))))

good_tunnel_of : (o : Option Data) → IsGood 110 (tunnel_of o)
good_tunnel_of None = good_here 110 kinds.Missing
good_tunnel_of (Some d) = good_within 10 110 (codes "tunnel") _ refl (omega arith) (good_tunnel d)

good_traffic : (d : Data) → IsGood 110 (traffic_in d)
unfolding traffic_in
good_traffic d =
    good_then 110 _ _ (good_member 110 (codes "spi") (needed_number 256 (2 ^ 32 - 1) (get (codes "spi") d)) refl (omega arith)) (λ spi.
    good_then 110 _ _ (good_selector_of (get (codes "traffic-selector") d)) (λ selector.
    good_then 110 _ _ (good_tunnel_of (get (codes "tunnel") d)) (λ tunnel. good_ok 110 _)))

good_config : (d : Data) → IsGood 110 (config_in d)
unfolding config_in config_shape
good_config d =
    good_then 110 _ _ (good_shape 110 _ _ d) (λ done.
    good_then 110 _ _ (good_sealing d) (λ sealing.
    good_then 110 _ _ (good_lifetimes d) (λ lifetimes.
    good_then 110 _ _ (good_traffic d) (λ traffic. good_ok 110 _))))

good_config_of : (o : Option Data) → IsGood 130 (config_of o)
good_config_of None = good_here 130 kinds.Missing
good_config_of (Some d) = good_within 110 130 (codes "ipsec-sa-config") _ refl (omega arith) (good_config d)

good_half : (d : Data) → IsGood 130 (sad_entry_in d)
unfolding sad_entry_in sad_entry_shape
good_half d =
    good_then 130 _ _ (good_shape 130 _ _ d) (λ done.
    good_then 130 _ _ (good_config_of (get (codes "ipsec-sa-config") d)) (λ config.
    good_then 130 _ _ (good_member 130 (codes "name") (name_leaf is_sad_name (get (codes "name") d)) refl (omega arith)) (λ name.
    good_then 130 _ _ (good_member 130 (codes "reqid") (wide_or 0 (get (codes "reqid") d)) refl (omega arith)) (λ reqid. good_ok 130 _))))

pub good_sad_entry : (d : Data) → IsGood 230 (one_sad_entry_in d)
unfolding one_sad_entry_in one_half
good_sad_entry d =
    good_then 230 _ _ (good_then 230 _ _ (good_only 230 (codes "ietf-i2nsf-ikeless:sad-entry") d) (λ list.
    good_within 195 230 (codes "ietf-i2nsf-ikeless:sad-entry") _ refl (omega arith) (good_one 130 sad_entry_in good_half (as_array list))))
    (λ e. good_checked 230 e _)
