-- The canonical text of a prefix is read again.
use Rattle.std.proofs.Common.{◌≡◌, ℕ, ◌+◌, ◌-◌, ◌%◌, ◌^◌, ◌<◌, ◌≤◌, ◌==◌, ◌||◌, nat_lt, Bool, true, false, List, [], ◌∷◌, ◌++◌, length, take, drop, Some, Ok, inl, inr, refl, sym, ap, ◌∙◌, arith, append_assoc, length-append}
use Rattle.std.specs.List.{AllByRecursion, list_all, position_or_len}
use Rattle.std.specs.Char.{is_ascii_digit, is_ascii_hexdigit}
use Rattle.std.specs.Fmt.{decimal}
use Rattle.std.specs.Str.Parse.{digits_value}
use Rattle.std.proofs.lemmas.Bool.{and_parts, and_from, or_left, or_right, or_cases, cases_lt, lt-ltb, eqb-true}
use Rattle.std.proofs.lemmas.Fmt.{digits_decimal, digits_value-decimal}
use Rattle.std.proofs.lemmas.List.{take_at, drop_at}
use Rattle.std.proofs.lemmas.List.Elements.{recursion_from_All}
use Rattle.std.proofs.lemmas.List.Folds.{list_all-append}
use Rattle.ikl_base.specs.declared.address.Addr.{Addr}
use Rattle.ikl_base.specs.declared.address.Addr.TheVariants.{V4, V6}
use Rattle.ikl_base.specs.declared.address.Prefix.{Prefix}
use Rattle.ikl_base.specs.Address.{bits_of, are_zero_from, cleared_from, is_clear_from, address_cleared}
use Rattle.yang_values.specs.Parts.{cut_at}
use Rattle.yang_values.specs.HexText.{is_colon}
use Rattle.yang_values.specs.Addresses.{IsAddress, is_dot, address_of, address_text, groups_of, group_text, joined, groups_text, longest_run, first_run}
use Rattle.yang_values.specs.Prefixes.{is_slash, is_value_octet, prefix_of, prefix_text}
use Rattle.yang_values.proofs.NumberLemmas.{decimal_model}
use Rattle.yang_values.proofs.JoinedText.{each_also, all_joined}
use Rattle.yang_values.proofs.ValueText.{apart, is_number-decimal, group_digits}
use Rattle.yang_values.proofs.QuadText.{also, is_quad_octet, quad_octets}
use Rattle.yang_values.proofs.GroupText.{small_groups, all_take, all_drop}
use Rattle.yang_values.proofs.PrefixLemmas.{where_ok}

-- ---- what stands in the texts

is_address_octet : ℕ → Bool
is_address_octet c = is_ascii_hexdigit c || is_dot c || is_colon c

pub decimal_octets : (n : ℕ) → n < 2 ^ 64 → list_all is_value_octet (decimal n) ≡ true
decimal_octets n small =
    also is_ascii_digit is_value_octet (λ c h. or_left _ _ (or_left _ _ (or_left _ _ (or_left _ _ (or_left _ _ h))))) (decimal n)
    (digits_decimal decimal_model n small)

quad_to_address : (c : ℕ) → is_quad_octet c ≡ true → is_address_octet c ≡ true
unfolding is_address_octet
quad_to_address c h = elim (or_cases (is_ascii_digit c) (is_dot c) h) [
  | inl digit ↦ or_left _ _ (or_left _ _ (or_left _ _ (or_left _ _ digit)))
  | inr dot ↦ or_left _ _ (or_right _ _ dot)
]

joined_octets : (gs : List ℕ) → AllByRecursion (λ g. g < 65536) gs → list_all is_address_octet (joined gs) ≡ true
unfolding is_address_octet
joined_octets gs small =
    all_joined is_address_octet 58 group_text refl gs
    (each_also (λ g. g < 65536) (λ g. list_all is_address_octet (group_text g) ≡ true)
    (λ g h. also is_ascii_hexdigit is_address_octet (λ c d. or_left _ _ (or_left _ _ d)) (group_text g) (group_digits g h)) gs small)

groups_octets : (gs : List ℕ) → AllByRecursion (λ g. g < 65536) gs → list_all is_address_octet (groups_text gs) ≡ true
unfolding groups_text is_address_octet
groups_octets gs small = by_length (nat_lt (longest_run gs) 2) refl
  where
    by_length : (b : Bool) → nat_lt (longest_run gs) 2 ≡ b → list_all is_address_octet (groups_text gs) ≡ true
    by_length true short =
        let e : groups_text gs ≡ joined gs = rw short refl in
        rw e (joined_octets gs small)
    by_length false long =
        let n : ℕ = longest_run gs in
        let k : ℕ = first_run n gs in
        let e : groups_text gs ≡ joined (take k gs) ++ 58 ∷ 58 ∷ joined (drop (k + n) gs) = rw long refl in
        let front = joined_octets (take k gs) (all_take (λ g. g < 65536) k gs small) in
        let back = joined_octets (drop (k + n) gs) (all_drop (λ g. g < 65536) (k + n) gs small) in
        rw e (list_all-append is_address_octet (joined (take k gs)) (58 ∷ 58 ∷ joined (drop (k + n) gs)) ∙ and_from _ _ front back)

address_octets : (a : Addr) → IsAddress a → list_all is_address_octet (address_text a) ≡ true
unfolding address_text
address_octets (V4 octets) is =
    also is_quad_octet is_address_octet quad_to_address _ (quad_octets octets (recursion_from_All (λ o. o < 256) octets is.1))
address_octets (V6 octets) is = groups_octets (groups_of octets) (small_groups octets (recursion_from_All (λ o. o < 256) octets is.1))

pub address_plain : (a : Addr) → IsAddress a → list_all is_value_octet (address_text a) ≡ true
unfolding is_address_octet
address_plain a is = also is_address_octet is_value_octet (λ c h. or_left _ _ h) (address_text a) (address_octets a is)

bits_small : (a : Addr) → bits_of a ≤ 128
bits_small (V4 octets) = omega arith
bits_small (V6 octets) = omega arith

pub prefix_plain : (p : Prefix) → IsAddress p.addr → list_all is_value_octet (prefix_text p) ≡ true
unfolding prefix_text
prefix_plain p is =
    let bits = bits_small p.addr in
    let fits = p.in_range in
    let number = decimal_octets p.len (omega (arith, bits, fits)) in
    list_all-append is_value_octet (address_text p.addr) (47 ∷ decimal p.len) ∙ and_from _ _ (address_plain p.addr is) number

-- ---- the text cut at its slash

place_behind : (q p : ℕ → Bool) → ((c : ℕ) → q c ≡ true → p c ≡ false) → (mark : ℕ) → p mark ≡ true → (front back : List ℕ)
    → list_all q front ≡ true → position_or_len p (front ++ mark ∷ back) ≡ length front
place_behind q p apart mark m [] back all = rw m refl
place_behind q p apart mark m (c ∷ cs) back all =
    let parts = and_parts (q c) (list_all q cs) all in
    let ih = place_behind q p apart mark m cs back parts.1 in
    rw (apart c parts.0, ih) (omega arith)

cut_behind : (q p : ℕ → Bool) → ((c : ℕ) → q c ≡ true → p c ≡ false) → (mark : ℕ) → p mark ≡ true → (front back : List ℕ)
    → list_all q front ≡ true → cut_at p (front ++ mark ∷ back) ≡ Some (front, back)
unfolding cut_at
cut_behind q p apart mark m front back all =
    let at = place_behind q p apart mark m front back all in
    let size = length-append front (mark ∷ back) in
    let within : nat_lt (length front) (length (front ++ mark ∷ back)) ≡ true = lt-ltb _ _ (omega (arith, size)) in
    let before : take (length front) (front ++ mark ∷ back) ≡ front = take_at front (mark ∷ back) (length front) refl in
    let marked : front ++ mark ∷ back ≡ (front ++ mark ∷ []) ++ back = sym (append_assoc front (mark ∷ []) back) in
    let behind : drop (length front + 1) (front ++ mark ∷ back) ≡ back =
    ap (drop (length front + 1)) marked ∙ drop_at (front ++ mark ∷ []) back (length front + 1) (length-append front (mark ∷ [])) in
    rw (at, within, before, behind) refl

-- ---- the host bits are zero

same_cleared : (bits : ℕ) (xs : List ℕ) → are_zero_from bits xs ≡ true → cleared_from bits xs ≡ xs
same_cleared bits [] zero_from = refl
same_cleared bits (x ∷ xs) zero_from =
    let parts = and_parts (x % 2 ^ (8 - bits) == 0) (are_zero_from (bits - 8) xs) zero_from in
    let none : x % 2 ^ (8 - bits) ≡ 0 = eqb-true _ 0 parts.0 in
    let same : x - 0 ≡ x = omega arith in
    rw (none, same, same_cleared (bits - 8) xs parts.1) refl

same_address : (bits : ℕ) (a : Addr) → is_clear_from bits a ≡ true → address_cleared bits a ≡ a
same_address bits (V4 octets) clear = ap V4 (same_cleared bits octets clear)
same_address bits (V6 octets) clear = ap V6 (same_cleared bits octets clear)

-- ---- a prefix

pub prefix_again : (p : Prefix) → IsAddress p.addr → address_of (address_text p.addr) ≡ Ok p.addr → prefix_of (prefix_text p) ≡ Ok p
unfolding prefix_of prefix_text is_address_octet
prefix_again p is read =
    let bits = bits_small p.addr in
    let fits = p.in_range in
    let small : p.len < 2 ^ 64 = omega (arith, bits, fits) in
    let cut = cut_behind is_address_octet is_slash (λ c. apart is_address_octet c 47 refl) 47 refl (address_text p.addr) (decimal p.len)
    (address_octets p.addr is) in
    let number = is_number-decimal p.len small in
    let value = digits_value-decimal decimal_model p.len small in
    rw (cut, read, number)
    (sym (where_ok p.addr (digits_value 10 (decimal p.len)) p.len p (cases_lt (bits_of p.addr) (digits_value 10 (decimal p.len)))
    (sym value) fits refl
    (sym (same_address p.len p.addr p.cleared))))
