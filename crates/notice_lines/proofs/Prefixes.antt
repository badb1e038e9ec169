-- The canonical text of a prefix is short.
use Rattle.std.proofs.Common.{◌≡◌, ◌+◌, ◌*◌, ◌<◌, ◌≤◌, nat_le, nat_lt, ◌&&◌, ℕ, Bool, true, false, List, [], ◌∷◌, map, length, take, drop, Some, None, refl, ap, arith, length-append, suc, if◌then◌else◌}
use Rattle.std.specs.List.{AllByRecursion, list_all, join_with_byte}
use Rattle.std.specs.Fmt.{decimal}
use Rattle.std.specs.Char.{is_ascii_hexdigit}
use Rattle.std.specs.Str.Parse.{digits_value}
use Rattle.std.proofs.lemmas.Fmt.{length-decimal-le}
use Rattle.std.proofs.lemmas.List.{length-take, length-drop}
use Rattle.std.proofs.lemmas.List.Elements.{recursion_from_All}
use Rattle.ikl_base.specs.Address.{bits_of}
use Rattle.ikl_base.specs.declared.address.Addr.{Addr}
use Rattle.ikl_base.specs.declared.address.Addr.TheVariants.{V4, V6}
use Rattle.ikl_base.specs.declared.address.Prefix.{Prefix}
use Rattle.yang_values.specs.HexText.{hex_number}
use Rattle.yang_values.specs.Addresses.{IsAddress, address_text, groups_of, group_text, joined, groups_text, shortened, longest_run, first_run}
use Rattle.yang_values.specs.Prefixes.{prefix_text}
use Rattle.yang_values.proofs.ValueText.{group_of-text}
use Rattle.yang_values.proofs.GroupText.{length-groups_of, small_groups, all_take, all_drop}

abbrev Short : List ℕ → Type 0
Short t = length t ≤ 4

four_by : (t : List ℕ) (a b c : Bool) (v n : ℕ) → nat_le (length t) 4 ≡ b → (if a && b && c then Some v else None) ≡ Some n → length t ≤ 4
four_by t true true c v n e h = grind arith
four_by t true false c v n e h = absurd (let no : ⊥ = cc in no)
four_by t false b c v n e h = absurd (let no : ⊥ = cc in no)

group_size : (n : ℕ) → n < 65536 → length (group_text n) ≤ 4
unfolding hex_number
group_size n small =
    let t = group_text n in
    four_by t (nat_le 1 (length t)) (nat_le (length t) 4) (list_all is_ascii_hexdigit t) (digits_value 16 t) n refl (group_of-text n small)

groups_size : (gs : List ℕ) → AllByRecursion (λ g. g < 65536) gs → AllByRecursion Short (map group_text gs)
groups_size [] h = tt
groups_size (g ∷ gs) h = (group_size g h.0, groups_size gs h.1)

octets_size : (os : List ℕ) → AllByRecursion (λ o. o < 256) os → AllByRecursion Short (map decimal os)
octets_size [] h = tt
octets_size (o ∷ os) h =
    let small : o < 256 = h.0 in
    let size = length-decimal-le 3 o (omega arith) (omega arith) (omega arith) in
    (omega (arith, size), octets_size os h.1)

join_size : (c : ℕ) (ts : List (List ℕ)) → AllByRecursion Short ts → length (join_with_byte c ts) ≤ 5 * length ts
join_size c [] h = omega arith
join_size c (x ∷ []) h = let p : length x ≤ 4 = h.0 in omega (arith, p)
join_size c (x ∷ y ∷ xs) h =
    let p : length x ≤ 4 = h.0 in
    let ih = join_size c (y ∷ xs) h.1 in
    let both = length-append x (c ∷ join_with_byte c (y ∷ xs)) in
    omega (arith, p, ih, both)

length_map : (f : ℕ → List ℕ) (xs : List ℕ) → length (map f xs) ≡ length xs
length_map f [] = refl
length_map f (x ∷ xs) = ap (λ n. suc n) (length_map f xs)

joined_size : (gs : List ℕ) → AllByRecursion (λ g. g < 65536) gs → length (joined gs) ≤ 5 * length gs
joined_size gs h = let all = join_size 58 (map group_text gs) (groups_size gs h) in let count = length_map group_text gs in
    omega (arith, all, count)

shortened_size : (k n : ℕ) (gs : List ℕ) → AllByRecursion (λ g. g < 65536) gs → length (shortened k n gs) ≤ 5 * length gs + 2
shortened_size k n gs h =
    let front = joined_size (take k gs) (all_take (λ g. g < 65536) k gs h) in
    let back = joined_size (drop (k + n) gs) (all_drop (λ g. g < 65536) (k + n) gs h) in
    let a = length-take k gs in
    let b = length-drop (k + n) gs in
    let both = length-append (joined (take k gs)) (58 ∷ 58 ∷ joined (drop (k + n) gs)) in
    omega (arith, front, back, a, b, both)

choice_size : (b : Bool) (x y : List ℕ) (n : ℕ) → length x ≤ n → length y ≤ n → length (if b then x else y) ≤ n
choice_size true x y n p q = p
choice_size false x y n p q = q

groups_text_size : (gs : List ℕ) → AllByRecursion (λ g. g < 65536) gs → length (groups_text gs) ≤ 5 * length gs + 2
unfolding groups_text
groups_text_size gs h =
    let plain = joined_size gs h in
    choice_size (nat_lt (longest_run gs) 2) (joined gs) (shortened (first_run (longest_run gs) gs) (longest_run gs) gs) (5 * length gs + 2)
    (omega (arith, plain)) (shortened_size (first_run (longest_run gs) gs) (longest_run gs) gs h)

address_size : (a : Addr) → IsAddress a → length (address_text a) ≤ 42
unfolding address_text
address_size (V4 octets) h =
    let all = join_size 46 (map decimal octets) (octets_size octets (recursion_from_All (λ o. o < 256) octets h.1)) in
    let count = length_map decimal octets in
    let four : length octets ≡ 4 = h.0 in
    omega (arith, all, count, four)
address_size (V6 octets) h =
    let small = recursion_from_All (λ o. o < 256) octets h.1 in
    let all = groups_text_size (groups_of octets) (small_groups octets small) in
    let eight = length-groups_of octets 8 (let n : length octets ≡ 16 = h.0 in omega (arith, n)) in
    omega (arith, all, eight)

few_bits : (a : Addr) → bits_of a ≤ 128
few_bits (V4 octets) = omega arith
few_bits (V6 octets) = omega arith

pub prefix_size : (p : Prefix) → IsAddress p.addr → length (prefix_text p) ≤ 46
unfolding prefix_text
prefix_size p h =
    let address = address_size p.addr h in
    let fits = p.in_range in
    let bits = few_bits p.addr in
    let digits = length-decimal-le 3 p.len (omega arith) (omega arith) (omega arith) in
    let both = length-append (address_text p.addr) (47 ∷ decimal p.len) in
    omega (arith, address, digits, both)
