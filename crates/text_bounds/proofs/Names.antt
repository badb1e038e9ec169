-- How long addresses and names are.
use Rattle.std.proofs.Common.{◌≡◌, ◌==◌, ◌-◌, ◌*◌, ◌%◌, ◌^◌, ◌≤◌, ◌&&◌, nat_le, IsTrue, ℕ, Bool, true, false, List, [], ◌∷◌, codes, length, take, drop, inl, inr, refl, arith, length-append}
use Rattle.std.specs.List.{list_all}
use Rattle.std.specs.Fmt.{decimal}
use Rattle.std.specs.Str.{bytes_eq}
use Rattle.std.proofs.lemmas.Bool.{and_parts, and_from, or_cases}
use Rattle.std.proofs.lemmas.List.{length-drop}
use Rattle.ikl_base.specs.Address.{are_zero_from, bits_of, is_clear_from}
use Rattle.ikl_base.specs.declared.address.Addr.{Addr}
use Rattle.ikl_base.specs.declared.address.Addr.TheVariants.{V4, V6}
use Rattle.ikl_base.specs.declared.address.Prefix.{Prefix}
use Rattle.ikeless_tree.specs.Check.{has_front, is_path_octet, is_sad_name, is_serial, is_spd_name, is_word_octet}
use Rattle.yang_values.specs.Addresses.{IsAddress, address_text}
use Rattle.yang_values.specs.Prefixes.{prefix_text}
use Rattle.notice_lines.proofs.Prefixes.{prefix_size}

-- ---- addresses: each is the address of a prefix of all its bits

no_rest : (x bits : ℕ) → 8 ≤ bits → (x % 2 ^ (8 - bits) == 0) ≡ true
no_rest x bits h = let none : 8 - bits ≡ 0 = omega arith in rw none (let e : x % 1 ≡ 0 = omega arith in rw e refl)

all_kept : (bits : ℕ) (xs : List ℕ) → 8 * length xs ≤ bits → are_zero_from bits xs ≡ true
all_kept bits [] h = refl
all_kept bits (x ∷ xs) h = and_from _ _ (no_rest x bits (omega arith)) (all_kept (bits - 8) xs (omega arith))

all_clear : (a : Addr) → IsAddress a → IsTrue (is_clear_from (bits_of a) a)
all_clear (V4 octets) h = all_kept 32 octets (let n : length octets ≡ 4 = h.0 in omega (arith, n))
all_clear (V6 octets) h = all_kept 128 octets (let n : length octets ≡ 16 = h.0 in omega (arith, n))

abbrev whole : (a : Addr) → IsAddress a → Prefix
whole a h = record { addr = a; len = bits_of a; in_range = omega arith; cleared = all_clear a h }

address_in : (p : Prefix) → IsAddress p.addr → length (address_text p.addr) ≤ 45
unfolding prefix_text
address_in p h =
    let all = prefix_size p h in
    let both = length-append (address_text p.addr) (47 ∷ decimal p.len) in
    omega (arith, all, both)

pub address_size : (a : Addr) → IsAddress a → length (address_text a) ≤ 45
address_size a h = address_in (whole a h) h

-- ---- names

middle : (a c : Bool) (n most : ℕ) (b : Bool) → nat_le n most ≡ b → (a && b && c) ≡ true → n ≤ most
middle true c n most true e h = grind arith
middle true c n most false e h = absurd (let no : ⊥ = cc in no)
middle false c n most b e h = absurd (let no : ⊥ = cc in no)

pub policy_size : (name : List ℕ) → is_spd_name name ≡ true → length name ≤ 64
policy_size name h = middle (nat_le 1 (length name)) (list_all is_path_octet name) (length name) 64 (nat_le (length name) 64) refl h

serial_size : (text : List ℕ) → is_serial text ≡ true → length text ≤ 60
serial_size text h = middle (nat_le 1 (length text)) (list_all is_word_octet text) (length text) 60 (nat_le (length text) 60) refl h

front_size : (front name : List ℕ) → length front ≤ 4 → has_front front name ≡ true → length name ≤ 64
front_size front name short h =
    let long = and_parts (nat_le (length front) (length name)) (bytes_eq (take (length front) name) front && is_serial (drop
    (length front) name)) h in
    let parts = and_parts (bytes_eq (take (length front) name) front) (is_serial (drop (length front) name)) long.1 in
    let rest = serial_size (drop (length front) name) parts.1 in
    let size = length-drop (length front) name in
    omega (arith, rest, size)

pub half_size : (name : List ℕ) → is_sad_name name ≡ true → length name ≤ 64
half_size name h = elim (or_cases (has_front (codes "in/") name) (has_front (codes "out/") name) h) [
  | inl here ↦ front_size (codes "in/") name (omega arith) here
  | inr here ↦ front_size (codes "out/") name (omega arith) here
]
