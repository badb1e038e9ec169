-- The canonical text of an IPv4 address is read again.
use Rattle.std.proofs.Common.{◌≡◌, ℕ, ◌<◌, ◌||◌, Bool, true, false, List, [], ◌∷◌, ◌++◌, length, get_or, Ok, refl, sym, ap, append_assoc, arith}
use Rattle.std.specs.List.{All, AllByRecursion, list_all}
use Rattle.std.specs.Char.{is_ascii_digit}
use Rattle.std.specs.Fmt.{decimal}
use Rattle.std.proofs.lemmas.Bool.{le-leb, and_parts, and_from, or_left}
use Rattle.std.proofs.lemmas.Fmt.{digits_decimal, digits_value-decimal}
use Rattle.std.proofs.lemmas.List.Folds.{list_any_none}
use Rattle.ikl_base.specs.declared.address.Addr.TheVariants.{V4}
use Rattle.yang_values.specs.HexText.{is_colon}
use Rattle.yang_values.specs.Addresses.{dotted, is_dot, quad_of, address_of, v4_of}
use Rattle.yang_values.proofs.NumberLemmas.{decimal_model}
use Rattle.yang_values.proofs.JoinedText.{lacks_mark, each_also, split_texts, all_joined}
use Rattle.yang_values.proofs.ValueText.{apart, is_number-decimal}

-- what stands in a dotted quad
abbrev pub is_quad_octet : ℕ → Bool
is_quad_octet c = is_ascii_digit c || is_dot c

digits_only : (n : ℕ) → n < 256 → list_all is_ascii_digit (decimal n) ≡ true
digits_only n small = digits_decimal decimal_model n (omega arith)

pub also : (q r : ℕ → Bool) → ((c : ℕ) → q c ≡ true → r c ≡ true) → (t : List ℕ) → list_all q t ≡ true → list_all r t ≡ true
also q r f [] all = refl
also q r f (c ∷ cs) all = let parts = and_parts (q c) (list_all q cs) all in and_from _ _ (f c parts.0) (also q r f cs parts.1)

pub quad_octets : (octets : List ℕ) → AllByRecursion (λ o. o < 256) octets → list_all is_quad_octet (dotted octets) ≡ true
quad_octets octets small =
    all_joined is_quad_octet 46 decimal refl octets
    (each_also (λ o. o < 256) (λ o. list_all is_quad_octet (decimal o) ≡ true)
    (λ o h. also is_ascii_digit is_quad_octet (λ c. or_left (is_ascii_digit c) (is_dot c)) (decimal o) (digits_only o h)) octets small)

no_dot : (n : ℕ) → n < 256 → All (λ c. is_dot c ≡ false) (decimal n)
no_dot n small = lacks_mark is_ascii_digit is_dot (λ c. apart is_ascii_digit c 46 refl) (decimal n) (digits_only n small)

quad_again : (a b c d : ℕ) → a < 256 → b < 256 → c < 256 → d < 256
    → quad_of (decimal a ∷ decimal b ∷ decimal c ∷ decimal d ∷ []) ≡ Ok (a ∷ b ∷ c ∷ d ∷ [])
unfolding quad_of
quad_again a b c d ha hb hc hd =
    let na = is_number-decimal a (omega arith) in
    let nb = is_number-decimal b (omega arith) in
    let nc = is_number-decimal c (omega arith) in
    let nd = is_number-decimal d (omega arith) in
    let va = digits_value-decimal decimal_model a (omega arith) in
    let vb = digits_value-decimal decimal_model b (omega arith) in
    let vc = digits_value-decimal decimal_model c (omega arith) in
    let vd = digits_value-decimal decimal_model d (omega arith) in
    let la = le-leb a 255 (omega arith) in
    let lb = le-leb b 255 (omega arith) in
    let lc = le-leb c 255 (omega arith) in
    let ld = le-leb d 255 (omega arith) in
    simp (na, nb, nc, nd, va, vb, vc, vd, la, lb, lc, ld) refl

pub v4_again : (octets : List ℕ) → length octets ≡ 4 → AllByRecursion (λ o. o < 256) octets → address_of (dotted octets) ≡ Ok (V4 octets)
unfolding address_of
v4_again (a ∷ b ∷ c ∷ d ∷ []) size small =
    let octets : List ℕ = a ∷ b ∷ c ∷ d ∷ [] in
    let plain = list_any_none is_colon (dotted octets)
    (lacks_mark is_quad_octet is_colon (λ c. apart is_quad_octet c 58 refl) (dotted octets) (quad_octets octets small)) in
    let split = split_texts is_dot 46 decimal refl a (b ∷ c ∷ d ∷ [])
    (each_also (λ o. o < 256) (λ o. All (λ c. is_dot c ≡ false) (decimal o)) no_dot octets small) in
    rw (plain, split) (ap v4_of (quad_again a b c d small.0 small.1.0 small.1.1.0 small.1.1.1.0))
v4_again _ size small = absurd (omega arith)

-- four numbers, as two halves with a dot between them
pub two_halves : (xs : List ℕ) → length xs ≡ 4
    → dotted xs ≡ dotted (get_or xs 0 0 ∷ get_or xs 1 0 ∷ []) ++ 46 ∷ dotted (get_or xs 2 0 ∷ get_or xs 3 0 ∷ [])
two_halves [] n = absurd (omega arith)
two_halves (a ∷ []) n = absurd (omega arith)
two_halves (a ∷ b ∷ []) n = absurd (omega arith)
two_halves (a ∷ b ∷ c ∷ []) n = absurd (omega arith)
two_halves (a ∷ b ∷ c ∷ d ∷ []) n = sym (append_assoc (decimal a) (46 ∷ decimal b) (46 ∷ (decimal c ++ 46 ∷ decimal d)))
two_halves (a ∷ b ∷ c ∷ d ∷ e ∷ es) n = absurd (omega arith)
