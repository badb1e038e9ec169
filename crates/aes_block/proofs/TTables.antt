-- Columns of 32 bits.
use Rattle.std.proofs.Common.{◌≡◌, ℕ, ◌/◌, ◌%◌, ◌^◌, ◌<◌, Bool, List, [], ◌∷◌, map, refl, true, bit_xor, arith, ap, sym, ◌∙◌, lit<, ◌+◌, ◌*◌, ◌≤◌, length, get_or}
use Rattle.std.specs.Prelude.{slice_index, ◌==◌}
use Rattle.std.specs.Int.{w32, to_be_bytes}
use Rattle.std.proofs.lemmas.Bool.{eqb-true}
use Rattle.std.proofs.lemmas.List.{get_or-map, get_or_default, length-map, same_lists}
use Rattle.std.proofs.lemmas.Nat.{xor_mod, xor_shr}
use Rattle.gf_poly.specs.Poly.{product, times_x, remainder, multiply}
use Rattle.aes_block.specs.Aes.{add_key, add_words, contribution, matrix, mix_columns, mix_word, s_box, shift_rows, square, sub_octets, sub_word, times}
use Rattle.aes_block.specs.Columns.{column_of, entry}
use Rattle.aes_block.specs.declared.tables.TheConstants.{S_TABLE, T}
use Rattle.gf_poly.proofs.Tables.{all_below, all_below_at}
use Rattle.aes_block.proofs.Computed.{s_table_at}

-- octet i from above of a sum
octet_xor : (x y k : ℕ) → bit_xor x y / 2 ^ k % 2 ^ 8 ≡ bit_xor (x / 2 ^ k % 2 ^ 8) (y / 2 ^ k % 2 ^ 8)
octet_xor x y k = ap (λ (z : ℕ). z % 2 ^ 8) (xor_shr x y k) ∙ xor_mod (x / 2 ^ k) (y / 2 ^ k) 8

pub octets_xor : (x y : ℕ) → to_be_bytes w32 (bit_xor x y) ≡ add_words (to_be_bytes w32 x) (to_be_bytes w32 y)
octets_xor x y =
    let e3 = octet_xor x y 24 in
    let e2 = octet_xor x y 16 in
    let e1 = octet_xor x y 8 in
    let e0 = xor_mod x y 8 in
    (λ i. e3 i ∷ e2 i ∷ e1 i ∷ e0 i ∷ [])

is_entry : ℕ → ℕ → ℕ → Bool
is_entry at k x = all_below (λ r. slice_index (to_be_bytes w32 (slice_index T (at + x))) r == times (slice_index (matrix r) k)
    (slice_index S_TABLE x)) 4

t0_is : all_below (is_entry 0 0) 256 ≡ true
unfolding is_entry times multiply product times_x remainder
t0_is = refl

t1_is : all_below (is_entry 256 1) 256 ≡ true
unfolding is_entry times multiply product times_x remainder
t1_is = refl

t2_is : all_below (is_entry 512 2) 256 ≡ true
unfolding is_entry times multiply product times_x remainder
t2_is = refl

t3_is : all_below (is_entry 768 3) 256 ≡ true
unfolding is_entry times multiply product times_x remainder
t3_is = refl

entry_of : (at k x : ℕ) → x < 256 → all_below (is_entry at k) 256 ≡ true → to_be_bytes w32 (slice_index T (at + x)) ≡ contribution k x
unfolding is_entry
entry_of at k x lt h =
    let b : List ℕ = to_be_bytes w32 (slice_index T (at + x)) in
    let all = all_below_at (is_entry at k) 256 x h lt in
    let row : (r : ℕ) → r < 4 → slice_index b r ≡ times (slice_index (matrix r) k) (s_box x) =
    λ r less. eqb-true (slice_index b r) (times (slice_index (matrix r) k) (slice_index S_TABLE x))
    (all_below_at (λ r. slice_index b r == times (slice_index (matrix r) k) (slice_index S_TABLE x)) 4 r all less)
    ∙ ap (times (slice_index (matrix r) k)) (s_table_at x lt) in
    let e0 = row 0 (lit< tt) in
    let e1 = row 1 (lit< tt) in
    let e2 = row 2 (lit< tt) in
    let e3 = row 3 (lit< tt) in
    (λ i. e0 i ∷ e1 i ∷ e2 i ∷ e3 i ∷ [])

t1_at : (x : ℕ) → x < 256 → to_be_bytes w32 (slice_index T (256 + x)) ≡ contribution 1 x
t1_at x lt = entry_of 256 1 x lt t1_is

t2_at : (x : ℕ) → x < 256 → to_be_bytes w32 (slice_index T (512 + x)) ≡ contribution 2 x
t2_at x lt = entry_of 512 2 x lt t2_is

t3_at : (x : ℕ) → x < 256 → to_be_bytes w32 (slice_index T (768 + x)) ≡ contribution 3 x
t3_at x lt = entry_of 768 3 x lt t3_is

pub column_is : (p q r s k a b c d : ℕ) → to_be_bytes w32 p ≡ contribution 0 a → to_be_bytes w32 q ≡ contribution 1 b
    → to_be_bytes w32 r ≡ contribution 2 c → to_be_bytes w32 s ≡ contribution 3 d
    → to_be_bytes w32 (bit_xor (bit_xor (bit_xor (bit_xor p q) r) s) k) ≡ add_words (mix_word (sub_word (a ∷ b ∷ c ∷ d ∷ [])))
    (to_be_bytes w32 k)
column_is p q r s k a b c d ep eq er es =
    let two = octets_xor p q ∙ (λ i. add_words (ep i) (eq i)) in
    let three = octets_xor (bit_xor p q) r ∙ (λ i. add_words (two i) (er i)) in
    let four = octets_xor (bit_xor (bit_xor p q) r) s ∙ (λ i. add_words (three i) (es i)) in
    octets_xor (bit_xor (bit_xor (bit_xor p q) r) s) k ∙ ap (λ (l : List ℕ). add_words l (to_be_bytes w32 k)) four

-- a column by the table is the column of the round
pub column_of_is : (a b c d k : ℕ) → to_be_bytes w32 (column_of a b c d k) ≡ add_words
    (mix_word (sub_word (slice_index (to_be_bytes w32 a) 0
    ∷ slice_index (to_be_bytes w32 b) 1 ∷ slice_index (to_be_bytes w32 c) 2 ∷ slice_index (to_be_bytes w32 d) 3 ∷ []))) (to_be_bytes w32 k)
column_of_is a b c d k =
    column_is (entry 0 a) (entry 1 b) (entry 2 c) (entry 3 d) k _ _ _ _
    (entry_of 0 0 (slice_index (to_be_bytes w32 a) 0) (omega arith) t0_is) (t1_at (slice_index (to_be_bytes w32 b) 1) (omega arith))
    (t2_at (slice_index (to_be_bytes w32 c) 2) (omega arith)) (t3_at (slice_index (to_be_bytes w32 d) 3) (omega arith))

unfoldable pub mixed : List ℕ → ℕ → List ℕ
mixed s c = mix_word (sub_word (slice_index (to_be_bytes w32 (slice_index s c)) 0
    ∷ slice_index (to_be_bytes w32 (slice_index s ((c + 1) % 4))) 1
    ∷ slice_index (to_be_bytes w32 (slice_index s ((c + 2) % 4))) 2 ∷ slice_index (to_be_bytes w32 (slice_index s ((c + 3) % 4))) 3 ∷ []))

key_at : (w : List ℕ) (n : ℕ) → n < length w → get_or (map (to_be_bytes w32) w) n [] ≡ to_be_bytes w32 (get_or w n 0)
key_at w n lt = get_or-map (to_be_bytes w32) w n 0 [] lt

pub round_is : (w s : List ℕ) (i p q r t : ℕ) → 4 * i + 4 ≤ length w
    → to_be_bytes w32 p ≡ add_words (mixed s 0) (to_be_bytes w32 (get_or w (4 * i) 0))
    → to_be_bytes w32 q ≡ add_words (mixed s 1) (to_be_bytes w32 (get_or w (4 * i + 1) 0))
    → to_be_bytes w32 r ≡ add_words (mixed s 2) (to_be_bytes w32 (get_or w (4 * i + 2) 0))
    → to_be_bytes w32 t ≡ add_words (mixed s 3) (to_be_bytes w32 (get_or w (4 * i + 3) 0))
    → square (p ∷ q ∷ r ∷ t ∷ []) ≡ add_key (map (to_be_bytes w32) w) i (mix_columns (shift_rows (sub_octets (square s))))
unfolding mixed
round_is w s i p q r t le hp hq hr ht =
    let z : 4 * i ≡ 4 * i + 0 = omega arith in
    let k0 : to_be_bytes w32 (get_or w (4 * i) 0) ≡ get_or (map (to_be_bytes w32) w) (4 * i + 0) [] =
    ap (λ (n : ℕ). to_be_bytes w32 (get_or w n 0)) z ∙ sym (key_at w (4 * i + 0) (omega arith)) in
    let k1 = sym (key_at w (4 * i + 1) (omega arith)) in
    let k2 = sym (key_at w (4 * i + 2) (omega arith)) in
    let k3 = sym (key_at w (4 * i + 3) (omega arith)) in
    let e0 = hp ∙ (λ j. add_words (mixed s 0) (k0 j)) in
    let e1 = hq ∙ (λ j. add_words (mixed s 1) (k1 j)) in
    let e2 = hr ∙ (λ j. add_words (mixed s 2) (k2 j)) in
    let e3 = ht ∙ (λ j. add_words (mixed s 3) (k3 j)) in
    (λ j. slice_index (e0 j) 0 ∷ slice_index (e0 j) 1 ∷ slice_index (e0 j) 2 ∷ slice_index (e0 j) 3 ∷ slice_index (e1 j) 0
    ∷ slice_index (e1 j) 1 ∷ slice_index (e1 j) 2 ∷ slice_index (e1 j) 3 ∷ slice_index (e2 j) 0 ∷ slice_index (e2 j) 1
    ∷ slice_index (e2 j) 2 ∷ slice_index (e2 j) 3 ∷ slice_index (e3 j) 0 ∷ slice_index (e3 j) 1 ∷ slice_index (e3 j) 2
    ∷ slice_index (e3 j) 3 ∷ [])

-- ---- the first addition
pub first_is : (w b : List ℕ) (p q r t : ℕ) → 4 ≤ length w
    → to_be_bytes w32 p ≡ add_words (get_or b 0 0 ∷ get_or b 1 0 ∷ get_or b 2 0 ∷ get_or b 3 0 ∷ []) (to_be_bytes w32 (get_or w 0 0))
    → to_be_bytes w32 q ≡ add_words (get_or b 4 0 ∷ get_or b 5 0 ∷ get_or b 6 0 ∷ get_or b 7 0 ∷ []) (to_be_bytes w32 (get_or w 1 0))
    → to_be_bytes w32 r ≡ add_words (get_or b 8 0 ∷ get_or b 9 0 ∷ get_or b 10 0 ∷ get_or b 11 0 ∷ []) (to_be_bytes w32 (get_or w 2 0))
    → to_be_bytes w32 t ≡ add_words (get_or b 12 0 ∷ get_or b 13 0 ∷ get_or b 14 0 ∷ get_or b 15 0 ∷ []) (to_be_bytes w32 (get_or w 3 0))
    → square (p ∷ q ∷ r ∷ t ∷ []) ≡ add_key (map (to_be_bytes w32) w) 0 b
first_is w b p q r t le hp hq hr ht =
    let k0 = sym (key_at w 0 (omega arith)) in
    let k1 = sym (key_at w 1 (omega arith)) in
    let k2 = sym (key_at w 2 (omega arith)) in
    let k3 = sym (key_at w 3 (omega arith)) in
    let e0 = hp ∙ (λ j. add_words (get_or b 0 0 ∷ get_or b 1 0 ∷ get_or b 2 0 ∷ get_or b 3 0 ∷ []) (k0 j)) in
    let e1 = hq ∙ (λ j. add_words (get_or b 4 0 ∷ get_or b 5 0 ∷ get_or b 6 0 ∷ get_or b 7 0 ∷ []) (k1 j)) in
    let e2 = hr ∙ (λ j. add_words (get_or b 8 0 ∷ get_or b 9 0 ∷ get_or b 10 0 ∷ get_or b 11 0 ∷ []) (k2 j)) in
    let e3 = ht ∙ (λ j. add_words (get_or b 12 0 ∷ get_or b 13 0 ∷ get_or b 14 0 ∷ get_or b 15 0 ∷ []) (k3 j)) in
    (λ j. slice_index (e0 j) 0 ∷ slice_index (e0 j) 1 ∷ slice_index (e0 j) 2 ∷ slice_index (e0 j) 3 ∷ slice_index (e1 j) 0
    ∷ slice_index (e1 j) 1 ∷ slice_index (e1 j) 2 ∷ slice_index (e1 j) 3 ∷ slice_index (e2 j) 0 ∷ slice_index (e2 j) 1
    ∷ slice_index (e2 j) 2 ∷ slice_index (e2 j) 3 ∷ slice_index (e3 j) 0 ∷ slice_index (e3 j) 1 ∷ slice_index (e3 j) 2
    ∷ slice_index (e3 j) 3 ∷ [])

pub loaded_xor : (x k a b c d : ℕ) → to_be_bytes w32 x ≡ a ∷ b ∷ c ∷ d ∷ [] → to_be_bytes w32 (bit_xor x k) ≡ add_words (a ∷ b ∷ c ∷ d ∷ [])
    (to_be_bytes w32 k)
loaded_xor x k a b c d e = octets_xor x k ∙ ap (λ (l : List ℕ). add_words l (to_be_bytes w32 k)) e

-- ---- the last round
unfoldable pub subbed : List ℕ → ℕ → List ℕ
subbed s c = sub_word (slice_index (to_be_bytes w32 (slice_index s c)) 0 ∷ slice_index (to_be_bytes w32 (slice_index s ((c + 1) % 4))) 1
    ∷ slice_index (to_be_bytes w32 (slice_index s ((c + 2) % 4))) 2 ∷ slice_index (to_be_bytes w32 (slice_index s ((c + 3) % 4))) 3 ∷ [])

abbrev pub joined : List ℕ → List ℕ → List ℕ → List ℕ → List ℕ
joined p q r t = slice_index p 0 ∷ slice_index p 1 ∷ slice_index p 2 ∷ slice_index p 3 ∷ slice_index q 0 ∷ slice_index q 1 ∷ slice_index q 2
    ∷ slice_index q 3
    ∷ slice_index r 0 ∷ slice_index r 1 ∷ slice_index r 2 ∷ slice_index r 3 ∷ slice_index t 0 ∷ slice_index t 1 ∷ slice_index t 2
    ∷ slice_index t 3 ∷ []

pub last_is : (w s : List ℕ) (i : ℕ) (p q r t : List ℕ) → 4 * i + 4 ≤ length w
    → p ≡ add_words (subbed s 0) (to_be_bytes w32 (get_or w (4 * i) 0))
    → q ≡ add_words (subbed s 1) (to_be_bytes w32 (get_or w (4 * i + 1) 0))
    → r ≡ add_words (subbed s 2) (to_be_bytes w32 (get_or w (4 * i + 2) 0))
    → t ≡ add_words (subbed s 3) (to_be_bytes w32 (get_or w (4 * i + 3) 0))
    → joined p q r t ≡ add_key (map (to_be_bytes w32) w) i (shift_rows (sub_octets (square s)))
unfolding subbed
last_is w s i p q r t le hp hq hr ht =
    let z : 4 * i ≡ 4 * i + 0 = omega arith in
    let k0 : to_be_bytes w32 (get_or w (4 * i) 0) ≡ get_or (map (to_be_bytes w32) w) (4 * i + 0) [] =
    ap (λ (n : ℕ). to_be_bytes w32 (get_or w n 0)) z ∙ sym (key_at w (4 * i + 0) (omega arith)) in
    let k1 = sym (key_at w (4 * i + 1) (omega arith)) in
    let k2 = sym (key_at w (4 * i + 2) (omega arith)) in
    let k3 = sym (key_at w (4 * i + 3) (omega arith)) in
    let e0 = hp ∙ (λ j. add_words (subbed s 0) (k0 j)) in
    let e1 = hq ∙ (λ j. add_words (subbed s 1) (k1 j)) in
    let e2 = hr ∙ (λ j. add_words (subbed s 2) (k2 j)) in
    let e3 = ht ∙ (λ j. add_words (subbed s 3) (k3 j)) in
    (λ j. joined (e0 j) (e1 j) (e2 j) (e3 j))

-- ---- the addition of a key to octets
abbrev pub summed : List ℕ → List ℕ → List ℕ → List ℕ → List ℕ → List ℕ
summed b p q r t =
    let x : ℕ → List ℕ → ℕ → ℕ = λ k l j. bit_xor (get_or b k 0) (get_or l j 0) in
    x 0 p 0 ∷ x 1 p 1 ∷ x 2 p 2 ∷ x 3 p 3 ∷ x 4 q 0 ∷ x 5 q 1 ∷ x 6 q 2 ∷ x 7 q 3
    ∷ x 8 r 0 ∷ x 9 r 1 ∷ x 10 r 2 ∷ x 11 r 3 ∷ x 12 t 0 ∷ x 13 t 1 ∷ x 14 t 2 ∷ x 15 t 3 ∷ []

pub add_key_is : (w b : List ℕ) (i : ℕ) (p q r t : List ℕ) → 4 * i + 4 ≤ length w → p ≡ to_be_bytes w32 (get_or w (4 * i) 0)
    → q ≡ to_be_bytes w32 (get_or w (4 * i + 1) 0) → r ≡ to_be_bytes w32 (get_or w (4 * i + 2) 0)
    → t ≡ to_be_bytes w32 (get_or w (4 * i + 3) 0)
    → summed b p q r t ≡ add_key (map (to_be_bytes w32) w) i b
add_key_is w b i p q r t le hp hq hr ht =
    let z : 4 * i ≡ 4 * i + 0 = omega arith in
    let e0 = hp ∙ ap (λ (n : ℕ). to_be_bytes w32 (get_or w n 0)) z ∙ sym (key_at w (4 * i + 0) (omega arith)) in
    let e1 = hq ∙ sym (key_at w (4 * i + 1) (omega arith)) in
    let e2 = hr ∙ sym (key_at w (4 * i + 2) (omega arith)) in
    let e3 = ht ∙ sym (key_at w (4 * i + 3) (omega arith)) in
    (λ j. summed b (e0 j) (e1 j) (e2 j) (e3 j))

-- ---- words of four octets as numbers
pub packed_is : (ws : List (List ℕ)) (packed : List ℕ) → length packed ≡ length ws
    → ((k : ℕ) → k < length ws → to_be_bytes w32 (get_or packed k 0) ≡ get_or ws k []) → map (to_be_bytes w32) packed ≡ ws
packed_is ws packed same held =
    same_lists (map (to_be_bytes w32) packed) ws (length-map packed (to_be_bytes w32) ∙ same)
    (λ k d lt. get_or-map (to_be_bytes w32) packed k 0 d (omega (arith, length-map packed (to_be_bytes w32)))
    ∙ held k (omega (arith, length-map packed (to_be_bytes w32)))
    ∙ get_or_default ws k [] d (omega (arith, length-map packed (to_be_bytes w32))))
