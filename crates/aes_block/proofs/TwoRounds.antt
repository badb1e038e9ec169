-- The first two rounds of blocks that differ in the last octet alone.
use Rattle.std.proofs.Common.{◌≡◌, ℕ, ◌+◌, ◌*◌, ◌/◌, ◌%◌, ◌^◌, ◌<◌, ◌≤◌, List, [], ◌∷◌, map, length, get_or, bit_xor, arith, ap, sym, ◌∙◌}
use Rattle.std.specs.Prelude.{slice_index}
use Rattle.std.specs.Int.{w32, to_be_bytes}
use lib.Bits.{xor_assoc, xor_comm, xor_zero_l, xor_zero_r}
use Rattle.aes_block.specs.Aes.{add_key, after_rounds, mix_columns, shift_rows, square, sub_octets}
use Rattle.aes_block.specs.Columns.{column_of, columns_without, entry}
use Rattle.aes_block.specs.Shared.{with_last}
use Rattle.aes_block.specs.declared.tables.TheConstants.{T}
use Rattle.aes_block.proofs.Schedules.{after_rounds-suc}
use Rattle.aes_block.proofs.TTables.{column_of_is, mixed, octets_xor, round_is}

-- ---- sums in another order
swap : (x k a : ℕ) → bit_xor (bit_xor x k) a ≡ bit_xor (bit_xor x a) k
swap x k a = xor_assoc x k a ∙ ap (bit_xor x) (xor_comm k a) ∙ sym (xor_assoc x a k)

-- the last of four before the others
fourth_third : (x y k a : ℕ) → bit_xor (bit_xor (bit_xor x y) k) a ≡ bit_xor (bit_xor (bit_xor x a) y) k
fourth_third x y k a = swap (bit_xor x y) k a ∙ ap (λ (z : ℕ). bit_xor z k) (swap x y a)

fifth_second : (x y z k a : ℕ) → bit_xor (bit_xor (bit_xor (bit_xor x y) z) k) a ≡ bit_xor (bit_xor (bit_xor (bit_xor x a) y) z) k
fifth_second x y z k a = fourth_third (bit_xor x y) z k a ∙ ap (λ (v : ℕ). bit_xor (bit_xor v z) k) (swap x y a)

fifth_first : (x y z k a : ℕ) → bit_xor (bit_xor (bit_xor (bit_xor x y) z) k) a ≡ bit_xor (bit_xor (bit_xor (bit_xor a x) y) z) k
fifth_first x y z k a = fifth_second x y z k a ∙ ap (λ (v : ℕ). bit_xor (bit_xor (bit_xor v y) z) k) (xor_comm x a)

-- ---- two rounds by the table
round_of_is : (w : List ℕ) (i a b c d : ℕ) → 4 * i + 4 ≤ length w
    → square (column_of a b c d (get_or w (4 * i) 0) ∷ column_of b c d a (get_or w (4 * i + 1) 0) ∷ column_of c d a b
    (get_or w (4 * i + 2) 0)
    ∷ column_of d a b c (get_or w (4 * i + 3) 0) ∷ []) ≡ add_key (map (to_be_bytes w32) w) i
    (mix_columns (shift_rows (sub_octets (square (a ∷ b ∷ c ∷ d ∷ [])))))
unfolding mixed
round_of_is w i a b c d le =
    round_is w (a ∷ b ∷ c ∷ d ∷ []) i _ _ _ _ le (column_of_is a b c d _) (column_of_is b c d a _) (column_of_is c d a b _)
    (column_of_is d a b c _)

two_rounds : (w b : List ℕ) (p q r t c u v x : ℕ) → 12 ≤ length w → square (p ∷ q ∷ r ∷ t ∷ []) ≡ add_key (map (to_be_bytes w32) w) 0 b
    → c ≡ column_of p q r t (get_or w 4 0) → u ≡ column_of q r t p (get_or w 5 0) → v ≡ column_of r t p q (get_or w 6 0) → x ≡ column_of t p
    q r (get_or w 7 0)
    → square (column_of c u v x (get_or w 8 0) ∷ column_of u v x c (get_or w 9 0) ∷ column_of v x c u (get_or w 10 0) ∷ column_of x c u v
    (get_or w 11 0) ∷ [])
    ≡ after_rounds (map (to_be_bytes w32) w) b 2
unfolding after_rounds
two_rounds w b p q r t c u v x le start hc hu hv hx =
    let ws = map (to_be_bytes w32) w in
    let one : square (c ∷ u ∷ v ∷ x ∷ []) ≡ after_rounds ws b 1 =
    (λ i. square (hc i ∷ hu i ∷ hv i ∷ hx i ∷ [])) ∙ round_of_is w 1 p q r t (omega arith)
    ∙ (λ i. add_key ws 1 (mix_columns (shift_rows (sub_octets (start i))))) ∙ sym (after_rounds-suc ws b 0) in
    round_of_is w 2 c u v x (omega arith) ∙ (λ i. add_key ws 2 (mix_columns (shift_rows (sub_octets (one i))))) ∙ sym
    (after_rounds-suc ws b 1)

-- ---- the last octet
-- the octets of t with o added
high_kept : (t o k : ℕ) → o / 2 ^ k % 2 ^ 8 ≡ 0 → bit_xor (t / 2 ^ k % 2 ^ 8) (o / 2 ^ k % 2 ^ 8) ≡ t / 2 ^ k % 2 ^ 8
high_kept t o k e = ap (bit_xor (t / 2 ^ k % 2 ^ 8)) e ∙ xor_zero_r (t / 2 ^ k % 2 ^ 8)

last_added : (t o : ℕ) → o < 256
    → to_be_bytes w32 (bit_xor t o) ≡ slice_index (to_be_bytes w32 t) 0 ∷ slice_index (to_be_bytes w32 t) 1 ∷ slice_index
    (to_be_bytes w32 t) 2
    ∷ bit_xor (slice_index (to_be_bytes w32 t) 3) o ∷ []
last_added t o lt =
    let e0 = high_kept t o 24 (omega arith) in
    let e1 = high_kept t o 16 (omega arith) in
    let e2 = high_kept t o 8 (omega arith) in
    let e3 = ap (bit_xor (t % 2 ^ 8)) (let e : o % 2 ^ 8 ≡ o = omega arith in e) in
    octets_xor t o ∙ (λ i. e0 i ∷ e1 i ∷ e2 i ∷ e3 i ∷ [])

start_with : (w b : List ℕ) (p q r t o : ℕ) → o < 256 → square (p ∷ q ∷ r ∷ t ∷ []) ≡ add_key (map (to_be_bytes w32) w) 0 (with_last b 0)
    → square (p ∷ q ∷ r ∷ bit_xor t o ∷ []) ≡ add_key (map (to_be_bytes w32) w) 0 (with_last b o)
start_with w b p q r t o lt start =
    let l = last_added t o lt in
    let at : (j : ℕ) → slice_index (square (p ∷ q ∷ r ∷ t ∷ [])) j ≡ slice_index (add_key (map (to_be_bytes w32) w) 0 (with_last b 0)) j =
    λ j. ap (λ (s : List ℕ). slice_index s j) start in
    let key : ℕ = slice_index (get_or (map (to_be_bytes w32) w) 3 []) 3 in
    let e12 = ap (λ (s : List ℕ). slice_index s 0) l ∙ at 12 in
    let e13 = ap (λ (s : List ℕ). slice_index s 1) l ∙ at 13 in
    let e14 = ap (λ (s : List ℕ). slice_index s 2) l ∙ at 14 in
    let e15 = ap (λ (s : List ℕ). slice_index s 3) l ∙ ap (λ (n : ℕ). bit_xor n o) (at 15 ∙ xor_zero_l key) ∙ xor_comm key o in
    (λ i. at 0 i ∷ at 1 i ∷ at 2 i ∷ at 3 i ∷ at 4 i ∷ at 5 i ∷ at 6 i ∷ at 7 i ∷ at 8 i ∷ at 9 i ∷ at 10 i ∷ at 11 i ∷ e12 i ∷ e13 i ∷ e14
    i ∷ e15 i ∷ [])

-- rows 0, 1 and 2 of a column don't know its last octet
entry_kept : (t o k : ℕ) → slice_index (to_be_bytes w32 (bit_xor t o)) k ≡ slice_index (to_be_bytes w32 t) k → entry k (bit_xor t o) ≡ entry
    k t
entry_kept t o k e = ap (λ (n : ℕ). slice_index T (256 * k + n)) e

-- ---- what is shared, and one block of them
pub after_two_is : (w b : List ℕ) (p q r t o a u v x : ℕ) → 12 ≤ length w → o < 256
    → square (p ∷ q ∷ r ∷ t ∷ []) ≡ add_key (map (to_be_bytes w32) w) 0 (with_last b 0)
    → a ≡ bit_xor (bit_xor (bit_xor (bit_xor (entry 0 p) (entry 1 q)) (entry 2 r)) (get_or w 4 0)) (entry 3 (bit_xor t o))
    → u ≡ column_of q r t p (get_or w 5 0) → v ≡ column_of r t p q (get_or w 6 0) → x ≡ column_of t p q r (get_or w 7 0)
    → square (bit_xor (slice_index (columns_without w u v x) 0) (entry 0 a) ∷ bit_xor (slice_index (columns_without w u v x) 1) (entry 3 a)
    ∷ bit_xor (slice_index (columns_without w u v x) 2) (entry 2 a) ∷ bit_xor (slice_index (columns_without w u v x) 3) (entry 1 a) ∷ [])
    ≡ after_rounds (map (to_be_bytes w32) w) (with_last b o) 2
after_two_is w b p q r t o a u v x le lt start ha hu hv hx =
    let l = last_added t o lt in
    let k0 = entry_kept t o 0 (ap (λ (s : List ℕ). slice_index s 0) l) in
    let k1 = entry_kept t o 1 (ap (λ (s : List ℕ). slice_index s 1) l) in
    let k2 = entry_kept t o 2 (ap (λ (s : List ℕ). slice_index s 2) l) in
    let hc : a ≡ column_of p q r (bit_xor t o) (get_or w 4 0) = ha ∙ swap _ (get_or w 4 0) (entry 3 (bit_xor t o)) in
    let hu' : u ≡ column_of q r (bit_xor t o) p (get_or w 5 0) =
    hu ∙ sym (λ i. bit_xor (bit_xor (bit_xor (bit_xor (entry 0 q) (entry 1 r)) (k2 i)) (entry 3 p)) (get_or w 5 0)) in
    let hv' : v ≡ column_of r (bit_xor t o) p q (get_or w 6 0) =
    hv ∙ sym (λ i. bit_xor (bit_xor (bit_xor (bit_xor (entry 0 r) (k1 i)) (entry 2 p)) (entry 3 q)) (get_or w 6 0)) in
    let hx' : x ≡ column_of (bit_xor t o) p q r (get_or w 7 0) =
    hx ∙ sym (λ i. bit_xor (bit_xor (bit_xor (bit_xor (k0 i) (entry 1 p)) (entry 2 q)) (entry 3 r)) (get_or w 7 0)) in
    let d0 = fifth_first (entry 1 u) (entry 2 v) (entry 3 x) (get_or w 8 0) (entry 0 a) in
    let d1 = swap (bit_xor (bit_xor (entry 0 u) (entry 1 v)) (entry 2 x)) (get_or w 9 0) (entry 3 a) in
    let d2 = fourth_third (bit_xor (entry 0 v) (entry 1 x)) (entry 3 u) (get_or w 10 0) (entry 2 a) in
    let d3 = fifth_second (entry 0 x) (entry 2 u) (entry 3 v) (get_or w 11 0) (entry 1 a) in
    (λ i. square (d0 i ∷ d1 i ∷ d2 i ∷ d3 i ∷ []))
    ∙ two_rounds w (with_last b o) p q r (bit_xor t o) a u v x le (start_with w b p q r t o lt start) hc hu' hv' hx'
