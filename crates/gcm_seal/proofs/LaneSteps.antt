-- Lanes of octets, one by one.
use Rattle.std.proofs.Common.{◌≡◌, ℕ, zero, suc, ◌+◌, ◌-◌, ◌*◌, ◌/◌, ◌<◌, ◌≤◌, ◌^◌, true, List, [], ◌∷◌, ◌++◌, map, length, get_or, replicate, bit_and, bit_or, bit_xor, refl, sym, ap, ◌∙◌, arith, w8, Fits, take, drop, zero-add}
use Rattle.std.specs.Prelude.{slice_index, ◌==◌}
use Rattle.std.specs.List.{range_with_len}
use Rattle.std.proofs.lemmas.Bool.{eqb-true}
use Rattle.std.proofs.lemmas.List.{get_or-append_right, get_or-drop, get_or_append_left, get_or-map, get_or-take, length-drop, length-map, length-take, ext_get_or}
use Rattle.std.proofs.lemmas.Grind.{same_number_lists}
use Rattle.std.proofs.lemmas.List.FromFn.{get_or-map-range_with_len, length-map-range_with_len}
use Rattle.std.proofs.lemmas.Nat.{and_le_r}
use Rattle.std.proofs.lemmas.Simd.{get_or-chunk, get_or-zip2, length-chunk, put_chunk_whole, Each1-all, Each1-weaker, Each1-zip2, Each2-splat, below_from_Fits, length-zip2, swz_l, SwzOk, SwzOk-from_below, length-swz_l, get_or-swz_l_below}
use borrow.Rule.Slice.PartMut.{put_mid}
use lib.Lanes.{chunk, put_chunk, zip2, Each1}
use Rattle.gf_poly.specs.Poly.{from_bits}
use Rattle.gf_poly.proofs.Tables.{all_below, all_below_at}
use Rattle.gcm_seal.specs.Gcm.{add_blocks, reversed}
use Rattle.gcm_seal.specs.declared.lanes.TheConstants.{HIGH_REVERSED, LOW_REVERSED}

abbrev pub AreOctets : List ℕ → Type 0
AreOctets v = (length v ≡ 16) × Each1 (Fits w8) v

lane_fits : (v : List ℕ) (i : ℕ) → Each1 (Fits w8) v → get_or v i 0 < 256
lane_fits [] i h = omega arith
lane_fits (x ∷ xs) zero h = h.0.fits
lane_fits (x ∷ xs) (suc i) h = lane_fits xs i h.1

abbrev pub down : ℕ → ℕ → ℕ
down a b = a / 2 ^ b

pub high_ok : (v : List ℕ) → AreOctets v → SwzOk w8 16 16 0 (zip2 down v (replicate 16 4))
high_ok v fits =
    let small = Each1-weaker (λ a. a < 256) (λ a. a / 16 < 16) (λ a h. omega arith) v (below_from_Fits w8 v fits.1) in
    SwzOk-from_below w8 16 1 16 0 (zip2 down v (replicate 16 4)) refl (omega (arith, length-zip2 down v (replicate 16 4) fits.0))
    (Each1-zip2 down (λ j. j < 16) v (replicate 16 4) (Each2-splat (λ a b. down a b < 16) v 16 4 small))

pub low_ok : (v : List ℕ) → AreOctets v → SwzOk w8 16 16 0 (zip2 bit_and v (replicate 16 15))
low_ok v fits =
    let small = Each1-all (λ a. bit_and a 15 < 16) (λ a. omega (arith, and_le_r a 15)) v in
    SwzOk-from_below w8 16 1 16 0 (zip2 bit_and v (replicate 16 15)) refl (omega (arith, length-zip2 bit_and v (replicate 16 15) fits.0))
    (Each1-zip2 bit_and (λ j. j < 16) v (replicate 16 15) (Each2-splat (λ a b. bit_and a b < 16) v 16 15 small))

-- a table read at places g x below 16
pub looked_up : (t : List ℕ) (g : ℕ → ℕ) (v js : List ℕ) → AreOctets v → js ≡ map g v → ((x : ℕ) → x < 256 → g x < 16)
    → swz_l w8 16 t 0 js ≡ map (λ x. get_or t (g x) 0) v
looked_up t g v js fits e small =
    let long : length js ≡ 16 = ap length e ∙ length-map v g ∙ fits.0 in
    ext_get_or 0 _ _ (length-swz_l w8 16 t 0 js ∙ long ∙ sym (length-map v (λ x. get_or t (g x) 0) ∙ fits.0)) (λ i h.
    let lt : i < 16 = omega (arith, length-swz_l w8 16 t 0 js) in
    let within : i < length v = omega (arith, fits.0) in
    let is : get_or js i 0 ≡ g (get_or v i 0) = ap (λ l. get_or l i 0) e ∙ get_or-map g v i 0 0 within in
    let below : get_or js i 0 < 16 = omega (arith, small (get_or v i 0) (lane_fits v i fits.1)) in
    let first : 16 * ((0 + i) / 16) + get_or js i 0 ≡ get_or js i 0 = omega arith in
    get_or-swz_l_below w8 16 t 0 js i (omega arith) below
    ∙ ap (λ k. get_or t k 0) (first ∙ is) ∙ sym (get_or-map (λ x. get_or t (g x) 0) v i 0 0 within))

-- ---- reversed octets by their halves
abbrev pub low_half : ℕ → ℕ
low_half x = get_or LOW_REVERSED (bit_and x 15) 0

abbrev pub high_half : ℕ → ℕ
high_half x = get_or HIGH_REVERSED (x / 16) 0

halves_are : all_below (λ x. bit_or (low_half x) (high_half x) == reversed x) 256 ≡ true
unfolding reversed from_bits
halves_are = refl

pub reversed_halves : (v : List ℕ) → AreOctets v → map (λ x. bit_or (low_half x) (high_half x)) v ≡ map reversed v
reversed_halves v fits = each v fits.1
  where
    each : (xs : List ℕ) → Each1 (Fits w8) xs → map (λ x. bit_or (low_half x) (high_half x)) xs ≡ map reversed xs
    each [] h = refl
    each (x ∷ xs) h =
        let one = eqb-true (bit_or (low_half x) (high_half x)) (reversed x)
        (all_below_at (λ x. bit_or (low_half x) (high_half x) == reversed x) 256 x halves_are h.0.fits) in
        (λ i. one i ∷ each xs h.1 i)

-- ---- loads
pub loaded : (xs : List ℕ) (at : ℕ) → at + 16 ≤ length xs → chunk 0 16 (take (at + 16 - at) (drop at xs)) ≡ map
    (λ j. slice_index xs (at + j)) (range_with_len 0 16)
loaded xs at le =
    let part : List ℕ = take (at + 16 - at) (drop at xs) in
    let f : ℕ → ℕ = λ j. slice_index xs (at + j) in
    let long : length part ≡ 16 = omega (arith, length-take (at + 16 - at) (drop at xs), length-drop at xs) in
    let same : length (chunk 0 16 part) ≡ 16 = length-chunk 0 16 part (omega arith) in
    same_number_lists (chunk 0 16 part) (map f (range_with_len 0 16)) (same ∙ sym (length-map-range_with_len f 0 16)) (λ k lt.
    let small : k < 16 = omega arith in
    get_or-chunk 0 16 part k 0 small ∙ ap (λ n. get_or part n 0) (zero-add k) ∙ get_or-take (at + 16 - at) (drop at xs) k 0 (omega arith)
    ∙ get_or-drop at xs k 0
    ∙ sym (get_or-map-range_with_len f 0 16 k k 0 small (zero-add k)))

-- ---- a sum that is written back
pub added : (xs ys : List ℕ) (at k : ℕ) → at + 16 ≤ length xs → length ys ≡ 16 → at ≤ k → k < at + 16
    → get_or (put_mid at (at + 16 - at) xs
    (put_chunk 0 (take (at + 16 - at) (drop at xs)) (zip2 bit_xor (chunk 0 16 (take (at + 16 - at) (drop at xs))) ys))) k 0
    ≡ bit_xor (get_or xs k 0) (get_or ys (k - at) 0)
added xs ys at k le long above below =
    let n : ℕ = at + 16 - at in
    let part : List ℕ = take n (drop at xs) in
    let load : List ℕ = chunk 0 16 part in
    let sum : List ℕ = zip2 bit_xor load ys in
    let j : ℕ = k - at in
    let part_len : length part ≡ 16 = omega (arith, length-take n (drop at xs), length-drop at xs) in
    let load_len : length load ≡ 16 = length-chunk 0 16 part (omega arith) in
    let sum_len : length sum ≡ 16 = length-zip2 bit_xor load ys (load_len ∙ sym long) ∙ load_len in
    let front_len : length (take at xs) ≡ at = omega (arith, length-take at xs) in
    let stored : put_chunk 0 part sum ≡ sum = put_chunk_whole part sum (part_len ∙ sym sum_len) in
    let place : at + j ≡ k = omega arith in
    ap (λ (l : List ℕ). get_or (put_mid at n xs l) k 0) stored
    ∙ get_or-append_right (take at xs) (sum ++ drop n (drop at xs)) at k 0 front_len above
    ∙ get_or_append_left sum (drop n (drop at xs)) 0 j (omega arith)
    ∙ get_or-zip2 bit_xor load ys j 0 0 0 (omega arith) (omega arith)
    ∙ ap (λ (x : ℕ). bit_xor x (get_or ys j 0))
    (get_or-chunk 0 16 part j 0 (omega arith) ∙ ap (λ (m : ℕ). get_or part m 0) (zero-add j) ∙ get_or-take n (drop at xs) j 0 (omega arith)
    ∙ get_or-drop at xs j 0
    ∙ ap (λ (m : ℕ). get_or xs m 0) place)

-- ---- a sum of two blocks
pub sum_is : (xs ys : List ℕ) → length xs ≡ 16 → length ys ≡ 16 → zip2 bit_xor xs ys ≡ add_blocks xs ys
sum_is xs ys p q =
    let f : ℕ → ℕ = λ j. bit_xor (slice_index xs j) (slice_index ys j) in
    let long : length (zip2 bit_xor xs ys) ≡ 16 = length-zip2 bit_xor xs ys (p ∙ sym q) ∙ p in
    same_number_lists (zip2 bit_xor xs ys) (add_blocks xs ys) (long ∙ sym (length-map-range_with_len f 0 16)) (λ k lt.
    get_or-zip2 bit_xor xs ys k 0 0 0 (omega arith) (omega arith) ∙ sym (get_or-map-range_with_len f 0 16 k k 0 (omega arith) (zero-add k)))
