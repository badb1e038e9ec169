-- A text with its trailer, octet by octet.
use Rattle.std.proofs.Common.{◌≡◌, ℕ, ◌+◌, ◌-◌, ◌<◌, ◌≤◌, List, [], ◌∷◌, ◌++◌, length, get_or, take, refl, ap, sym, ◌∙◌, arith, inl, inr, length-append, length-take, append_assoc}
use Rattle.std.specs.Prelude.{slice_set}
use Rattle.std.proofs.lemmas.Bool.{cases_lt, cases_eq}
use Rattle.std.proofs.lemmas.Grind.{same_number_lists}
use Rattle.std.proofs.lemmas.List.{get_or-append-add, get_or-append_right, get_or-set_other, get_or-set_same, get_or-take, get_or_append_left, length-set, take_at}
use Rattle.std.proofs.lemmas.List.FromFn.{get_or-range_with_len, length-range_with_len}
use Rattle.esp_frame.specs.Esp.{Inner, NoInner, padded, padding}

abbrev front : ℕ → List ℕ → List ℕ
front q p = p ++ padding q

length-front : (q : ℕ) (p : List ℕ) → length (front q p) ≡ length p + q
length-front q p = length-append p (padding q) ∙ ap (λ n. length p + n) (length-range_with_len 1 q)

pub length-padded : (q next : ℕ) (p : List ℕ) → length (padded q next p) ≡ length p + q + 2
length-padded q next p =
    let two : length (q ∷ next ∷ []) ≡ 2 = refl in
    length-append (front q p) (q ∷ next ∷ []) ∙ omega (arith, length-front q p, two)

in_front : (q next k : ℕ) (p : List ℕ) → k < length p + q → get_or (padded q next p) k 0 ≡ get_or (front q p) k 0
in_front q next k p lt = get_or_append_left (front q p) (q ∷ next ∷ []) 0 k (omega (arith, length-front q p))

padded-packet : (q next k : ℕ) (p : List ℕ) → k < length p → get_or (padded q next p) k 0 ≡ get_or p k 0
padded-packet q next k p lt = in_front q next k p (omega arith) ∙ get_or_append_left p (padding q) 0 k lt

padded-padding : (q next i : ℕ) (p : List ℕ) → i < q → get_or (padded q next p) (length p + i) 0 ≡ i + 1
padded-padding q next i p lt =
    in_front q next (length p + i) p (omega arith) ∙ get_or-append-add p (padding q) i 0
    ∙ get_or-range_with_len 1 q i 0 lt ∙ omega arith

padded-end : (q next i : ℕ) (p : List ℕ) → get_or (padded q next p) (length p + q + i) 0 ≡ get_or (q ∷ next ∷ []) i 0
padded-end q next i p =
    let le : length p + q ≤ length p + q + i = omega arith in
    let e : length p + q + i - (length p + q) ≡ i = omega arith in
    get_or-append_right (front q p) (q ∷ next ∷ []) (length p + q) (length p + q + i) 0 (length-front q p) le
    ∙ ap (λ (n : ℕ). get_or (q ∷ next ∷ []) n 0) e

-- the octets of x, one by one
pub padded_is : (x p : List ℕ) (q next : ℕ) → length x ≡ length p + q + 2 → ((k : ℕ) → k < length p → get_or x k 0 ≡ get_or p k 0)
    → ((i : ℕ) → i < q → get_or x (length p + i) 0 ≡ i + 1) → get_or x (length p + q) 0 ≡ q → get_or x (length p + q + 1) 0 ≡ next
    → x ≡ padded q next p
padded_is x p q next long packet pads len last =
    same_number_lists x (padded q next p) (long ∙ sym (length-padded q next p)) (λ k h.
    elim (cases_lt k (length p)) [
      | inl below ↦ packet k below ∙ sym (padded-packet q next k p below)
      | inr above ↦ elim (cases_lt k (length p + q)) [
        | inl within ↦
            let i : ℕ = k - length p in
            let e : length p + i ≡ k = omega arith in
            let lt : i < q = omega arith in
            ap (λ (n : ℕ). get_or x n 0) (sym e) ∙ pads i lt ∙ sym (ap (λ (n : ℕ). get_or (padded q next p) n 0) (sym e)
            ∙ padded-padding q next i p lt)
        | inr after ↦ elim (cases_eq k (length p + q)) [
          | inl same ↦
              let e : k ≡ length p + q + 0 = omega arith in
              ap (λ (n : ℕ). get_or x n 0) same ∙ len ∙ sym (ap (λ (n : ℕ). get_or (padded q next p) n 0) e ∙ padded-end q next 0 p)
          | inr other ↦
              let e : k ≡ length p + q + 1 = omega arith in
              ap (λ (n : ℕ). get_or x n 0) e ∙ last ∙ sym (ap (λ (n : ℕ). get_or (padded q next p) n 0) e ∙ padded-end q next 1 p)
        ]
      ]
    ])

pub trailer_is : (back : List ℕ) (q next : ℕ) → length back ≡ q + 2 → ((k : ℕ) → k < q → get_or back k 0 ≡ k + 1)
    → slice_set (slice_set back q q) (q + 1) next ≡ padding q ++ q ∷ next ∷ []
trailer_is back q next long pads =
    let once : List ℕ = slice_set back q q in
    let same : length once ≡ length back = length-set back q q in
    padded_is (slice_set once (q + 1) next) [] q next (length-set once (q + 1) next ∙ same ∙ omega arith)
    (λ k lt. absurd (omega arith))
    (λ i lt.
    let e : 0 + i ≡ i = omega arith in
    ap (λ (n : ℕ). get_or (slice_set once (q + 1) next) n 0) e ∙ get_or-set_other once (q + 1) i next 0 (omega arith)
    ∙ get_or-set_other back q i q 0 (omega arith) ∙ pads i lt)
    (let e : 0 + q ≡ q = omega arith in
    ap (λ (n : ℕ). get_or (slice_set once (q + 1) next) n 0) e ∙ get_or-set_other once (q + 1) q next 0 (omega arith)
    ∙ get_or-set_same back q q 0 (omega arith))
    (let e : 0 + q + 1 ≡ q + 1 = omega arith in
    ap (λ (n : ℕ). get_or (slice_set once (q + 1) next) n 0) e ∙ get_or-set_same once (q + 1) next 0 (omega arith))

pub packet_and_trailer : (p back : List ℕ) (q next : ℕ) → back ≡ padding q ++ q ∷ next ∷ [] → p ++ back ≡ padded q next p
packet_and_trailer p back q next e = ap (λ (l : List ℕ). p ++ l) e ∙ sym (append_assoc p (padding q) (q ∷ next ∷ []))

-- ---- what a text with a packet looks like from its end
pub pad_len_at : (x p : List ℕ) (q next : ℕ) → x ≡ padded q next p → get_or x (length x - 2) 0 ≡ q
pad_len_at x p q next e =
    let long = ap (λ (l : List ℕ). length l) e ∙ length-padded q next p in
    let at : length x - 2 ≡ length p + q + 0 = omega arith in
    ap (λ (n : ℕ). get_or x n 0) at ∙ ap (λ (l : List ℕ). get_or l (length p + q + 0) 0) e ∙ padded-end q next 0 p

pub pads_at : (x p : List ℕ) (q next i : ℕ) → x ≡ padded q next p → i < q → get_or x (length x - 2 - q + i) 0 ≡ i + 1
pads_at x p q next i e lt =
    let long = ap (λ (l : List ℕ). length l) e ∙ length-padded q next p in
    let at : length x - 2 - q + i ≡ length p + i = omega arith in
    ap (λ (n : ℕ). get_or x n 0) at ∙ ap (λ (l : List ℕ). get_or l (length p + i) 0) e ∙ padded-padding q next i p lt

pub next_at : (x p : List ℕ) (q next : ℕ) → x ≡ padded q next p → get_or x (length x - 1) 0 ≡ next
next_at x p q next e =
    let long = ap (λ (l : List ℕ). length l) e ∙ length-padded q next p in
    let at : length x - 1 ≡ length p + q + 1 = omega arith in
    ap (λ (n : ℕ). get_or x n 0) at ∙ ap (λ (l : List ℕ). get_or l (length p + q + 1) 0) e ∙ padded-end q next 1 p

pub packet_at : (x p : List ℕ) (q next : ℕ) → x ≡ padded q next p → take (length x - 2 - q) x ≡ p
packet_at x p q next e =
    let long = ap (λ (l : List ℕ). length l) e ∙ length-padded q next p in
    let at : length p ≡ length x - 2 - q = omega arith in
    ap (λ (l : List ℕ). take (length x - 2 - q) l) (e ∙ append_assoc p (padding q) (q ∷ next ∷ []))
    ∙ take_at p (padding q ++ q ∷ next ∷ []) (length x - 2 - q) at

pub no_room : (x : List ℕ) → length x - 2 < get_or x (length x - 2) 0 → NoInner x
no_room x lt = λ next p inner.
    let q : ℕ = inner.0 in
    let long = ap (λ (l : List ℕ). length l) inner.1 ∙ length-padded q next p in
    omega (arith, pad_len_at x p q next inner.1)

pub wrong_pad : (x : List ℕ) (pad i at : ℕ) → get_or x (length x - 2) 0 ≡ pad → at ≡ length x - 2 - pad + i → i < pad
    → (get_or x at 0 ≡ i + 1 → ⊥) → NoInner x
wrong_pad x pad i at e here lt differs = λ next p inner.
    let q : ℕ = inner.0 in
    let same : q ≡ pad = sym (pad_len_at x p q next inner.1) ∙ e in
    let place : at ≡ length x - 2 - q + i = here ∙ ap (λ (n : ℕ). length x - 2 - n + i) (sym same) in
    differs (ap (λ (n : ℕ). get_or x n 0) place ∙ pads_at x p q next i inner.1 (omega arith))

pub inner_found : (x : List ℕ) (pad : ℕ) → pad + 2 ≤ length x → get_or x (length x - 2) 0 ≡ pad
    → ((i : ℕ) → i < pad → get_or x (length x - 2 - pad + i) 0 ≡ i + 1) → Inner x (get_or x (length x - 1) 0) (take (length x - 2 - pad) x)
inner_found x pad room e pads =
    let n : ℕ = length x - 2 - pad in
    let p : List ℕ = take n x in
    let long : length p ≡ n = omega (arith, length-take n x) in
    let at : length p + pad ≡ length x - 2 = omega arith in
    let end : length p + pad + 1 ≡ length x - 1 = omega arith in (
      pad,
      padded_is x p pad (get_or x (length x - 1) 0) (omega arith)
          (λ k lt. sym (get_or-take n x k 0 (omega arith)))
          (λ i lt. ap (λ (m : ℕ). get_or x (m + i) 0) long ∙ pads i lt)
          (ap (λ (m : ℕ). get_or x m 0) at ∙ e)
          (ap (λ (m : ℕ). get_or x m 0) end),
    )
