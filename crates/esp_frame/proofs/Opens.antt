-- `opened` and `inner_packet` are exact, and what is sealed opens.
use Rattle.std.proofs.Common.{◌≡◌, ℕ, ◌+◌, ◌-◌, ◌<◌, ◌≤◌, ◌^◌, ◌&&◌, Bool, true, false, cond, leb, List, ◌++◌, Option, Some, None, Ok, Err, MatchOption, length, get_or, take, drop, refl, ap, sym, ◌∙◌, arith, Decides, length-append, length-drop, length-take, append_assoc}
use Rattle.std.specs.Prelude.{slice_index, slice_range, bit_xor}
use Rattle.std.specs.Int.{w32, w64, to_be_bytes, from_be_bytes}
use Rattle.std.specs.Str.{bytes_eq}
use Rattle.std.proofs.lemmas.Bool.{false≢true, le-leb, le-ltb, leb-true, lt-ltb}
use Rattle.std.proofs.lemmas.Bool.Decides.{Decides-and}
use Rattle.std.proofs.lemmas.Slice.Eq.{bytes_eq-Decides}
use Rattle.std.proofs.lemmas.List.{get_or-drop, get_or-take}
use Rattle.std.proofs.lemmas.List.FromFn.{get_or-range_with_len, length-map-range_with_len, length-range_with_len}
use Rattle.std.proofs.lemmas.Grind.{same_number_lists}
use Rattle.std.proofs.lemmas.Nat.{from_be_bytes-to_be_bytes_4}
use Rattle.gcm_seal.specs.Gcm.{sealed, stream, tag_of}
use Rattle.gcm_seal.proofs.Texts.{sealed_twice}
use Rattle.esp_frame.specs.Esp.{EspOpens, Inner, Keying, NoInner, aad_of, esp, esp_len, icv_of, iv_of, pad_len, padded, padding, seq_of, spi_of, text_of, with_text}
use Rattle.esp_frame.specs.Open.{NoText, InnerPacket, by_packet, by_text, left_by, open_leaves, open_result, opened, inner_packet}
use Rattle.esp_frame.specs.declared.frame.OpenFault.TheVariants.{Padding, Short, Tag}
use Rattle.esp_frame.proofs.Frames.{aad_is, icv_is, iv_is, text_is}
use Rattle.esp_frame.proofs.Trailers.{inner_found, length-padded, next_at, packet_at, pad_len_at, pads_at}

Decides-leb : (a b : ℕ) → Decides (leb a b) (a ≤ b)
Decides-leb a b = (leb-true a b, le-leb a b)

-- ---- a choice by a test
chosen : {A : Type 0} (t : Bool) (x : A) (P : Type 0) (Q : A → Type 0) → (t ≡ true → Q x) → (t ≡ false → P)
    → MatchOption (cond t (Some x) None) P Q
chosen true x P Q on_true on_false = on_true refl
chosen false x P Q on_true on_false = on_false refl

chosen_true : {A : Type 0} (t : Bool) (x y : A) → t ≡ true → x ≡ y → cond t (Some x) None ≡ Some y
chosen_true {A} t x y e same = (λ i. cond (e i) (Some (same i)) None)

refuted : {P : Type 0} (t : Bool) → Decides t P → t ≡ false → P → ⊥
refuted t d e p = false≢true (sym e ∙ d.1 p)

-- ---- the opened text
pub opens_once : (k : Keying) (b x : List ℕ) → EspOpens k b x → x ≡ sealed k.cipher (k.salt ++ iv_of b) (text_of b)
opens_once k b x o =
    sealed_twice k.cipher (k.salt ++ iv_of b) x ∙ sym (ap (λ (t : List ℕ). sealed k.cipher (k.salt ++ iv_of b) t) o.1.0)

abbrev right_tag : Keying → List ℕ → List ℕ
right_tag k b = tag_of k.cipher (k.salt ++ iv_of b) (aad_of b) (text_of b)

abbrev opens_test : Keying → List ℕ → Bool
opens_test k b = leb 34 (length b) && bytes_eq (icv_of b) (right_tag k b)

opens_decides : (k : Keying) (b : List ℕ) → Decides (opens_test k b) ((34 ≤ length b) × (icv_of b ≡ right_tag k b))
opens_decides k b = Decides-and (leb 34 (length b)) (bytes_eq (icv_of b) (right_tag k b)) (Decides-leb 34 (length b))
    (bytes_eq-Decides (icv_of b) (right_tag k b))

pub opened_is : (k : Keying) (b : List ℕ) → MatchOption (opened k b) (NoText k b) (EspOpens k b)
unfolding opened
opened_is k b =
    let d = opens_decides k b in
    chosen (opens_test k b) (sealed k.cipher (k.salt ++ iv_of b) (text_of b)) (NoText k b) (EspOpens k b)
    (λ e. let both = d.0 e in (both.0, (sealed_twice k.cipher (k.salt ++ iv_of b) (text_of b), both.1)))
    (λ e. λ x o. refuted (opens_test k b) d e (o.0, o.1.1))

pub opened_finds : (k : Keying) (b x : List ℕ) → EspOpens k b x → opened k b ≡ Some x
unfolding opened
opened_finds k b x o =
    chosen_true (opens_test k b) (sealed k.cipher (k.salt ++ iv_of b) (text_of b)) x ((opens_decides k b).1 (o.0, o.1.1))
    (sym (opens_once k b x o))

none_found : {A : Type 0} (o : Option A) (P : Type 0) (Q : A → Type 0) → MatchOption o P Q → ((a : A) → Q a → ⊥) → o ≡ None
none_found None P Q m none = refl
none_found (Some a) P Q m none = absurd (none a m)

pub opened_none : (k : Keying) (b : List ℕ) → NoText k b → opened k b ≡ None
opened_none k b none = none_found (opened k b) (NoText k b) (EspOpens k b) (opened_is k b) none

-- ---- the packet
pub inner_once : (x p p' : List ℕ) (next next' : ℕ) → Inner x next p → Inner x next' p' → (next ≡ next') × (p ≡ p')
inner_once x p p' next next' a b =
    let pads : a.0 ≡ b.0 = sym (pad_len_at x p a.0 next a.1) ∙ pad_len_at x p' b.0 next' b.1 in (
      sym (next_at x p a.0 next a.1) ∙ next_at x p' b.0 next' b.1,
      sym (packet_at x p a.0 next a.1) ∙ ap (λ (n : ℕ). take (length x - 2 - n) x) pads ∙ packet_at x p' b.0 next' b.1,
    )

abbrev end : List ℕ → ℕ
end x = length x - 2

abbrev pad_at : List ℕ → ℕ
pad_at x = slice_index x (end x)

abbrev pads : List ℕ → List ℕ
pads x = slice_range x (end x - pad_at x) (end x)

abbrev packet_test : List ℕ → Bool
packet_test x = leb 2 (length x) && leb (pad_at x) (end x) && bytes_eq (pads x) (padding (pad_at x))

abbrev Trailed : List ℕ → Type 0
Trailed x = ((2 ≤ length x) × (pad_at x ≤ end x)) × (pads x ≡ padding (pad_at x))

packet_decides : (x : List ℕ) → Decides (packet_test x) (Trailed x)
packet_decides x =
    Decides-and (leb 2 (length x) && leb (pad_at x) (end x)) (bytes_eq (pads x) (padding (pad_at x)))
    (Decides-and (leb 2 (length x)) (leb (pad_at x) (end x)) (Decides-leb 2 (length x)) (Decides-leb (pad_at x) (end x)))
    (bytes_eq-Decides (pads x) (padding (pad_at x)))

abbrev packet_in : List ℕ → InnerPacket
packet_in x = record { next = slice_index x (length x - 1); octets = take (end x - pad_at x) x }

read_pad : (x : List ℕ) (i : ℕ) → i < pad_at x → pad_at x ≤ end x → get_or (pads x) i 0 ≡ get_or x (end x - pad_at x + i) 0
read_pad x i lt le = get_or-take (end x - (end x - pad_at x)) (drop (end x - pad_at x) x) i 0 (omega arith)
    ∙ get_or-drop (end x - pad_at x) x i 0

from_trailed : (x : List ℕ) → Trailed x → Inner x (slice_index x (length x - 1)) (take (end x - pad_at x) x)
from_trailed x t =
    inner_found x (pad_at x) (omega arith) refl
    (λ i lt. sym (read_pad x i lt t.0.1) ∙ ap (λ (l : List ℕ). get_or l i 0) t.1 ∙ get_or-range_with_len 1 (pad_at x) i 0 lt ∙ omega arith)

to_trailed : (x p : List ℕ) (next : ℕ) → Inner x next p → Trailed x
to_trailed x p next inner =
    let q : ℕ = inner.0 in
    let len = ap (λ (l : List ℕ). length l) inner.1 ∙ length-padded q next p in
    let same : pad_at x ≡ q = pad_len_at x p q next inner.1 in
    let le : pad_at x ≤ end x = omega arith in
    let long : length (pads x) ≡ length (padding (pad_at x)) =
    omega (
      arith,
      length-take (end x - (end x - pad_at x)) (drop (end x - pad_at x) x),
      length-drop (end x - pad_at x) x,
      length-range_with_len 1 (pad_at x),
    ) in (
      (omega arith, le),
      same_number_lists (pads x) (padding (pad_at x)) long (λ i lt.
          let small : i < pad_at x = omega (arith, length-range_with_len 1 (pad_at x)) in
          let at = pads_at x p q next i inner.1 (omega arith) in
          read_pad x i small le ∙ ap (λ (n : ℕ). get_or x (end x - n + i) 0) same ∙ at
          ∙ sym (get_or-range_with_len 1 (pad_at x) i 0 small ∙ omega arith)),
    )

pub packet_is : (x : List ℕ) → MatchOption (inner_packet x) (NoInner x) (λ p. Inner x p.next p.octets)
unfolding inner_packet
packet_is x =
    let d = packet_decides x in
    chosen (packet_test x) (packet_in x) (NoInner x) (λ p. Inner x p.next p.octets) (λ e. from_trailed x (d.0 e))
    (λ e. λ next p inner. refuted (packet_test x) d e (to_trailed x p next inner))

pub packet_finds : (x p : List ℕ) (next : ℕ) → Inner x next p → inner_packet x ≡ Some (record { next = next; octets = p })
unfolding inner_packet
packet_finds x p next inner =
    let t = to_trailed x p next inner in
    let same = inner_once x (take (end x - pad_at x) x) p (slice_index x (length x - 1)) next (from_trailed x t) inner in
    let goal : packet_in x ≡ record { next = next; octets = p } = (λ i. record { next = same.0 i; octets = same.1 i }) in
    chosen_true (packet_test x) (packet_in x) (record { next = next; octets = p }) ((packet_decides x).1 t) goal

pub packet_none : (x : List ℕ) → NoInner x → inner_packet x ≡ None
packet_none x none = none_found (inner_packet x) (NoInner x) (λ p. Inner x p.next p.octets) (packet_is x)
    (λ p inner. none p.next p.octets inner)

-- ---- what is sealed
length-sealed : (e : List ℕ → List ℕ) (nonce x : List ℕ) → length (sealed e nonce x) ≡ length x
unfolding sealed
length-sealed e nonce x = length-map-range_with_len (λ k. bit_xor (slice_index x k) (stream e nonce k)) 0 (length x)

length-tag : (e : List ℕ → List ℕ) (nonce aad c : List ℕ) → length (tag_of e nonce aad c) ≡ 16
unfolding tag_of
length-tag e nonce aad c = refl

abbrev head_of : Keying → ℕ → List ℕ
head_of k s = to_be_bytes w32 k.spi ++ to_be_bytes w32 s ++ to_be_bytes w64 s

abbrev nonce_of : Keying → ℕ → List ℕ
nonce_of k s = k.salt ++ to_be_bytes w64 s

abbrev text_sealed : Keying → ℕ → ℕ → List ℕ → List ℕ
text_sealed k s next p = sealed k.cipher (nonce_of k s) (padded (pad_len (length p)) next p)

abbrev tag_sealed : Keying → ℕ → ℕ → List ℕ → List ℕ
tag_sealed k s next p = tag_of k.cipher (nonce_of k s) (to_be_bytes w32 k.spi ++ to_be_bytes w32 s) (text_sealed k s next p)

esp_parts : (k : Keying) (s next : ℕ) (p : List ℕ) → esp k s next p ≡ head_of k s ++ (text_sealed k s next p ++ tag_sealed k s next p)
unfolding esp
esp_parts k s next p = append_assoc (head_of k s) (text_sealed k s next p) (tag_sealed k s next p)

length-text : (k : Keying) (s next : ℕ) (p : List ℕ) → length (text_sealed k s next p) ≡ length p + pad_len (length p) + 2
length-text k s next p = length-sealed k.cipher (nonce_of k s) (padded (pad_len (length p)) next p)
    ∙ length-padded (pad_len (length p)) next p

pub length-esp : (k : Keying) (s next : ℕ) (p : List ℕ) → length (esp k s next p) ≡ esp_len (length p)
length-esp k s next p =
    let t = text_sealed k s next p in
    let i = tag_sealed k s next p in
    let head_len : length (head_of k s) ≡ 16 = refl in
    let tag_len = length-tag k.cipher (nonce_of k s) (to_be_bytes w32 k.spi ++ to_be_bytes w32 s) t in
    ap (λ (l : List ℕ). length l) (esp_parts k s next p) ∙ length-append (head_of k s) (t ++ i)
    ∙ omega (arith, length-append t i, length-text k s next p)

pub sealed_opens : (k : Keying) (s next : ℕ) (p : List ℕ) → EspOpens k (esp k s next p) (padded (pad_len (length p)) next p)
sealed_opens k s next p =
    let b : List ℕ = esp k s next p in
    let t = text_sealed k s next p in
    let i = tag_sealed k s next p in
    let parts = esp_parts k s next p in
    let tag_len = length-tag k.cipher (nonce_of k s) (to_be_bytes w32 k.spi ++ to_be_bytes w32 s) t in
    let et = text_is b (head_of k s) t i parts refl tag_len in
    let ei = icv_is b (head_of k s) t i parts refl tag_len in
    let ev = iv_is b (head_of k s) t i parts refl tag_len in
    let ea = aad_is b (head_of k s) t i parts refl tag_len in (
      omega (arith, length-esp k s next p),
      (
        et ∙ sym (ap (λ (v : List ℕ). sealed k.cipher (k.salt ++ v) (padded (pad_len (length p)) next p)) ev),
        ei ∙ sym (λ j. tag_of k.cipher (k.salt ++ ev j) (ea j) (et j)),
      ),
    )

pub sealed_fields : (k : Keying) (s next : ℕ) (p : List ℕ) → k.spi < 2 ^ 32 → s < 2 ^ 32
    → (spi_of (esp k s next p) ≡ k.spi) × (seq_of (esp k s next p) ≡ s) × (iv_of (esp k s next p) ≡ to_be_bytes w64 s)
sealed_fields k s next p small low =
    let b : List ℕ = esp k s next p in
    let t = text_sealed k s next p in
    let i = tag_sealed k s next p in
    let parts = esp_parts k s next p in
    let tag_len = length-tag k.cipher (nonce_of k s) (to_be_bytes w32 k.spi ++ to_be_bytes w32 s) t in
    let four : take 4 b ≡ to_be_bytes w32 k.spi = ap (λ (l : List ℕ). take 4 l) parts in
    let next_four : slice_range b 4 8 ≡ to_be_bytes w32 s = ap (λ (l : List ℕ). slice_range l 4 8) parts in (
      ap (from_be_bytes w32) four ∙ from_be_bytes-to_be_bytes_4 k.spi small,
      ap (from_be_bytes w32) next_four ∙ from_be_bytes-to_be_bytes_4 s low,
      iv_is b (head_of k s) t i parts refl tag_len,
    )

-- ---- what `open` answers and leaves
too_short : (k : Keying) (b : List ℕ) → length b < 34 → NoText k b
too_short k b lt = λ x o. absurd (omega (arith, o.0))

pub result_short : (k : Keying) (b : List ℕ) → length b < 34 → Err Short ≡ open_result k b
result_short k b lt =
    sym (ap (by_text b) (opened_none k b (too_short k b lt)) ∙ ap (λ (t : Bool). Err (cond t Short Tag)) (lt-ltb (length b) 34 lt))

pub result_tag : (k : Keying) (b : List ℕ) → 34 ≤ length b → NoText k b → Err Tag ≡ open_result k b
result_tag k b le none =
    sym (ap (by_text b) (opened_none k b none) ∙ ap (λ (t : Bool). Err (cond t Short Tag)) (le-ltb (length b) 34 le))

pub result_padding : (k : Keying) (b x : List ℕ) → EspOpens k b x → NoInner x → Err Padding ≡ open_result k b
result_padding k b x o none = sym (ap (by_text b) (opened_finds k b x o) ∙ ap by_packet (packet_none x none))

pub result_packet : (k : Keying) (b x : List ℕ) (next n : ℕ) → EspOpens k b x → n ≤ length x → Inner x next (take n x)
    → Ok (record { next = next; start = 16; end = 16 + n }) ≡ open_result k b
result_packet k b x next n o le inner =
    let long : length (take n x) ≡ n = omega (arith, length-take n x) in
    sym (ap (by_text b) (opened_finds k b x o) ∙ ap by_packet (packet_finds x (take n x) next inner)
    ∙ ap (λ (m : ℕ). Ok (record { next = next; start = 16; end = 16 + m })) long)

pub leaves_none : (k : Keying) (b : List ℕ) → NoText k b → b ≡ open_leaves k b
leaves_none k b none = sym (ap (left_by b) (opened_none k b none))

pub leaves_short : (k : Keying) (b : List ℕ) → length b < 34 → b ≡ open_leaves k b
leaves_short k b lt = leaves_none k b (too_short k b lt)

pub leaves_text : (k : Keying) (b x : List ℕ) → EspOpens k b x → with_text b x ≡ open_leaves k b
leaves_text k b x o = sym (ap (left_by b) (opened_finds k b x o))
