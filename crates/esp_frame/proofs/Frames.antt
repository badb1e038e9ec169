-- ESP octets part by part.
use Rattle.std.proofs.Common.{◌≡◌, ℕ, ◌+◌, ◌-◌, ◌<◌, ◌≤◌, List, ◌++◌, length, get_or, take, drop, refl, ap, subst, sym, ◌∙◌, arith, length-append, append_assoc}
use Rattle.std.specs.Prelude.{slice_range}
use Rattle.std.specs.Int.{w32, w64, to_be_bytes}
use Rattle.std.proofs.lemmas.List.{drop-drop, drop_at, get_or-drop, get_or-take, take-append-le, take_at}
use Rattle.std.proofs.lemmas.Slice.{between_is}
use Rattle.gcm_seal.specs.Gcm.{Opens, sealed, tag_of}
use Rattle.esp_frame.specs.Esp.{EspOpens, Inner, Keying, NoInner, aad_of, esp, icv_of, iv_of, pad_len, padded, text_of, with_text}
use Rattle.esp_frame.specs.Open.{NoText}

-- ---- b in three parts
module _ (b head text icv : List ℕ) (parts : b ≡ head ++ (text ++ icv)) (head_len : length head ≡ 16) (icv_len : length icv ≡ 16) where
  long : length b ≡ 32 + length text
  long = ap (λ (l : List ℕ). length l) parts ∙ length-append head (text ++ icv) ∙ omega (arith, length-append text icv)

  after_head : drop 16 b ≡ text ++ icv
  after_head = ap (λ (l : List ℕ). drop 16 l) parts ∙ drop_at head (text ++ icv) 16 head_len

  pub text_is : text_of b ≡ text
  text_is =
      let e : length text ≡ length b - 16 - 16 = omega (arith, long) in
      ap (λ (l : List ℕ). take (length b - 16 - 16) l) after_head ∙ take_at text icv (length b - 16 - 16) e

  pub icv_is : icv_of b ≡ icv
  icv_is =
      let e : length (head ++ text) ≡ length b - 16 = omega (arith, long, length-append head text) in
      ap (λ (l : List ℕ). drop (length b - 16) l) (parts ∙ sym (append_assoc head text icv)) ∙ drop_at (head ++ text) icv (length b - 16) e

  pub head_is : take 16 b ≡ head
  head_is = ap (λ (l : List ℕ). take 16 l) parts ∙ take_at head (text ++ icv) 16 head_len

  pub iv_is : iv_of b ≡ drop 8 head
  iv_is = between_is b 8 16 ∙ ap (λ (l : List ℕ). drop 8 l) head_is

  pub aad_is : aad_of b ≡ take 8 head
  aad_is =
      let le : 8 ≤ length head = omega arith in
      ap (λ (l : List ℕ). take 8 l) parts ∙ take-append-le 8 head (text ++ icv) le

  -- the first n octets of the text, by their place in b
  pub packet_is : (n : ℕ) → n ≤ length text → slice_range b 16 (16 + n) ≡ take n text
  packet_is n le =
      let e : 16 + n - 16 ≡ n = omega arith in
      ap (λ (l : List ℕ). take (16 + n - 16) l) after_head ∙ ap (λ (m : ℕ). take m (text ++ icv)) e ∙ take-append-le n text icv le

  pub opens_is : (k : Keying) (x : List ℕ) → 34 ≤ length b → Opens k.cipher (k.salt ++ drop 8 head) (take 8 head) text icv x
      → EspOpens k b x
  opens_is k x le o = (
    le,
    (
      text_is ∙ o.0 ∙ sym (ap (λ (v : List ℕ). sealed k.cipher (k.salt ++ v) x) iv_is),
      icv_is ∙ o.1 ∙ sym (λ i. tag_of k.cipher (k.salt ++ iv_is i) (aad_is i) (text_is i)),
    ),
  )

  pub opens_not : (k : Keying) → (icv ≡ tag_of k.cipher (k.salt ++ drop 8 head) (take 8 head) text → ⊥) → NoText k b
  opens_not k differs = λ x o. differs (sym icv_is ∙ o.1.1 ∙ (λ i. tag_of k.cipher (k.salt ++ iv_is i) (aad_is i) (text_is i)))

-- what `open` leaves, once the text x stands in the place of the sealed one
module _ (b head text icv x : List ℕ) (parts : b ≡ head ++ (text ++ icv)) (head_len : length head ≡ 16) (icv_len : length icv ≡ 16) where
  pub opened_is : text_of (head ++ (x ++ icv)) ≡ x
  opened_is = text_is (head ++ (x ++ icv)) head x icv refl head_len icv_len

  pub written_is : head ++ (x ++ icv) ≡ with_text b x
  written_is =
      sym ((λ i. head_is b head text icv parts head_len icv_len i ++ x ++ icv_is b head text icv parts head_len icv_len i)
      ∙ append_assoc head x icv)

  pub rest_is : head ++ (x ++ icv) ≡ with_text b (text_of (head ++ (x ++ icv)))
  rest_is = written_is ∙ sym (ap (with_text b) opened_is)

  pub same_opened : (k : Keying) → 34 ≤ length b → Opens k.cipher (k.salt ++ drop 8 head) (take 8 head) text icv x
      → EspOpens k b (text_of (head ++ (x ++ icv)))
  same_opened k le o =
      let P : List ℕ → Type 0 = λ y. EspOpens k b y in
      subst P (sym opened_is) (opens_is b head text icv parts head_len icv_len k x le o)

module _ (head x icv : List ℕ) (head_len : length head ≡ 16) (icv_len : length icv ≡ 16) where
  after_text : text_of (head ++ (x ++ icv)) ≡ x
  after_text = text_is (head ++ (x ++ icv)) head x icv refl head_len icv_len

  pub inner_is : (n next : ℕ) → n ≤ length x → Inner x next (take n x)
      → Inner (text_of (head ++ (x ++ icv))) next (slice_range (head ++ (x ++ icv)) 16 (16 + n))
  inner_is n next le found =
      let packet = packet_is (head ++ (x ++ icv)) head x icv refl head_len icv_len n le in
      (found.0, after_text ∙ found.1 ∙ ap (λ (p : List ℕ). padded found.0 next p) (sym packet))

  pub no_inner_is : NoInner x → NoInner (text_of (head ++ (x ++ icv)))
  no_inner_is none = λ next p inner. none next p (inner.0, sym after_text ∙ inner.1)

-- ---- what `seal` writes
pub esp_is : (k : Keying) (s next : ℕ) (p aad iv c t : List ℕ) → aad ≡ to_be_bytes w32 k.spi ++ to_be_bytes w32 s → iv ≡ to_be_bytes w64 s
    → Opens k.cipher (k.salt ++ iv) aad c t (padded (pad_len (length p)) next p) → aad ++ iv ++ c ++ t ≡ esp k s next p
unfolding esp
esp_is k s next p aad iv c t ea ei o =
    let x : List ℕ = padded (pad_len (length p)) next p in
    let ec : c ≡ sealed k.cipher (k.salt ++ to_be_bytes w64 s) x = o.0 ∙ ap (λ (v : List ℕ). sealed k.cipher (k.salt ++ v) x) ei in
    let et = o.1 ∙ (λ i. tag_of k.cipher (k.salt ++ ei i) (ea i) (ec i)) in
    (λ i. ea i ++ ei i ++ ec i ++ et i)

pub opens_moved : (e : List ℕ → List ℕ) (nonce nonce' aad c t x x' : List ℕ) → nonce ≡ nonce' → x ≡ x' → Opens e nonce aad c t x
    → Opens e nonce' aad c t x'
opens_moved e nonce nonce' aad c t x x' en ex o = (o.0 ∙ (λ i. sealed e (en i) (ex i)), o.1 ∙ ap (λ (v : List ℕ). tag_of e v aad c) en)

pub all_written : (a b c d a' b' d' rest : List ℕ) → a ≡ a' → b ≡ b' → d ≡ d' → a ++ (b ++ (c ++ (d ++ rest))) ≡ a' ++ b' ++ c ++ d' ++ rest
all_written a b c d a' b' d' rest ea eb ed =
    let together : a ++ (b ++ (c ++ (d ++ rest))) ≡ a ++ b ++ c ++ d ++ rest = sym (simp append_assoc) in
    together ∙ (λ i. ea i ++ eb i ++ c ++ ed i ++ rest)

pub dropped : (n m : ℕ) (out r1 r2 r3 r4 : List ℕ) → r1 ≡ drop 8 out → r2 ≡ drop 8 r1 → r3 ≡ drop n r2 → r4 ≡ drop 16 r3
    → 8 + 8 + n + 16 ≡ m → r4 ≡ drop m out
dropped n m out r1 r2 r3 r4 e1 e2 e3 e4 len =
    let two : r2 ≡ drop (8 + 8) out = e2 ∙ ap (λ (l : List ℕ). drop 8 l) e1 ∙ drop-drop 8 8 out in
    let three : r3 ≡ drop (8 + 8 + n) out = e3 ∙ ap (λ (l : List ℕ). drop n l) two ∙ drop-drop n (8 + 8) out in
    e4 ∙ ap (λ (l : List ℕ). drop 16 l) three ∙ drop-drop 16 (8 + 8 + n) out ∙ ap (λ (k : ℕ). drop k out) len

-- ---- the numbers in the head
pub octets_0 : (b head : List ℕ) → head ≡ take 16 b → (i : ℕ) → i < 4 → get_or head i 0 ≡ get_or (take 4 b) i 0
octets_0 b head e i lt = ap (λ (l : List ℕ). get_or l i 0) e ∙ get_or-take 16 b i 0 (omega arith) ∙ sym (get_or-take 4 b i 0 lt)

pub octets_4 : (b head : List ℕ) → head ≡ take 16 b → (i : ℕ) → i < 4 → get_or head (4 + i) 0 ≡ get_or (slice_range b 4 8) i 0
octets_4 b head e i lt =
    ap (λ (l : List ℕ). get_or l (4 + i) 0) e ∙ get_or-take 16 b (4 + i) 0 (omega arith)
    ∙ sym (get_or-take 4 (drop 4 b) i 0 lt ∙ get_or-drop 4 b i 0)
