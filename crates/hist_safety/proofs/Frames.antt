-- What ESP octets tell of the number, the SPI and the packet that were sealed.
use Rattle.std.proofs.Common.{◌≡◌, ℕ, ◌<◌, ◌^◌, List, refl, sym, ◌∙◌, ap, subst, length}
use Rattle.std.specs.Int.{w32, w64, to_be_bytes, from_be_bytes}
use Rattle.std.proofs.lemmas.Nat.{from_be_bytes-to_be_bytes_4, from_be_bytes-to_be_bytes_8}
use Rattle.ikeless_tree.specs.declared.sad.SadEntry.{SadEntry}
use Rattle.esp_frame.specs.Esp.{EspOpens, Inner, Keying, esp, iv_of, keying, pad_len, padded, seq_of, spi_of}
use Rattle.esp_frame.proofs.Opens.{inner_once, opens_once, sealed_opens}
use Rattle.hist_halves.specs.Sealed.{number_from}
use Rattle.hist_safety.specs.Carried.{keying_of}

pub esp-iv : (k : Keying) (s next : ℕ) (p : List ℕ) → iv_of (esp k s next p) ≡ to_be_bytes w64 s
unfolding esp
esp-iv k s next p = refl

esp-seq-be : (k : Keying) (s next : ℕ) (p : List ℕ) → seq_of (esp k s next p) ≡ from_be_bytes w32 (to_be_bytes w32 s)
unfolding esp
esp-seq-be k s next p = refl

pub esp-seq : (k : Keying) (s next : ℕ) (p : List ℕ) → s < 2 ^ 32 → seq_of (esp k s next p) ≡ s
esp-seq k s next p lt = esp-seq-be k s next p ∙ from_be_bytes-to_be_bytes_4 s lt

-- the number of ESP octets is the field in them
pub number-field : (half : SadEntry) (top : ℕ) (b : List ℕ) → number_from half top b ≡ seq_of b
unfolding number_from
number-field half top b = refl

esp-spi-be : (k : Keying) (s next : ℕ) (p : List ℕ) → spi_of (esp k s next p) ≡ from_be_bytes w32 (to_be_bytes w32 k.spi)
unfolding esp
esp-spi-be k s next p = refl

pub esp-spi : (k : Keying) (s next : ℕ) (p : List ℕ) → k.spi < 2 ^ 32 → spi_of (esp k s next p) ≡ k.spi
esp-spi k s next p lt = esp-spi-be k s next p ∙ from_be_bytes-to_be_bytes_4 k.spi lt

pub iv-once : (n k : ℕ) → n < 2 ^ 64 → k < 2 ^ 64 → to_be_bytes w64 n ≡ to_be_bytes w64 k → n ≡ k
iv-once n k p q e = sym (from_be_bytes-to_be_bytes_8 n p) ∙ ap (from_be_bytes w64) e ∙ from_be_bytes-to_be_bytes_8 k q

pub keying-spi : (e : SadEntry) → (keying_of e).spi ≡ e.spi
unfolding keying
keying-spi e = refl

-- halves of one key and one SPI seal and open alike
pub keying-same : (d e : SadEntry) → d.key ≡ e.key → d.spi ≡ e.spi → keying_of d ≡ keying_of e
keying-same d e p q = (λ i. keying (q i) (p i))

-- what was sealed opens
pub seals-open : (k : Keying) (s next : ℕ) (p b : List ℕ) → b ≡ esp k s next p → EspOpens k b (padded (pad_len (length p)) next p)
seals-open k s next p b e = subst (λ z. EspOpens k z (padded (pad_len (length p)) next p)) (sym e) (sealed_opens k s next p)

-- and to no other packet
pub one-packet : (k : Keying) (s next next' : ℕ) (p p' b text : List ℕ) → b ≡ esp k s next p → EspOpens k b text → Inner text next' p'
    → p' ≡ p
one-packet k s next next' p p' b text e o i =
    let a = opens_once k b text o ∙ sym (opens_once k b (padded (pad_len (length p)) next p) (seals-open k s next p b e)) in
    let j : Inner (padded (pad_len (length p)) next p) next' p' = subst (λ z. Inner z next' p') a i in
    let w : Inner (padded (pad_len (length p)) next p) next p = (pad_len (length p), refl) in
    (inner_once (padded (pad_len (length p)) next p) p' p next' next j w).1
