-- ESP (RFC 4303) sealed with AES-GCM (RFC 4106), over lists of octets.
use Rattle.std.specs.Prelude.{◌≡◌, ℕ, ◌+◌, ◌-◌, ◌/◌, ◌%◌, ◌≤◌, List, [], ◌∷◌, ◌++◌, length, take, drop, slice_range}
use Rattle.std.specs.Int.{w32, w64, to_be_bytes, from_be_bytes}
use Rattle.std.specs.List.{range_with_len}
use Rattle.aes_block.specs.Aes.{aes}
use Rattle.gcm_seal.specs.Gcm.{Opens, sealed, tag_of}

-- the SPI of an association, its block cipher, and its salt
pub record Keying : Type 0 where
  pub spi : ℕ
  pub cipher : List ℕ → List ℕ
  pub salt : List ℕ

-- the keying material is an AES key and, in its last four octets, the salt (RFC 4106, section 8.1)
unfoldable pub keying : ℕ → List ℕ → Keying
keying s key =
    let n : ℕ = length key - 4 in
    record { spi = s; cipher = aes (n / 4) (take n key); salt = drop n key }

-- ---- the sealed text (RFC 4303, sections 2.4 to 2.6)

-- the least q for which n + q + 2 is a multiple of 4
abbrev pub pad_len : ℕ → ℕ
pad_len n = (4 - (n + 2) % 4) % 4

-- 1, 2, .., q
abbrev pub padding : ℕ → List ℕ
padding q = range_with_len 1 q

-- the packet p, q octets of padding, their number, and the next header
abbrev pub padded : ℕ → ℕ → List ℕ → List ℕ
padded q next p = p ++ padding q ++ q ∷ next ∷ []

-- x is the packet p with any number of octets of padding, and the next header
abbrev pub Inner : List ℕ → ℕ → List ℕ → Type 0
Inner x next p = (q : ℕ) × (x ≡ padded q next p)

-- there is no such packet
abbrev pub NoInner : List ℕ → Type 0
NoInner x = (next : ℕ) (p : List ℕ) → ¬ Inner x next p

-- ---- the whole (RFC 4303, section 2)

-- how many octets ESP of a packet of n octets has: SPI, number, IV, text with the least padding, and an ICV of 16 octets
abbrev pub esp_len : ℕ → ℕ
esp_len n = 34 + n + pad_len n

-- the octets of ESP with the number s and the packet p: SPI, number, IV, sealed text and ICV. The
-- nonce is the salt and the IV, which is the number in eight octets; the additional data are the
-- SPI and the number (RFC 4106, sections 3 to 5)
unfoldable pub esp : Keying → ℕ → ℕ → List ℕ → List ℕ
esp k s next p =
    let aad : List ℕ = to_be_bytes w32 k.spi ++ to_be_bytes w32 s in
    let iv : List ℕ = to_be_bytes w64 s in
    let c : List ℕ = sealed k.cipher (k.salt ++ iv) (padded (pad_len (length p)) next p) in
    aad ++ iv ++ c ++ tag_of k.cipher (k.salt ++ iv) aad c

-- ---- the fields of ESP octets b

-- the SPI: the first four octets
abbrev pub spi_of : List ℕ → ℕ
spi_of b = from_be_bytes w32 (take 4 b)

-- the sequence number: the four octets behind the SPI
abbrev pub seq_of : List ℕ → ℕ
seq_of b = from_be_bytes w32 (slice_range b 4 8)

-- the IV: the eight octets behind the sequence number
abbrev pub iv_of : List ℕ → List ℕ
iv_of b = slice_range b 8 16

-- what stands between the IV and the ICV: the sealed text, or the opened one once it was opened in place
abbrev pub text_of : List ℕ → List ℕ
text_of b = slice_range b 16 (length b - 16)

-- the ICV: the last 16 octets
abbrev pub icv_of : List ℕ → List ℕ
icv_of b = drop (length b - 16) b

-- the SPI and the number as they stand in b
abbrev pub aad_of : List ℕ → List ℕ
aad_of b = take 8 b

-- b with the text x in the place of its own
abbrev pub with_text : List ℕ → List ℕ → List ℕ
with_text b x = take 16 b ++ x ++ icv_of b

-- ---- opening

-- b opens to x under the additional data aad
abbrev pub EspOpensWith : Keying → List ℕ → List ℕ → List ℕ → Type 0
EspOpensWith k aad b x = (34 ≤ length b) × Opens k.cipher (k.salt ++ iv_of b) aad (text_of b) (icv_of b) x

-- b opens to x: its ICV is right under the SPI and the number that stand in it
abbrev pub EspOpens : Keying → List ℕ → List ℕ → Type 0
EspOpens k b x = EspOpensWith k (aad_of b) b x
