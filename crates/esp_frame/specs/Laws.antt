-- The laws of sealing and opening, for every keying, number, next header and packet.
use Rattle.std.specs.Prelude.{◌≡◌, ℕ, ◌^◌, ◌<◌, List, ◌++◌, Some, MatchOption, length}
use Rattle.std.specs.Int.{w64, to_be_bytes}
use Rattle.gcm_seal.specs.Gcm.{sealed}
use Rattle.esp_frame.specs.Esp.{EspOpens, Inner, Keying, NoInner, esp, esp_len, iv_of, pad_len, padded, seq_of, spi_of, text_of}
use Rattle.esp_frame.specs.Open.{NoText, opened, inner_packet}

-- what `seal` writes opens, and to the packet with the least padding
abbrev pub SealedOpens : Type 0
SealedOpens = (k : Keying) (s next : ℕ) (p : List ℕ) → EspOpens k (esp k s next p) (padded (pad_len (length p)) next p)

-- sealed octets have the length that `esp_len` foretells
abbrev pub SealedLength : Type 0
SealedLength = (k : Keying) (s next : ℕ) (p : List ℕ) → length (esp k s next p) ≡ esp_len (length p)

-- the SPI, the number and the IV stand in sealed octets as they were given, where they fit their fields
abbrev pub SealedFields : Type 0
SealedFields = (k : Keying) (s next : ℕ) (p : List ℕ) → k.spi < 2 ^ 32 → s < 2 ^ 32
    → (spi_of (esp k s next p) ≡ k.spi) × (seq_of (esp k s next p) ≡ s) × (iv_of (esp k s next p) ≡ to_be_bytes w64 s)

-- b opens to at most one text
abbrev pub OpensOnce : Type 0
OpensOnce = (k : Keying) (b x : List ℕ) → EspOpens k b x → x ≡ sealed k.cipher (k.salt ++ iv_of b) (text_of b)

-- a text has at most one packet
abbrev pub InnerOnce : Type 0
InnerOnce = (x p p' : List ℕ) (next next' : ℕ) → Inner x next p → Inner x next' p' → (next ≡ next') × (p ≡ p')

-- `opened` is the text that b opens to, and `inner_packet` the packet that a text has
abbrev pub OpenedIs : Type 0
OpenedIs = (k : Keying) (b : List ℕ) → MatchOption (opened k b) (NoText k b) (EspOpens k b)

-- `opened` finds each text that b opens to
abbrev pub OpenedFinds : Type 0
OpenedFinds = (k : Keying) (b x : List ℕ) → EspOpens k b x → opened k b ≡ Some x

-- `inner_packet` gives only a packet that the text has, and nothing only where it has none
abbrev pub PacketIs : Type 0
PacketIs = (x : List ℕ) → MatchOption (inner_packet x) (NoInner x) (λ p. Inner x p.next p.octets)

-- `inner_packet` finds each packet that a text has
abbrev pub PacketFinds : Type 0
PacketFinds = (x p : List ℕ) (next : ℕ) → Inner x next p → inner_packet x ≡ Some (record { next = next; octets = p })
