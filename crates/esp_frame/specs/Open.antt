-- What opening gives, as functions: the text, the packet in it, and what `open` answers and leaves.
use Rattle.std.specs.Prelude.{◌≡◌, ℕ, ◌+◌, ◌-◌, ◌≤◌, ◌<◌, ◌&&◌, nat_le, nat_lt, if◌then◌else◌, List, Option, Some, None, Result, Ok, Err, ◌++◌, length, slice_index, slice_range, take}
use Rattle.std.specs.Str.{bytes_eq}
use Rattle.gcm_seal.specs.Gcm.{sealed, tag_of}
use Rattle.esp_frame.specs.Esp.{EspOpens, Keying, NoInner, aad_of, icv_of, iv_of, padding, text_of, with_text}
use Rattle.esp_frame.specs.declared.frame.Opened.{Opened}
use Rattle.esp_frame.specs.declared.frame.OpenFault.{OpenFault}
use Rattle.esp_frame.specs.declared.frame.OpenFault.TheVariants.{Padding, Short, Tag}

-- no text is what b opens to
abbrev pub NoText : Keying → List ℕ → Type 0
NoText k b = (x : List ℕ) → ¬ EspOpens k b x

-- the text that b opens to
unfoldable pub opened : Keying → List ℕ → Option (List ℕ)
opened k b =
    if nat_le 34 (length b) && bytes_eq (icv_of b) (tag_of k.cipher (k.salt ++ iv_of b) (aad_of b) (text_of b))
    then Some (sealed k.cipher (k.salt ++ iv_of b) (text_of b)) else None

-- the packet in an opened text with its next header, which says what it is: 4 for IPv4, 41 for IPv6, 59 for a dummy
pub record InnerPacket : Type 0 where
  pub next : ℕ
  pub octets : List ℕ

-- the next header and the packet in a text
unfoldable pub inner_packet : List ℕ → Option InnerPacket
inner_packet x =
    let n : ℕ = length x - 2 in
    let q : ℕ = slice_index x n in
    if nat_le 2 (length x) && nat_le q n && bytes_eq (slice_range x (n - q) n) (padding q)
    then Some (record { next = slice_index x (length x - 1); octets = take (n - q) x }) else None

-- ---- `open`

-- the answer for an opened text: where its packet stands, from octet 16 on, or that the padding is wrong
abbrev pub by_packet : Option InnerPacket → Result Opened OpenFault
by_packet None = Err Padding
by_packet (Some p) = Ok (record { next = p.next; start = 16; end = 16 + length p.octets })

-- the answer where b opens to this text, or to none since it is too short or its ICV is wrong
abbrev pub by_text : List ℕ → Option (List ℕ) → Result Opened OpenFault
by_text b None = Err (if nat_lt (length b) 34 then Short else Tag)
by_text b (Some x) = by_packet (inner_packet x)

-- what `open` answers
abbrev pub open_result : Keying → List ℕ → Result Opened OpenFault
open_result k b = by_text b (opened k b)

-- the octets with the opened text in the place of the sealed one, or as they came where they don't open
abbrev pub left_by : List ℕ → Option (List ℕ) → List ℕ
left_by b None = b
left_by b (Some x) = with_text b x

-- what it leaves in the buffer
abbrev pub open_leaves : Keying → List ℕ → List ℕ
open_leaves k b = left_by b (opened k b)

-- b was refused for this fault, and the buffer then has the octets after
abbrev pub Refused : Keying → List ℕ → List ℕ → OpenFault → Type 0
Refused k b after Short = (length b < 34) × (after ≡ b)
Refused k b after Tag = (34 ≤ length b) × NoText k b × (after ≡ b)
Refused k b after Padding = EspOpens k b (text_of after) × NoInner (text_of after) × (after ≡ with_text b (text_of after))
