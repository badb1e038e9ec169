-- The header of an IPv6 packet and its extension headers (RFC 8200 sections 3 and 4).
use Rattle.std.specs.Prelude.{ℕ, zero, suc, ◌+◌, ◌*◌, ◌==◌, ◌||◌, nat_lt, Bool, not, List, length, drop, slice_index, Result, Ok, Err, if◌then◌else◌}
use Rattle.ip_packet.specs.declared.packet.NotPacket.{NotPacket}
use Rattle.ip_packet.specs.declared.packet.NotPacket.TheVariants as faults
use Rattle.ip_packet.specs.Field.{number_at}

-- the payload length isn't the number of octets after the fixed header
abbrev pub is_payload_wrong : List ℕ → Bool
is_payload_wrong o = not (number_at o 4 + 40 == length o)

-- hop-by-hop options, routing, or destination options
abbrev pub is_extension : ℕ → Bool
is_extension next = (next == 0) || (next == 43) || (next == 60)

-- an extension header's length in octets: its second octet counts units of 8 octets after the first 8
abbrev pub extension_length : List ℕ → ℕ
extension_length o = slice_index o 1 * 8 + 8

-- the extension header passes the end
abbrev pub passes_end : List ℕ → Bool
passes_end o = nat_lt (length o) 8 || nat_lt (length o) (extension_length o)

-- The upper layer's protocol and octets behind one header, by its next header and the octets after it. What follows an
-- extension header has the last answer.
abbrev pub upper_step : ℕ → List ℕ → Result (ℕ × List ℕ) NotPacket → Result (ℕ × List ℕ) NotPacket
upper_step next o after =
    if next == 44 then Err faults.Fragment
    else if is_extension next then (if passes_end o then Err faults.Length else after)
    else Ok (next, o)

-- the upper layer behind at most n extension headers
abbrev pub upper_within : ℕ → ℕ → List ℕ → Result (ℕ × List ℕ) NotPacket
upper_within zero next o = upper_step next o (Err faults.Length)
upper_within (suc n) next o = upper_step next o (upper_within n (slice_index o 0) (drop (extension_length o) o))

-- No more extension headers than octets are there, since each has 8 or more.
unfoldable pub upper_of : ℕ → List ℕ → Result (ℕ × List ℕ) NotPacket
upper_of next o = upper_within (length o) next o
