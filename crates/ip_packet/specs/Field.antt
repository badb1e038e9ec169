-- The fields of a header, in network order (RFC 791 appendix B, RFC 8200 section 3).
use Rattle.std.specs.Prelude.{ℕ, ◌+◌, ◌*◌, ◌/◌, ◌%◌, ◌==◌, ◌&&◌, ◌||◌, nat_lt, Bool, not, List, length, take, drop, slice_index, slice_set, Option, Some, None, if◌then◌else◌}
use Rattle.ikl_base.specs.declared.address.Addr.{Addr}
use Rattle.ikl_base.specs.declared.address.Addr.TheVariants.{V4, V6}

-- the first four bits
abbrev pub version : List ℕ → ℕ
version o = slice_index o 0 / 16

-- what a tunnel's header tells of the packet inside, by its version: 4 for IPv4, 41 for IPv6 (RFC 2003 section 3.1,
-- RFC 2473 section 3.1, RFC 4303 section 2.6)
abbrev pub next_header : List ℕ → ℕ
next_header o = if version o == 4 then 4 else 41

-- the number that two octets write, the higher first
abbrev pub number_at : List ℕ → ℕ → ℕ
number_at o i = 256 * slice_index o i + slice_index o (i + 1)

-- the octets with a number below 2 ^ 16 written at a place
abbrev pub with_number : List ℕ → ℕ → ℕ → List ℕ
with_number o i n = slice_set (slice_set o i (n / 256)) (i + 1) (n % 256)

-- the IPv4 address in the four octets from this one on
abbrev pub address_4_at : List ℕ → ℕ → Addr
address_4_at o i = V4 (take 4 (drop i o))

-- the IPv6 address in the 16 octets from this one on
abbrev pub address_6_at : List ℕ → ℕ → Addr
address_6_at o i = V6 (take 16 (drop i o))

-- the protocols with ports: TCP, UDP and SCTP
abbrev pub has_ports : ℕ → Bool
has_ports proto = (proto == 6) || (proto == 17) || (proto == 132)

-- the first four octets of the payload: the source's port and the destination's
abbrev pub ports_of : ℕ → List ℕ → Option (ℕ × ℕ)
ports_of proto payload = if has_ports proto && not (nat_lt (length payload) 4) then Some (number_at payload 0, number_at payload 2)
    else None
