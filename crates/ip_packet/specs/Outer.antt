-- The header before sealed octets: protocol 50, 64 hops, no options, no class and no flow (RFC 791 section 3.1, RFC 8200
-- section 3, RFC 4303 section 2).
use Rattle.std.specs.Prelude.{ℕ, ◌+◌, ◌/◌, ◌%◌, Bool, true, List, [], ◌∷◌, ◌++◌, None, if◌then◌else◌}
use Rattle.ikl_base.specs.declared.address.Addr.{Addr}
use Rattle.ikl_base.specs.declared.address.Addr.TheVariants.{V4, V6}
pub use Rattle.ikl_base.specs.Address.{AreOneFamily}
use Rattle.ip_packet.specs.declared.outer.Outer.{Outer}
use Rattle.ip_packet.specs.Ipv4.{sum_for}
use Rattle.ip_packet.specs.View.{Packet}

-- the header's length in octets
abbrev pub header_size : Addr → ℕ
header_size (V4 octets) = 20
header_size (V6 octets) = 40

-- the length that the header tells: the whole packet's for IPv4, the payload's for IPv6
abbrev pub told_length : Addr → ℕ → ℕ
told_length (V4 octets) payload = payload + 20
told_length (V6 octets) payload = payload

-- an IPv4 header with this sum
abbrev pub header_4 : Outer → List ℕ → ℕ → List ℕ
header_4 o addresses sum =
    69 ∷ 0 ∷ ((o.payload + 20) / 256) ∷ ((o.payload + 20) % 256) ∷ (o.id / 256) ∷ (o.id % 256) ∷ (if o.df then 64 else 0) ∷ 0
    ∷ 64 ∷ 50 ∷ (sum / 256) ∷ (sum % 256) ∷ addresses

-- the 40 octets of an IPv6 header before the payload
abbrev pub header_6 : Outer → List ℕ → List ℕ
header_6 o addresses = 96 ∷ 0 ∷ 0 ∷ 0 ∷ (o.payload / 256) ∷ (o.payload % 256) ∷ 50 ∷ 64 ∷ addresses

-- the header from a source to a destination of one family, an IPv4 one with its checksum; two families have none
abbrev pub header_between : Outer → Addr → Addr → List ℕ
header_between o (V4 src) (V4 dst) = header_4 o (src ++ dst) (sum_for (header_4 o (src ++ dst) 0))
header_between o (V4 src) (V6 dst) = []
header_between o (V6 src) (V4 dst) = []
header_between o (V6 src) (V6 dst) = header_6 o (src ++ dst)

-- the octets of the header
unfoldable pub outer_header : Outer → List ℕ
outer_header o = header_between o o.src o.dst

-- no router may cut an IPv6 packet
abbrev pub keeps_whole : Addr → Bool → Bool
keeps_whole (V4 octets) df = df
keeps_whole (V6 octets) df = true

-- what the header says with its payload
abbrev pub outer_view : Outer → List ℕ → Packet
outer_view o payload = record {
  src = o.src;
  dst = o.dst;
  proto = 50;
  ports = None;
  df = keeps_whole o.src o.df;
  payload = payload;
}
