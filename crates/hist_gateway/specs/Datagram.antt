-- What a gateway writes around a packet that it seals (RFC 4301 section 5.1.2, RFC 4303 section 2), and what it says of a packet
-- that it can't seal.
use Rattle.std.specs.Prelude.{ℕ, ◌%◌, ◌≤◌, Bool, true, false, List, [], ◌∷◌, ◌++◌, length, Option, Some, None}
use Rattle.ikl_base.specs.declared.address.Addr.{Addr}
use Rattle.ikl_base.specs.declared.address.Prefix.{Prefix}
use Rattle.ikl_base.specs.Address.{bits_of, address_cleared}
use Rattle.ikl_base.proofs.AddressLemmas.{bits_of-cleared, is_clear_from-cleared}
use Rattle.std.proofs.Common.{subst, sym}
use Rattle.std.proofs.Math.Nat.{le_refl}
use Rattle.ip_packet.specs.declared.packet.NotPacket.{NotPacket}
use Rattle.ip_packet.specs.declared.packet.NotPacket.TheVariants as faults
use Rattle.ip_packet.specs.declared.outer.Outer.{Outer}
use Rattle.ip_packet.specs.View.{Packet}
use Rattle.ip_packet.specs.Outer.{outer_header}
use Rattle.ip_packet.specs.Field.{next_header}
use Rattle.ikeless_tree.specs.declared.sad.Df.{Df}
use Rattle.ikeless_tree.specs.declared.sad.Df.TheVariants as dfs
use Rattle.ikeless_tree.specs.declared.sad.SadEntry.{SadEntry}
use Rattle.ikeless_tree.specs.declared.entry.Direction.TheVariants.{Out}
use Rattle.ikeless_tree.specs.declared.entry.Range.{Range}
use Rattle.ikeless_tree.specs.declared.entry.Selector.{Selector}
use Rattle.ikeless_tree.specs.declared.drops.DropWhy.{DropWhy}
use Rattle.ikeless_tree.specs.declared.drops.DropWhy.TheVariants as why
use Rattle.esp_frame.specs.Esp.{esp, keying}
use Rattle.spd_match.specs.Match.{local_port, remote_port}

-- why octets that are no packet are dropped
abbrev pub fault_why : NotPacket → DropWhy
fault_why faults.Fragment = why.Fragment
fault_why _ = why.Malformed

-- the DF bit of the outer header (RFC 4301 section 8.1)
abbrev pub has_outer_df : Df → Packet → Bool
has_outer_df dfs.Clear v = false
has_outer_df dfs.Set v = true
has_outer_df dfs.Copy v = v.df

-- the outer header between the ends of the half's tunnel, its identification the last 16 bits of the number
abbrev pub outer_of : SadEntry → ℕ → Packet → ℕ → Outer
outer_of e n v size = record { src = e.local; dst = e.remote; df = has_outer_df e.df v; id = n % 65536; payload = size }

-- ESP octets behind their outer header
abbrev pub wrapped : SadEntry → ℕ → Packet → List ℕ → List ℕ
wrapped e n v b = outer_header (outer_of e n v (length b)) ++ b

-- the datagram with this number for the packet o
unfoldable pub datagram : SadEntry → ℕ → Packet → List ℕ → List ℕ
datagram e n v o = wrapped e n v (esp (keying e.spi e.key) n (next_header o) o)

-- the prefix of all bits of an address
unfoldable pub whole : Addr → Prefix
whole a = record {
  addr = address_cleared (bits_of a) a;
  len = bits_of a;
  in_range = subst (λ bits. bits_of a ≤ bits) (sym (bits_of-cleared (bits_of a) a)) (le_refl (bits_of a));
  cleared = is_clear_from-cleared (bits_of a) a;
}

-- the range of one port; a packet without ports has none
abbrev pub one_port : Option ℕ → List Range
one_port None = []
one_port (Some port) = record { start = port; end = port } ∷ []

-- the selector that holds packets of this flow alone
abbrev pub flow_of : Packet → Selector
flow_of v = record {
  local = whole v.src;
  remote = whole v.dst;
  proto = Some v.proto;
  local_ports = one_port (local_port Out v.ports);
  remote_ports = one_port (remote_port Out v.ports);
}
