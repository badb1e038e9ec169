-- Who and what the histories that are shown speak of: two gateways, the networks behind them, a tunnel, keys, associations and
-- packets.
use Rattle.std.proofs.Common.{ℕ, ◌+◌, true, List, [], ◌∷◌, Some, None, codes, refl, lit≤}
use Rattle.ikl_base.specs.declared.address.Addr.TheVariants.{V4, V6}
use Rattle.ikl_base.specs.declared.address.Prefix.{Prefix}
use Rattle.ip_packet.specs.View.{Packet}
use Rattle.ikeless_tree.specs.declared.sad.Df.TheVariants as dfs
use Rattle.ikeless_tree.specs.declared.sad.Limits.{Limits}
use Rattle.ikeless_tree.specs.declared.sad.SadEntry.{SadEntry}
use Rattle.ikeless_tree.specs.declared.command.Peer.{Peer}
use Rattle.ikeless_tree.specs.declared.command.TunnelSpec.{TunnelSpec}
use Rattle.ikeless_tree.specs.declared.entry.Action.TheVariants as actions
use Rattle.ikeless_tree.specs.declared.entry.Direction.TheVariants as directions
use Rattle.ikeless_tree.specs.declared.entry.Selector.{Selector}
use Rattle.ikeless_tree.specs.declared.entry.SpdEntry.{SpdEntry}
use Rattle.ikeless_tree.specs.declared.order.Answer.{Answer}
use Rattle.ikeless_tree.specs.declared.error.Tag.{Tag}
use Rattle.hist_acts.specs.declared.event.Header.{Header}
use Rattle.hist_controller.specs.Acts.{Association, PlacedTunnel, Way}
use Rattle.hist_gateway.specs.Datagram.{datagram}

abbrev pub a : List ℕ
a = codes "a"

abbrev pub b : List ℕ
b = codes "b"

abbrev pub peer_a : Peer
peer_a = record { name = a; address = V4 (192 ∷ 0 ∷ 2 ∷ 1 ∷ []) }

abbrev pub peer_b : Peer
peer_b = record { name = b; address = V4 (198 ∷ 51 ∷ 100 ∷ 1 ∷ []) }

-- the greatest number that a half may send in all
abbrev pub greatest : ℕ
greatest = 4294967295

-- both of them, and the greatest number of a half
abbrev pub two : ℕ → Header
two last = record { seq_last = last; gateways = peer_a ∷ peer_b ∷ [] }

-- 2001:db8:1::/48 behind a, 2001:db8:2::/48 behind b
unfoldable pub behind_a : Prefix
behind_a = record {
  addr = V6 (32 ∷ 1 ∷ 13 ∷ 184 ∷ 0 ∷ 1 ∷ 0 ∷ 0 ∷ 0 ∷ 0 ∷ 0 ∷ 0 ∷ 0 ∷ 0 ∷ 0 ∷ 0 ∷ []);
  len = 48;
  in_range = lit≤ tt;
  cleared = refl;
}

unfoldable pub behind_b : Prefix
behind_b = record {
  addr = V6 (32 ∷ 1 ∷ 13 ∷ 184 ∷ 0 ∷ 2 ∷ 0 ∷ 0 ∷ 0 ∷ 0 ∷ 0 ∷ 0 ∷ 0 ∷ 0 ∷ 0 ∷ 0 ∷ []);
  len = 48;
  in_range = lit≤ tt;
  cleared = refl;
}

abbrev pub between : Prefix → Prefix → Selector
between own other = record { local = own; remote = other; proto = None; local_ports = []; remote_ports = [] }

-- what leaves one of them for the other one is protected
abbrev pub protects : Prefix → Prefix → List SpdEntry
protects own other = record {
  name = codes "o1";
  direction = directions.Out;
  reqid = 10;
  window = 64;
  selector = between own other;
  action =
      actions.Protect;
} ∷ []

abbrev pub list_a : List SpdEntry
list_a = protects behind_a behind_b

abbrev pub list_b : List SpdEntry
list_b = protects behind_b behind_a

abbrev pub limits : ℕ → ℕ → ℕ → ℕ → Limits
limits time bytes packets idle = record { time = time; bytes = bytes; packets = packets; idle = idle }

-- a tunnel with keys at once, and new ones after an hour
abbrev pub tunnel : TunnelSpec
tunnel = record {
  reqid = 10;
  now = true;
  first = a;
  second = b;
  first_prefix = behind_a;
  second_prefix = behind_b;
  window = 64;
  hard =
      limits 0 0 0 0;
  soft = limits 3600 0 0 0;
}

abbrev pub placed : PlacedTunnel
placed = record { spec = tunnel; first = 0; second = 1 }

abbrev pub to_b : Way
to_b = record { id = 0; tunnel = tunnel; sender = 0; receiver = 1; near = behind_a; far = behind_b }

abbrev pub to_a : Way
to_a = record { id = 1; tunnel = tunnel; sender = 1; receiver = 0; near = behind_b; far = behind_a }

unfoldable pub key1 : List ℕ
key1 = 0 ∷ 1 ∷ 2 ∷ 3 ∷ 4 ∷ 5 ∷ 6 ∷ 7 ∷ 8 ∷ 9 ∷ 10 ∷ 11 ∷ 12 ∷ 13 ∷ 14 ∷ 15 ∷ 160 ∷ 161 ∷ 162 ∷ 163 ∷ []

unfoldable pub key2 : List ℕ
key2 = 16 ∷ 17 ∷ 18 ∷ 19 ∷ 20 ∷ 21 ∷ 22 ∷ 23 ∷ 24 ∷ 25 ∷ 26 ∷ 27 ∷ 28 ∷ 29 ∷ 30 ∷ 31 ∷ 176 ∷ 177 ∷ 178 ∷ 179 ∷ []

unfoldable pub key3 : List ℕ
key3 = 32 ∷ 33 ∷ 34 ∷ 35 ∷ 36 ∷ 37 ∷ 38 ∷ 39 ∷ 40 ∷ 41 ∷ 42 ∷ 43 ∷ 44 ∷ 45 ∷ 46 ∷ 47 ∷ 192 ∷ 193 ∷ 194 ∷ 195 ∷ []

unfoldable pub key4 : List ℕ
key4 = 48 ∷ 49 ∷ 50 ∷ 51 ∷ 52 ∷ 53 ∷ 54 ∷ 55 ∷ 56 ∷ 57 ∷ 58 ∷ 59 ∷ 60 ∷ 61 ∷ 62 ∷ 63 ∷ 208 ∷ 209 ∷ 210 ∷ 211 ∷ []

abbrev pub with_serial : ℕ → List ℕ → Way → Association
with_serial n key way = record { serial = n; key = key; way = way }

abbrev pub association1 : Association
association1 = with_serial 1 key1 to_b

abbrev pub association2 : Association
association2 = with_serial 2 key2 to_a

abbrev pub association3 : Association
association3 = with_serial 3 key3 to_b

abbrev pub association4 : Association
association4 = with_serial 4 key4 to_a

-- a half of this name, with the serial n, as it stands at its gateway
abbrev pub half : List ℕ → ℕ → List ℕ → Prefix → Prefix → Peer → Peer → SadEntry
half name n key own other local remote = record {
  name = name;
  reqid = 10;
  spi = 256 + n;
  window = 64;
  selector = between own other;
  key = key;
  local = local.address;
  remote = remote.address;
  df = dfs.Copy;
  hard = limits 0 0 0 0;
  soft = limits 3600 0 0 0;
}

abbrev pub in1 : SadEntry
in1 = half (codes "in/1") 1 key1 behind_b behind_a peer_b peer_a

abbrev pub out1 : SadEntry
out1 = half (codes "out/1") 1 key1 behind_a behind_b peer_a peer_b

abbrev pub in2 : SadEntry
in2 = half (codes "in/2") 2 key2 behind_a behind_b peer_a peer_b

abbrev pub out2 : SadEntry
out2 = half (codes "out/2") 2 key2 behind_b behind_a peer_b peer_a

abbrev pub in3 : SadEntry
in3 = half (codes "in/3") 3 key3 behind_b behind_a peer_b peer_a

abbrev pub out3 : SadEntry
out3 = half (codes "out/3") 3 key3 behind_a behind_b peer_a peer_b

abbrev pub in4 : SadEntry
in4 = half (codes "in/4") 4 key4 behind_a behind_b peer_a peer_b

abbrev pub plain : ℕ → Answer
plain status = record { status = status; tag = None; names = [] }

abbrev pub reading : List (List ℕ) → Answer
reading names = record { status = 200; tag = None; names = names }

abbrev pub refused : ℕ → Tag → Answer
refused status tag = record { status = status; tag = Some tag; names = [] }

-- a UDP packet from 2001:db8:1::5 to 2001:db8:2::9
unfoldable pub packet_6 : List ℕ
packet_6 = 96 ∷ 0 ∷ 0 ∷ 0 ∷ 0 ∷ 12 ∷ 17 ∷ 64 ∷ 32 ∷ 1 ∷ 13 ∷ 184 ∷ 0 ∷ 1 ∷ 0 ∷ 0 ∷ 0 ∷ 0 ∷ 0 ∷ 0 ∷ 0 ∷ 0 ∷ 0 ∷ 5 ∷ 32 ∷ 1 ∷ 13 ∷ 184 ∷ 0 ∷ 2
    ∷ 0 ∷ 0 ∷ 0 ∷ 0 ∷ 0 ∷ 0 ∷ 0 ∷ 0 ∷ 0 ∷ 9 ∷ 18 ∷ 52 ∷ 0 ∷ 53 ∷ 0 ∷ 12 ∷ 205 ∷ 35 ∷ 97 ∷ 98 ∷ 99 ∷ 100 ∷ []

abbrev pub view_6 : Packet
view_6 = record {
  src = V6 (32 ∷ 1 ∷ 13 ∷ 184 ∷ 0 ∷ 1 ∷ 0 ∷ 0 ∷ 0 ∷ 0 ∷ 0 ∷ 0 ∷ 0 ∷ 0 ∷ 0 ∷ 5 ∷ []);
  dst = V6 (32 ∷ 1 ∷ 13 ∷ 184 ∷ 0 ∷ 2 ∷ 0 ∷ 0 ∷ 0 ∷ 0 ∷ 0 ∷ 0 ∷ 0 ∷ 0 ∷ 0 ∷ 9 ∷ []);
  proto = 17;
  ports = Some (4660, 53);
  df = true;
  payload = 18 ∷ 52 ∷ 0 ∷ 53 ∷ 0 ∷ 12 ∷ 205 ∷ 35 ∷ 97 ∷ 98 ∷ 99 ∷ 100 ∷ [];
}

-- the datagram that carries it under this half with this number
abbrev pub sent : SadEntry → ℕ → List ℕ
sent e n = datagram e n view_6 packet_6
