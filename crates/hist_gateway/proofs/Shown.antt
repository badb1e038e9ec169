-- Histories of one gateway, computed: each list of acts is what the law gives for the events before it.
--
-- Sealing and opening are not computed here, since AES over the inverses of its definition is too dear: a datagram that is sent
-- stands as the term that says what it is, and what one opens to is a premise. Both are computed elsewhere, by the proved code.
use Rattle.std.proofs.Common.{◌≡◌, ℕ, zero, suc, ◌+◌, true, false, List, [], ◌∷◌, ◌++◌, codes, length, Some, None, Ok, Err, refl, ap, arith}
use Rattle.ikl_base.specs.declared.address.Addr.{Addr}
use Rattle.ikl_base.specs.declared.address.Addr.TheVariants.{V4, V6}
use Rattle.ikl_base.specs.declared.address.Prefix.{Prefix}
use Rattle.ip_packet.specs.View.{Packet, view_of}
use Rattle.ip_packet.specs.Ipv6.{upper_of}
use Rattle.ikeless_tree.specs.declared.sad.Df.TheVariants as dfs
use Rattle.ikeless_tree.specs.declared.sad.Limits.{Limits}
use Rattle.ikeless_tree.specs.declared.sad.SadEntry.{SadEntry}
use Rattle.ikeless_tree.specs.declared.entry.Direction.{Direction}
use Rattle.ikeless_tree.specs.declared.entry.Direction.TheVariants.{In, Out}
use Rattle.ikeless_tree.specs.declared.entry.Action.{Action}
use Rattle.ikeless_tree.specs.declared.entry.Action.TheVariants as actions
use Rattle.ikeless_tree.specs.declared.entry.Selector.{Selector}
use Rattle.ikeless_tree.specs.declared.entry.SpdEntry.{SpdEntry}
use Rattle.ikeless_tree.specs.declared.order.Answer.{Answer}
use Rattle.ikeless_tree.specs.declared.order.Notice.TheVariants as notices
use Rattle.ikeless_tree.specs.declared.drops.DropWhy.{DropWhy}
use Rattle.ikeless_tree.specs.declared.drops.DropWhy.TheVariants as why
use Rattle.ikeless_tree.specs.declared.ends.GoneWhy.TheVariants as gone
use Rattle.ikeless_tree.specs.declared.error.Tag.{Tag}
use Rattle.ikeless_tree.specs.declared.error.Tag.TheVariants as tags
use Rattle.reply_table.specs.declared.ask.Ask.TheVariants as asks
use Rattle.reply_table.specs.declared.ask.Place.TheVariants as places
use Rattle.reply_table.specs.Reply.{reply}
use Rattle.esp_frame.specs.Esp.{keying}
use Rattle.esp_frame.specs.Open as esp
use Rattle.spd_match.specs.Match.{holds_packet}
use Rattle.hist_acts.specs.declared.act.Act.{Act}
use Rattle.hist_acts.specs.declared.act.Act.TheVariants as acts
use Rattle.hist_halves.specs.Sealed.{number_from}
use Rattle.hist_gateway.specs.Datagram.{datagram, flow_of, has_outer_df}
use Rattle.hist_gateway.specs.Let.{let_acts, let_by_view}
use Rattle.hist_gateway.specs.Stands.{does_bad_spi_stand}
use Rattle.hist_gateway.specs.Uses.{counts}
use Rattle.life_count.specs.Lifetime.{counts_at}
use Rattle.hist_gateway.specs.Arrive as arrive
use Rattle.hist_gateway.specs.Block.{Gateway, GatewayEvent, Let, Arrive, Clock, Handle, Session_taken, gw_block, gw_history}

-- ---- who and what

abbrev a : List ℕ
a = codes "a"

abbrev pub b : List ℕ
b = codes "b"

abbrev pub address_a : Addr
address_a = V4 (192 ∷ 0 ∷ 2 ∷ 1 ∷ [])

abbrev pub address_b : Addr
address_b = V4 (198 ∷ 51 ∷ 100 ∷ 1 ∷ [])

abbrev gateway_a : Gateway
gateway_a = record { name = a; address = address_a; seq_last = 3 }

abbrev pub gateway_b : Gateway
gateway_b = record { name = b; address = address_b; seq_last = 4294967295 }

abbrev pub first_site : Prefix
first_site = record {
  addr = V6 (32 ∷ 1 ∷ 13 ∷ 184 ∷ 0 ∷ 1 ∷ 0 ∷ 0 ∷ 0 ∷ 0 ∷ 0 ∷ 0 ∷ 0 ∷ 0 ∷ 0 ∷ 0 ∷ []);
  len = 48;
  in_range = omega arith;
  cleared = refl;
}

abbrev pub second_site : Prefix
second_site = record {
  addr = V6 (32 ∷ 1 ∷ 13 ∷ 184 ∷ 0 ∷ 2 ∷ 0 ∷ 0 ∷ 0 ∷ 0 ∷ 0 ∷ 0 ∷ 0 ∷ 0 ∷ 0 ∷ 0 ∷ []);
  len = 48;
  in_range = omega arith;
  cleared = refl;
}

abbrev ten_one : Prefix
ten_one = record { addr = V4 (10 ∷ 1 ∷ 0 ∷ 0 ∷ []); len = 16; in_range = omega arith; cleared = refl }

abbrev ten_two : Prefix
ten_two = record { addr = V4 (10 ∷ 2 ∷ 0 ∷ 0 ∷ []); len = 16; in_range = omega arith; cleared = refl }

abbrev pub between : Prefix → Prefix → Selector
between p q = record { local = p; remote = q; proto = None; local_ports = []; remote_ports = [] }

abbrev pub limits : ℕ → ℕ → ℕ → ℕ → Limits
limits time bytes packets idle = record { time = time; bytes = bytes; packets = packets; idle = idle }

abbrev policy : List ℕ → Direction → ℕ → Action → Selector → SpdEntry
policy name d reqid act s = record { name = name; direction = d; reqid = reqid; window = 64; selector = s; action = act }

abbrev pub half : List ℕ → ℕ → Selector → Addr → Addr → Limits → Limits → SadEntry
half name spi s local remote hard soft = record {
  name = name;
  reqid = 10;
  spi = spi;
  window = 64;
  selector = s;
  key = 0 ∷ 1 ∷ 2 ∷ 3 ∷ 4 ∷ 5 ∷ 6 ∷ 7 ∷ 8 ∷ 9 ∷ 10 ∷ 11 ∷ 12 ∷ 13 ∷ 14 ∷ 15 ∷ 160 ∷ 161 ∷ 162 ∷ 163 ∷ [];
  local = local;
  remote = remote;
  df = dfs.Copy;
  hard = hard;
  soft = soft;
}

abbrev pub done : ℕ → Answer
done status = record { status = status; tag = None; names = [] }

-- a UDP packet from 10.1.0.5 to 10.2.0.9
abbrev packet_4 : List ℕ
packet_4 = 69 ∷ 0 ∷ 0 ∷ 32 ∷ 0 ∷ 0 ∷ 64 ∷ 0 ∷ 64 ∷ 17 ∷ 38 ∷ 189 ∷ 10 ∷ 1 ∷ 0 ∷ 5 ∷ 10 ∷ 2 ∷ 0 ∷ 9 ∷ 18 ∷ 52 ∷ 0 ∷ 53 ∷ 0 ∷ 12 ∷ 0 ∷ 0 ∷ 97
    ∷ 98 ∷ 99 ∷ 100 ∷ []

-- a UDP packet from 2001:db8:1::5 to 2001:db8:2::9
abbrev packet_6 : List ℕ
packet_6 = 96 ∷ 0 ∷ 0 ∷ 0 ∷ 0 ∷ 12 ∷ 17 ∷ 64 ∷ 32 ∷ 1 ∷ 13 ∷ 184 ∷ 0 ∷ 1 ∷ 0 ∷ 0 ∷ 0 ∷ 0 ∷ 0 ∷ 0 ∷ 0 ∷ 0 ∷ 0 ∷ 5 ∷ 32 ∷ 1 ∷ 13 ∷ 184 ∷ 0 ∷ 2
    ∷ 0 ∷ 0 ∷ 0 ∷ 0 ∷ 0 ∷ 0 ∷ 0 ∷ 0 ∷ 0 ∷ 9 ∷ 18 ∷ 52 ∷ 0 ∷ 53 ∷ 0 ∷ 12 ∷ 205 ∷ 35 ∷ 97 ∷ 98 ∷ 99 ∷ 100 ∷ []

abbrev view_4 : Packet
view_4 = record {
  src = V4 (10 ∷ 1 ∷ 0 ∷ 5 ∷ []);
  dst = V4 (10 ∷ 2 ∷ 0 ∷ 9 ∷ []);
  proto = 17;
  ports = Some (4660, 53);
  df = true;
  payload =
      18 ∷ 52 ∷ 0 ∷ 53 ∷ 0 ∷ 12 ∷ 0 ∷ 0 ∷ 97 ∷ 98 ∷ 99 ∷ 100 ∷ [];
}

seen_4 : view_of packet_4 ≡ Ok view_4
unfolding view_of
seen_4 = refl

-- ---- a packet to protect, and no half for it: one acquire

abbrev protect_4 : List SpdEntry
protect_4 = policy (codes "o1") Out 10 actions.Protect (between ten_one ten_two) ∷ []

shown_acquire : gw_history gateway_a [] (Session_taken ∷ Handle (Ok (asks.PutSpd protect_4)) ∷ Let packet_4 ∷ Let packet_4 ∷ [])
    ≡ acts.Opened a 1 ∷ acts.Policy a protect_4 ∷ acts.Handled a 1 1 (done 204)
    ∷ acts.Let a packet_4 ∷ acts.Drop a why.NoSa ∷ acts.Notice a 1 (notices.Acquire (codes "o1") (flow_of view_4))
    ∷ acts.Let a packet_4 ∷ acts.Drop a why.NoSa ∷ []
unfolding let_acts view_of holds_packet reply
shown_acquire = refl

-- ---- a list that bypasses, one that discards, and none

shown_out : gw_history gateway_a [] (Let packet_4
    ∷ Handle (Ok (asks.PutSpd (policy (codes "p1") Out 1 actions.Bypass (between ten_one ten_two) ∷ [])))
    ∷ Let packet_4 ∷ Let [] ∷ Handle (Ok (asks.PostSpd (policy (codes "d1") Out 0 actions.Discard (between ten_one ten_two)) places.First))
    ∷ Let packet_4 ∷ [])
    ≡ acts.Let a packet_4 ∷ acts.Drop a why.NoPolicy
    ∷ acts.Policy a (policy (codes "p1") Out 1 actions.Bypass (between ten_one ten_two) ∷ []) ∷ acts.Handled a 0 1 (done 204)
    ∷ acts.Let a packet_4 ∷ acts.Clear a packet_4 ∷ acts.Let a [] ∷ acts.Drop a why.Malformed
    ∷ acts.Policy a (policy (codes "d1") Out 0 actions.Discard (between ten_one ten_two)
    ∷ policy (codes "p1") Out 1 actions.Bypass (between ten_one ten_two) ∷ []) ∷ acts.Handled a 0 2 (done 201)
    ∷ acts.Let a packet_4 ∷ acts.Drop a why.Discard ∷ []
unfolding let_acts view_of holds_packet reply
shown_out = refl

-- ---- what comes in clear

-- a UDP packet from 10.2.0.9 to 10.1.0.5
abbrev packet_back : List ℕ
packet_back = 69 ∷ 0 ∷ 0 ∷ 32 ∷ 0 ∷ 0 ∷ 64 ∷ 0 ∷ 64 ∷ 17 ∷ 38 ∷ 189 ∷ 10 ∷ 2 ∷ 0 ∷ 9 ∷ 10 ∷ 1 ∷ 0 ∷ 5 ∷ 18 ∷ 52 ∷ 0 ∷ 53 ∷ 0 ∷ 12 ∷ 0 ∷ 0
    ∷ 97 ∷ 98 ∷ 99 ∷ 100 ∷ []

abbrev inward : Action → List SpdEntry
inward act = policy (codes "c1") In 0 act (between ten_one ten_two) ∷ []

abbrev replaced_by : Action → GatewayEvent
replaced_by act = Handle (Ok (asks.PutSpd (inward act)))

shown_in : gw_history gateway_a [] (Arrive packet_back ∷ replaced_by actions.Bypass ∷ Arrive packet_back ∷ replaced_by actions.Protect
    ∷ Arrive packet_back
    ∷ replaced_by actions.Discard ∷ Arrive packet_back ∷ Arrive (69 ∷ []) ∷ [])
    ≡ acts.Arrived a packet_back ∷ acts.Drop a why.NoPolicy
    ∷ acts.Policy a (inward actions.Bypass) ∷ acts.Handled a 0 1 (done 204) ∷ acts.Arrived a packet_back ∷ acts.Pass a packet_back
    ∷ acts.Policy a (inward actions.Protect) ∷ acts.Handled a 0 2 (done 204) ∷ acts.Arrived a packet_back ∷ acts.Drop a why.ClearRefused
    ∷ acts.Policy a (inward actions.Discard) ∷ acts.Handled a 0 3 (done 204) ∷ acts.Arrived a packet_back ∷ acts.Drop a why.Discard
    ∷ acts.Arrived a (69 ∷ []) ∷ acts.Drop a why.Malformed ∷ []
unfolding arrive.arrive_acts number_from view_of holds_packet reply
shown_in = refl

-- ---- an SPI without a half: one notice in a session

-- packet_6 sealed with number 1 under SPI 257, from gateway a to gateway b, and its ESP octets
abbrev datagram_1 : List ℕ
datagram_1 = 69 ∷ 0 ∷ 0 ∷ 108 ∷ 0 ∷ 1 ∷ 64 ∷ 0 ∷ 64 ∷ 50 ∷ 78 ∷ 41 ∷ 192 ∷ 0 ∷ 2 ∷ 1 ∷ 198 ∷ 51 ∷ 100 ∷ 1 ∷ 0 ∷ 0 ∷ 1 ∷ 1 ∷ 0 ∷ 0 ∷ 0 ∷ 1
    ∷ 0 ∷ 0 ∷ 0 ∷ 0 ∷ 0 ∷ 0 ∷ 0 ∷ 1 ∷ 38 ∷ 113 ∷ 28 ∷ 242 ∷ 108 ∷ 136 ∷ 102 ∷ 16 ∷ 167 ∷ 109 ∷ 75 ∷ 175 ∷ 219 ∷ 5 ∷ 148 ∷ 102 ∷ 17 ∷ 242
    ∷ 25 ∷ 131 ∷ 150 ∷ 245 ∷ 128 ∷ 167 ∷ 77 ∷ 240 ∷ 134 ∷ 168 ∷ 28 ∷ 164 ∷ 95 ∷ 18 ∷ 235 ∷ 251 ∷ 206 ∷ 171 ∷ 37 ∷ 49 ∷ 144 ∷ 222 ∷ 34 ∷ 62
    ∷ 228 ∷ 141 ∷ 207 ∷ 32 ∷ 114 ∷ 55 ∷ 211 ∷ 48 ∷ 142 ∷ 178 ∷ 0 ∷ 66 ∷ 251 ∷ 238 ∷ 145 ∷ 182 ∷ 246 ∷ 87 ∷ 119 ∷ 93 ∷ 147 ∷ 210 ∷ 150 ∷ 171
    ∷ 113 ∷ 15 ∷ 107 ∷ 9 ∷ 220 ∷ 130 ∷ []

abbrev sealed_1 : List ℕ
sealed_1 = 0 ∷ 0 ∷ 1 ∷ 1 ∷ 0 ∷ 0 ∷ 0 ∷ 1 ∷ 0 ∷ 0 ∷ 0 ∷ 0 ∷ 0 ∷ 0 ∷ 0 ∷ 1 ∷ 38 ∷ 113 ∷ 28 ∷ 242 ∷ 108 ∷ 136 ∷ 102 ∷ 16 ∷ 167 ∷ 109 ∷ 75 ∷ 175
    ∷ 219 ∷ 5 ∷ 148 ∷ 102 ∷ 17 ∷ 242 ∷ 25 ∷ 131 ∷ 150 ∷ 245 ∷ 128 ∷ 167 ∷ 77 ∷ 240 ∷ 134 ∷ 168 ∷ 28 ∷ 164 ∷ 95 ∷ 18 ∷ 235 ∷ 251 ∷ 206 ∷ 171
    ∷ 37 ∷ 49 ∷ 144 ∷ 222 ∷ 34 ∷ 62 ∷ 228 ∷ 141 ∷ 207 ∷ 32 ∷ 114 ∷ 55 ∷ 211 ∷ 48 ∷ 142 ∷ 178 ∷ 0 ∷ 66 ∷ 251 ∷ 238 ∷ 145 ∷ 182 ∷ 246 ∷ 87
    ∷ 119 ∷ 93 ∷ 147 ∷ 210 ∷ 150 ∷ 171 ∷ 113 ∷ 15 ∷ 107 ∷ 9 ∷ 220 ∷ 130 ∷ []

shown_bad_spi : gw_history gateway_b [] (Arrive datagram_1 ∷ Arrive datagram_1 ∷ Session_taken ∷ Arrive datagram_1 ∷ Arrive datagram_1 ∷ [])
    ≡ acts.Arrived b datagram_1 ∷ acts.Drop b why.BadSpi ∷ acts.Notice b 0 (notices.BadSpi 257) ∷ acts.Arrived b datagram_1
    ∷ acts.Drop b why.BadSpi
    ∷ acts.Opened b 1 ∷ acts.Arrived b datagram_1 ∷ acts.Drop b why.BadSpi ∷ acts.Notice b 1 (notices.BadSpi 257)
    ∷ acts.Arrived b datagram_1 ∷ acts.Drop b why.BadSpi ∷ []
unfolding arrive.arrive_acts number_from view_of
shown_bad_spi = refl

-- ---- the last number of a half

abbrev protect_6 : List SpdEntry
protect_6 = policy (codes "o1") Out 10 actions.Protect (between first_site second_site) ∷ []

abbrev out_1 : SadEntry
out_1 = half (codes "out/1") 257 (between first_site second_site) address_a address_b (limits 0 0 0 0) (limits 3600 0 0 0)

abbrev view_6 : Packet
view_6 = record {
  src = V6 (32 ∷ 1 ∷ 13 ∷ 184 ∷ 0 ∷ 1 ∷ 0 ∷ 0 ∷ 0 ∷ 0 ∷ 0 ∷ 0 ∷ 0 ∷ 0 ∷ 0 ∷ 5 ∷ []);
  dst = V6 (32 ∷ 1 ∷ 13 ∷ 184 ∷ 0 ∷ 2 ∷ 0 ∷ 0 ∷ 0 ∷ 0 ∷ 0 ∷ 0 ∷ 0 ∷ 0 ∷ 0 ∷ 9 ∷ []);
  proto = 17;
  ports = Some (4660, 53);
  df = true;
  payload = 18 ∷ 52 ∷ 0 ∷ 53 ∷ 0 ∷ 12 ∷ 205 ∷ 35 ∷ 97 ∷ 98 ∷ 99 ∷ 100 ∷ [];
}

seen_6 : view_of packet_6 ≡ Ok view_6
unfolding view_of upper_of
seen_6 = refl

abbrev sent_1 : ℕ → Act
sent_1 n = acts.Sent a (codes "out/1") n (datagram out_1 n view_6 packet_6)

shown_limit : gw_history gateway_a [] (Session_taken ∷ Handle (Ok (asks.PutSpd protect_6)) ∷ Handle (Ok (asks.PostSad out_1))
    ∷ Let packet_6 ∷ Let packet_6 ∷ Let packet_6 ∷ Let packet_6 ∷ Let packet_6 ∷ [])
    ≡ acts.Opened a 1 ∷ acts.Policy a protect_6 ∷ acts.Handled a 1 1 (done 204) ∷ acts.Put a out_1 ∷ acts.Handled a 1 2 (done 201)
    ∷ acts.Let a packet_6 ∷ sent_1 1 ∷ acts.Let a packet_6 ∷ sent_1 2 ∷ acts.Let a packet_6 ∷ sent_1 3
    ∷ acts.Let a packet_6 ∷ acts.Drop a why.SeqLimit ∷ acts.Notice a 1 (notices.SeqOverflow (codes "out/1"))
    ∷ acts.Let a packet_6 ∷ acts.Drop a why.SeqLimit ∷ []
unfolding let_acts view_of upper_of holds_packet reply
shown_limit = refl

-- a reading that doesn't raise the clock is no look
abbrev soft_first : List Act
soft_first = acts.Put a out_1 ∷ []

shown_clock : gw_history gateway_a soft_first (Clock 3599 ∷ Clock 3600 ∷ Clock 3600 ∷ Clock 3601 ∷ Session_taken ∷ Clock 3000 ∷ Clock 3602
    ∷ [])
    ≡ acts.Now 3599 ∷ acts.Now 3600 ∷ acts.Notice a 0 (notices.Expire (codes "out/1") true (limits 3600 0 0 3600)) ∷ acts.Now 3600
    ∷ acts.Now 3601
    ∷ acts.Opened a 1 ∷ acts.Now 3601 ∷ acts.Now 3602 ∷ acts.Notice a 1 (notices.Expire (codes "out/1") true (limits 3602 0 0 3602)) ∷ []
shown_clock = refl

-- the octets, packets and idle time of a half that was used, after a half that was not, and the order of what ends and what is told
abbrev in_2 : SadEntry
in_2 = half (codes "in/2") 258 (between first_site second_site) address_a address_b (limits 0 0 0 0) (limits 3600 0 0 0)

abbrev out_3 : SadEntry
out_3 = half (codes "out/3") 259 (between first_site second_site) address_a address_b (limits 3600 0 0 0) (limits 10 0 0 0)

abbrev used_once : List Act
used_once = acts.Sent a (codes "out/1") 1 datagram_1 ∷ acts.Let a packet_6 ∷ acts.Put a out_3 ∷ acts.Put a out_1 ∷ acts.Put a in_2
    ∷ acts.Opened a 1 ∷ []

shown_looks : gw_history gateway_a used_once (Clock 3600 ∷ Handle (Ok asks.GetSad) ∷ [])
    ≡ acts.Now 3600 ∷ acts.Gone a (codes "out/3") gone.Hard
    ∷ acts.Notice a 1 (notices.Expire (codes "in/2") true (limits 3600 0 0 3600))
    ∷ acts.Notice a 1 (notices.Expire (codes "out/1") true (limits 3600 88 1 3600))
    ∷ acts.Notice a 1 (notices.Expire (codes "out/3") false (limits 3600 0 0 3600))
    ∷ acts.Handled a 1 1 (record { status = 200; tag = None; names = codes "in/2" ∷ codes "out/1" ∷ [] }) ∷ []
unfolding view_of reply
shown_looks = refl

-- ---- a datagram that opens

abbrev in_1 : SadEntry
in_1 = half (codes "in/1") 257 (between second_site first_site) address_a address_b (limits 0 0 0 0) (limits 3600 0 0 0)

-- packet_6 with its padding
abbrev text_6 : List ℕ
text_6 = packet_6 ++ 1 ∷ 2 ∷ 2 ∷ 41 ∷ []

abbrev Opens : SadEntry → Type 0
Opens e = esp.opened (keying e.spi e.key) sealed_1 ≡ Some text_6

abbrev put_1 : List Act
put_1 = acts.Handled b 1 1 (done 201) ∷ acts.Put b in_1 ∷ acts.Opened b 1 ∷ []

shown_put : gw_history gateway_b [] (Session_taken ∷ Handle (Ok (asks.PostSad in_1)) ∷ []) ≡ acts.Opened b 1 ∷ acts.Put b in_1
    ∷ acts.Handled b 1 1 (done 201) ∷ []
unfolding reply
shown_put = refl

shown_gave : Opens in_1 → gw_block gateway_b put_1 (Arrive datagram_1) ≡ acts.Arrived b datagram_1 ∷ acts.Gave b (codes "in/1") 1 packet_6
    ∷ []
unfolding arrive.arrive_acts number_from view_of upper_of holds_packet esp.inner_packet
shown_gave opens = ap (λ text. acts.Arrived b datagram_1 ∷ arrive.by_text b (acts.Arrived b datagram_1 ∷ put_1) in_1 1 text) opens

abbrev gave_1 : List Act
gave_1 = acts.Gave b (codes "in/1") 1 packet_6 ∷ acts.Arrived b datagram_1 ∷ put_1

shown_seen : gw_block gateway_b gave_1 (Arrive datagram_1) ≡ acts.Arrived b datagram_1 ∷ acts.Drop b why.Seen ∷ []
unfolding arrive.arrive_acts number_from view_of
shown_seen = refl

-- a half that one packet ends
abbrev in_once : SadEntry
in_once = half (codes "in/1") 257 (between second_site first_site) address_a address_b (limits 0 0 1 0) (limits 3600 0 0 0)

abbrev put_once : List Act
put_once = acts.Handled b 1 1 (done 201) ∷ acts.Put b in_once ∷ acts.Opened b 1 ∷ []

shown_ended : Opens in_once → gw_block gateway_b put_once (Arrive datagram_1)
    ≡ acts.Arrived b datagram_1 ∷ acts.Gave b (codes "in/1") 1 packet_6 ∷ acts.Gone b (codes "in/1") gone.Hard
    ∷ acts.Notice b 1 (notices.Expire (codes "in/1") false (limits 0 88 1 0)) ∷ []
unfolding arrive.arrive_acts number_from view_of upper_of holds_packet esp.inner_packet
shown_ended opens = ap (λ text. acts.Arrived b datagram_1 ∷ arrive.by_text b (acts.Arrived b datagram_1 ∷ put_once) in_once 1 text) opens

shown_after : gw_block gateway_b (acts.Gone b (codes "in/1") gone.Hard ∷ acts.Gave b (codes "in/1") 1 packet_6 ∷ acts.Arrived b datagram_1
    ∷ put_once) (Arrive datagram_1)
    ≡ acts.Arrived b datagram_1 ∷ acts.Drop b why.BadSpi ∷ acts.Notice b 1 (notices.BadSpi 257) ∷ []
unfolding arrive.arrive_acts number_from view_of
shown_after = refl

-- the selector doesn't hold what it opens to: it is dropped, its number is taken all the same, and the half is used
abbrev in_other : SadEntry
in_other = half (codes "in/1") 257 (between first_site second_site) address_a address_b (limits 0 0 0 0) (limits 0 88 0 0)

abbrev put_other : List Act
put_other = acts.Put b in_other ∷ []

shown_selector : Opens in_other → gw_block gateway_b put_other (Arrive datagram_1)
    ≡ acts.Arrived b datagram_1 ∷ acts.Drop b why.Selector ∷ acts.Notice b 0 (notices.Expire (codes "in/1") true (limits 0 88 1 0)) ∷ []
unfolding arrive.arrive_acts number_from view_of upper_of holds_packet esp.inner_packet
shown_selector opens = ap (λ text. acts.Arrived b datagram_1 ∷ arrive.by_text b (acts.Arrived b datagram_1 ∷ put_other) in_other 1 text)
    opens

shown_taken : gw_block gateway_b (acts.Drop b why.Selector ∷ acts.Arrived b datagram_1 ∷ put_other) (Arrive datagram_1) ≡ acts.Arrived b
    datagram_1 ∷ acts.Drop b why.Seen ∷ []
unfolding arrive.arrive_acts number_from view_of
shown_taken = refl

-- a tag that isn't right takes no number
shown_auth : esp.opened (keying 257 in_1.key) sealed_1 ≡ None → gw_block gateway_b put_1 (Arrive datagram_1) ≡ acts.Arrived b datagram_1
    ∷ acts.Drop b why.Auth ∷ []
unfolding arrive.arrive_acts number_from view_of
shown_auth fails = ap (λ text. acts.Arrived b datagram_1 ∷ arrive.by_text b (acts.Arrived b datagram_1 ∷ put_1) in_1 1 text) fails

shown_again : Opens in_1 → gw_block gateway_b (acts.Drop b why.Auth ∷ acts.Arrived b datagram_1 ∷ put_1) (Arrive datagram_1)
    ≡ acts.Arrived b datagram_1 ∷ acts.Gave b (codes "in/1") 1 packet_6 ∷ []
unfolding arrive.arrive_acts number_from view_of upper_of holds_packet esp.inner_packet
shown_again opens = ap (λ text. acts.Arrived b datagram_1 ∷ arrive.by_text b (acts.Arrived b datagram_1 ∷ acts.Drop b why.Auth
    ∷ acts.Arrived b datagram_1 ∷ put_1) in_1 1 text) opens

-- ---- numbers that aren't fresh, and octets that are too few

abbrev gave_100 : List Act
gave_100 = acts.Gave b (codes "in/1") 100 packet_6 ∷ acts.Arrived b datagram_1 ∷ put_1

abbrev datagram_0 : List ℕ
datagram_0 = 69 ∷ 0 ∷ 0 ∷ 60 ∷ 0 ∷ 1 ∷ 64 ∷ 0 ∷ 64 ∷ 50 ∷ 78 ∷ 89 ∷ 192 ∷ 0 ∷ 2 ∷ 1 ∷ 198 ∷ 51 ∷ 100 ∷ 1 ∷ 0 ∷ 0 ∷ 1 ∷ 1 ∷ 0 ∷ 0 ∷ 0 ∷ 0 ∷ 0
    ∷ 0 ∷ 0 ∷ 0 ∷ 0 ∷ 0 ∷ 0 ∷ 0 ∷ 0 ∷ 0 ∷ 0 ∷ 0 ∷ 0 ∷ 0 ∷ 0 ∷ 0 ∷ 0 ∷ 0 ∷ 0 ∷ 0 ∷ 0 ∷ 0 ∷ 0 ∷ 0 ∷ 0 ∷ 0 ∷ 0 ∷ 0 ∷ 0 ∷ 0 ∷ 0 ∷ 0 ∷ []

abbrev datagram_36 : List ℕ
datagram_36 = 69 ∷ 0 ∷ 0 ∷ 60 ∷ 0 ∷ 1 ∷ 64 ∷ 0 ∷ 64 ∷ 50 ∷ 78 ∷ 89 ∷ 192 ∷ 0 ∷ 2 ∷ 1 ∷ 198 ∷ 51 ∷ 100 ∷ 1 ∷ 0 ∷ 0 ∷ 1 ∷ 1 ∷ 0 ∷ 0 ∷ 0 ∷ 36
    ∷ 0 ∷ 0 ∷ 0 ∷ 0 ∷ 0 ∷ 0 ∷ 0 ∷ 36 ∷ 0 ∷ 0 ∷ 0 ∷ 0 ∷ 0 ∷ 0 ∷ 0 ∷ 0 ∷ 0 ∷ 0 ∷ 0 ∷ 0 ∷ 0 ∷ 0 ∷ 0 ∷ 0 ∷ 0 ∷ 0 ∷ 0 ∷ 0 ∷ 0 ∷ 0 ∷ 0 ∷ 0 ∷ []

abbrev datagram_37 : List ℕ
datagram_37 = 69 ∷ 0 ∷ 0 ∷ 60 ∷ 0 ∷ 1 ∷ 64 ∷ 0 ∷ 64 ∷ 50 ∷ 78 ∷ 89 ∷ 192 ∷ 0 ∷ 2 ∷ 1 ∷ 198 ∷ 51 ∷ 100 ∷ 1 ∷ 0 ∷ 0 ∷ 1 ∷ 1 ∷ 0 ∷ 0 ∷ 0 ∷ 37
    ∷ 0 ∷ 0 ∷ 0 ∷ 0 ∷ 0 ∷ 0 ∷ 0 ∷ 37 ∷ 0 ∷ 0 ∷ 0 ∷ 0 ∷ 0 ∷ 0 ∷ 0 ∷ 0 ∷ 0 ∷ 0 ∷ 0 ∷ 0 ∷ 0 ∷ 0 ∷ 0 ∷ 0 ∷ 0 ∷ 0 ∷ 0 ∷ 0 ∷ 0 ∷ 0 ∷ 0 ∷ 0 ∷ []

abbrev datagram_33_octets : List ℕ
datagram_33_octets = 69 ∷ 0 ∷ 0 ∷ 53 ∷ 0 ∷ 1 ∷ 64 ∷ 0 ∷ 64 ∷ 50 ∷ 78 ∷ 96 ∷ 192 ∷ 0 ∷ 2 ∷ 1 ∷ 198 ∷ 51 ∷ 100 ∷ 1 ∷ 0 ∷ 0 ∷ 1 ∷ 1 ∷ 0 ∷ 0 ∷ 0
    ∷ 1 ∷ 0 ∷ 0 ∷ 0 ∷ 0 ∷ 0 ∷ 0 ∷ 0 ∷ 1 ∷ 0 ∷ 0 ∷ 0 ∷ 0 ∷ 0 ∷ 0 ∷ 0 ∷ 0 ∷ 0 ∷ 0 ∷ 0 ∷ 0 ∷ 0 ∷ 0 ∷ 0 ∷ 0 ∷ 0 ∷ []

shown_not_fresh : gw_history gateway_b gave_100 (Arrive datagram_0 ∷ Arrive datagram_36 ∷ Arrive datagram_33_octets ∷ [])
    ≡ acts.Arrived b datagram_0 ∷ acts.Drop b why.Zero ∷ acts.Arrived b datagram_36 ∷ acts.Drop b why.Old
    ∷ acts.Arrived b datagram_33_octets ∷ acts.Drop b why.Short ∷ []
unfolding arrive.arrive_acts number_from view_of
shown_not_fresh = refl

-- the least number inside the window is looked at
shown_inside : esp.opened (keying 257 in_1.key) (0 ∷ 0 ∷ 1 ∷ 1 ∷ 0 ∷ 0 ∷ 0 ∷ 37 ∷ 0 ∷ 0 ∷ 0 ∷ 0 ∷ 0 ∷ 0 ∷ 0 ∷ 37 ∷ 0 ∷ 0 ∷ 0 ∷ 0 ∷ 0 ∷ 0 ∷ 0
    ∷ 0 ∷ 0 ∷ 0 ∷ 0 ∷ 0 ∷ 0 ∷ 0 ∷ 0 ∷ 0 ∷ 0 ∷ 0 ∷ 0 ∷ 0 ∷ 0 ∷ 0 ∷ 0 ∷ 0 ∷ []) ≡ None → gw_block gateway_b gave_100 (Arrive datagram_37) ≡
    acts.Arrived b datagram_37 ∷ acts.Drop b why.Auth ∷ []
unfolding arrive.arrive_acts number_from view_of
shown_inside fails = ap (λ text. acts.Arrived b datagram_37 ∷ arrive.by_text b (acts.Arrived b datagram_37 ∷ gave_100) in_1 37 text) fails

-- ESP for another address is looked at as what comes in clear
shown_elsewhere : gw_block gateway_a [] (Arrive datagram_1) ≡ acts.Arrived a datagram_1 ∷ acts.Drop a why.NoPolicy ∷ []
unfolding arrive.arrive_acts number_from view_of
shown_elsewhere = refl

-- ---- requests

abbrev pub refusal : ℕ → Tag → Answer
refusal status tag = record { status = status; tag = Some tag; names = [] }

shown_requests : gw_history gateway_b [] (Session_taken ∷ Handle (Ok (asks.PostSad in_1)) ∷ Handle (Ok (asks.PostSad in_1))
    ∷ Handle (Ok (asks.PostSad (half (codes "in/9") 257 (between second_site first_site) address_a address_b (limits 0 0 0 0)
    (limits 0 0 0 0))))
    ∷ Handle (Ok (asks.DeleteSad (codes "in/7"))) ∷ Handle (Ok asks.GetSad) ∷ Handle (Ok (asks.DeleteSad (codes "in/1")))
    ∷ Handle (Ok asks.GetSad)
    ∷ Handle (Err (record { status = 400; tag = tags.UnknownElement })) ∷ Session_taken ∷ Handle (Ok asks.GetSpd) ∷ [])
    ≡ acts.Opened b 1 ∷ acts.Put b in_1 ∷ acts.Handled b 1 1 (done 201) ∷ acts.Handled b 1 2 (refusal 409 tags.ResourceDenied)
    ∷ acts.Handled b 1 3 (refusal 409 tags.ResourceDenied)
    ∷ acts.Handled b 1 4 (refusal 404 tags.InvalidValue)
    ∷ acts.Handled b 1 5 (record { status = 200; tag = None; names = codes "in/1" ∷ [] })
    ∷ acts.Gone b (codes "in/1") gone.Removed ∷ acts.Handled b 1 6 (done 204) ∷ acts.Handled b 1 7 (done 200)
    ∷ acts.Handled b 1 8 (refusal 400 tags.UnknownElement) ∷ acts.Opened b 2 ∷ acts.Handled b 2 1 (done 200) ∷ []
unfolding reply
shown_requests = refl

-- an acquire may come again once another list is in force or a half for it was installed, and not before
shown_acquire_ends : gw_history gateway_a [] (Handle (Ok (asks.PutSpd protect_4)) ∷ Let packet_4 ∷ Handle (Ok (asks.PostSad in_1))
    ∷ Let packet_4 ∷ Handle (Ok (asks.PostSad out_1)) ∷ Let packet_4
    ∷ Handle (Ok (asks.PutSpd protect_4)) ∷ Let packet_4 ∷ [])
    ≡ acts.Policy a protect_4 ∷ acts.Handled a 0 1 (done 204) ∷ acts.Let a packet_4 ∷ acts.Drop a why.NoSa
    ∷ acts.Notice a 0 (notices.Acquire (codes "o1") (flow_of view_4))
    ∷ acts.Put a in_1 ∷ acts.Handled a 0 2 (done 201) ∷ acts.Let a packet_4 ∷ acts.Drop a why.NoSa
    ∷ acts.Put a out_1 ∷ acts.Handled a 0 3 (done 201) ∷ acts.Let a packet_4 ∷ acts.Drop a why.NoSa
    ∷ acts.Notice a 0 (notices.Acquire (codes "o1") (flow_of view_4))
    ∷ acts.Policy a protect_4 ∷ acts.Handled a 0 4 (done 204) ∷ acts.Let a packet_4 ∷ acts.Drop a why.NoSa
    ∷ acts.Notice a 0 (notices.Acquire (codes "o1") (flow_of view_4)) ∷ []
unfolding let_acts view_of holds_packet reply
shown_acquire_ends = refl

-- an acquire stays while a half for another rule is installed
abbrev out_other : SadEntry
out_other = record out_1 { reqid = 11 }

shown_acquire_stays : gw_history gateway_a [] (Handle (Ok (asks.PutSpd protect_4)) ∷ Let packet_4 ∷ Handle (Ok (asks.PostSad out_other))
    ∷ Let packet_4 ∷ [])
    ≡ acts.Policy a protect_4 ∷ acts.Handled a 0 1 (done 204) ∷ acts.Let a packet_4 ∷ acts.Drop a why.NoSa
    ∷ acts.Notice a 0 (notices.Acquire (codes "o1") (flow_of view_4))
    ∷ acts.Put a out_other ∷ acts.Handled a 0 2 (done 201) ∷ acts.Let a packet_4 ∷ acts.Drop a why.NoSa ∷ []
unfolding let_acts view_of holds_packet reply
shown_acquire_stays = refl

-- ---- what comes in pieces

-- packet_back, with a bit that says that more fragments follow
abbrev fragment : List ℕ
fragment = 69 ∷ 0 ∷ 0 ∷ 32 ∷ 0 ∷ 0 ∷ 32 ∷ 0 ∷ 64 ∷ 17 ∷ 70 ∷ 189 ∷ 10 ∷ 2 ∷ 0 ∷ 9 ∷ 10 ∷ 1 ∷ 0 ∷ 5 ∷ 18 ∷ 52 ∷ 0 ∷ 53 ∷ 0 ∷ 12 ∷ 0 ∷ 0 ∷ 97
    ∷ 98 ∷ 99 ∷ 100 ∷ []

shown_fragment : gw_history gateway_a [] (replaced_by actions.Bypass ∷ Arrive fragment ∷ [])
    ≡ acts.Policy a (inward actions.Bypass) ∷ acts.Handled a 0 1 (done 204) ∷ acts.Arrived a fragment ∷ acts.Drop a why.Fragment ∷ []
unfolding arrive.arrive_acts number_from view_of holds_packet reply
shown_fragment = refl

-- ---- a limit on idle time, without a use and after one

abbrev out_idle : SadEntry
out_idle = half (codes "out/1") 257 (between first_site second_site) address_a address_b (limits 0 0 0 5) (limits 0 0 0 0)

shown_idle : gw_history gateway_a (acts.Put a out_idle ∷ []) (Clock 4 ∷ Clock 5 ∷ [])
    ≡ acts.Now 4 ∷ acts.Now 5 ∷ acts.Gone a (codes "out/1") gone.Hard
    ∷ acts.Notice a 0 (notices.Expire (codes "out/1") false (limits 5 0 0 5)) ∷ []
shown_idle = refl

shown_idle_used : gw_history gateway_a (acts.Sent a (codes "out/1") 1 datagram_1 ∷ acts.Let a packet_6 ∷ acts.Now 3 ∷ acts.Put a out_idle
    ∷ []) (Clock 7 ∷ Clock 8 ∷ [])
    ≡ acts.Now 7 ∷ acts.Now 8 ∷ acts.Gone a (codes "out/1") gone.Hard
    ∷ acts.Notice a 0 (notices.Expire (codes "out/1") false (limits 8 88 1 5)) ∷ []
unfolding view_of
shown_idle_used = refl

-- ---- what a datagram opens to and isn't a packet: padding, a dummy, no packet of the version told

abbrev opened_to : List ℕ → Type 0
opened_to text = esp.opened (keying in_1.spi in_1.key) sealed_1 ≡ Some text

abbrev dropped_for : DropWhy → List Act
dropped_for w = acts.Arrived b datagram_1 ∷ acts.Drop b w ∷ []

shown_padding : opened_to (packet_6 ++ 1 ∷ 3 ∷ 2 ∷ 41 ∷ []) → gw_block gateway_b put_1 (Arrive datagram_1) ≡ dropped_for why.Padding
unfolding arrive.arrive_acts number_from view_of upper_of holds_packet esp.inner_packet
shown_padding opens = ap (λ text. acts.Arrived b datagram_1 ∷ arrive.by_text b (acts.Arrived b datagram_1 ∷ put_1) in_1 1 text) opens

shown_dummy : opened_to (packet_6 ++ 1 ∷ 2 ∷ 2 ∷ 59 ∷ []) → gw_block gateway_b put_1 (Arrive datagram_1) ≡ dropped_for why.Dummy
unfolding arrive.arrive_acts number_from view_of upper_of holds_packet esp.inner_packet
shown_dummy opens = ap (λ text. acts.Arrived b datagram_1 ∷ arrive.by_text b (acts.Arrived b datagram_1 ∷ put_1) in_1 1 text) opens

shown_inner : opened_to (80 ∷ 0 ∷ 0 ∷ 41 ∷ []) → gw_block gateway_b put_1 (Arrive datagram_1) ≡ dropped_for why.Inner
unfolding arrive.arrive_acts number_from view_of upper_of holds_packet esp.inner_packet
shown_inner opens = ap (λ text. acts.Arrived b datagram_1 ∷ arrive.by_text b (acts.Arrived b datagram_1 ∷ put_1) in_1 1 text) opens

shown_version : opened_to (packet_6 ++ 1 ∷ 2 ∷ 2 ∷ 4 ∷ []) → gw_block gateway_b put_1 (Arrive datagram_1) ≡ dropped_for why.Inner
unfolding arrive.arrive_acts number_from view_of upper_of holds_packet esp.inner_packet
shown_version opens = ap (λ text. acts.Arrived b datagram_1 ∷ arrive.by_text b (acts.Arrived b datagram_1 ∷ put_1) in_1 1 text) opens

-- ---- the DF bit of the outer header: clear, set, or that of the packet

shown_df : (has_outer_df dfs.Clear view_6 ≡ false) × (has_outer_df dfs.Set view_6 ≡ true) × (has_outer_df dfs.Copy view_6 ≡ true)
    × (has_outer_df dfs.Copy (record view_6 { df = false }) ≡ false)
shown_df = (refl, refl, refl, refl)

-- ---- a bad SPI stands among the last 64

-- so many notices of other SPIs, after a past
abbrev told_of : ℕ → List Act → List Act
told_of zero h = h
told_of (suc n) h = acts.Notice b 0 (notices.BadSpi (1000 + n)) ∷ told_of n h

shown_64th : does_bad_spi_stand b 257 (told_of 63 (acts.Notice b 0 (notices.BadSpi 257) ∷ [])) ≡ true
shown_64th = refl

shown_65th : does_bad_spi_stand b 257 (told_of 64 (acts.Notice b 0 (notices.BadSpi 257) ∷ [])) ≡ false
shown_65th = refl

-- ---- the greatest length of a packet, said of any packet with so many octets in place of one written out

shown_longest : (v : Packet) (o : List ℕ) → length o ≡ 65000 → let_by_view a 3 [] o (Ok v) ≡ acts.Drop a why.NoPolicy ∷ []
shown_longest v o e = rw e refl

shown_too_long : (v : Packet) (o : List ℕ) → length o ≡ 65001 → let_by_view a 3 [] o (Ok v) ≡ acts.Drop a why.TooLong ∷ []
shown_too_long v o e = rw e refl

-- ---- a hard limit that a packet sent meets

abbrev out_once : SadEntry
out_once = half (codes "out/1") 257 (between first_site second_site) address_a address_b (limits 0 0 1 0) (limits 0 0 0 0)

abbrev sent_once : List Act
sent_once = acts.Sent a (codes "out/1") 1 (datagram out_once 1 view_6 packet_6) ∷ acts.Let a packet_6 ∷ acts.Put a out_once
    ∷ acts.Policy a protect_6 ∷ []

shown_spent : gw_block gateway_a (acts.Put a out_once ∷ acts.Policy a protect_6 ∷ []) (Let packet_6)
    ≡ acts.Let a packet_6 ∷ acts.Sent a (codes "out/1") 1 (datagram out_once 1 view_6 packet_6)
    ∷ acts.Gone a (codes "out/1") gone.Hard ∷ acts.Notice a 0 (notices.Expire (codes "out/1") false (counts a (codes "out/1") sent_once))
    ∷ []
unfolding let_acts view_of upper_of holds_packet
shown_spent = refl

-- ---- counts stop at the greatest value of their types

shown_ends : counts_at 4294967296 0 1 18446744073709551616 4294967297 ≡ limits 4294967295 18446744073709551615 4294967295 4294967295
shown_ends = refl

shown_before_ends : counts_at 4294967294 0 1 18446744073709551614 4294967294 ≡ limits 4294967294 18446744073709551614 4294967294 4294967293
shown_before_ends = refl
