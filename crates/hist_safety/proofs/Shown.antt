-- A lawful history, with its octets: a policy, a packet that finds no association and one that leaves in clear, a tunnel, a
-- packet that is sealed, given, and dropped when it comes again, a rekey, a removal whose answer is lost by a cut, the
-- removal again in the next session, a restart of the receiver, and a packet that is lost by it. All is by computing but for
-- the sealed octets themselves: of those only the laws of ESP are used.
use Rattle.std.proofs.Common.{◌≡◌, ℕ, ◌&&◌, ◌+◌, ◌<◌, ◌≤◌, ◌^◌, true, false, List, [], ◌∷◌, ◌++◌, codes, decimal, drop, length, Some, None, Ok, inl, inr, refl, sym, ◌∙◌, ap, subst, arith, Bool, Result}
use Rattle.std.proofs.lemmas.Bool.{or_left, and_from}
use Rattle.ikl_base.specs.declared.address.Addr.TheVariants.{V4, V6}
use Rattle.ikl_base.specs.declared.address.Prefix.{Prefix}
use Rattle.ip_packet.specs.declared.outer.Outer.{Outer}
use Rattle.ip_packet.specs.declared.packet.NotPacket.{NotPacket}
use Rattle.ip_packet.specs.Outer.{outer_header, outer_view}
use Rattle.ip_packet.specs.View.{Packet, by_upper, packet_4, packet_6, view_of}
use Rattle.ip_packet.proofs.Headers.{upper_of-end}
use Rattle.ip_packet.proofs.OuterViews.{sealed}
use Rattle.ikeless_tree.specs.declared.sad.SadEntry.{SadEntry}
use Rattle.ikeless_tree.specs.declared.sad.Limits.{Limits}
use Rattle.ikeless_tree.specs.declared.sad.Df.TheVariants.{Copy}
use Rattle.ikeless_tree.specs.declared.command.Peer.{Peer}
use Rattle.ikeless_tree.specs.declared.entry.Action.TheVariants.{Bypass, Protect}
use Rattle.ikeless_tree.specs.declared.entry.Direction.TheVariants.{In, Out}
use Rattle.ikeless_tree.specs.declared.entry.Selector.{Selector}
use Rattle.ikeless_tree.specs.declared.entry.SpdEntry.{SpdEntry}
use Rattle.ikeless_tree.specs.declared.order.Order.TheVariants as asks
use Rattle.ikeless_tree.specs.declared.order.Notice.TheVariants as notices
use Rattle.ikeless_tree.specs.declared.drops.DropWhy.TheVariants as why
use Rattle.ikeless_tree.specs.declared.ends.GoneWhy.TheVariants as gone
use Rattle.ikeless_tree.specs.Half.{other_half, in_half}
use Rattle.spd_match.specs.Match.{first_entry, holds_packet}
use Rattle.esp_frame.specs.Esp.{esp, iv_of, pad_len, padded, seq_of, spi_of}
use Rattle.esp_frame.proofs.Opens.{length-esp}
use Rattle.replay_win.specs.Marks.{verdict_over}
use Rattle.replay_win.specs.declared.verdict.Verdict.{Verdict}
use Rattle.replay_win.specs.declared.verdict.Verdict.TheVariants.{Fresh, Seen}
use Rattle.hist_acts.specs.declared.act.Act.{Act}
use Rattle.hist_acts.specs.declared.act.Act.TheVariants as acts
use Rattle.hist_halves.specs.Sealed.{by_spi, esp_of, number_from, number_of, payload_of}
use Rattle.hist_halves.specs.Halves.{is_lapsed, is_live, is_sealed, live, numbers_taken, put_of}
use Rattle.hist_safety.specs.Clear.{ClearIsLet}
use Rattle.hist_safety.specs.Orders.{mirrored}
use Rattle.hist_safety.specs.Carried.{Delivers, IsGenuine, IsUndelivered, Sends, aes_in, keying_of, was_sealed}
use Rattle.hist_safety.specs.Law.{IsLawful, IsWhole}
use Rattle.hist_safety.specs.Safe.{IsLastSafe, MustGive, Safe}
use Rattle.std.specs.Fmt.{digits}
use Rattle.std.specs.Str.{bytes_eq}
use Rattle.hist_acts.specs.Past.{force}
use Rattle.esp_frame.specs.Esp.{keying}
use Rattle.hist_safety.proofs.Basics.{name-self, no, some-is}
use Rattle.hist_safety.proofs.Frames.{esp-seq, esp-spi, seals-open, number-field}

few1 : 1 ≤ 1048576
few1 = omega arith

few2 : 2 ≤ 1048576
few2 = omega arith

none-some : {A : Type 0} (a : A) → None ≡ Some a → ⊥
none-some a e = grind arith

seen-fresh : Seen ≡ Fresh → ⊥
seen-fresh e = grind arith

abbrev a_octets : List ℕ
a_octets = 192 ∷ 0 ∷ 2 ∷ 1 ∷ []

abbrev b_octets : List ℕ
b_octets = 198 ∷ 51 ∷ 100 ∷ 1 ∷ []

abbrev gateways : List Peer
gateways = record { name = codes "a"; address = V4 a_octets } ∷ record { name = codes "b"; address = V4 b_octets } ∷ []

pub low : 48 ≤ 128
low = omega arith

pub least : 0 ≤ 32
least = omega arith

one_is : codes "in/1" ≡ in_half (decimal 1)
unfolding digits
one_is = refl

two_is : codes "in/2" ≡ in_half (decimal 2)
unfolding digits
two_is = refl

-- 2001:db8:1::/48 behind a, 2001:db8:2::/48 behind b
abbrev behind_a : Prefix
behind_a = record {
  addr = V6 (32 ∷ 1 ∷ 13 ∷ 184 ∷ 0 ∷ 1 ∷ 0 ∷ 0 ∷ 0 ∷ 0 ∷ 0 ∷ 0 ∷ 0 ∷ 0 ∷ 0 ∷ 0 ∷ []);
  len = 48;
  in_range = low;
  cleared =
      refl;
}

abbrev behind_b : Prefix
behind_b = record {
  addr = V6 (32 ∷ 1 ∷ 13 ∷ 184 ∷ 0 ∷ 2 ∷ 0 ∷ 0 ∷ 0 ∷ 0 ∷ 0 ∷ 0 ∷ 0 ∷ 0 ∷ 0 ∷ 0 ∷ []);
  len = 48;
  in_range = low;
  cleared =
      refl;
}

abbrev any_4 : Prefix
any_4 = record { addr = V4 (0 ∷ 0 ∷ 0 ∷ 0 ∷ []); len = 0; in_range = least; cleared = refl }

abbrev chosen : Selector
chosen = record { local = behind_a; remote = behind_b; proto = None; local_ports = []; remote_ports = [] }

abbrev list : List SpdEntry
list =
    record { name = codes "o1"; direction = Out; reqid = 10; action = Protect; selector = chosen; window = 64 }
    ∷ record {
      name = codes "o2";
      direction = Out;
      reqid = 0;
      action = Bypass;
      selector =
          record { local = any_4; remote = any_4; proto = None; local_ports = []; remote_ports = [] };
      window = 64;
    } ∷ []

abbrev none : Limits
none = record { time = 0; bytes = 0; packets = 0; idle = 0 }

-- the inbound half with this serial, name and key
abbrev in_with : ℕ → List ℕ → List ℕ → SadEntry
in_with n name key = record {
  name = name;
  reqid = 10;
  spi = 256 + n;
  window = 64;
  selector = mirrored chosen;
  key = key;
  local = V4 b_octets;
  remote = V4 a_octets;
  df = Copy;
  hard = none;
  soft = none;
}

abbrev out_with : ℕ → List ℕ → List ℕ → SadEntry
out_with n name key = record {
  name = name;
  reqid = 10;
  spi = 256 + n;
  window = 64;
  selector = chosen;
  key = key;
  local = V4 a_octets;
  remote = V4 b_octets;
  df = Copy;
  hard = none;
  soft = none;
}

abbrev key1 : List ℕ
key1 = 0 ∷ 1 ∷ 2 ∷ 3 ∷ 4 ∷ 5 ∷ 6 ∷ 7 ∷ 8 ∷ 9 ∷ 10 ∷ 11 ∷ 12 ∷ 13 ∷ 14 ∷ 15 ∷ 160 ∷ 161 ∷ 162 ∷ 163 ∷ []

abbrev key2 : List ℕ
key2 = 16 ∷ 17 ∷ 18 ∷ 19 ∷ 20 ∷ 21 ∷ 22 ∷ 23 ∷ 24 ∷ 25 ∷ 26 ∷ 27 ∷ 28 ∷ 29 ∷ 30 ∷ 31 ∷ 176 ∷ 177 ∷ 178 ∷ 179 ∷ []

abbrev in1 : SadEntry
in1 = in_with 1 (codes "in/1") key1

abbrev out1 : SadEntry
out1 = out_with 1 (codes "out/1") key1

abbrev in2 : SadEntry
in2 = in_with 2 (codes "in/2") key2

abbrev out2 : SadEntry
out2 = out_with 2 (codes "out/2") key2

-- a UDP packet from behind a to behind b
abbrev p : List ℕ
p = 96 ∷ 0 ∷ 0 ∷ 0 ∷ 0 ∷ 12 ∷ 17 ∷ 64 ∷ 32 ∷ 1 ∷ 13 ∷ 184 ∷ 0 ∷ 1 ∷ 0 ∷ 0 ∷ 0 ∷ 0 ∷ 0 ∷ 0 ∷ 0 ∷ 0 ∷ 0 ∷ 5 ∷ 32 ∷ 1 ∷ 13 ∷ 184 ∷ 0 ∷ 2 ∷ 0
    ∷ 0 ∷ 0 ∷ 0 ∷ 0 ∷ 0 ∷ 0 ∷ 0 ∷ 0 ∷ 9 ∷ 18 ∷ 52 ∷ 0 ∷ 53 ∷ 0 ∷ 12 ∷ 205 ∷ 35 ∷ 97 ∷ 98 ∷ 99 ∷ 100 ∷ []

abbrev p_packet : Packet
p_packet = packet_6 p 17 (drop 40 p)

p_view : view_of p ≡ Ok p_packet
unfolding view_of
p_view = ap (by_upper p) (upper_of-end 17 (drop 40 p) refl (λ e. grind arith))

p_leaves : holds_packet chosen Out p_packet ≡ true
unfolding holds_packet
p_leaves = refl

p_comes : holds_packet (mirrored chosen) In p_packet ≡ true
unfolding holds_packet
p_comes = refl

-- and one of IPv4, that may leave in clear
abbrev q : List ℕ
q = 69 ∷ 0 ∷ 0 ∷ 28 ∷ 0 ∷ 0 ∷ 0 ∷ 0 ∷ 64 ∷ 17 ∷ 102 ∷ 193 ∷ 10 ∷ 1 ∷ 0 ∷ 5 ∷ 10 ∷ 2 ∷ 0 ∷ 9 ∷ 18 ∷ 52 ∷ 0 ∷ 53 ∷ 0 ∷ 8 ∷ 0 ∷ 0 ∷ []

q_view : view_of q ≡ Ok (packet_4 q)
unfolding view_of
q_view = refl

q_first : first_entry list Out (packet_4 q) ≡ Some (record {
  name = codes "o2";
  direction = Out;
  reqid = 0;
  action = Bypass;
  selector =
      record { local = any_4; remote = any_4; proto = None; local_ports = []; remote_ports = [] };
  window = 64;
})
unfolding holds_packet
q_first = refl

-- the datagram that carries p under an outbound half with the number 1
abbrev outer : Outer
outer = record { src = V4 a_octets; dst = V4 b_octets; df = true; id = 1; payload = 88 }

abbrev sealed_in : SadEntry → List ℕ
sealed_in e = esp (keying_of e) 1 41 p

abbrev datagram : SadEntry → List ℕ
datagram e = outer_header outer ++ sealed_in e

datagram_view : (e : SadEntry) → view_of (datagram e) ≡ Ok (outer_view outer (sealed_in e))
unfolding outer_header
datagram_view e = sealed outer (V4 a_octets) (V4 b_octets) (sealed_in e) (refl, refl) (length-esp (keying_of e) 1 41 p)

datagram_esp : (e : SadEntry) → esp_of (datagram e) ≡ sealed_in e
datagram_esp e = ap payload_of (datagram_view e)

datagram_seq : (e : SadEntry) → seq_of (esp_of (datagram e)) ≡ 1
datagram_seq e = ap (λ (z : List ℕ). seq_of z) (datagram_esp e) ∙ esp-seq (keying_of e) 1 41 p (omega arith)

datagram_number : (half e : SadEntry) (top : ℕ) → number_from half top (esp_of (datagram e)) ≡ 1
datagram_number half e top = number-field half top (esp_of (datagram e)) ∙ datagram_seq e

datagram_spi : (e : SadEntry) → e.spi < 2 ^ 32 → spi_of (esp_of (datagram e)) ≡ e.spi
unfolding keying
datagram_spi e lt = ap (λ (z : List ℕ). spi_of z) (datagram_esp e) ∙ esp-spi (keying_of e) 1 41 p lt

abbrev datagram1 : List ℕ
datagram1 = datagram out1

abbrev datagram2 : List ℕ
datagram2 = datagram out2

-- an arrival is genuine where the one half that it can come to has a sender
genuine-by : (g o : List ℕ) (half : SadEntry) (h : List Act) → by_spi (spi_of (esp_of o)) (live g h) ≡ Some half
    → is_sealed (other_half half.name) (esp_of o) h ≡ true → IsGenuine gateways g o h
genuine-by g o half h found s = λ e text comes opens.
    let same : half ≡ e = some-is half e (sym found ∙ comes.found) in
    subst (λ z. is_sealed (other_half z.name) (esp_of o) h ≡ true) same s

-- and where it comes to none
genuine-none : (g o : List ℕ) (h : List Act) → by_spi (spi_of (esp_of o)) (live g h) ≡ None → IsGenuine gateways g o h
genuine-none g o h found = λ e text comes opens. absurd (none-some e (sym found ∙ comes.found))

undelivered-none : (g o : List ℕ) (h : List Act) → by_spi (spi_of (esp_of o)) (live g h) ≡ None → IsUndelivered gateways g o h
undelivered-none g o h found = λ x n r d. none-some d.half (sym found ∙ d.comes.found)

undelivered-by : (g o : List ℕ) (half : SadEntry) (v : Verdict) (h : List Act) → by_spi (spi_of (esp_of o)) (live g h) ≡ Some half →
    verdict_over half.window (numbers_taken g half.name h) (number_of half (numbers_taken g half.name h) (esp_of o)) ≡ v → (v ≡ Fresh → ⊥)
    → IsUndelivered gateways g o h
undelivered-by g o half v h found e n = λ x m r d.
    let same : d.half ≡ half = some-is d.half half (sym d.comes.found ∙ found) in
    n (sym e ∙ subst (λ z. verdict_over z.window (numbers_taken g z.name h) (number_of z (numbers_taken g z.name h) (esp_of o)) ≡ Fresh)
    same d.comes.fresh)

sealed-head : (x o : List ℕ) (f : List ℕ) (n : ℕ) (h : List Act) → is_sealed x (esp_of o) (acts.Sent f x n o ∷ h) ≡ true
sealed-head x o f n h = or_left (bytes_eq x x && bytes_eq (esp_of o) (esp_of o)) (is_sealed x (esp_of o) h)
    (and_from (bytes_eq x x) (bytes_eq (esp_of o) (esp_of o)) (name-self x) (name-self (esp_of o)))

bypass : (older : List Act) → force (codes "a") older ≡ list → ClearIsLet (acts.Let (codes "a") q ∷ older) (codes "a") q
bypass older e = record {
  older = older;
  let_before = refl;
  bypass = record {
    packet = packet_4 q;
    entry = record {
      name = codes "o2";
      direction = Out;
      reqid = 0;
      action = Bypass;
      selector =
          record { local = any_4; remote = any_4; proto = None; local_ports = []; remote_ports = [] };
      window = 64;
    };
    view = q_view;
    first = subst (λ z. first_entry z Out (packet_4 q) ≡ Some (record {
      name = codes "o2";
      direction = Out;
      reqid = 0;
      action = Bypass;
      selector = record { local = any_4; remote = any_4; proto = None; local_ports = []; remote_ports = [] };
      window = 64;
    })) (sym e)
        q_first;
    action = refl;
  };
}

abbrev h1 : List Act
h1 =
    acts.Handled (codes "a") 1 1 (record { status = 200; tag = None; names = [] }) ∷ acts.Took 3 ∷ acts.Order (codes "b") 1 1 (asks.Read)
    ∷ acts.Opened (codes "b") 1 ∷ acts.Took 2 ∷ acts.Order (codes "a") 1 1 (asks.Read) ∷ acts.Opened (codes "a") 1 ∷ acts.Took 1 ∷ []

lawful1 : IsLawful gateways h1
lawful1 = (
  (refl, refl, (asks.Read, refl, (refl, tt))),
  (refl, ((refl, refl, refl, refl, tt), ((refl, refl), (refl, ((refl, refl, refl, refl, tt), ((refl, refl), (refl, tt))))))),
)

abbrev h2 : List Act
h2 =
    acts.Order (codes "b") 1 2 (asks.Put in1) ∷ acts.Answered (codes "b") 1 1 (record { status = 200; tag = None; names = [] })
    ∷ acts.Took 6 ∷ acts.Handled (codes "b") 1 1 (record { status = 200; tag = None; names = [] }) ∷ acts.Took 5
    ∷ acts.Order (codes "a") 1 2 (asks.Policy list) ∷ acts.Answered (codes "a") 1 1 (record { status = 200; tag = None; names = [] })
    ∷ acts.Took 4 ∷ h1

lawful2 : IsLawful gateways h2
lawful2 = (
  (refl, refl, refl, refl, inl (record { name = one_is; few = few1; spi = refl; key = refl; ends = (refl, refl) })),
  (
    (refl, refl, refl, refl, refl),
    (
      refl,
      (
        (refl, refl, (asks.Read, refl, (refl, tt))),
        (refl, ((refl, refl, refl, refl, tt), ((refl, refl, refl, refl, refl), (refl, lawful1)))),
      ),
    ),
  ),
)

abbrev h3 : List Act
h3 =
    acts.Drop (codes "a") why.NoSa ∷ acts.Let (codes "a") p ∷ acts.Took 9
    ∷ acts.Answered (codes "a") 1 2 (record { status = 204; tag = None; names = [] }) ∷ acts.Took 8
    ∷ acts.Handled (codes "a") 1 2 (record { status = 204; tag = None; names = [] }) ∷ acts.Policy (codes "a") list ∷ acts.Took 7 ∷ h2

lawful3 : IsLawful gateways h3
lawful3 = (
  refl,
  (
    refl,
    (refl, ((refl, refl, refl, refl, refl), (refl, ((refl, refl, (asks.Policy list, refl, refl)), ((refl, refl), (refl, lawful2)))))),
  ),
)

abbrev h4 : List Act
h4 =
    acts.Took 12 ∷ acts.Handled (codes "b") 1 2 (record { status = 201; tag = None; names = [] }) ∷ acts.Put (codes "b") in1 ∷ acts.Took 11
    ∷ acts.Clear (codes "a") q ∷ acts.Let (codes "a") q ∷ acts.Took 10 ∷ acts.Notice (codes "a") 1 (notices.Acquire (codes "o1") chosen)
    ∷ h3

lawful4 : IsLawful gateways h4
lawful4 = (
  refl,
  (
    (refl, refl, (asks.Put in1, refl, (refl, refl))),
    (
      (refl, refl),
      (
        refl,
        (
          bypass (acts.Took 10 ∷ acts.Notice (codes "a") 1 (notices.Acquire (codes "o1") chosen) ∷ h3) refl,
          (refl, (refl, (refl, lawful3))),
        ),
      ),
    ),
  ),
)

abbrev h5 : List Act
h5 =
    acts.Answered (codes "a") 1 3 (record { status = 201; tag = None; names = [] }) ∷ acts.Took 14
    ∷ acts.Handled (codes "a") 1 3 (record { status = 201; tag = None; names = [] }) ∷ acts.Put (codes "a") out1 ∷ acts.Took 13
    ∷ acts.Order (codes "a") 1 3 (asks.Put out1) ∷ acts.Answered (codes "b") 1 2 (record { status = 201; tag = None; names = [] }) ∷ h4

lawful5 : IsLawful gateways h5
lawful5 = (
  (refl, refl, refl, refl, refl),
  (
    refl,
    (
      (refl, refl, (asks.Put out1, refl, (refl, refl))),
      (
        (refl, refl),
        (
          refl,
          (
            (
              refl,
              refl,
              refl,
              refl,
              inr (record {
                serial = codes "1";
                name = refl;
                once = refl;
                inbound = in1;
                order = refl;
                key = refl;
                spi =
                    refl;
                selector = refl;
                local = refl;
                remote = refl;
                elsewhere = refl;
                made = refl;
                stays = refl;
              }),
            ),
            ((refl, refl, refl, refl, refl), lawful4),
          ),
        ),
      ),
    ),
  ),
)

abbrev sent_past : List Act
sent_past = acts.Took 15 ∷ h5

sends1 : Sends (codes "a") (codes "out/1") 1 p datagram1 sent_past
sends1 = record {
  half = out1;
  put = refl;
  live = refl;
  outbound = refl;
  packet = p_packet;
  view = p_view;
  holds = p_leaves;
  number = refl;
  small = omega arith;
  sealed = datagram_esp out1;
}

abbrev arrived_past : List Act
arrived_past = acts.Took 16 ∷ acts.Sent (codes "a") (codes "out/1") 1 datagram1 ∷ acts.Let (codes "a") p ∷ acts.Took 15 ∷ h5

found1 : by_spi (spi_of (esp_of datagram1)) (live (codes "b") arrived_past) ≡ Some in1
found1 = ap (λ (z : ℕ). by_spi z (live (codes "b") arrived_past)) (datagram_spi out1 (omega arith))

genuine1 : IsGenuine gateways (codes "b") datagram1 arrived_past
genuine1 = genuine-by (codes "b") datagram1 in1 arrived_past found1 (sealed-head (codes "out/1") datagram1 (codes "a") 1
    (acts.Let (codes "a") p ∷ sent_past))

delivers1 : Delivers gateways (codes "b") datagram1 (codes "in/1") 1 p arrived_past
delivers1 = record {
  half = in1;
  comes = record {
    packet = outer_view outer (sealed_in out1);
    view = datagram_view out1;
    proto = refl;
    own = refl;
    found = found1;
    fresh =
        ap (verdict_over 64 []) (datagram_number in1 out1 0);
  };
  name = refl;
  number = sym (datagram_number in1 out1 0);
  text = padded (pad_len (length p)) 41 p;
  opens = seals-open (keying_of in1) 1 41 p (esp_of datagram1) (datagram_esp out1);
  inner = (pad_len (length p), refl);
  packet = p_packet;
  view = p_view;
  holds = p_comes;
}

abbrev again_past : List Act
again_past = acts.Took 17 ∷ acts.Gave (codes "b") (codes "in/1") 1 p ∷ acts.Arrived (codes "b") datagram1 ∷ acts.Took 16
    ∷ acts.Sent (codes "a") (codes "out/1") 1 datagram1 ∷ acts.Let (codes "a") p ∷ acts.Took 15 ∷ h5

found_again : by_spi (spi_of (esp_of datagram1)) (live (codes "b") again_past) ≡ Some in1
found_again = ap (λ (z : ℕ). by_spi z (live (codes "b") again_past)) (datagram_spi out1 (omega arith))

genuine_again : IsGenuine gateways (codes "b") datagram1 again_past
genuine_again = genuine-by (codes "b") datagram1 in1 again_past found_again (sealed-head (codes "out/1") datagram1 (codes "a") 1
    (acts.Let (codes "a") p ∷ sent_past))

undelivered_again : IsUndelivered gateways (codes "b") datagram1 again_past
undelivered_again = undelivered-by (codes "b") datagram1 in1 Seen again_past found_again
    (ap (verdict_over 64 (1 ∷ [])) (datagram_number in1 out1 1)) seen-fresh

abbrev h6 : List Act
h6 =
    acts.Drop (codes "b") why.Seen ∷ acts.Arrived (codes "b") datagram1 ∷ acts.Took 17 ∷ acts.Gave (codes "b") (codes "in/1") 1 p
    ∷ acts.Arrived (codes "b") datagram1 ∷ acts.Took 16 ∷ acts.Sent (codes "a") (codes "out/1") 1 datagram1 ∷ acts.Let (codes "a") p
    ∷ acts.Took 15 ∷ h5

lawful6 : IsLawful gateways h6
lawful6 = (
  (refl, genuine_again, undelivered_again, λ e. absurd (no e)),
  (refl, (refl, ((refl, genuine1, delivers1), (refl, (refl, ((refl, sends1), (refl, (refl, lawful5)))))))),
)

abbrev h7 : List Act
h7 =
    acts.Took 20 ∷ acts.Order (codes "a") 1 4 (asks.Put out2)
    ∷ acts.Answered (codes "b") 1 3 (record { status = 201; tag = None; names = [] }) ∷ acts.Took 19
    ∷ acts.Handled (codes "b") 1 3 (record { status = 201; tag = None; names = [] }) ∷ acts.Put (codes "b") in2 ∷ acts.Took 18
    ∷ acts.Order (codes "b") 1 3 (asks.Put in2) ∷ h6

lawful7 : IsLawful gateways h7
lawful7 = (
  refl,
  (
    (
      refl,
      refl,
      refl,
      refl,
      inr (record {
        serial = codes "2";
        name = refl;
        once = refl;
        inbound = in2;
        order = refl;
        key =
            refl;
        spi = refl;
        selector = refl;
        local = refl;
        remote = refl;
        elsewhere = refl;
        made = refl;
        stays = refl;
      }),
    ),
    (
      (refl, refl, refl, refl, refl),
      (
        refl,
        (
          (refl, refl, (asks.Put in2, refl, (refl, refl))),
          (
            (refl, refl),
            (
              refl,
              ((refl, refl, refl, refl, inl (record { name = two_is; few = few2; spi = refl; key = refl; ends = (refl, refl) })), lawful6),
            ),
          ),
        ),
      ),
    ),
  ),
)

abbrev h8 : List Act
h8 =
    acts.Took 23 ∷ acts.Cut (codes "a") 1 ∷ acts.Took 22 ∷ acts.Order (codes "a") 1 5 (asks.Remove (codes "out/1"))
    ∷ acts.Answered (codes "a") 1 4 (record { status = 201; tag = None; names = [] }) ∷ acts.Took 21
    ∷ acts.Handled (codes "a") 1 4 (record { status = 201; tag = None; names = [] }) ∷ acts.Put (codes "a") out2 ∷ h7

lawful8 : IsLawful gateways h8
lawful8 = (
  refl,
  (
    (refl, refl, refl),
    (
      refl,
      (
        (refl, refl, refl, refl, inr (record { serial = codes "1"; name = refl; order = refl; here = refl })),
        ((refl, refl, refl, refl, refl), (refl, ((refl, refl, (asks.Put out2, refl, (refl, refl))), ((refl, refl), lawful7)))),
      ),
    ),
  ),
)

abbrev h9 : List Act
h9 =
    acts.Took 26 ∷ acts.Handled (codes "a") 2 1 (record { status = 200; tag = None; names = codes "out/2" ∷ [] }) ∷ acts.Took 25
    ∷ acts.Order (codes "a") 2 1 (asks.Read) ∷ acts.Opened (codes "a") 2 ∷ acts.Took 24
    ∷ acts.Handled (codes "a") 1 5 (record { status = 204; tag = None; names = [] })
    ∷ acts.Gone (codes "a") (codes "out/1") gone.Removed ∷ h8

lawful9 : IsLawful gateways h9
lawful9 = (
  refl,
  (
    (refl, refl, (asks.Read, refl, (refl, tt))),
    (
      refl,
      (
        (refl, refl, refl, refl, tt),
        ((refl, refl), (refl, ((refl, refl, (asks.Remove (codes "out/1"), refl, (refl, refl))), ((refl, refl), lawful8)))),
      ),
    ),
  ),
)

abbrev h10 : List Act
h10 =
    acts.Took 29 ∷ acts.Order (codes "b") 1 4 (asks.Remove (codes "in/1"))
    ∷ acts.Answered (codes "a") 2 2 (record { status = 404; tag = None; names = [] }) ∷ acts.Took 28
    ∷ acts.Handled (codes "a") 2 2 (record { status = 404; tag = None; names = [] }) ∷ acts.Took 27
    ∷ acts.Order (codes "a") 2 2 (asks.Remove (codes "out/1"))
    ∷ acts.Answered (codes "a") 2 1 (record { status = 200; tag = None; names = codes "out/2" ∷ [] }) ∷ h9

lawful10 : IsLawful gateways h10
lawful10 = (
  refl,
  (
    (refl, refl, refl, refl, inl (record { serial = codes "1"; name = refl; order = refl; here = refl; last = inr refl })),
    (
      (refl, refl, refl, refl, refl),
      (
        refl,
        (
          (refl, refl, (asks.Remove (codes "out/1"), refl, (refl, refl))),
          (
            refl,
            (
              (refl, refl, refl, refl, inr (record { serial = codes "1"; name = refl; order = refl; here = refl })),
              ((refl, refl, refl, refl, refl), lawful9),
            ),
          ),
        ),
      ),
    ),
  ),
)

abbrev h11 : List Act
h11 =
    acts.Boot (codes "b") ∷ acts.Took 31 ∷ acts.Answered (codes "b") 1 4 (record { status = 204; tag = None; names = [] }) ∷ acts.Took 30
    ∷ acts.Handled (codes "b") 1 4 (record { status = 204; tag = None; names = [] }) ∷ acts.Gone (codes "b") (codes "in/1") gone.Removed
    ∷ h10

lawful11 : IsLawful gateways h11
lawful11 = (
  refl,
  (
    refl,
    ((refl, refl, refl, refl, refl), (refl, ((refl, refl, (asks.Remove (codes "in/1"), refl, (refl, refl))), ((refl, refl), lawful10)))),
  ),
)

abbrev sent_past2 : List Act
sent_past2 = acts.Took 32 ∷ h11

sends2 : Sends (codes "a") (codes "out/2") 1 p datagram2 sent_past2
sends2 = record {
  half = out2;
  put = refl;
  live = refl;
  outbound = refl;
  packet = p_packet;
  view = p_view;
  holds = p_leaves;
  number = refl;
  small = omega arith;
  sealed = datagram_esp out2;
}

abbrev lost_past : List Act
lost_past = acts.Took 33 ∷ acts.Sent (codes "a") (codes "out/2") 1 datagram2 ∷ acts.Let (codes "a") p ∷ acts.Took 32 ∷ h11

found2 : by_spi (spi_of (esp_of datagram2)) (live (codes "b") lost_past) ≡ None
found2 = ap (λ (z : ℕ). by_spi z (live (codes "b") lost_past)) (datagram_spi out2 (omega arith))

genuine2 : IsGenuine gateways (codes "b") datagram2 lost_past
genuine2 = genuine-none (codes "b") datagram2 lost_past found2

undelivered2 : IsUndelivered gateways (codes "b") datagram2 lost_past
undelivered2 = undelivered-none (codes "b") datagram2 lost_past found2

abbrev h12 : List Act
h12 =
    acts.Drop (codes "b") why.BadSpi ∷ acts.Arrived (codes "b") datagram2 ∷ acts.Took 33 ∷ acts.Sent (codes "a") (codes "out/2") 1 datagram2
    ∷ acts.Let (codes "a") p ∷ acts.Took 32 ∷ h11

lawful12 : IsLawful gateways h12
lawful12 = ((refl, genuine2, undelivered2, λ e. absurd (no e)), (refl, (refl, ((refl, sends2), (refl, (refl, lawful11))))))

-- It is whole. After it the outbound half of the second association stands at its gateway, and the inbound one lapsed.
pub shown : IsLawful gateways h12 × IsWhole gateways h12 × (live (codes "a") h12 ≡ out2 ∷ [])
    × (is_live (codes "b") (codes "in/2") h12 ≡ false) × (is_lapsed (codes "b") (codes "in/2") h12 ≡ true)
shown = (lawful12, refl, refl, refl, refl)

-- ## what must be given, and histories that are not safe, part by part

-- the datagram that was sent, as it comes to its gateway: it must be given
must1 : MustGive gateways (codes "b") datagram1 (codes "1") p in1 arrived_past
must1 = record {
  here = refl;
  packet = outer_view outer (sealed_in out1);
  view = datagram_view out1;
  proto = refl;
  own = refl;
  sender = codes "a";
  number = 1;
  unchanged = let e = name-self (esp_of datagram1) in rw e refl;
  put = refl;
  fresh = ap (verdict_over 64 []) (datagram_number in1 out1 0);
  stays = refl;
  whole = refl;
}

abbrev is_drop : Act → Bool
is_drop (acts.Drop g w) = true
is_drop _ = false

-- it is dropped, and it is left without its answer
unsafe-dropped : Safe gateways (acts.Drop (codes "b") why.Seen ∷ acts.Arrived (codes "b") datagram1 ∷ arrived_past) → ⊥
unsafe-dropped s = no (sym (ap is_drop (s.4 (codes "1") p in1 must1)))

unsafe-unanswered : IsLastSafe gateways (acts.Arrived (codes "b") datagram1 ∷ arrived_past) → ⊥
unsafe-unanswered f = f (codes "1") p in1 must1

p_first : first_entry list Out p_packet ≡ Some (record {
  name = codes "o1";
  direction = Out;
  reqid = 10;
  action = Protect;
  selector =
      chosen;
  window = 64;
})
unfolding holds_packet
p_first = refl

ok-is : (a b : Packet) → ◌≡◌ {A = Result Packet NotPacket} (Ok a) (Ok b) → a ≡ b
ok-is a b e = cc

protect-bypass : Protect ≡ Bypass → ⊥
protect-bypass e = grind arith

-- a packet that a protect entry holds leaves in clear
unsafe-clear : Safe gateways (acts.Clear (codes "a") p ∷ acts.Let (codes "a") p ∷ h5) → ⊥
unsafe-clear s =
    let b = s.0.bypass in
    let v : p_packet ≡ b.packet = ok-is p_packet b.packet (sym p_view ∙ b.view) in
    let f : first_entry list Out p_packet ≡ Some b.entry = subst (λ z. first_entry list Out z ≡ Some b.entry) (sym v) b.first in
    let e : record { name = codes "o1"; direction = Out; reqid = 10; action = Protect; selector = chosen; window = 64 } ≡ b.entry =
    some-is _ b.entry (sym p_first ∙ f) in
    protect-bypass (ap (λ (z : SpdEntry). z.action) e ∙ b.action)

-- one AES key and one IV seal twice
unsafe-twice : Safe gateways (acts.Sent (codes "a") (codes "out/1") 1 datagram1 ∷ arrived_past) → ⊥
unsafe-twice s =
    let n = name-self (iv_of (esp_of datagram1)) in
    let e : was_sealed (aes_in (put_of (codes "a") (codes "out/1") arrived_past)) (iv_of (esp_of datagram1)) arrived_past ≡ true =
    rw n refl in
    no (sym s.1 ∙ e)

-- a packet is given that nobody sent, and one datagram is given twice
unsafe-unsent : Safe gateways (acts.Gave (codes "b") (codes "in/1") 1 p ∷ acts.Arrived (codes "b") datagram1 ∷ h5) → ⊥
unsafe-unsent s = no s.2.before

unsafe-given-twice : Safe gateways (acts.Gave (codes "b") (codes "in/1") 1 p ∷ acts.Arrived (codes "b") datagram1 ∷ again_past) → ⊥
unsafe-given-twice s = no (sym s.2.first)

-- a datagram leaves whose inbound half was never installed
unsafe-sent : Safe gateways (acts.Sent (codes "a") (codes "out/1") 1 datagram1 ∷ h2) → ⊥
unsafe-sent s = no s.3.0
