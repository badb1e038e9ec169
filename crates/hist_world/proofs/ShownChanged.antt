-- Datagrams that come changed: in a bit of their tag, in their time to live, in their header; and no octets at all.
use Rattle.std.proofs.Common.{◌≡◌, ℕ, ◌+◌, ◌-◌, ◌==◌, nat_lt, Bool, true, false, List, [], ◌∷◌, ◌++◌, length, Some, None, Ok, codes, refl, ap, arith, if◌then◌else◌}
use Rattle.std.specs.Prelude.{◌/◌, ◌%◌, ◌^◌, slice_index}
use Rattle.ip_packet.specs.Ipv6.{upper_of}
use Rattle.ip_packet.specs.Outer.{outer_header}
use Rattle.ip_packet.specs.Ttl.{with_ttl}
use Rattle.ip_packet.specs.View.{view_of}
use Rattle.ikeless_tree.specs.declared.drops.DropWhy.TheVariants as why
use Rattle.gcm_seal.specs.Gcm.{sealed, tag_of}
use Rattle.esp_frame.specs.Esp.{Keying, aad_of, esp, iv_of, keying, seq_of, spi_of, text_of}
use Rattle.esp_frame.specs.Open.{opened, inner_packet}
use Rattle.esp_frame.proofs.Opens.{opened_none}
use Rattle.spd_match.specs.Match.{holds_packet}
use Rattle.hist_acts.specs.declared.act.Act.{Act}
use Rattle.hist_acts.specs.declared.act.Act.TheVariants as acts
use Rattle.hist_acts.specs.declared.event.Event.{Event}
use Rattle.hist_acts.specs.declared.event.Event.TheVariants as events
use Rattle.hist_acts.specs.Past.{after}
use Rattle.hist_halves.specs.Halves.{live}
use Rattle.hist_halves.specs.Sealed.{by_spi}
use Rattle.hist_gateway.specs.Arrive.{arrive_acts}
use Rattle.hist_gateway.specs.Datagram.{datagram}
use Rattle.hist_world.specs.Arrivals.{flipped, with_bit}
use Rattle.hist_world.specs.Block.{Past, Shows, history, nothing, took}
use Rattle.hist_world.proofs.Goes.{Goes, and-then, answers-text, arrives, genuine-closed}
use Rattle.hist_world.proofs.Shown.{a, b, behind_a, behind_b, in1, out1, packet_6, sent, two, greatest}
use Rattle.hist_world.proofs.ShownDatagrams.{carrier, carries1, gateway_b, gives, octets, own_b, repeats, was-sealed}
use Rattle.hist_world.proofs.ShownSetup.{after_second_outbound}
use Rattle.hist_world.proofs.ShownPacket.{after_let_in, carried, carried_acts, carried-goes}

-- the datagram with the lowest bit of its last octet changed, which is the last one of its tag
abbrev pub tag_changed : List ℕ
tag_changed = flipped 107 0 (sent out1 1)

-- with the time to live 61, and the sum for that
abbrev pub routed_on : List ℕ
routed_on = (69 ∷ 0 ∷ 0 ∷ 108 ∷ 0 ∷ 1 ∷ 64 ∷ 0 ∷ 61 ∷ 50 ∷ 81 ∷ 41 ∷ 192 ∷ 0 ∷ 2 ∷ 1 ∷ 198 ∷ 51 ∷ 100 ∷ 1 ∷ []) ++ octets out1 1

-- with the time to live 65, and the sum that it had
abbrev pub header_changed : List ℕ
header_changed = (69 ∷ 0 ∷ 0 ∷ 108 ∷ 0 ∷ 1 ∷ 64 ∷ 0 ∷ 65 ∷ 50 ∷ 78 ∷ 41 ∷ 192 ∷ 0 ∷ 2 ∷ 1 ∷ 198 ∷ 51 ∷ 100 ∷ 1 ∷ []) ++ octets out1 1

-- ---- a tag that isn't right

bit-differs : (t : ℕ) → with_bit 0 t ≡ t → ⊥
bit-differs t e = by ((t / 2 ^ 0) % 2 == 0) refl e where
  by : (b : Bool) → ((t / 2 ^ 0) % 2 == 0) ≡ b → (if b then t + 2 ^ 0 else t - 2 ^ 0) ≡ t → ⊥
  by true w e = omega (arith, e)
  by false w e = grind (arith, w, e)

abbrev keying1 : Keying
keying1 = keying in1.spi in1.key

abbrev octets_changed : List ℕ
octets_changed = flipped 87 0 (octets out1 1)

-- the tag of all the rest differs from this one in its last octet
closed : opened keying1 octets_changed ≡ None
unfolding esp sealed tag_of keying packet_6
closed =
    opened_none keying1 octets_changed (λ x o.
    bit-differs (slice_index (tag_of keying1.cipher (keying1.salt ++ iv_of octets_changed) (aad_of octets_changed) (text_of octets_changed))
    15)
    (ap (λ (l : List ℕ). slice_index l 15) o.1.1))

changed_view : view_of tag_changed ≡ Ok (carrier octets_changed)
unfolding view_of datagram outer_header esp sealed tag_of packet_6
changed_view = refl

changed_long : nat_lt (length octets_changed) 34 ≡ false
unfolding esp sealed tag_of packet_6
changed_long = refl

changed_spi : spi_of octets_changed ≡ 257
unfolding esp keying
changed_spi = refl

changed_number : seq_of octets_changed ≡ 1
unfolding esp keying
changed_number = refl

-- the datagram with a changed tag is dropped, and takes no number
abbrev pub refused_tag : List Event
refused_tag = events.ArriveFlip b 1 107 0 ∷ []

abbrev pub refused_tag_acts : List Act
refused_tag_acts =
    acts.Took 25 ∷ acts.Arrived b tag_changed ∷ acts.Drop b why.Auth ∷ []

abbrev pub after_refused_tag : Past
after_refused_tag = record { world = after after_let_in.world refused_tag_acts; controller = after_let_in.controller }

pub refused_tag-goes : (shows : Shows) → Goes shows (two greatest) after_let_in refused_tag refused_tag_acts after_refused_tag
refused_tag-goes shows =
    let h : List Act = took after_let_in.world in
    let found : by_spi (spi_of octets_changed) (live b h) ≡ Some in1 = ap (λ (z : ℕ). by_spi z (live b h)) changed_spi in
    let genuine = genuine-closed b own_b h tag_changed (carrier octets_changed) in1 changed_view found closed in
    let answer = answers-text b own_b (acts.Arrived b tag_changed ∷ h) tag_changed (carrier octets_changed) in1 1 None changed_view refl
    changed_long found changed_number refl closed in
    arrives shows (two greatest) after_let_in (events.ArriveFlip b 1 107 0) gateway_b tag_changed (acts.Arrived b tag_changed
    ∷ acts.Drop b why.Auth ∷ []) (record { acts = refl; none = refl; test = refl }) genuine
    (ap (λ z. acts.Arrived b tag_changed ∷ z) answer)

-- so it is given when it comes as it was
abbrev pub given_then : List Event
given_then = events.ArriveSent b 1 ∷ []

abbrev pub given_then_acts : List Act
given_then_acts =
    acts.Took 26 ∷ acts.Arrived b (sent out1 1) ∷ acts.Gave b (codes "in/1") 1 packet_6 ∷ []

abbrev pub after_given_then : Past
after_given_then = record { world = after after_refused_tag.world given_then_acts; controller = after_refused_tag.controller }

pub given_then-goes : (shows : Shows) → Goes shows (two greatest) after_refused_tag given_then given_then_acts after_given_then
unfolding view_of upper_of holds_packet inner_packet packet_6 behind_a behind_b
given_then-goes shows =
    gives shows after_refused_tag (events.ArriveSent b 1) (sent out1 1) out1 in1 1 (acts.Gave b (codes "in/1") 1 packet_6 ∷ [])
    (record { acts = refl; none = refl; test = refl }) carries1
    (record {
      found = refl;
      key = refl;
      sealed = was-sealed out1 1 1 (sent out1 1) (codes "out/1") a (acts.Let a packet_6 ∷ acts.Took 24
          ∷ after_second_outbound.world) carries1;
    }) refl refl

-- and dropped when it comes once more
abbrev pub seen_then : List Event
seen_then = events.ArriveSent b 1 ∷ []

abbrev pub seen_then_acts : List Act
seen_then_acts =
    acts.Took 27 ∷ acts.Arrived b (sent out1 1) ∷ acts.Drop b why.Seen ∷ []

abbrev pub after_seen_then : Past
after_seen_then = record { world = after after_given_then.world seen_then_acts; controller = after_given_then.controller }

pub seen_then-goes : (shows : Shows) → Goes shows (two greatest) after_given_then seen_then seen_then_acts after_seen_then
seen_then-goes shows =
    repeats shows after_given_then (events.ArriveSent b 1) (sent out1 1) out1 in1 1 (record { acts = refl; none = refl; test = refl })
    carries1
    (record {
      found = refl;
      key = refl;
      sealed = was-sealed out1 1 1 (sent out1 1) (codes "out/1") a (acts.Let a packet_6 ∷ acts.Took 24
          ∷ after_second_outbound.world) carries1;
    }) refl

abbrev pub repeated : List Event
repeated = carried ++ refused_tag ++ given_then ++ seen_then

abbrev pub repeated_acts : List Act
repeated_acts = carried_acts ++ refused_tag_acts ++ given_then_acts ++ seen_then_acts

pub repeated-goes : (shows : Shows) → Goes shows (two greatest) nothing repeated repeated_acts after_seen_then
repeated-goes shows =
    let upto_refused_tag = and-then (carried-goes shows) (refused_tag-goes shows) in
    let upto_given_then = and-then upto_refused_tag (given_then-goes shows) in
    and-then upto_given_then (seen_then-goes shows)

pub shown-repeated : (shows : Shows) → history shows (two greatest) nothing repeated ≡ repeated_acts
shown-repeated shows = (repeated-goes shows).acts

-- ---- another time to live

-- routers on the way changed the time to live and the sum alone, and it is given
abbrev pub routed : List Event
routed = events.ArriveTtl b 1 61 ∷ []

abbrev pub routed_acts : List Act
routed_acts =
    acts.Took 25 ∷ acts.Arrived b routed_on ∷ acts.Gave b (codes "in/1") 1 packet_6 ∷ []

abbrev pub after_routed : Past
after_routed = record { world = after after_let_in.world routed_acts; controller = after_let_in.controller }

pub routed-goes : (shows : Shows) → Goes shows (two greatest) after_let_in routed routed_acts after_routed
unfolding with_ttl view_of datagram outer_header esp sealed tag_of keying packet_6 upper_of holds_packet inner_packet behind_a behind_b
routed-goes shows =
    gives shows after_let_in (events.ArriveTtl b 1 61) routed_on out1 in1 1 (acts.Gave b (codes "in/1") 1 packet_6 ∷ [])
    (record { acts = refl; none = refl; test = refl }) (record { view = refl; long = refl; spi = refl; number = refl })
    (record {
      found = refl;
      key = refl;
      sealed = was-sealed out1 1 1 (sent out1 1) (codes "out/1") a (acts.Let a packet_6 ∷ acts.Took 24
          ∷ after_second_outbound.world) carries1;
    }) refl refl

abbrev pub on_the_way : List Event
on_the_way = carried ++ routed

abbrev pub on_the_way_acts : List Act
on_the_way_acts = carried_acts ++ routed_acts

pub on_the_way-goes : (shows : Shows) → Goes shows (two greatest) nothing on_the_way on_the_way_acts after_routed
on_the_way-goes shows = and-then (carried-goes shows) (routed-goes shows)

pub shown-on_the_way : (shows : Shows) → history shows (two greatest) nothing on_the_way ≡ on_the_way_acts
shown-on_the_way shows = (on_the_way-goes shows).acts

-- ---- no packet

-- a header whose sum isn't right, and the second datagram, where one was sent
abbrev pub no_packets : List Event
no_packets = events.ArriveFlip b 1 8 0 ∷ events.ArriveSent b 2 ∷ []

abbrev pub no_packets_acts : List Act
no_packets_acts =
    acts.Took 25 ∷ acts.Arrived b header_changed ∷ acts.Drop b why.Malformed
    ∷ acts.Took 26 ∷ acts.Arrived b [] ∷ acts.Drop b why.Malformed ∷ []

abbrev pub after_no_packets : Past
after_no_packets = record { world = after after_let_in.world no_packets_acts; controller = after_let_in.controller }

pub no_packets-goes : (shows : Shows) → Goes shows (two greatest) after_let_in no_packets no_packets_acts after_no_packets
unfolding view_of datagram outer_header esp sealed tag_of keying packet_6 arrive_acts
no_packets-goes shows = record { acts = refl; past = refl; genuine = (refl, (refl, tt)) }

abbrev pub malformed : List Event
malformed = carried ++ no_packets

abbrev pub malformed_acts : List Act
malformed_acts = carried_acts ++ no_packets_acts

pub malformed-goes : (shows : Shows) → Goes shows (two greatest) nothing malformed malformed_acts after_no_packets
malformed-goes shows = and-then (carried-goes shows) (no_packets-goes shows)

pub shown-malformed : (shows : Shows) → history shows (two greatest) nothing malformed ≡ malformed_acts
shown-malformed shows = (malformed-goes shows).acts
