-- A packet is sealed at one gateway, and what arrives is given at the other.
use Rattle.std.proofs.Common.{◌≡◌, List, [], ◌∷◌, ◌++◌, codes, refl}
use Rattle.ip_packet.specs.Ipv6.{upper_of}
use Rattle.ip_packet.specs.View.{view_of}
use Rattle.esp_frame.specs.Open.{inner_packet}
use Rattle.spd_match.specs.Match.{holds_packet}
use Rattle.hist_acts.specs.declared.act.Act.{Act}
use Rattle.hist_acts.specs.declared.act.Act.TheVariants as acts
use Rattle.hist_acts.specs.declared.event.Event.{Event}
use Rattle.hist_acts.specs.declared.event.Event.TheVariants as events
use Rattle.hist_acts.specs.Past.{after}
use Rattle.hist_gateway.specs.Let.{let_acts}
use Rattle.hist_world.specs.Block.{Past, Shows, history, nothing}
use Rattle.hist_world.proofs.Goes.{Goes, and-then, quiet}
use Rattle.hist_world.proofs.Shown.{a, b, behind_a, behind_b, in1, out1, packet_6, sent, two, greatest}
use Rattle.hist_world.proofs.ShownDatagrams.{carries1, gives, was-sealed}
use Rattle.hist_world.proofs.ShownSetup.{after_second_outbound, keyed, keyed_acts, keyed-goes}

-- a packet comes from inside, and leaves under out/1
abbrev pub let_in : List Event
let_in =
    events.Let a packet_6 ∷ []

abbrev pub let_in_acts : List Act
let_in_acts =
    acts.Took 24 ∷ acts.Let a packet_6 ∷ acts.Sent a (codes "out/1") 1 (sent out1 1) ∷ []

abbrev pub after_let_in : Past
after_let_in = record { world = after after_second_outbound.world let_in_acts; controller = after_second_outbound.controller }

pub let_in-goes : (shows : Shows) → Goes shows (two greatest) after_second_outbound let_in let_in_acts after_let_in
unfolding let_acts view_of upper_of holds_packet packet_6 behind_a behind_b
let_in-goes shows = record { acts = refl; past = refl; genuine = quiet shows (two greatest) after_second_outbound let_in refl }

-- its datagram comes to the other gateway
abbrev pub given : List Event
given = events.ArriveSent b 1 ∷ []

abbrev pub given_acts : List Act
given_acts =
    acts.Took 25 ∷ acts.Arrived b (sent out1 1) ∷ acts.Gave b (codes "in/1") 1 packet_6 ∷ []

abbrev pub after_given : Past
after_given = record { world = after after_let_in.world given_acts; controller = after_let_in.controller }

pub given-goes : (shows : Shows) → Goes shows (two greatest) after_let_in given given_acts after_given
unfolding view_of upper_of holds_packet inner_packet packet_6 behind_a behind_b
given-goes shows =
    gives shows after_let_in (events.ArriveSent b 1) (sent out1 1) out1 in1 1 (acts.Gave b (codes "in/1") 1 packet_6 ∷ [])
    (record { acts = refl; none = refl; test = refl }) carries1
    (record {
      found = refl;
      key = refl;
      sealed = was-sealed out1 1 1 (sent out1 1) (codes "out/1") a (acts.Let a packet_6 ∷ acts.Took 24
          ∷ after_second_outbound.world) carries1;
    }) refl refl

-- ---- up to the packet, and up to its arrival
abbrev pub carried : List Event
carried = keyed ++ let_in

abbrev pub carried_acts : List Act
carried_acts = keyed_acts ++ let_in_acts

pub carried-goes : (shows : Shows) → Goes shows (two greatest) nothing carried carried_acts after_let_in
carried-goes shows = and-then (keyed-goes shows greatest) (let_in-goes shows)

abbrev pub delivered : List Event
delivered = carried ++ given

abbrev pub delivered_acts : List Act
delivered_acts = carried_acts ++ given_acts

pub delivered-goes : (shows : Shows) → Goes shows (two greatest) nothing delivered delivered_acts after_given
delivered-goes shows = and-then (carried-goes shows) (given-goes shows)

-- a tunnel between two gateways is keyed, and a packet is carried through it
pub shown-delivered : (shows : Shows) → history shows (two greatest) nothing delivered ≡ delivered_acts
shown-delivered shows = (delivered-goes shows).acts
