-- A half sends its last number: the packets after it are dropped, and the overflow is told once.
use Rattle.std.proofs.Common.{◌≡◌, List, [], ◌∷◌, ◌++◌, codes, refl}
use Rattle.ip_packet.specs.Ipv6.{upper_of}
use Rattle.ip_packet.specs.View.{view_of}
use Rattle.ikeless_tree.specs.declared.order.Notice.TheVariants as notices
use Rattle.ikeless_tree.specs.declared.drops.DropWhy.TheVariants as why
use Rattle.spd_match.specs.Match.{holds_packet}
use Rattle.hist_acts.specs.declared.act.Act.{Act}
use Rattle.hist_acts.specs.declared.act.Act.TheVariants as acts
use Rattle.hist_acts.specs.declared.event.Event.{Event}
use Rattle.hist_acts.specs.declared.event.Event.TheVariants as events
use Rattle.hist_acts.specs.Past.{after}
use Rattle.hist_gateway.specs.Let.{let_acts}
use Rattle.hist_world.specs.Block.{Past, Shows, history, nothing}
use Rattle.hist_world.proofs.Goes.{Goes, and-then, quiet}
use Rattle.hist_world.proofs.Shown.{a, behind_a, behind_b, out1, packet_6, sent, two}
use Rattle.hist_world.proofs.ShownSetup.{after_second_outbound, keyed, keyed_acts, keyed-goes}

-- five packets, where a half may send three
abbrev pub spent : List Event
spent =
    events.Let a packet_6 ∷ events.Let a packet_6 ∷ events.Let a packet_6 ∷ events.Let a packet_6 ∷ events.Let a packet_6 ∷ []

abbrev pub spent_acts : List Act
spent_acts =
    acts.Took 24 ∷ acts.Let a packet_6 ∷ acts.Sent a (codes "out/1") 1 (sent out1 1)
    ∷ acts.Took 25 ∷ acts.Let a packet_6 ∷ acts.Sent a (codes "out/1") 2 (sent out1 2)
    ∷ acts.Took 26 ∷ acts.Let a packet_6 ∷ acts.Sent a (codes "out/1") 3 (sent out1 3)
    ∷ acts.Took 27 ∷ acts.Let a packet_6 ∷ acts.Drop a why.SeqLimit ∷ acts.Notice a 1 (notices.SeqOverflow (codes "out/1"))
    ∷ acts.Took 28 ∷ acts.Let a packet_6 ∷ acts.Drop a why.SeqLimit ∷ []

abbrev pub after_spent : Past
after_spent = record { world = after after_second_outbound.world spent_acts; controller = after_second_outbound.controller }

pub spent-goes : (shows : Shows) → Goes shows (two 3) after_second_outbound spent spent_acts after_spent
unfolding let_acts view_of upper_of holds_packet packet_6 behind_a behind_b
spent-goes shows = record { acts = refl; past = refl; genuine = quiet shows (two 3) after_second_outbound spent refl }

abbrev pub overflown : List Event
overflown = keyed ++ spent

abbrev pub overflown_acts : List Act
overflown_acts = keyed_acts ++ spent_acts

pub overflown-goes : (shows : Shows) → Goes shows (two 3) nothing overflown overflown_acts after_spent
overflown-goes shows = and-then (keyed-goes shows 3) (spent-goes shows)

pub shown-overflown : (shows : Shows) → history shows (two 3) nothing overflown ≡ overflown_acts
shown-overflown shows = (overflown-goes shows).acts
