-- A datagram that opens comes before it was sent: it is forged, and nothing is said of what happens after it. What comes for another
-- address, or with a number that was taken, is not forged: its tag is not looked at.
use Rattle.std.proofs.Common.{◌≡◌, not, ◌&&◌, ◌∙◌, ℕ, Bool, true, List, [], ◌∷◌, ◌++◌, refl, ap, if◌then◌else◌}
use Rattle.ip_packet.specs.Outer.{outer_header}
use Rattle.ip_packet.specs.View.{view_of}
use Rattle.ikeless_tree.specs.declared.drops.DropWhy.TheVariants as why
use Rattle.gcm_seal.specs.Gcm.{sealed, tag_of}
use Rattle.esp_frame.specs.Esp.{esp, keying, spi_of}
use Rattle.esp_frame.specs.Open.{opened}
use Rattle.hist_acts.specs.declared.act.Act.{Act}
use Rattle.hist_acts.specs.declared.act.Act.TheVariants as acts
use Rattle.hist_acts.specs.declared.event.Event.{Event}
use Rattle.hist_acts.specs.declared.event.Event.TheVariants as events
use Rattle.hist_acts.specs.Past.{after}
use Rattle.hist_halves.specs.Halves.{live}
use Rattle.hist_halves.specs.Sealed.{by_spi, number_from}
use Rattle.hist_gateway.specs.Arrive.{arrive_acts}
use Rattle.hist_gateway.specs.Block as node
use Rattle.hist_gateway.specs.Datagram.{datagram}
use Rattle.spd_match.specs.Match.{holds_packet}
use Rattle.replay_win.specs.Marks.{verdict_over}
use Rattle.hist_world.specs.Arrivals.{does_open, flipped, is_forged, is_fresh, is_half_forged, is_view_forged}
use Rattle.hist_world.specs.Block.{Past, Shows, history, nothing, took}
use Rattle.hist_safety.proofs.Frames.{number-field}
use Rattle.hist_world.proofs.Goes.{Goes, and-then, ends}
use Rattle.hist_world.proofs.Shown.{b, in1, out1, packet_6, sent, two, greatest}
use Rattle.hist_world.proofs.ShownDatagrams.{found-at, opens-at, carries1, gateway_b, octets, own_b}
use Rattle.hist_world.proofs.ShownPacket.{after_given, delivered, delivered_acts, delivered-goes}
use Rattle.hist_world.proofs.ShownSetup.{after_second_outbound, keyed, keyed_acts, keyed-goes}

-- none was sent under out/1, and this one opens under in/1
forged : is_forged b own_b (took after_second_outbound.world) (sent out1 1) ≡ true
forged =
    let h : List Act = took after_second_outbound.world in
    let o : List ℕ = octets out1 1 in
    ap (is_view_forged b own_b h) carries1.view
    ∙ ap (λ (z : Bool). not z && is_half_forged b h o (by_spi (spi_of o) (live b h))) carries1.long
    ∙ ap (is_half_forged b h o) (found-at out1 in1 1 (sent out1 1) h carries1 refl)
    ∙ ap (λ (z : ℕ). is_fresh (verdict_over 64 [] z) && (does_open (opened (keying in1.spi in1.key) o) && true)) (number-field in1 0 o
    ∙ carries1.number)
    ∙ ap (λ z. does_open z && true) (opens-at out1 in1 1 refl)

abbrev pub invented : Event
invented = events.Arrive b (sent out1 1)

abbrev pub invented_acts : List Act
invented_acts =
    acts.Took 24 ∷ acts.Arrived b (sent out1 1) ∷ []

-- whatever events come after it
pub shown-invented : (shows : Shows) (more : List Event) → history shows (two greatest) nothing (keyed ++ invented ∷ more) ≡ keyed_acts
    ++ invented_acts
shown-invented shows more =
    let h : List Act = took after_second_outbound.world in
    let o : List ℕ = sent out1 1 in
    ends invented more invented_acts (keyed-goes shows greatest) forged
    (ap (λ (z : Bool). acts.Took 24 ∷ ((if z then acts.Arrived b o ∷ [] else node.gw_block gateway_b h (node.Arrive o)) ++ [])) forged)

-- ---- and what isn't forged, though it opens and wasn't sent

-- these octets for another address than that of the gateway at which they come
abbrev pub turned : List ℕ
turned = (69 ∷ 0 ∷ 0 ∷ 108 ∷ 0 ∷ 1 ∷ 64 ∷ 0 ∷ 64 ∷ 50 ∷ 78 ∷ 41 ∷ 198 ∷ 51 ∷ 100 ∷ 1 ∷ 192 ∷ 0 ∷ 2 ∷ 1 ∷ []) ++ octets out1 1

abbrev pub elsewhere : List Event
elsewhere = events.Arrive b turned ∷ []

abbrev pub elsewhere_acts : List Act
elsewhere_acts =
    acts.Took 24 ∷ acts.Arrived b turned ∷ acts.Drop b why.NoPolicy ∷ []

abbrev pub after_elsewhere : Past
after_elsewhere = record { world = after after_second_outbound.world elsewhere_acts; controller = after_second_outbound.controller }

pub elsewhere-goes : (shows : Shows) → Goes shows (two greatest) after_second_outbound elsewhere elsewhere_acts after_elsewhere
unfolding view_of esp sealed tag_of keying packet_6 holds_packet arrive_acts
elsewhere-goes shows = record { acts = refl; past = refl; genuine = (refl, tt) }

abbrev pub turned_away : List Event
turned_away = keyed ++ elsewhere

pub shown-turned_away : (shows : Shows) → history shows (two greatest) nothing turned_away ≡ keyed_acts ++ elsewhere_acts
shown-turned_away shows = (and-then (keyed-goes shows greatest) (elsewhere-goes shows)).acts

-- another packet with a number that was taken
abbrev pub late : List ℕ
late = (69 ∷ 0 ∷ 0 ∷ 108 ∷ 0 ∷ 1 ∷ 64 ∷ 0 ∷ 64 ∷ 50 ∷ 78 ∷ 41 ∷ 192 ∷ 0 ∷ 2 ∷ 1 ∷ 198 ∷ 51 ∷ 100 ∷ 1 ∷ [])
    ++ esp (keying out1.spi out1.key) 1 41 (flipped 51 0 packet_6)

abbrev pub too_late : List Event
too_late = events.Arrive b late ∷ []

abbrev pub too_late_acts : List Act
too_late_acts =
    acts.Took 26 ∷ acts.Arrived b late ∷ acts.Drop b why.Seen ∷ []

abbrev pub after_too_late : Past
after_too_late = record { world = after after_given.world too_late_acts; controller = after_given.controller }

pub too_late-goes : (shows : Shows) → Goes shows (two greatest) after_given too_late too_late_acts after_too_late
unfolding view_of datagram outer_header esp sealed tag_of keying packet_6 arrive_acts number_from
too_late-goes shows = record { acts = refl; past = refl; genuine = (refl, tt) }

abbrev pub number_taken : List Event
number_taken = delivered ++ too_late

pub shown-number_taken : (shows : Shows) → history shows (two greatest) nothing number_taken ≡ delivered_acts ++ too_late_acts
shown-number_taken shows = (and-then (delivered-goes shows) (too_late-goes shows)).acts
