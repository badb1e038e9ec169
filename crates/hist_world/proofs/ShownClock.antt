-- The clock never goes back: a reading below the greatest one so far is told as that, and nothing is looked at.
use Rattle.std.proofs.Common.{◌≡◌, true, List, [], ◌∷◌, ◌++◌, codes, refl}
use Rattle.ip_packet.specs.Outer.{outer_header}
use Rattle.ip_packet.specs.View.{view_of}
use Rattle.ikeless_tree.specs.declared.order.Notice.TheVariants as notices
use Rattle.gcm_seal.specs.Gcm.{sealed, tag_of}
use Rattle.esp_frame.specs.Esp.{esp, keying}
use Rattle.hist_acts.specs.declared.act.Act.{Act}
use Rattle.hist_acts.specs.declared.act.Act.TheVariants as acts
use Rattle.hist_acts.specs.declared.event.Event.{Event}
use Rattle.hist_acts.specs.declared.event.Event.TheVariants as events
use Rattle.hist_acts.specs.Past.{after}
use Rattle.hist_gateway.specs.Datagram.{datagram}
use Rattle.hist_world.specs.Block.{Past, Shows, history, nothing}
use Rattle.hist_world.proofs.Goes.{Goes, and-then, quiet}
use Rattle.hist_world.proofs.Shown.{a, b, limits, packet_6, two, greatest}
use Rattle.hist_world.proofs.ShownPacket.{after_given, delivered, delivered_acts, delivered-goes}

abbrev pub readings : List Event
readings =
    events.Now 3599 ∷ events.Now 3600 ∷ events.Now 3600 ∷ events.Now 3000 ∷ events.Now 3601 ∷ []

abbrev pub readings_acts : List Act
readings_acts =
    acts.Took 26 ∷ acts.Now 3599
    ∷ acts.Took 27 ∷ acts.Now 3600 ∷ acts.Notice a 1 (notices.Expire (codes "in/2") true (limits 3600 0 0 3600))
    ∷ acts.Notice a 1 (notices.Expire (codes "out/1") true (limits 3600 88 1 3600))
    ∷ acts.Notice b 1 (notices.Expire (codes "in/1") true (limits 3600 88 1 3600))
    ∷ acts.Notice b 1 (notices.Expire (codes "out/2") true (limits 3600 0 0 3600))
    ∷ acts.Took 28 ∷ acts.Now 3600
    ∷ acts.Took 29 ∷ acts.Now 3600
    ∷ acts.Took 30 ∷ acts.Now 3601 ∷ []

abbrev pub after_readings : Past
after_readings = record { world = after after_given.world readings_acts; controller = after_given.controller }

pub readings-goes : (shows : Shows) → Goes shows (two greatest) after_given readings readings_acts after_readings
unfolding view_of datagram outer_header esp sealed tag_of keying packet_6
readings-goes shows = record { acts = refl; past = refl; genuine = quiet shows (two greatest) after_given readings refl }

abbrev pub read : List Event
read = delivered ++ readings

abbrev pub read_acts : List Act
read_acts = delivered_acts ++ readings_acts

pub read-goes : (shows : Shows) → Goes shows (two greatest) nothing read read_acts after_readings
read-goes shows = and-then (delivered-goes shows) (readings-goes shows)

pub shown-read : (shows : Shows) → history shows (two greatest) nothing read ≡ read_acts
shown-read shows = (read-goes shows).acts
