-- Both directions expire and one key is left: the one heard first gets it, and the other one the next key that is given.
use Rattle.std.proofs.Common.{◌≡◌, true, List, [], ◌∷◌, ◌++◌, codes, refl}
use Rattle.std.specs.Fmt.{digits}
use Rattle.ip_packet.specs.Outer.{outer_header}
use Rattle.ip_packet.specs.View.{view_of}
use Rattle.ikeless_tree.specs.declared.order.Notice.TheVariants as notices
use Rattle.ikeless_tree.specs.declared.order.Order.TheVariants as asks
use Rattle.ikeless_tree.specs.Half.{in_name, out_name}
use Rattle.reply_table.specs.Reply.{reply}
use Rattle.gcm_seal.specs.Gcm.{sealed, tag_of}
use Rattle.esp_frame.specs.Esp.{esp, keying}
use Rattle.hist_acts.specs.declared.act.Act.{Act}
use Rattle.hist_acts.specs.declared.act.Act.TheVariants as acts
use Rattle.hist_acts.specs.declared.event.Event.{Event}
use Rattle.hist_acts.specs.declared.event.Event.TheVariants as events
use Rattle.hist_acts.specs.Past.{after}
use Rattle.hist_gateway.specs.Datagram.{datagram}
use Rattle.hist_controller.specs.Acts as own
use Rattle.hist_world.specs.Block.{Past, Shows, history, nothing}
use Rattle.hist_world.proofs.Goes.{Goes, and-then, quiet}
use Rattle.hist_world.proofs.Shown.{a, association3, association4, b, in3, in4, key1, key2, key3, key4, limits, packet_6, two, greatest}
use Rattle.hist_world.proofs.ShownPacket.{after_given, delivered, delivered_acts, delivered-goes}

abbrev pub both_expired : List Event
both_expired =
    events.Keys key3 ∷ events.Now 3600 ∷ events.Note b ∷ events.Note b ∷ events.Keys key4 ∷ []

abbrev pub both_expired_acts : List Act
both_expired_acts =
    acts.Took 26
    ∷ acts.Took 27 ∷ acts.Now 3600 ∷ acts.Notice a 1 (notices.Expire (codes "in/2") true (limits 3600 0 0 3600))
    ∷ acts.Notice a 1 (notices.Expire (codes "out/1") true (limits 3600 88 1 3600))
    ∷ acts.Notice b 1 (notices.Expire (codes "in/1") true (limits 3600 88 1 3600))
    ∷ acts.Notice b 1 (notices.Expire (codes "out/2") true (limits 3600 0 0 3600))
    ∷ acts.Took 28 ∷ acts.Heard b 1 (notices.Expire (codes "in/1") true (limits 3600 88 1 3600))
    ∷ acts.Order b 1 5 (asks.Put in3)
    ∷ acts.Took 29 ∷ acts.Heard b 1 (notices.Expire (codes "out/2") true (limits 3600 0 0 3600))
    ∷ acts.Took 30 ∷ acts.Order a 1 5 (asks.Put in4) ∷ []

abbrev pub both_expired_own : List own.ControllerAct
both_expired_own =
    own.Accepted (own.Keys key3)
    ∷ own.Heard 1 1 (notices.Expire (codes "in/1") true (limits 3600 88 1 3600)) ∷ own.Ordered 1 1 5 (own.PutIn association3)
    ∷ own.Heard 1 1 (notices.Expire (codes "out/2") true (limits 3600 0 0 3600))
    ∷ own.Accepted (own.Keys key4) ∷ own.Ordered 0 1 5 (own.PutIn association4) ∷ []

abbrev pub after_both_expired : Past
after_both_expired = record {
  world = after after_given.world both_expired_acts;
  controller =
      after after_given.controller both_expired_own;
}

pub both_expired-goes : (shows : Shows) → Goes shows (two greatest) after_given both_expired both_expired_acts after_both_expired
unfolding reply in_name out_name digits key1 key2 key3 key4 view_of datagram outer_header esp sealed tag_of keying packet_6
both_expired-goes shows = record { acts = refl; past = refl; genuine = quiet shows (two greatest) after_given both_expired refl }

abbrev pub waiting : List Event
waiting = delivered ++ both_expired

abbrev pub waiting_acts : List Act
waiting_acts = delivered_acts ++ both_expired_acts

pub waiting-goes : (shows : Shows) → Goes shows (two greatest) nothing waiting waiting_acts after_both_expired
waiting-goes shows = and-then (delivered-goes shows) (both_expired-goes shows)

pub shown-waiting : (shows : Shows) → history shows (two greatest) nothing waiting ≡ waiting_acts
shown-waiting shows = (waiting-goes shows).acts
