-- An expiry is heard, and the tunnel is rekeyed: the new association stands before the old one is removed, and no packet is lost.
use Rattle.std.proofs.Common.{◌≡◌, true, List, [], ◌∷◌, ◌++◌, codes, refl}
use Rattle.std.specs.Fmt.{digits}
use Rattle.ip_packet.specs.Ipv6.{upper_of}
use Rattle.ip_packet.specs.Outer.{outer_header}
use Rattle.ip_packet.specs.View.{view_of}
use Rattle.ikeless_tree.specs.declared.order.Notice.TheVariants as notices
use Rattle.ikeless_tree.specs.declared.order.Order.TheVariants as asks
use Rattle.ikeless_tree.specs.declared.ends.GoneWhy.TheVariants as gone
use Rattle.ikeless_tree.specs.Half.{in_name, out_name}
use Rattle.reply_table.specs.Reply.{reply}
use Rattle.gcm_seal.specs.Gcm.{sealed, tag_of}
use Rattle.esp_frame.specs.Esp.{esp, keying}
use Rattle.esp_frame.specs.Open.{inner_packet}
use Rattle.spd_match.specs.Match.{holds_packet}
use Rattle.hist_acts.specs.declared.act.Act.{Act}
use Rattle.hist_acts.specs.declared.act.Act.TheVariants as acts
use Rattle.hist_acts.specs.declared.event.Event.{Event}
use Rattle.hist_acts.specs.declared.event.Event.TheVariants as events
use Rattle.hist_acts.specs.Past.{after}
use Rattle.hist_gateway.specs.Datagram.{datagram}
use Rattle.hist_gateway.specs.Let.{let_acts}
use Rattle.hist_controller.specs.Acts as own
use Rattle.hist_world.specs.Block.{Past, Shows, history, nothing}
use Rattle.hist_world.proofs.Goes.{Goes, and-then, quiet}
use Rattle.hist_world.proofs.Shown.{a, association3, b, behind_a, behind_b, in1, in3, key1, key2, key3, limits, out1, out3, packet_6, plain, sent, two, greatest}
use Rattle.hist_world.proofs.ShownDatagrams.{carries2, carries3, gives, was-sealed}
use Rattle.hist_world.proofs.ShownPacket.{after_given, delivered, delivered_acts, delivered-goes}

-- all four halves reach their hour, and what the first receiver tells is heard
abbrev pub expired : List Event
expired =
    events.Keys key3 ∷ events.Now 3600 ∷ events.Note b ∷ events.Down b ∷ events.Up b ∷ []

abbrev pub expired_acts : List Act
expired_acts =
    acts.Took 26
    ∷ acts.Took 27 ∷ acts.Now 3600 ∷ acts.Notice a 1 (notices.Expire (codes "in/2") true (limits 3600 0 0 3600))
    ∷ acts.Notice a 1 (notices.Expire (codes "out/1") true (limits 3600 88 1 3600))
    ∷ acts.Notice b 1 (notices.Expire (codes "in/1") true (limits 3600 88 1 3600))
    ∷ acts.Notice b 1 (notices.Expire (codes "out/2") true (limits 3600 0 0 3600))
    ∷ acts.Took 28 ∷ acts.Heard b 1 (notices.Expire (codes "in/1") true (limits 3600 88 1 3600))
    ∷ acts.Order b 1 5 (asks.Put in3)
    ∷ acts.Took 29 ∷ acts.Put b in3 ∷ acts.Handled b 1 5 (plain 201)
    ∷ acts.Took 30 ∷ acts.Answered b 1 5 (plain 201) ∷ acts.Order a 1 5 (asks.Put out3) ∷ []

abbrev pub expired_own : List own.ControllerAct
expired_own =
    own.Accepted (own.Keys key3)
    ∷ own.Heard 1 1 (notices.Expire (codes "in/1") true (limits 3600 88 1 3600)) ∷ own.Ordered 1 1 5 (own.PutIn association3)
    ∷ own.Answered 1 1 5 (plain 201) ∷ own.Ordered 0 1 5 (own.PutOut association3) ∷ []

abbrev pub after_expired : Past
after_expired = record { world = after after_given.world expired_acts; controller = after after_given.controller expired_own }

pub expired-goes : (shows : Shows) → Goes shows (two greatest) after_given expired expired_acts after_expired
unfolding reply in_name out_name digits key1 key2 key3 view_of datagram outer_header esp sealed tag_of keying packet_6
expired-goes shows = record { acts = refl; past = refl; genuine = quiet shows (two greatest) after_given expired refl }

-- a packet leaves under the old half, and the next one, after the new half stands, under that
abbrev pub old_sent : List Event
old_sent =
    events.Let a packet_6 ∷ []

abbrev pub old_sent_acts : List Act
old_sent_acts =
    acts.Took 31 ∷ acts.Let a packet_6 ∷ acts.Sent a (codes "out/1") 2 (sent out1 2) ∷ []

abbrev pub after_old_sent : Past
after_old_sent = record { world = after after_expired.world old_sent_acts; controller = after_expired.controller }

pub old_sent-goes : (shows : Shows) → Goes shows (two greatest) after_expired old_sent old_sent_acts after_old_sent
unfolding let_acts view_of upper_of holds_packet packet_6 behind_a behind_b
old_sent-goes shows = record { acts = refl; past = refl; genuine = quiet shows (two greatest) after_expired old_sent refl }

abbrev pub renewed : List Event
renewed =
    events.Down a ∷ []

abbrev pub renewed_acts : List Act
renewed_acts =
    acts.Took 32 ∷ acts.Put a out3 ∷ acts.Handled a 1 5 (plain 201) ∷ []

abbrev pub after_renewed : Past
after_renewed = record { world = after after_old_sent.world renewed_acts; controller = after_old_sent.controller }

pub renewed-goes : (shows : Shows) → Goes shows (two greatest) after_old_sent renewed renewed_acts after_renewed
unfolding reply in_name out_name digits
renewed-goes shows = record { acts = refl; past = refl; genuine = quiet shows (two greatest) after_old_sent renewed refl }

abbrev pub new_sent : List Event
new_sent =
    events.Let a packet_6 ∷ []

abbrev pub new_sent_acts : List Act
new_sent_acts =
    acts.Took 33 ∷ acts.Let a packet_6 ∷ acts.Sent a (codes "out/3") 1 (sent out3 1) ∷ []

abbrev pub after_new_sent : Past
after_new_sent = record { world = after after_renewed.world new_sent_acts; controller = after_renewed.controller }

pub new_sent-goes : (shows : Shows) → Goes shows (two greatest) after_renewed new_sent new_sent_acts after_new_sent
unfolding let_acts view_of upper_of holds_packet packet_6 behind_a behind_b
new_sent-goes shows = record { acts = refl; past = refl; genuine = quiet shows (two greatest) after_renewed new_sent refl }

-- the old outbound half is ordered removed
abbrev pub retired : List Event
retired =
    events.Up a ∷ []

abbrev pub retired_acts : List Act
retired_acts =
    acts.Took 34 ∷ acts.Answered a 1 5 (plain 201) ∷ acts.Order a 1 6 (asks.Remove (codes "out/1")) ∷ []

abbrev pub retired_own : List own.ControllerAct
retired_own =
    own.Answered 0 1 5 (plain 201) ∷ own.Ordered 0 1 6 (own.RemoveOut 1) ∷ []

abbrev pub after_retired : Past
after_retired = record { world = after after_new_sent.world retired_acts; controller = after after_new_sent.controller retired_own }

pub retired-goes : (shows : Shows) → Goes shows (two greatest) after_new_sent retired retired_acts after_retired
unfolding reply in_name out_name digits
retired-goes shows = record { acts = refl; past = refl; genuine = quiet shows (two greatest) after_new_sent retired refl }

-- both are given, also the one under the old half, which comes late
abbrev pub new_given : List Event
new_given = events.ArriveSent b 3 ∷ []

abbrev pub new_given_acts : List Act
new_given_acts =
    acts.Took 35 ∷ acts.Arrived b (sent out3 1) ∷ acts.Gave b (codes "in/3") 1 packet_6 ∷ []

abbrev pub after_new_given : Past
after_new_given = record { world = after after_retired.world new_given_acts; controller = after_retired.controller }

pub new_given-goes : (shows : Shows) → Goes shows (two greatest) after_retired new_given new_given_acts after_new_given
unfolding view_of upper_of holds_packet inner_packet packet_6 behind_a behind_b
new_given-goes shows =
    gives shows after_retired (events.ArriveSent b 3) (sent out3 1) out3 in3 1 (acts.Gave b (codes "in/3") 1 packet_6 ∷ [])
    (record { acts = refl; none = refl; test = refl }) carries3
    (record {
      found = refl;
      key = refl;
      sealed = was-sealed out3 1 1 (sent out3 1) (codes "out/3") a (acts.Let a packet_6 ∷ acts.Took 33
          ∷ after_renewed.world) carries3;
    }) refl refl

abbrev pub old_given : List Event
old_given = events.ArriveSent b 2 ∷ []

abbrev pub old_given_acts : List Act
old_given_acts =
    acts.Took 36 ∷ acts.Arrived b (sent out1 2) ∷ acts.Gave b (codes "in/1") 2 packet_6 ∷ []

abbrev pub after_old_given : Past
after_old_given = record { world = after after_new_given.world old_given_acts; controller = after_new_given.controller }

pub old_given-goes : (shows : Shows) → Goes shows (two greatest) after_new_given old_given old_given_acts after_old_given
unfolding view_of upper_of holds_packet inner_packet packet_6 behind_a behind_b
old_given-goes shows =
    gives shows after_new_given (events.ArriveSent b 2) (sent out1 2) out1 in1 2 (acts.Gave b (codes "in/1") 2 packet_6 ∷ [])
    (record { acts = refl; none = refl; test = refl }) carries2
    (record {
      found = refl;
      key = refl;
      sealed = was-sealed out1 2 2 (sent out1 2) (codes "out/1") a (acts.Let a packet_6 ∷ acts.Took 31
          ∷ after_expired.world) carries2;
    }) refl refl

-- the old halves are removed, the outbound one first
abbrev pub removed : List Event
removed =
    events.Down a ∷ events.Up a ∷ events.Down b ∷ events.Up b ∷ []

abbrev pub removed_acts : List Act
removed_acts =
    acts.Took 37 ∷ acts.Gone a (codes "out/1") gone.Removed ∷ acts.Handled a 1 6 (plain 204)
    ∷ acts.Took 38 ∷ acts.Answered a 1 6 (plain 204) ∷ acts.Order b 1 6 (asks.Remove (codes "in/1"))
    ∷ acts.Took 39 ∷ acts.Gone b (codes "in/1") gone.Removed ∷ acts.Handled b 1 6 (plain 204)
    ∷ acts.Took 40 ∷ acts.Answered b 1 6 (plain 204) ∷ []

abbrev pub removed_own : List own.ControllerAct
removed_own =
    own.Answered 0 1 6 (plain 204) ∷ own.Ordered 1 1 6 (own.RemoveIn 1)
    ∷ own.Answered 1 1 6 (plain 204) ∷ []

abbrev pub after_removed : Past
after_removed = record { world = after after_old_given.world removed_acts; controller = after after_old_given.controller removed_own }

pub removed-goes : (shows : Shows) → Goes shows (two greatest) after_old_given removed removed_acts after_removed
unfolding reply in_name out_name digits
removed-goes shows = record { acts = refl; past = refl; genuine = quiet shows (two greatest) after_old_given removed refl }

abbrev pub rekeyed : List Event
rekeyed = delivered ++ expired ++ old_sent ++ renewed ++ new_sent ++ retired ++ new_given ++ old_given ++ removed

abbrev pub rekeyed_acts : List Act
rekeyed_acts = delivered_acts ++ expired_acts ++ old_sent_acts ++ renewed_acts ++ new_sent_acts ++ retired_acts ++ new_given_acts
    ++ old_given_acts ++ removed_acts

pub rekeyed-goes : (shows : Shows) → Goes shows (two greatest) nothing rekeyed rekeyed_acts after_removed
rekeyed-goes shows =
    let upto_expired = and-then (delivered-goes shows) (expired-goes shows) in
    let upto_old_sent = and-then upto_expired (old_sent-goes shows) in
    let upto_renewed = and-then upto_old_sent (renewed-goes shows) in
    let upto_new_sent = and-then upto_renewed (new_sent-goes shows) in
    let upto_retired = and-then upto_new_sent (retired-goes shows) in
    let upto_new_given = and-then upto_retired (new_given-goes shows) in
    let upto_old_given = and-then upto_new_given (old_given-goes shows) in
    and-then upto_old_given (removed-goes shows)

pub shown-rekeyed : (shows : Shows) → history shows (two greatest) nothing rekeyed ≡ rekeyed_acts
shown-rekeyed shows = (rekeyed-goes shows).acts
