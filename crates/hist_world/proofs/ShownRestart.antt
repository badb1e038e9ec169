-- A gateway restarts and has lost its halves: what comes for them is told once in a session, and the reading has the tunnel
-- keyed anew.
use Rattle.std.proofs.Common.{◌≡◌, List, [], ◌∷◌, ◌++◌, refl}
use Rattle.std.specs.Fmt.{digits}
use Rattle.ikeless_tree.specs.declared.order.Notice.TheVariants as notices
use Rattle.ikeless_tree.specs.declared.order.Order.TheVariants as asks
use Rattle.ikeless_tree.specs.declared.drops.DropWhy.TheVariants as why
use Rattle.ikeless_tree.specs.Half.{in_name, out_name}
use Rattle.reply_table.specs.Reply.{reply}
use Rattle.hist_acts.specs.declared.act.Act.{Act}
use Rattle.hist_acts.specs.declared.act.Act.TheVariants as acts
use Rattle.hist_acts.specs.declared.event.Event.{Event}
use Rattle.hist_acts.specs.declared.event.Event.TheVariants as events
use Rattle.hist_acts.specs.Past.{after}
use Rattle.hist_controller.specs.Acts as own
use Rattle.hist_world.specs.Block.{Past, Shows, history, nothing}
use Rattle.hist_world.proofs.Goes.{Goes, and-then, quiet}
use Rattle.hist_world.proofs.Shown.{association3, b, in3, key1, key2, key3, list_b, out1, plain, sent, two, greatest}
use Rattle.hist_world.proofs.ShownDatagrams.{carries1, comes-to-none}
use Rattle.hist_world.proofs.ShownPacket.{after_given, delivered, delivered_acts, delivered-goes}

abbrev pub booted : List Event
booted =
    events.Boot b ∷ []

abbrev pub booted_acts : List Act
booted_acts =
    acts.Took 26 ∷ acts.Boot b ∷ []

abbrev pub after_booted : Past
after_booted = record { world = after after_given.world booted_acts; controller = after_given.controller }

pub booted-goes : (shows : Shows) → Goes shows (two greatest) after_given booted booted_acts after_booted
unfolding reply in_name out_name digits
booted-goes shows = record { acts = refl; past = refl; genuine = quiet shows (two greatest) after_given booted refl }

-- a datagram under a half that is gone
abbrev pub lost_one : List Event
lost_one = events.ArriveSent b 1 ∷ []

abbrev pub lost_one_acts : List Act
lost_one_acts =
    acts.Took 27 ∷ acts.Arrived b (sent out1 1) ∷ acts.Drop b why.BadSpi ∷ acts.Notice b 0 (notices.BadSpi 257) ∷ []

abbrev pub after_lost_one : Past
after_lost_one = record { world = after after_booted.world lost_one_acts; controller = after_booted.controller }

pub lost_one-goes : (shows : Shows) → Goes shows (two greatest) after_booted lost_one lost_one_acts after_lost_one
lost_one-goes shows = comes-to-none shows after_booted (events.ArriveSent b 1) (sent out1 1) out1 1 (acts.Drop b why.BadSpi
    ∷ acts.Notice b 0 (notices.BadSpi 257) ∷ []) (record { acts = refl; none = refl; test = refl }) carries1 refl refl

abbrev pub reopened : List Event
reopened =
    events.Keys key3 ∷ events.Cut b ∷ events.Open b ∷ []

abbrev pub reopened_acts : List Act
reopened_acts =
    acts.Took 28
    ∷ acts.Took 29 ∷ acts.Cut b 1
    ∷ acts.Took 30 ∷ acts.Opened b 2 ∷ acts.Order b 2 1 asks.Read ∷ acts.Order b 2 2 (asks.Policy list_b) ∷ []

abbrev pub reopened_own : List own.ControllerAct
reopened_own =
    own.Accepted (own.Keys key3)
    ∷ own.Cut 1 1
    ∷ own.Opened 1 2 ∷ own.Ordered 1 2 1 own.Read ∷ own.Ordered 1 2 2 (own.Policy list_b) ∷ []

abbrev pub after_reopened : Past
after_reopened = record { world = after after_lost_one.world reopened_acts; controller = after after_lost_one.controller reopened_own }

pub reopened-goes : (shows : Shows) → Goes shows (two greatest) after_lost_one reopened reopened_acts after_reopened
unfolding reply in_name out_name digits key1 key2 key3
reopened-goes shows = record { acts = refl; past = refl; genuine = quiet shows (two greatest) after_lost_one reopened refl }

-- and once more in the new session
abbrev pub lost_again : List Event
lost_again = events.ArriveSent b 1 ∷ []

abbrev pub lost_again_acts : List Act
lost_again_acts =
    acts.Took 31 ∷ acts.Arrived b (sent out1 1) ∷ acts.Drop b why.BadSpi ∷ acts.Notice b 2 (notices.BadSpi 257) ∷ []

abbrev pub after_lost_again : Past
after_lost_again = record { world = after after_reopened.world lost_again_acts; controller = after_reopened.controller }

pub lost_again-goes : (shows : Shows) → Goes shows (two greatest) after_reopened lost_again lost_again_acts after_lost_again
lost_again-goes shows = comes-to-none shows after_reopened (events.ArriveSent b 1) (sent out1 1) out1 1 (acts.Drop b why.BadSpi
    ∷ acts.Notice b 2 (notices.BadSpi 257) ∷ []) (record { acts = refl; none = refl; test = refl }) carries1 refl refl

-- the reading shows none of its halves; the other direction waits for a key
abbrev pub recovered : List Event
recovered =
    events.Down b ∷ events.Up b ∷ events.Note b ∷ []

abbrev pub recovered_acts : List Act
recovered_acts =
    acts.Took 32 ∷ acts.Handled b 2 1 (plain 200)
    ∷ acts.Took 33 ∷ acts.Answered b 2 1 (plain 200) ∷ acts.Order b 2 3 (asks.Put in3)
    ∷ acts.Took 34 ∷ acts.Heard b 2 (notices.BadSpi 257) ∷ acts.Order b 2 4 asks.Read ∷ []

abbrev pub recovered_own : List own.ControllerAct
recovered_own =
    own.Answered 1 2 1 (plain 200) ∷ own.Ordered 1 2 3 (own.PutIn association3)
    ∷ own.Heard 1 2 (notices.BadSpi 257) ∷ own.Ordered 1 2 4 own.Read ∷ []

abbrev pub after_recovered : Past
after_recovered = record {
  world = after after_lost_again.world recovered_acts;
  controller =
      after after_lost_again.controller recovered_own;
}

pub recovered-goes : (shows : Shows) → Goes shows (two greatest) after_lost_again recovered recovered_acts after_recovered
unfolding reply in_name out_name digits
recovered-goes shows = record { acts = refl; past = refl; genuine = quiet shows (two greatest) after_lost_again recovered refl }

abbrev pub restarted : List Event
restarted = delivered ++ booted ++ lost_one ++ reopened ++ lost_again ++ recovered

abbrev pub restarted_acts : List Act
restarted_acts = delivered_acts ++ booted_acts ++ lost_one_acts ++ reopened_acts ++ lost_again_acts ++ recovered_acts

pub restarted-goes : (shows : Shows) → Goes shows (two greatest) nothing restarted restarted_acts after_recovered
restarted-goes shows =
    let upto_booted = and-then (delivered-goes shows) (booted-goes shows) in
    let upto_lost_one = and-then upto_booted (lost_one-goes shows) in
    let upto_reopened = and-then upto_lost_one (reopened-goes shows) in
    let upto_lost_again = and-then upto_reopened (lost_again-goes shows) in
    and-then upto_lost_again (recovered-goes shows)

pub shown-restarted : (shows : Shows) → history shows (two greatest) nothing restarted ≡ restarted_acts
shown-restarted shows = (restarted-goes shows).acts
