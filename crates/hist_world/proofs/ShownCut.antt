-- A session is cut before the put of an outbound half is answered: that association is removed, and a new one put.
use Rattle.std.proofs.Common.{◌≡◌, List, [], ◌∷◌, ◌++◌, codes, refl}
use Rattle.std.specs.Fmt.{digits}
use Rattle.ikeless_tree.specs.declared.order.Order.TheVariants as asks
use Rattle.ikeless_tree.specs.declared.ends.GoneWhy.TheVariants as gone
use Rattle.ikeless_tree.specs.declared.error.Tag.TheVariants as tags
use Rattle.ikeless_tree.specs.Half.{in_name, out_name}
use Rattle.reply_table.specs.Reply.{reply}
use Rattle.hist_acts.specs.declared.act.Act.{Act}
use Rattle.hist_acts.specs.declared.act.Act.TheVariants as acts
use Rattle.hist_acts.specs.declared.event.Event.{Event}
use Rattle.hist_acts.specs.declared.event.Event.TheVariants as events
use Rattle.hist_acts.specs.Past.{after}
use Rattle.hist_controller.specs.Acts as own
use Rattle.hist_world.specs.Block.{Past, Shows, history, nothing}
use Rattle.hist_world.proofs.Goes.{Goes, and-then, quiet}
use Rattle.hist_world.proofs.Shown.{a, association3, b, in3, key1, key2, key3, list_a, out1, out2, plain, reading, refused, two, greatest}
use Rattle.hist_world.proofs.ShownSetup.{after_first_outbound, after_inbound, one_way, one_way_acts, one_way-goes, ordered, ordered_acts, ordered-goes}

-- the put was handled: the reading shows the half, and it is removed all the same
abbrev pub cut_late : List Event
cut_late =
    events.Keys key3 ∷ events.Cut a ∷ events.Open a ∷ events.Down a ∷ events.Up a ∷ events.Down a ∷ events.Down a ∷ events.Up a
    ∷ events.Up a ∷ events.Down b ∷ events.Down b ∷ events.Up b ∷ events.Up b ∷ []

abbrev pub cut_late_acts : List Act
cut_late_acts =
    acts.Took 21
    ∷ acts.Took 22 ∷ acts.Cut a 1
    ∷ acts.Took 23 ∷ acts.Opened a 2 ∷ acts.Order a 2 1 asks.Read ∷ acts.Order a 2 2 (asks.Policy list_a)
    ∷ acts.Took 24 ∷ acts.Handled a 2 1 (reading (codes "in/2" ∷ codes "out/1" ∷ []))
    ∷ acts.Took 25 ∷ acts.Answered a 2 1 (reading (codes "in/2" ∷ codes "out/1" ∷ []))
    ∷ acts.Order a 2 3 (asks.Remove (codes "out/1"))
    ∷ acts.Took 26 ∷ acts.Policy a list_a ∷ acts.Handled a 2 2 (plain 204)
    ∷ acts.Took 27 ∷ acts.Gone a (codes "out/1") gone.Removed ∷ acts.Handled a 2 3 (plain 204)
    ∷ acts.Took 28 ∷ acts.Answered a 2 2 (plain 204)
    ∷ acts.Took 29 ∷ acts.Answered a 2 3 (plain 204) ∷ acts.Order b 1 5 (asks.Remove (codes "in/1"))
    ∷ acts.Took 30 ∷ acts.Put b out2 ∷ acts.Handled b 1 4 (plain 201)
    ∷ acts.Took 31 ∷ acts.Gone b (codes "in/1") gone.Removed ∷ acts.Handled b 1 5 (plain 204)
    ∷ acts.Took 32 ∷ acts.Answered b 1 4 (plain 201)
    ∷ acts.Took 33 ∷ acts.Answered b 1 5 (plain 204) ∷ acts.Order b 1 6 (asks.Put in3) ∷ []

abbrev pub cut_late_own : List own.ControllerAct
cut_late_own =
    own.Accepted (own.Keys key3)
    ∷ own.Cut 0 1
    ∷ own.Opened 0 2 ∷ own.Ordered 0 2 1 own.Read ∷ own.Ordered 0 2 2 (own.Policy list_a)
    ∷ own.Answered 0 2 1 (reading (codes "in/2" ∷ codes "out/1" ∷ [])) ∷ own.Ordered 0 2 3 (own.RemoveOut 1)
    ∷ own.Answered 0 2 2 (plain 204)
    ∷ own.Answered 0 2 3 (plain 204) ∷ own.Ordered 1 1 5 (own.RemoveIn 1)
    ∷ own.Answered 1 1 4 (plain 201)
    ∷ own.Answered 1 1 5 (plain 204) ∷ own.Ordered 1 1 6 (own.PutIn association3) ∷ []

abbrev pub after_cut_late : Past
after_cut_late = record {
  world = after after_first_outbound.world cut_late_acts;
  controller =
      after after_first_outbound.controller cut_late_own;
}

pub cut_late-goes : (shows : Shows) → Goes shows (two greatest) after_first_outbound cut_late cut_late_acts after_cut_late
unfolding reply in_name out_name digits key1 key2 key3
cut_late-goes shows = record { acts = refl; past = refl; genuine = quiet shows (two greatest) after_first_outbound cut_late refl }

abbrev pub lost_answer : List Event
lost_answer = one_way ++ cut_late

abbrev pub lost_answer_acts : List Act
lost_answer_acts = one_way_acts ++ cut_late_acts

pub lost_answer-goes : (shows : Shows) → Goes shows (two greatest) nothing lost_answer lost_answer_acts after_cut_late
lost_answer-goes shows = and-then (one_way-goes shows greatest) (cut_late-goes shows)

pub shown-lost_answer : (shows : Shows) → history shows (two greatest) nothing lost_answer ≡ lost_answer_acts
shown-lost_answer shows = (lost_answer-goes shows).acts

-- the put is handled after the cut, since its session is still taken at the gateway
abbrev pub cut_under_way : List Event
cut_under_way =
    events.Keys key3 ∷ events.Cut a ∷ events.Down a ∷ events.Open a ∷ events.Down a ∷ events.Up a ∷ events.Down a
    ∷ events.Down a ∷ events.Up a ∷ events.Up a ∷ []

abbrev pub cut_under_way_acts : List Act
cut_under_way_acts =
    acts.Took 20
    ∷ acts.Took 21 ∷ acts.Cut a 1
    ∷ acts.Took 22 ∷ acts.Put a out1 ∷ acts.Handled a 1 4 (plain 201)
    ∷ acts.Took 23 ∷ acts.Opened a 2 ∷ acts.Order a 2 1 asks.Read ∷ acts.Order a 2 2 (asks.Policy list_a)
    ∷ acts.Took 24 ∷ acts.Handled a 2 1 (reading (codes "in/2" ∷ codes "out/1" ∷ []))
    ∷ acts.Took 25 ∷ acts.Answered a 2 1 (reading (codes "in/2" ∷ codes "out/1" ∷ []))
    ∷ acts.Order a 2 3 (asks.Remove (codes "out/1"))
    ∷ acts.Took 26 ∷ acts.Policy a list_a ∷ acts.Handled a 2 2 (plain 204)
    ∷ acts.Took 27 ∷ acts.Gone a (codes "out/1") gone.Removed ∷ acts.Handled a 2 3 (plain 204)
    ∷ acts.Took 28 ∷ acts.Answered a 2 2 (plain 204)
    ∷ acts.Took 29 ∷ acts.Answered a 2 3 (plain 204) ∷ acts.Order b 1 5 (asks.Remove (codes "in/1")) ∷ []

abbrev pub cut_under_way_own : List own.ControllerAct
cut_under_way_own =
    own.Accepted (own.Keys key3)
    ∷ own.Cut 0 1
    ∷ own.Opened 0 2 ∷ own.Ordered 0 2 1 own.Read ∷ own.Ordered 0 2 2 (own.Policy list_a)
    ∷ own.Answered 0 2 1 (reading (codes "in/2" ∷ codes "out/1" ∷ [])) ∷ own.Ordered 0 2 3 (own.RemoveOut 1)
    ∷ own.Answered 0 2 2 (plain 204)
    ∷ own.Answered 0 2 3 (plain 204) ∷ own.Ordered 1 1 5 (own.RemoveIn 1) ∷ []

abbrev pub after_cut_under_way : Past
after_cut_under_way = record {
  world = after after_inbound.world cut_under_way_acts;
  controller =
      after after_inbound.controller cut_under_way_own;
}

pub cut_under_way-goes : (shows : Shows) → Goes shows (two greatest) after_inbound cut_under_way cut_under_way_acts after_cut_under_way
unfolding reply in_name out_name digits key1 key2 key3
cut_under_way-goes shows = record { acts = refl; past = refl; genuine = quiet shows (two greatest) after_inbound cut_under_way refl }

abbrev pub late_put : List Event
late_put = ordered ++ cut_under_way

abbrev pub late_put_acts : List Act
late_put_acts = ordered_acts ++ cut_under_way_acts

pub late_put-goes : (shows : Shows) → Goes shows (two greatest) nothing late_put late_put_acts after_cut_under_way
late_put-goes shows = and-then (ordered-goes shows greatest) (cut_under_way-goes shows)

pub shown-late_put : (shows : Shows) → history shows (two greatest) nothing late_put ≡ late_put_acts
shown-late_put shows = (late_put-goes shows).acts

-- the put is never handled: the reading doesn't show the half, and its removal finds nothing
abbrev pub cut_early : List Event
cut_early =
    events.Keys key3 ∷ events.Cut a ∷ events.Open a ∷ events.Down a ∷ events.Up a ∷ events.Down a ∷ events.Down a ∷ []

abbrev pub cut_early_acts : List Act
cut_early_acts =
    acts.Took 20
    ∷ acts.Took 21 ∷ acts.Cut a 1
    ∷ acts.Took 22 ∷ acts.Opened a 2 ∷ acts.Order a 2 1 asks.Read ∷ acts.Order a 2 2 (asks.Policy list_a)
    ∷ acts.Took 23 ∷ acts.Handled a 2 1 (reading (codes "in/2" ∷ []))
    ∷ acts.Took 24 ∷ acts.Answered a 2 1 (reading (codes "in/2" ∷ [])) ∷ acts.Order a 2 3 (asks.Remove (codes "out/1"))
    ∷ acts.Took 25 ∷ acts.Policy a list_a ∷ acts.Handled a 2 2 (plain 204)
    ∷ acts.Took 26 ∷ acts.Handled a 2 3 (refused 404 tags.InvalidValue) ∷ []

abbrev pub cut_early_own : List own.ControllerAct
cut_early_own =
    own.Accepted (own.Keys key3)
    ∷ own.Cut 0 1
    ∷ own.Opened 0 2 ∷ own.Ordered 0 2 1 own.Read ∷ own.Ordered 0 2 2 (own.Policy list_a)
    ∷ own.Answered 0 2 1 (reading (codes "in/2" ∷ [])) ∷ own.Ordered 0 2 3 (own.RemoveOut 1) ∷ []

abbrev pub after_cut_early : Past
after_cut_early = record { world = after after_inbound.world cut_early_acts; controller = after after_inbound.controller cut_early_own }

pub cut_early-goes : (shows : Shows) → Goes shows (two greatest) after_inbound cut_early cut_early_acts after_cut_early
unfolding reply in_name out_name digits key1 key2 key3
cut_early-goes shows = record { acts = refl; past = refl; genuine = quiet shows (two greatest) after_inbound cut_early refl }

abbrev pub lost_put : List Event
lost_put = ordered ++ cut_early

abbrev pub lost_put_acts : List Act
lost_put_acts = ordered_acts ++ cut_early_acts

pub lost_put-goes : (shows : Shows) → Goes shows (two greatest) nothing lost_put lost_put_acts after_cut_early
lost_put-goes shows = and-then (ordered-goes shows greatest) (cut_early-goes shows)

pub shown-lost_put : (shows : Shows) → history shows (two greatest) nothing lost_put ≡ lost_put_acts
shown-lost_put shows = (lost_put-goes shows).acts
