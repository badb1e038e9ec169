-- Two gateways get their lists, and the two associations of a tunnel.
use Rattle.std.proofs.Common.{ℕ, List, [], ◌∷◌, ◌++◌, refl}
use Rattle.std.specs.Fmt.{digits}
use Rattle.ikeless_tree.specs.declared.order.Order.TheVariants as asks
use Rattle.ikeless_tree.specs.Half.{in_name, out_name}
use Rattle.reply_table.specs.Reply.{reply}
use Rattle.hist_acts.specs.declared.act.Act.{Act}
use Rattle.hist_acts.specs.declared.act.Act.TheVariants as acts
use Rattle.hist_acts.specs.declared.event.Event.{Event}
use Rattle.hist_acts.specs.declared.event.Event.TheVariants as events
use Rattle.hist_acts.specs.Past.{after}
use Rattle.hist_controller.specs.Acts as own
use Rattle.hist_world.specs.Block.{Past, Shows, nothing}
use Rattle.hist_world.proofs.Goes.{Goes, and-then, quiet}
use Rattle.hist_world.proofs.Shown.{a, association1, association2, b, in1, in2, key1, key2, list_a, list_b, out1, out2, placed, plain, tunnel, two}

-- lists, keys and a tunnel are commanded, both sessions are read, and the inbound halves ordered
abbrev pub begun : List Event
begun =
    events.Policy a list_a ∷ events.Policy b list_b ∷ events.Keys key1 ∷ events.Keys key2 ∷ events.Tunnel tunnel ∷ events.Open a
    ∷ events.Open b ∷ events.Down a ∷ events.Down a ∷ events.Up a ∷ events.Up a ∷ events.Down b ∷ events.Down b ∷ events.Up b
    ∷ events.Up b ∷ []

abbrev pub begun_acts : List Act
begun_acts =
    acts.Took 1
    ∷ acts.Took 2
    ∷ acts.Took 3
    ∷ acts.Took 4
    ∷ acts.Took 5
    ∷ acts.Took 6 ∷ acts.Opened a 1 ∷ acts.Order a 1 1 asks.Read ∷ acts.Order a 1 2 (asks.Policy list_a)
    ∷ acts.Took 7 ∷ acts.Opened b 1 ∷ acts.Order b 1 1 asks.Read ∷ acts.Order b 1 2 (asks.Policy list_b)
    ∷ acts.Took 8 ∷ acts.Handled a 1 1 (plain 200)
    ∷ acts.Took 9 ∷ acts.Policy a list_a ∷ acts.Handled a 1 2 (plain 204)
    ∷ acts.Took 10 ∷ acts.Answered a 1 1 (plain 200)
    ∷ acts.Took 11 ∷ acts.Answered a 1 2 (plain 204)
    ∷ acts.Took 12 ∷ acts.Handled b 1 1 (plain 200)
    ∷ acts.Took 13 ∷ acts.Policy b list_b ∷ acts.Handled b 1 2 (plain 204)
    ∷ acts.Took 14 ∷ acts.Answered b 1 1 (plain 200) ∷ acts.Order b 1 3 (asks.Put in1) ∷ acts.Order a 1 3 (asks.Put in2)
    ∷ acts.Took 15 ∷ acts.Answered b 1 2 (plain 204) ∷ []

abbrev pub begun_own : List own.ControllerAct
begun_own =
    own.Accepted (own.SetPolicy 0 list_a)
    ∷ own.Accepted (own.SetPolicy 1 list_b)
    ∷ own.Accepted (own.Keys key1)
    ∷ own.Accepted (own.Keys key2)
    ∷ own.Accepted (own.Tunnel placed)
    ∷ own.Opened 0 1 ∷ own.Ordered 0 1 1 own.Read ∷ own.Ordered 0 1 2 (own.Policy list_a)
    ∷ own.Opened 1 1 ∷ own.Ordered 1 1 1 own.Read ∷ own.Ordered 1 1 2 (own.Policy list_b)
    ∷ own.Answered 0 1 1 (plain 200)
    ∷ own.Answered 0 1 2 (plain 204)
    ∷ own.Answered 1 1 1 (plain 200) ∷ own.Ordered 1 1 3 (own.PutIn association1) ∷ own.Ordered 0 1 3 (own.PutIn association2)
    ∷ own.Answered 1 1 2 (plain 204) ∷ []

abbrev pub after_begun : Past
after_begun = record { world = after nothing.world begun_acts; controller = after nothing.controller begun_own }

pub begun-goes : (shows : Shows) (last : ℕ) → Goes shows (two last) nothing begun begun_acts after_begun
unfolding reply in_name out_name digits key1 key2
begun-goes shows last = record { acts = refl; past = refl; genuine = quiet shows (two last) nothing begun refl }

-- the inbound halves stand, and the outbound ones are ordered
abbrev pub inbound : List Event
inbound =
    events.Down b ∷ events.Down a ∷ events.Up b ∷ events.Up a ∷ []

abbrev pub inbound_acts : List Act
inbound_acts =
    acts.Took 16 ∷ acts.Put b in1 ∷ acts.Handled b 1 3 (plain 201)
    ∷ acts.Took 17 ∷ acts.Put a in2 ∷ acts.Handled a 1 3 (plain 201)
    ∷ acts.Took 18 ∷ acts.Answered b 1 3 (plain 201) ∷ acts.Order a 1 4 (asks.Put out1)
    ∷ acts.Took 19 ∷ acts.Answered a 1 3 (plain 201) ∷ acts.Order b 1 4 (asks.Put out2) ∷ []

abbrev pub inbound_own : List own.ControllerAct
inbound_own =
    own.Answered 1 1 3 (plain 201) ∷ own.Ordered 0 1 4 (own.PutOut association1)
    ∷ own.Answered 0 1 3 (plain 201) ∷ own.Ordered 1 1 4 (own.PutOut association2) ∷ []

abbrev pub after_inbound : Past
after_inbound = record { world = after after_begun.world inbound_acts; controller = after after_begun.controller inbound_own }

pub inbound-goes : (shows : Shows) (last : ℕ) → Goes shows (two last) after_begun inbound inbound_acts after_inbound
unfolding reply in_name out_name digits
inbound-goes shows last = record { acts = refl; past = refl; genuine = quiet shows (two last) after_begun inbound refl }

-- the first outbound half stands
abbrev pub first_outbound : List Event
first_outbound =
    events.Down a ∷ []

abbrev pub first_outbound_acts : List Act
first_outbound_acts =
    acts.Took 20 ∷ acts.Put a out1 ∷ acts.Handled a 1 4 (plain 201) ∷ []

abbrev pub after_first_outbound : Past
after_first_outbound = record { world = after after_inbound.world first_outbound_acts; controller = after_inbound.controller }

pub first_outbound-goes : (shows : Shows) (last : ℕ) → Goes shows (two last) after_inbound first_outbound first_outbound_acts
    after_first_outbound
unfolding reply in_name out_name digits
first_outbound-goes shows last = record { acts = refl; past = refl; genuine = quiet shows (two last) after_inbound first_outbound refl }

-- the second one stands too, and both puts are answered
abbrev pub second_outbound : List Event
second_outbound =
    events.Down b ∷ events.Up a ∷ events.Up b ∷ []

abbrev pub second_outbound_acts : List Act
second_outbound_acts =
    acts.Took 21 ∷ acts.Put b out2 ∷ acts.Handled b 1 4 (plain 201)
    ∷ acts.Took 22 ∷ acts.Answered a 1 4 (plain 201)
    ∷ acts.Took 23 ∷ acts.Answered b 1 4 (plain 201) ∷ []

abbrev pub second_outbound_own : List own.ControllerAct
second_outbound_own =
    own.Answered 0 1 4 (plain 201)
    ∷ own.Answered 1 1 4 (plain 201) ∷ []

abbrev pub after_second_outbound : Past
after_second_outbound = record {
  world = after after_first_outbound.world second_outbound_acts;
  controller =
      after after_first_outbound.controller second_outbound_own;
}

pub second_outbound-goes : (shows : Shows) (last : ℕ) → Goes shows (two last) after_first_outbound second_outbound second_outbound_acts
    after_second_outbound
unfolding reply in_name out_name digits
second_outbound-goes shows last = record {
  acts = refl;
  past = refl;
  genuine = quiet shows (two last) after_first_outbound second_outbound
      refl;
}

-- ---- up to the orders of the outbound halves, up to the first of them, and up to both
abbrev pub ordered : List Event
ordered = begun ++ inbound

abbrev pub ordered_acts : List Act
ordered_acts = begun_acts ++ inbound_acts

pub ordered-goes : (shows : Shows) (last : ℕ) → Goes shows (two last) nothing ordered ordered_acts after_inbound
ordered-goes shows last = and-then (begun-goes shows last) (inbound-goes shows last)

abbrev pub one_way : List Event
one_way = ordered ++ first_outbound

abbrev pub one_way_acts : List Act
one_way_acts = ordered_acts ++ first_outbound_acts

pub one_way-goes : (shows : Shows) (last : ℕ) → Goes shows (two last) nothing one_way one_way_acts after_first_outbound
one_way-goes shows last = and-then (ordered-goes shows last) (first_outbound-goes shows last)

abbrev pub keyed : List Event
keyed = one_way ++ second_outbound

abbrev pub keyed_acts : List Act
keyed_acts = one_way_acts ++ second_outbound_acts

pub keyed-goes : (shows : Shows) (last : ℕ) → Goes shows (two last) nothing keyed keyed_acts after_second_outbound
keyed-goes shows last = and-then (one_way-goes shows last) (second_outbound-goes shows last)
