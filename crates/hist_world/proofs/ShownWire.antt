-- What is under way is shown where it is asked for. The octets themselves are what `shows` gives.
use Rattle.std.proofs.Common.{◌≡◌, List, [], ◌∷◌, refl}
use Rattle.ikeless_tree.specs.declared.order.Lane.TheVariants as lanes
use Rattle.ikeless_tree.specs.declared.order.Order.TheVariants as asks
use Rattle.reply_table.specs.Reply.{reply}
use Rattle.hist_acts.specs.declared.act.Act.{Act}
use Rattle.hist_acts.specs.declared.act.Act.TheVariants as acts
use Rattle.hist_acts.specs.declared.event.Event.{Event}
use Rattle.hist_acts.specs.declared.event.Event.TheVariants as events
use Rattle.hist_world.specs.Block.{Shows, history, nothing}
use Rattle.hist_world.proofs.ShownAcquire.{alone}
use Rattle.hist_world.proofs.Shown.{a, plain}

abbrev pub watched : List Event
watched = events.Open a ∷ events.Wire a lanes.Down ∷ events.Down a ∷ events.Wire a lanes.Up ∷ events.Up a ∷ events.Wire a lanes.Up ∷ []

abbrev pub at_request : List Act
at_request = acts.Took 2 ∷ acts.Order a 1 1 asks.Read ∷ acts.Opened a 1 ∷ acts.Took 1 ∷ []

abbrev pub at_answer : Shows → List Act
at_answer shows = acts.Took 4 ∷ acts.Handled a 1 1 (plain 200) ∷ acts.Took 3 ∷ acts.Wire a lanes.Down (shows a lanes.Down at_request)
    ∷ at_request

abbrev pub at_end : Shows → List Act
at_end shows = acts.Took 6 ∷ acts.Answered a 1 1 (plain 200) ∷ acts.Took 5 ∷ acts.Wire a lanes.Up (shows a lanes.Up (at_answer shows))
    ∷ at_answer shows

pub shown-watched : (shows : Shows) → history shows alone nothing watched ≡
    acts.Took 1 ∷ acts.Opened a 1 ∷ acts.Order a 1 1 asks.Read
    ∷ acts.Took 2 ∷ acts.Wire a lanes.Down (shows a lanes.Down at_request)
    ∷ acts.Took 3 ∷ acts.Handled a 1 1 (plain 200)
    ∷ acts.Took 4 ∷ acts.Wire a lanes.Up (shows a lanes.Up (at_answer shows))
    ∷ acts.Took 5 ∷ acts.Answered a 1 1 (plain 200)
    ∷ acts.Took 6 ∷ acts.Wire a lanes.Up (shows a lanes.Up (at_end shows)) ∷ []
unfolding reply
shown-watched shows = refl
