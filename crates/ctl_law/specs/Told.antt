-- What a controller is told as events of the law, and what it does as acts of the law.
use Rattle.std.specs.Prelude.{◌≡◌, ℕ, ◌<◌, ◌==◌, ◌||◌, Bool, true, List, [], ◌∷◌, ◌++◌, Option, Some, None, length}
use Rattle.ikeless_tree.specs.declared.command.Peer.{Peer}
use Rattle.ikeless_tree.specs.declared.command.Refusal.{Refusal}
use Rattle.ikeless_tree.specs.declared.order as orders
use Rattle.ikeless_tree.specs.declared.order.Order.TheVariants as tree
use Rattle.hist_controller.specs.Acts.{ControllerAct, Opened, Cut, Answered, Heard, Ordered, Accepted, Refused, ControllerEvent, Told, Opens, Cuts, Answers, Notices}
use Rattle.hist_controller.specs.Told.{order_told}
use Rattle.ctl_core.specs.declared.acts.CtlAct.{CtlAct}
use Rattle.ctl_core.specs.declared.acts.CtlAct.TheVariants as done
use Rattle.ctl_core.specs.declared.acts.CtlEvent.{CtlEvent}
use Rattle.ctl_core.specs.declared.acts.CtlEvent.TheVariants as events
use Rattle.ctl_core.specs.Core.{Core, expected}
use Rattle.ctl_core.specs.Step.{stepped}

-- the event of the law
abbrev pub event_of : CtlEvent → ControllerEvent
event_of (events.Command c) = Told c
event_of (events.Opened g) = Opens g
event_of (events.Cut g) = Cuts g
event_of (events.Answered g a) = Answers g a
event_of (events.Noticed g n) = Notices g n

-- the same events, as the law has them, in their order
abbrev pub events_of : List CtlEvent → List ControllerEvent
events_of [] = []
events_of (e ∷ es) = event_of e ∷ events_of es

-- what a controller does at an act of the law: it orders or refuses; the other acts are what it was told
abbrev pub done_at : List Peer → ControllerAct → List CtlAct
done_at ps (Opened g s) = []
done_at ps (Cut g s) = []
done_at ps (Answered g s n a) = []
done_at ps (Heard g s t) = []
done_at ps (Ordered g s n o) = done.Order g (order_told ps o) ∷ []
done_at ps (Accepted c) = []
done_at ps (Refused w) = done.Refused w ∷ []

-- what a controller does at these acts of the law, in their order
abbrev pub all_done : List Peer → List ControllerAct → List CtlAct
all_done ps [] = []
all_done ps (a ∷ more) = done_at ps a ++ all_done ps more

-- the status is one of those with which this order is answered
abbrev pub is_status_of : orders.Order.Order → ℕ → Bool
is_status_of tree.Read status = status == 200
is_status_of (tree.Policy l) status = status == 204
is_status_of (tree.Put e) status = (status == 201) || (status == 409)
is_status_of (tree.Remove n) status = (status == 204) || (status == 404)

-- an answer where none is expected changes nothing
abbrev pub may_answer : Option orders.Order.Order → ℕ → Bool
may_answer None status = true
may_answer (Some o) status = is_status_of o status

-- The event meets the conditions of a step: its gateway is known, and an answer has a status of the expected order.
abbrev pub MayBeTold : Core → CtlEvent → Type 0
MayBeTold c (events.Command command) = Unit {0}
MayBeTold c (events.Opened g) = g < length c.stations
MayBeTold c (events.Cut g) = g < length c.stations
MayBeTold c (events.Answered g a) = (g < length c.stations) × (may_answer (expected c g) a.status ≡ true)
MayBeTold c (events.Noticed g n) = g < length c.stations

-- so does each of these events, one after the other
abbrev pub MayAllBeTold : Core → List CtlEvent → Type 0
MayAllBeTold c [] = Unit {0}
MayAllBeTold c (e ∷ es) = MayBeTold c e × MayAllBeTold (stepped c e).core es

-- what a controller does at these events
abbrev pub run : Core → List CtlEvent → List CtlAct
run c [] = []
run c (e ∷ es) = (stepped c e).acts ++ run (stepped c e).core es

-- and what it keeps after them
abbrev pub run_core : Core → List CtlEvent → Core
run_core c [] = c
run_core c (e ∷ es) = run_core (stepped c e).core es

-- the refusals among what a controller does
abbrev pub refusals_of : List CtlAct → List Refusal
refusals_of [] = []
refusals_of (done.Order g o ∷ more) = refusals_of more
refusals_of (done.Refused w ∷ more) = w ∷ refusals_of more

-- the SPIs of the entries that are put
abbrev pub spi_in : orders.Order.Order → List ℕ
spi_in tree.Read = []
spi_in (tree.Policy l) = []
spi_in (tree.Put e) = e.spi ∷ []
spi_in (tree.Remove n) = []

-- the SPIs of all entries that are put, in the order of their puts
abbrev pub spis_of : List CtlAct → List ℕ
spis_of [] = []
spis_of (done.Order g o ∷ more) = spi_in o ++ spis_of more
spis_of (done.Refused w ∷ more) = spis_of more
