-- The events that a line of a script can say under a header.
use Rattle.std.specs.Prelude.{ℕ, ◌<◌, List, [], ◌∷◌, length}
use Rattle.hist_acts.specs.declared.event.Event.{Event}
use Rattle.hist_acts.specs.declared.event.Event.TheVariants as events
use Rattle.hist_acts.specs.declared.event.Header.{Header}
use Rattle.hist_controller.specs.Law.{peer_number}

-- a gateway of the header
abbrev pub IsKnown : Header → List ℕ → Type 0
IsKnown header g = peer_number g header.gateways < length header.gateways

-- an event of the controller's with a gateway names one of the header
abbrev pub IsEventOf : Header → Event → Type 0
IsEventOf header (events.Open g) = IsKnown header g
IsEventOf header (events.Cut g) = IsKnown header g
IsEventOf header (events.Up g) = IsKnown header g
IsEventOf header (events.Note g) = IsKnown header g
IsEventOf header _ = Unit {0}

-- each of the events names gateways of the header, so that a script with this header can have them as its lines
abbrev pub AreEventsOf : Header → List Event → Type 0
AreEventsOf header [] = Unit {0}
AreEventsOf header (e ∷ es) = IsEventOf header e × AreEventsOf header es
