-- The lines of a script after its header, as events.
use Rattle.std.specs.Prelude.{◌≡◌, ℕ, List, [], ◌∷◌, Ok}
use Rattle.hist_acts.specs.declared.event.Event.{Event}
use Rattle.hist_acts.specs.declared.event.Header.{Header}
use Rattle.event_lines.specs.Event.{event_of}

-- each of these lines is read as the event beside it
abbrev pub AreLinesOf : Header → List (List ℕ) → List Event → Type 0
AreLinesOf header [] [] = Unit {0}
AreLinesOf header (line ∷ lines) (e ∷ events) = (event_of header.gateways line ≡ Ok e) × AreLinesOf header lines events
AreLinesOf header _ _ = ⊥
