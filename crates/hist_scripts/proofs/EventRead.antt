-- What is read as an event under a header is an event of it.
use Rattle.std.proofs.Common.{◌≡◌, ℕ, ◌+◌, ◌<◌, Bool, true, false, ◌||◌, List, [], ◌∷◌, length, Ok, arith, if◌then◌else◌}
use Rattle.std.specs.Str.{bytes_eq}
use Rattle.ikeless_tree.specs.declared.command.Peer.{Peer}
use Rattle.event_lines.specs.Event.{event_of}
use Rattle.event_lines.specs.Spelling.{IsEventUnder}
use Rattle.event_lines.proofs.SpelledEvent.{event_under}
use Rattle.hist_acts.specs.Gateways.{is_named}
use Rattle.hist_acts.specs.declared.event.Event.{Event}
use Rattle.hist_acts.specs.declared.event.Event.TheVariants as events
use Rattle.hist_acts.specs.declared.event.Header.{Header}
use Rattle.hist_controller.specs.Law.{peer_number}
use Rattle.hist_world.specs.Events.{AreEventsOf, IsEventOf}
use Rattle.hist_scripts.specs.Script.{AreLinesOf}

-- the number of a peer that there is, is one of theirs
known-number : (ps : List Peer) (g : List ℕ) → is_named ps g ≡ true → peer_number g ps < length ps
known-number [] g e = cc
known-number (p ∷ ps) g e = at (bytes_eq p.name g) e (known-number ps g)
  where
    at : (b : Bool) → (b || is_named ps g) ≡ true → (is_named ps g ≡ true → peer_number g ps < length ps)
        → (if b then 0 else peer_number g ps + 1) < length (p ∷ ps)
    at true t f = grind arith
    at false t f = let q = f t in grind arith

of-header : (header : Header) (e : Event) → IsEventUnder header.gateways e → IsEventOf header e
of-header header (events.Open g) u = known-number header.gateways g u
of-header header (events.Cut g) u = known-number header.gateways g u
of-header header (events.Up g) u = known-number header.gateways g u
of-header header (events.Note g) u = known-number header.gateways g u
of-header header e u = tt

pub event-read : (header : Header) (line : List ℕ) (e : Event) → event_of header.gateways line ≡ Ok e → IsEventOf header e
event-read header line e is = of-header header e (event_under header.gateways line e is)

pub lines-read : (header : Header) (lines : List (List ℕ)) (es : List Event) → AreLinesOf header lines es → AreEventsOf header es
lines-read header [] [] i = tt
lines-read header [] (e ∷ es) i = absurd i
lines-read header (line ∷ lines) [] i = absurd i
lines-read header (line ∷ lines) (e ∷ es) i = (event-read header line e i.0, lines-read header lines es i.1)
