-- Which events a line can spell under the gateways of a header, and what the types say of them.
use Rattle.std.specs.Prelude.{◌^◌, ◌<◌, ◌≤◌, nat_le, IsTrue, List}
use Rattle.ikeless_tree.specs.Check.{is_gateway, is_window}
use Rattle.ikeless_tree.specs.declared.command.Peer.{Peer}
use Rattle.hist_acts.specs.declared.event.Event.{Event}
use Rattle.hist_acts.specs.declared.event.Event.TheVariants as events
use Rattle.ikeless_tree.specs.Typed.{AreOctets, AreTypedPolicies, IsTypedTunnel}
use Rattle.line_words.specs.Spelling.{IsKnown, IsListed}

-- an event's gateway is one of the header, but a command may be for any name; what is counted is counted from 1
abbrev pub IsEventUnder : List Peer → Event → Type 0
IsEventUnder gateways (events.Let g o) = IsKnown gateways g
IsEventUnder gateways (events.Arrive g o) = IsKnown gateways g
IsEventUnder gateways (events.ArriveSent g k) = IsKnown gateways g × IsTrue (nat_le 1 k)
IsEventUnder gateways (events.ArriveFlip g k n b) = IsKnown gateways g × IsTrue (nat_le 1 k) × (b ≤ 7)
IsEventUnder gateways (events.ArriveTtl g k t) = IsKnown gateways g × IsTrue (nat_le 1 k)
IsEventUnder gateways (events.Now t) = Unit {0}
IsEventUnder gateways (events.Boot g) = IsKnown gateways g
IsEventUnder gateways (events.Open g) = IsKnown gateways g
IsEventUnder gateways (events.Cut g) = IsKnown gateways g
IsEventUnder gateways (events.Down g) = IsKnown gateways g
IsEventUnder gateways (events.Up g) = IsKnown gateways g
IsEventUnder gateways (events.Note g) = IsKnown gateways g
IsEventUnder gateways (events.Wire g l) = IsKnown gateways g
IsEventUnder gateways (events.Policy g list) = IsTrue (is_gateway g) × IsListed list
IsEventUnder gateways (events.Tunnel s) = IsTrue (is_gateway s.first) × IsTrue (is_gateway s.second) × IsTrue (is_window s.window)
IsEventUnder gateways (events.End n) = Unit {0}
IsEventUnder gateways (events.Rekey n) = Unit {0}
IsEventUnder gateways (events.Keys o) = Unit {0}

-- its numbers are those of their types, as those of every event that a program has
abbrev pub IsEvent : Event → Type 0
IsEvent (events.Let g o) = AreOctets o
IsEvent (events.Arrive g o) = AreOctets o
IsEvent (events.ArriveSent g k) = k < 2 ^ 64
IsEvent (events.ArriveFlip g k n b) = (k < 2 ^ 64) × (n < 2 ^ 64)
IsEvent (events.ArriveTtl g k t) = (k < 2 ^ 64) × (t < 256)
IsEvent (events.Now t) = t < 2 ^ 32
IsEvent (events.Policy g list) = AreTypedPolicies list
IsEvent (events.Tunnel s) = IsTypedTunnel s
IsEvent (events.End n) = n < 2 ^ 64
IsEvent (events.Rekey n) = n < 2 ^ 64
IsEvent (events.Keys o) = AreOctets o
IsEvent _ = Unit {0}
