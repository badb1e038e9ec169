-- Decisions that are kept, and the lists that they hold of.
use Rattle.std.specs.Prelude.{◌≡◌, false, List, [], ◌∷◌, position, Option, Some, None}
use Rattle.std.specs.List.{AllByRecursion}
use Rattle.ikeless_tree.specs.declared.entry.Direction.{Direction}
use Rattle.ikeless_tree.specs.declared.entry.SpdEntry.{SpdEntry}
use Rattle.ip_packet.specs.View.{Packet}
use Rattle.spd_match.specs.declared.flow.Flow.{Flow}
use Rattle.spd_match.specs.declared.decisions.Decision.{Decision}
use Rattle.spd_match.specs.Match.{decides}

-- the flow of a packet
abbrev pub flow_of : Direction → Packet → Flow
flow_of d v = record { direction = d; src = v.src; dst = v.dst; proto = v.proto; ports = v.ports }

-- a packet of a flow, without octets
abbrev pub packet_of : Flow → Packet
packet_of f = record { src = f.src; dst = f.dst; proto = f.proto; ports = f.ports; df = false; payload = [] }

-- the decision is the list's own: the place of the first entry that decides for the packets of its flow
abbrev pub IsOf : List SpdEntry → Decision → Type 0
IsOf list x = x.place ≡ position (decides x.flow.direction (packet_of x.flow)) list

-- so are they all
abbrev pub AreOf : List SpdEntry → List Decision → Type 0
AreOf list kept = AllByRecursion (IsOf list) kept

-- what is kept at the places
abbrev pub kept_at : List (Option Decision) → List Decision
kept_at [] = []
kept_at (None ∷ places) = kept_at places
kept_at (Some x ∷ places) = x ∷ kept_at places
