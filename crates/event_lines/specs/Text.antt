-- How events are spelled in their canonical spelling.
use Rattle.std.specs.Prelude.{ℕ, List, [], ◌∷◌, map, codes}
use Rattle.std.specs.Fmt.{decimal}
use Rattle.yang_values.specs.Prefixes.{prefix_text}
use Rattle.ikeless_tree.specs.declared.command.TunnelSpec.{TunnelSpec}
use Rattle.hist_acts.specs.declared.event.Event.{Event}
use Rattle.hist_acts.specs.declared.event.Event.TheVariants as events
use Rattle.line_words.specs.Text.{hex_text, limits_text, entry_text, line_text}
use Rattle.ikeless_tree.specs.Words.{lane_text, mode_text}

-- the nine words of a tunnel; the first gateway's prefix stands before the second's
abbrev pub tunnel_words : TunnelSpec → List (List ℕ)
tunnel_words s =
    decimal s.reqid ∷ mode_text s.now ∷ s.first ∷ s.second ∷ prefix_text s.first_prefix ∷ prefix_text s.second_prefix
    ∷ decimal s.window ∷ limits_text s.hard ∷ limits_text s.soft ∷ []

-- the words of an event in their canonical spelling
abbrev pub event_words : Event → List (List ℕ)
event_words (events.Let g o) = codes "let" ∷ g ∷ hex_text o ∷ []
event_words (events.Arrive g o) = codes "arrive" ∷ g ∷ hex_text o ∷ []
event_words (events.ArriveSent g k) = codes "arrive" ∷ g ∷ (35 ∷ decimal k) ∷ []
event_words (events.ArriveFlip g k n b) = codes "arrive" ∷ g ∷ (35 ∷ decimal k) ∷ codes "flip" ∷ decimal n ∷ decimal b ∷ []
event_words (events.ArriveTtl g k t) = codes "arrive" ∷ g ∷ (35 ∷ decimal k) ∷ codes "ttl" ∷ decimal t ∷ []
event_words (events.Now t) = codes "now" ∷ decimal t ∷ []
event_words (events.Boot g) = codes "boot" ∷ g ∷ []
event_words (events.Open g) = codes "open" ∷ g ∷ []
event_words (events.Cut g) = codes "cut" ∷ g ∷ []
event_words (events.Down g) = codes "down" ∷ g ∷ []
event_words (events.Up g) = codes "up" ∷ g ∷ []
event_words (events.Note g) = codes "note" ∷ g ∷ []
event_words (events.Wire g l) = codes "wire" ∷ g ∷ lane_text l ∷ []
event_words (events.Policy g list) = codes "policy" ∷ g ∷ map entry_text list
event_words (events.Tunnel s) = codes "tunnel" ∷ tunnel_words s
event_words (events.End n) = codes "end" ∷ decimal n ∷ []
event_words (events.Rekey n) = codes "rekey" ∷ decimal n ∷ []
event_words (events.Keys o) = codes "keys" ∷ hex_text o ∷ []

-- an event, without its LF
unfoldable pub event_text : Event → List ℕ
event_text e = line_text (event_words e)
