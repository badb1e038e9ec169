-- Which pasts can be told line by line: each act has a line, and what is counted fits its type. A past has its newest act first.
use Rattle.std.specs.Prelude.{ℕ, ◌≤◌, ◌*◌, IsTrue, List, [], ◌∷◌, All}
use Rattle.ikl_base.specs.Address.{IsAddress}
use Rattle.ikeless_tree.specs.declared.command.Peer.{Peer}
use Rattle.ikeless_tree.specs.Typed.{AreOctets, AreTypedPolicies, IsTypedTunnel}
use Rattle.line_words.specs.Spelling.{are_spelled, IsListed}
use Rattle.event_lines.specs.Spelling.{IsEventUnder, IsEvent}
use Rattle.script_lines.specs.Spelling.{IsActUnder, IsAct}
use Rattle.hist_acts.specs.declared.act.Act.{Act}
use Rattle.hist_acts.specs.declared.event.Event.{Event}
use Rattle.hist_acts.specs.declared.event.Header.{Header}
use Rattle.hist_acts.specs.Past.{events_taken}
use Rattle.hist_acts.specs.Sessions as sessions
use Rattle.hist_gateway.specs.Handle.{requests}
use Rattle.hist_controller.specs.Acts.{PlacedCommand, SetPolicy, Tunnel, End, Rekey, Keys, ControllerAct, Accepted}
use Rattle.hist_controller.specs.Entries.{SoundCommands}
use Rattle.hist_controller.specs.Halves.{PlainAnswers}
use Rattle.hist_world.specs.Block.{Past}
use Rattle.hist_world.specs.Headers.{IsHeader}
use Rattle.hist_world.specs.Stands.{Stands}
use Rattle.hist_wire.specs.Replies.{AllReplied}
use Rattle.session_pipe.specs.Sessions.{KeepsSessions}

-- a header that a line can spell
pub record IsSpelledHeader (header : Header) : Type 0 where
  pub sound : IsHeader header
  pub least : 1 ≤ header.seq_last
  pub names : IsTrue (are_spelled header.gateways)
  pub addresses : All (λ p. IsAddress p.address) header.gateways

-- the event has a line under the gateways of a header
abbrev pub IsSpelledEvent : List Peer → Event → Type 0
IsSpelledEvent gateways e = IsEventUnder gateways e × IsEvent e

-- the act has a line under the gateways of a header
abbrev pub IsSpelled : List Peer → Act → Type 0
IsSpelled gateways a = IsActUnder gateways a × IsAct a

-- what a command says fits its types, and its list of policies has a line
abbrev pub IsSpelledCommand : PlacedCommand → Type 0
IsSpelledCommand (SetPolicy g list) = IsListed list × AreTypedPolicies list
IsSpelledCommand (Tunnel t) = IsTypedTunnel t.spec
IsSpelledCommand (End reqid) = Unit {0}
IsSpelledCommand (Rekey reqid) = Unit {0}
IsSpelledCommand (Keys key) = AreOctets key

-- each command that was accepted
abbrev pub AreSpelledCommands : List ControllerAct → Type 0
AreSpelledCommands [] = Unit {0}
AreSpelledCommands (Accepted c ∷ h) = IsSpelledCommand c × AreSpelledCommands h
AreSpelledCommands (_ ∷ h) = AreSpelledCommands h

-- At most one session is opened, one request handled and one answer heard at an event, and at most 2,051 orders are given.
pub record AreFewAt (g : List ℕ) (h : List Act) : Type 0 where
  pub openings : sessions.openings g h ≤ events_taken h
  pub handled : requests g h ≤ events_taken h
  pub answered : sessions.answered g (sessions.openings g h) h ≤ events_taken h
  pub orders : sessions.orders g (sessions.openings g h) h ≤ 2051 * events_taken h

-- What holds between the events of a script without a forged arrival, of a header and of events that lines can spell.
pub record IsTold (header : Header) (p : Past) : Type 0 where
  pub lawful : Stands header p
  pub sessions : KeepsSessions p.world
  pub replied : AllReplied p.world
  pub commands : SoundCommands p.controller
  pub plain : PlainAnswers p.controller
  pub accepted : AreSpelledCommands p.controller
  pub spelled : All (IsSpelled header.gateways) p.world
  pub few : (g : List ℕ) → AreFewAt g p.world
