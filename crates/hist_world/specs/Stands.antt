-- What holds between the events of a history without a forged arrival.
use Rattle.std.specs.Prelude.{◌≡◌, true, false, List, [], ◌∷◌, length}
use Rattle.ikeless_tree.specs.declared.command.Peer.{Peer}
use Rattle.hist_acts.specs.declared.act as happened
use Rattle.hist_acts.specs.declared.event.Event.{Event}
use Rattle.hist_acts.specs.declared.event.Header.{Header}
use Rattle.hist_controller.specs.Acts as controller
use Rattle.hist_controller.specs.Clauses.{IsControllerPast, NotIdle}
use Rattle.hist_controller.specs.Table.{AllFit}
use Rattle.hist_controller.specs.Told.{past_told}
use Rattle.hist_safety.specs.Law.{IsLawful, is_ready}
use Rattle.hist_world.specs.Block.{Past, Shows, past_after, is_forged_event}
use Rattle.hist_world.specs.Parts.{controllers_part}

-- the controller's part of what happened is its own past, told; and each act of that may stand after those before it
pub record Meet (peers : List Peer) (h : List happened.Act.Act) (c : List controller.ControllerAct) : Type 0 where
  pub part : controllers_part h ≡ past_told peers c
  pub past : IsControllerPast (length peers) c
  pub fit : AllFit (length peers) c

-- what happened is lawful and has no open question, the controller's part is its own past, and no direction of a tunnel
-- idles
pub record Stands (header : Header) (p : Past) : Type 0 where
  pub lawful : IsLawful header.gateways p.world
  pub ready : is_ready p.world ≡ true
  pub meet : Meet header.gateways p.world p.controller
  pub not_idle : NotIdle p.controller

-- what happened after these events
abbrev pub past_at : Shows → Header → Past → List Event → Past
past_at shows header p [] = p
past_at shows header p (e ∷ es) = past_at shows header (past_after shows header p e) es

-- no arrival among these events is forged
abbrev pub AreGenuine : Shows → Header → Past → List Event → Type 0
AreGenuine shows header p [] = Unit {0}
AreGenuine shows header p (e ∷ es) = (is_forged_event header p e ≡ false) × AreGenuine shows header (past_after shows header p e) es
