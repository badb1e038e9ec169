-- The law of one gateway: for each event the one block of acts that may follow a past.
use Rattle.std.specs.Prelude.{ℕ, ◌+◌, nat_lt, max, Bool, List, [], ◌∷◌, ◌++◌, Result, if◌then◌else◌}
use Rattle.ikl_base.specs.declared.address.Addr.{Addr}
use Rattle.reply_table.specs.declared.ask.Ask.{Ask}
use Rattle.hist_acts.specs.declared.act.Act.{Act}
use Rattle.hist_acts.specs.declared.act.Act.TheVariants as acts
use Rattle.hist_acts.specs.Past.{after, clock}
use Rattle.hist_acts.specs.Sessions as sessions
use Rattle.hist_halves.specs.Halves.{live}
use Rattle.hist_gateway.specs.Let.{let_acts}
use Rattle.hist_gateway.specs.Arrive.{arrive_acts}
use Rattle.hist_gateway.specs.Look.{look}
use Rattle.hist_gateway.specs.Handle.{Fault, handle_acts, requests}

-- a gateway: its name, its address, and the greatest number that a half may send
pub record Gateway : Type 0 where
  pub name : List ℕ
  pub address : Addr
  pub seq_last : ℕ

-- What comes to a gateway: a packet from inside, a datagram from outside, a reading of the clock, a request that was read or
-- the fault of one that wasn't, and a session.
pub data GatewayEvent : Type 0 where
  Let : (octets : List ℕ) → GatewayEvent
  Arrive : (octets : List ℕ) → GatewayEvent
  Clock : (now : ℕ) → GatewayEvent
  Handle : (request : Result Ask Fault) → GatewayEvent
  Session_taken : GatewayEvent

-- the live halves are looked at where the reading raised the clock
abbrev pub clock_acts : List ℕ → List Act → Bool → List Act
clock_acts g h raised = if raised then look g h (live g h) else []

-- the block of an event after a past
abbrev pub gw_block : Gateway → List Act → GatewayEvent → List Act
gw_block c h (Let o) = acts.Let c.name o ∷ let_acts c.name c.seq_last (acts.Let c.name o ∷ h) o
gw_block c h (Arrive o) = acts.Arrived c.name o ∷ arrive_acts c.name c.address (acts.Arrived c.name o ∷ h) o
gw_block c h (Clock t) = acts.Now (max t (clock h)) ∷ clock_acts c.name (acts.Now (max t (clock h)) ∷ h) (nat_lt (clock h) t)
gw_block c h (Handle request) = handle_acts c.name (sessions.session_taken c.name h) (requests c.name h + 1) h request
gw_block c h Session_taken = acts.Opened c.name (sessions.openings c.name h + 1) ∷ []

-- the acts of these events after a past
abbrev pub gw_history : Gateway → List Act → List GatewayEvent → List Act
gw_history c h [] = []
gw_history c h (e ∷ es) = gw_block c h e ++ gw_history c (after h (gw_block c h e)) es
