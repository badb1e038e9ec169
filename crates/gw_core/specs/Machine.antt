-- A gateway, one step: what it does at an event, and what it keeps then.
use Rattle.std.specs.Prelude.{ℕ, ◌≤◌, List, [], ◌∷◌, ◌++◌, map, Option, Some, None, Result, true}
use Rattle.ikeless_tree.specs.declared.order.Notice.{Notice}
use Rattle.reply_table.specs.declared.ask.Ask.{Ask}
use Rattle.rc_request.specs.declared.error.RcError.{RcError}
use Rattle.gw_tables.specs.Kept.{Kept, session_taken}
use Rattle.gw_tables.specs.Kept as tables
use Rattle.gw_packets.specs.declared.done.Config.{Config}
use Rattle.gw_packets.specs.declared.done.Done.{Done}
use Rattle.gw_packets.specs.declared.done.PacketAnswer.{PacketAnswer}
use Rattle.gw_packets.specs.declared.done.PacketAnswer.TheVariants as answers
use Rattle.gw_packets.specs.Outcome as packets
use Rattle.gw_packets.specs.Outbound.{let_in}
use Rattle.gw_packets.specs.Inbound.{arrive}
use Rattle.gw_packets.specs.Looks.{clock_read}
use Rattle.gw_requests.specs.declared.act.GwAct.{GwAct}
use Rattle.gw_requests.specs.declared.act.GwAct.TheVariants as acts
use Rattle.gw_requests.specs.Requests.{Outcome, IsRequest, handled}
use Rattle.gw_core.specs.declared.event.GwEvent.{GwEvent}
use Rattle.gw_core.specs.declared.event.GwEvent.TheVariants as events

-- a gateway: its address and its last number, and what it keeps
pub record Core : Type 0 where
  pub config : Config
  pub kept : Kept

-- the same gateway, which keeps this
abbrev pub with_kept : Kept → Core → Core
with_kept k g = record g { kept = k }

-- the numbers of a half are those of ESP without extended ones
abbrev pub CanBoot : Config → Type 0
CanBoot c = (1 ≤ c.seq_last) × (c.seq_last ≤ 4294967295)

-- a gateway that has just started
abbrev pub booted : Config → Core
booted c = record { config = c; kept = tables.booted }

-- ---- events

-- a packet from inside, a datagram from outside, a reading of the clock, a request or why it could not be read, and a session
pub data Event : Type 0 where
  Let : (octets : List ℕ) → Event
  Arrive : (octets : List ℕ) → Event
  Clock : (now : ℕ) → Event
  Handle : (request : Result Ask RcError) → Event
  Session_taken : Event

-- an event, with the octets that it points to
abbrev pub seen : GwEvent → Event
seen (events.Let o) = Let o.now
seen (events.Arrive o) = Arrive o.now
seen (events.Clock now) = Clock now
seen (events.Handle request) = Handle request
seen events.SessionTaken = Session_taken

-- a request speaks of entries without a fault, and the path of a fault is text
abbrev pub IsEvent : Event → Type 0
IsEvent (Handle request) = IsRequest request
IsEvent _ = Unit {0}

-- ---- acts

-- the answer to a packet or a datagram as an act
abbrev pub act_of_answer : PacketAnswer → GwAct
act_of_answer (answers.Clear o) = acts.Clear o
act_of_answer (answers.Sent name number o) = acts.Sent name number o
act_of_answer (answers.Drop why) = acts.Drop why
act_of_answer (answers.Gave name number o) = acts.Gave name number o
act_of_answer (answers.Pass o) = acts.Pass o

-- a reading of the clock has no answer
abbrev pub acts_of_answer : Option PacketAnswer → List GwAct
acts_of_answer None = []
acts_of_answer (Some a) = act_of_answer a ∷ []

-- the half of this name is gone at a hard limit
abbrev pub act_of_gone : List ℕ → GwAct
act_of_gone name = acts.Gone name true

-- the notice is to be told to the controller
abbrev pub act_of_notice : Notice → GwAct
act_of_notice n = acts.Notice n

-- the answer, the halves that are gone by a hard limit, and the notices
abbrev pub acts_of_done : Done → List GwAct
acts_of_done d = acts_of_answer d.answer ++ map act_of_gone d.gone ++ map act_of_notice d.notices

-- ---- the step

-- what was done, as acts in their order
abbrev pub told : packets.Outcome → Outcome
told o = record { acts = acts_of_done o.done; kept = o.kept }

-- what the gateway does at an event; a session that is taken shows by no act of its own
abbrev pub stepped : Config → Event → Kept → Outcome
stepped c (Let o) k = told (let_in c.seq_last o k)
stepped c (Arrive o) k = told (arrive c.address o k)
stepped c (Clock now) k = told (clock_read now k)
stepped c (Handle request) k = handled request k
stepped c Session_taken k = record { acts = []; kept = session_taken k }
