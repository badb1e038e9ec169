-- For which past a controller stands, what it may be told, and what it orders then.
use Rattle.std.specs.Prelude.{◌≡◌, ℕ, ◌<◌, true, List, [], ◌∷◌, Option, Some, None, length, slice_get}
use Rattle.ikl_base.specs.declared.address.Addr.{Addr}
use Rattle.ikl_base.specs.declared.address.Addr.TheVariants.{V4}
use Rattle.ikeless_tree.specs.declared.command.Peer.{Peer}
use Rattle.ikeless_tree.specs.declared.command.Refusal.{Refusal}
use Rattle.ikeless_tree.specs.declared.order.Order.{Order}
use Rattle.ikeless_tree.specs.declared.order.Answer.{Answer}
use Rattle.hist_controller.specs.Acts.{ControllerAct}
use Rattle.hist_controller.specs.Clauses.{IsControllerPast}
use Rattle.hist_controller.specs.Entries.{OneFamily, SoundCommands}
use Rattle.hist_controller.specs.Halves.{PlainAnswers}
use Rattle.hist_controller.specs.Table.{AllFit}
use Rattle.rc_http.specs.declared.message.HttpMessage.{HttpMessage}
use Rattle.rc_http.specs.Written.{request_text}
use Rattle.rc_answer.specs.Answers.{answer_of}
use Rattle.rc_resource.specs.Messages.{IsOrder, order_message}
use Rattle.rc_operations.specs.Operations.{IsSound}
use Rattle.session_messages.specs.Whole.{if_good}
use Rattle.ctl_core.specs.declared.acts.CtlAct.{CtlAct}
use Rattle.ctl_core.specs.declared.acts.CtlAct.TheVariants as done
use Rattle.ctl_core.specs.declared.acts.CtlEvent.{CtlEvent}
use Rattle.ctl_core.specs.declared.acts.CtlEvent.TheVariants as events
use Rattle.ctl_core.specs.Core.{Core, expected}
use Rattle.ctl_law.specs.Stands.{StandsFor}
use Rattle.ctl_law.specs.Told.{may_answer}

-- some past of the law for which the controller stands: its commands have no fault, and each act speaks of a known peer
pub record IsStanding (ps : List Peer) (c : Core) : Type 0 where
  pub past : List ControllerAct
  pub lawful : IsControllerPast (length ps) past
  pub plain : PlainAnswers past
  pub sound : SoundCommands past
  pub fits : AllFit (length ps) past
  pub family : OneFamily ps
  pub stands : StandsFor ps past c

-- what comes from these peers: a command without a fault, and an answer with a status of the order that waits for it
abbrev pub CanBeTold : List Peer → Core → CtlEvent → Type 0
CanBeTold ps c (events.Command command) = IsSound command
CanBeTold ps c (events.Opened g) = g < length ps
CanBeTold ps c (events.Cut g) = g < length ps
CanBeTold ps c (events.Answered g a) = (g < length ps) × (may_answer (expected c g) a.status ≡ true)
CanBeTold ps c (events.Noticed g n) = g < length ps

-- an order for a known peer, without a fault
abbrev pub IsGiven : List Peer → CtlAct → Type 0
IsGiven ps (done.Order g o) = (g < length ps) × IsOrder o
IsGiven ps (done.Refused why) = Unit {0}

abbrev pub address_or_none : Option Peer → Addr
address_or_none None = V4 (0 ∷ 0 ∷ 0 ∷ 0 ∷ [])
address_or_none (Some p) = p.address

abbrev pub address_at : List Peer → ℕ → Addr
address_at ps g = address_or_none (slice_get ps g)

-- the octets of the request that carries an order to a peer
abbrev pub order_text : List Peer → ℕ → Order → List ℕ
order_text ps g o = request_text (order_message (address_at ps g) o)

-- why a command is refused, by what is done at it
abbrev pub refused_of : List CtlAct → Option Refusal
refused_of (done.Refused why ∷ []) = Some why
refused_of _ = None

-- the answer that a response says to the order that waits, where one does
abbrev pub answer_to : Option Order → HttpMessage → Option Answer
answer_to None m = None
answer_to (Some o) m = if_good (answer_of o m)
