-- How what a gateway does at an event is told as acts.
use Rattle.std.specs.Prelude.{ℕ, ◌+◌, Bool, true, false, List, [], ◌∷◌, ◌++◌, map, Result, Ok, Err}
use Rattle.ikeless_tree.specs.declared.order.Answer.{Answer}
use Rattle.ikeless_tree.specs.declared.ends.GoneWhy.{GoneWhy}
use Rattle.ikeless_tree.specs.declared.ends.GoneWhy.TheVariants as gone
use Rattle.reply_table.specs.declared.ask.Ask.{Ask}
use Rattle.rc_request.specs.declared.error.RcError.{RcError}
use Rattle.rc_resource.specs.declared.reply.Reply.{Reply}
use Rattle.hist_acts.specs.declared.act.Act.{Act}
use Rattle.hist_acts.specs.declared.act.Act.TheVariants as acts
use Rattle.hist_gateway.specs.Handle.{Fault}
use Rattle.hist_gateway.specs.Block.{Gateway, GatewayEvent}
use Rattle.hist_gateway.specs.Block as law
use Rattle.gw_tables.specs.Kept.{Kept}
use Rattle.gw_packets.specs.declared.done.Config.{Config}
use Rattle.gw_requests.specs.declared.act.GwAct.{GwAct}
use Rattle.gw_requests.specs.declared.act.GwAct.TheVariants as done
use Rattle.gw_requests.specs.Requests.{Outcome}
use Rattle.gw_core.specs.Machine.{Event, Let, Arrive, Clock, Handle, Session_taken, IsEvent, stepped}
use Rattle.gw_law.specs.Told.{Naming, with_request, with_session}
use Rattle.gw_law.specs.Steps.{Step, behind}
use Rattle.gw_law.specs.Orderly.{IsTunnelEvent}

-- ---- acts

-- of a reply what a transcript has: status, tag and the names of the halves shown
abbrev pub answer_of : Reply → Answer
answer_of r = record { status = r.status; tag = r.tag; names = r.names }

-- a half is gone at a hard limit, or was removed by an order
abbrev pub why_gone : Bool → GoneWhy
why_gone true = gone.Hard
why_gone false = gone.Removed

-- an act that a gateway hands out, as a transcript has it
abbrev pub told : Naming → GwAct → Act
told n (done.Spd list) = acts.Policy n.name list
told n (done.Put e) = acts.Put n.name e
told n (done.Gone name hard) = acts.Gone n.name name (why_gone hard)
told n (done.Sent name number o) = acts.Sent n.name name number o
told n (done.Clear o) = acts.Clear n.name o
told n (done.Drop why) = acts.Drop n.name why
told n (done.Gave name number o) = acts.Gave n.name name number o
told n (done.Pass o) = acts.Pass n.name o
told n (done.Reply r) = acts.Handled n.name n.session (n.requests + 1) (answer_of r)
told n (done.Notice notice) = acts.Notice n.name n.session notice

-- ---- events

-- the gateway of this name
abbrev pub gateway_of : List ℕ → Config → Gateway
gateway_of g c = record { name = g; address = c.address; seq_last = c.seq_last }

-- of the refusal of a request that could not be read the law has the status and tag alone
abbrev pub request_of : Result Ask RcError → Result Ask Fault
request_of (Ok ask) = Ok ask
request_of (Err e) = Err (record { status = e.status; tag = e.tag })

-- the event as the law of the gateway has it
abbrev pub event_of : Event → GatewayEvent
event_of (Let o) = law.Let o
event_of (Arrive o) = law.Arrive o
event_of (Clock now) = law.Clock now
event_of (Handle request) = law.Handle (request_of request)
event_of Session_taken = law.Session_taken

-- the act of the event itself, where this is kept after it
abbrev pub own_acts : Naming → Kept → Event → List Act
own_acts n k (Let o) = acts.Let n.name o ∷ []
own_acts n k (Arrive o) = acts.Arrived n.name o ∷ []
own_acts n k (Clock now) = acts.Now k.clock ∷ []
own_acts n k (Handle request) = []
own_acts n k Session_taken = acts.Opened n.name (n.openings + 1) ∷ []

-- what names the acts after this event: a request is counted, and a session is the gateway's own
abbrev pub naming_after : Naming → Event → Naming
naming_after n (Handle request) = with_request n
naming_after n Session_taken = with_session n
naming_after n _ = n

-- the acts of a step, its event's own first
abbrev pub step_told : Naming → Event → Outcome → List Act
step_told n e out = own_acts n out.kept e ++ map (told n) out.acts

-- ---- one event after another

-- all these events, from the first to the last
abbrev pub run_of : Config → Naming → Kept → List Event → Step
run_of c n k [] = record { acts = []; kept = k; naming = n }
run_of c n k (e ∷ es) = behind (step_told n e (stepped c e k)) (run_of c (naming_after n e) (stepped c e k).kept es)

-- each half that is asked for has a tunnel between addresses of one family
abbrev pub AreTunnelEvents : List Event → Type 0
AreTunnelEvents [] = Unit {0}
AreTunnelEvents (e ∷ es) = IsTunnelEvent (event_of e) × AreTunnelEvents es

-- each request speaks of entries without a fault
abbrev pub AreEvents : List Event → Type 0
AreEvents [] = Unit {0}
AreEvents (e ∷ es) = IsEvent e × AreEvents es
