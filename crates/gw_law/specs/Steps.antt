-- A gateway, one event after another: the acts that are told, and what is kept.
use Rattle.std.specs.Prelude.{◌+◌, List, [], ◌∷◌, ◌++◌, Result, Ok, Err}
use Rattle.reply_table.specs.declared.ask.Ask.{Ask}
use Rattle.reply_table.specs.Reply as table
use Rattle.hist_acts.specs.declared.act.Act.{Act}
use Rattle.hist_acts.specs.declared.act.Act.TheVariants as acts
use Rattle.hist_gateway.specs.Handle.{Fault}
use Rattle.hist_acts.specs.Past.{after}
use Rattle.hist_gateway.specs.Block.{Gateway, GatewayEvent, gw_history, Let, Arrive, Clock, Handle, Session_taken}
use Rattle.gw_tables.specs.Kept.{Kept, booted, kept_after, session_taken, tree_of}
use Rattle.gw_packets.specs.Outcome.{Outcome}
use Rattle.gw_packets.specs.Outbound.{let_in}
use Rattle.gw_packets.specs.Inbound.{arrive}
use Rattle.gw_packets.specs.Looks.{clock_read}
use Rattle.gw_law.specs.Told.{Naming, acts_told, fault_told, reply_told, restarted, with_request, with_session}

-- what a gateway tells of an event, what it keeps then, and what names its next acts
pub record Step : Type 0 where
  pub acts : List Act
  pub kept : Kept
  pub naming : Naming

-- what was done at an event, behind the event's own act
abbrev pub step_by : Naming → Act → Outcome → Step
step_by n a out = record { acts = a ∷ acts_told n out.done; kept = out.kept; naming = n }

-- the change of a reply, and the request that is handled with it
abbrev pub replied : Naming → Kept → table.Outcome → Step
replied n k r = record { acts = reply_told n r; kept = kept_after r.tree.spd r.change k; naming = with_request n }

-- a request that was read is done, and one that wasn't is refused
abbrev pub handled : Naming → Kept → Result Ask Fault → Step
handled n k (Ok ask) = replied n k (table.reply (tree_of k) ask)
handled n k (Err fault) = record { acts = fault_told n fault; kept = k; naming = with_request n }

-- the next session is taken, and nothing that was told stands in it
abbrev pub took_session : Naming → Kept → Step
took_session n k = record { acts = acts.Opened n.name (n.openings + 1) ∷ []; kept = session_taken k; naming = with_session n }

-- an event at a gateway that keeps this
abbrev pub step_of : Gateway → Naming → Kept → GatewayEvent → Step
step_of c n k (Let o) = step_by n (acts.Let n.name o) (let_in c.seq_last o k)
step_of c n k (Arrive o) = step_by n (acts.Arrived n.name o) (arrive c.address o k)
step_of c n k (Clock t) = step_by n (acts.Now (clock_read t k).kept.clock) (clock_read t k)
step_of c n k (Handle request) = handled n k request
step_of c n k Session_taken = took_session n k

-- ---- events, one after another

-- these acts, and then what a later step tells and keeps
abbrev pub behind : List Act → Step → Step
behind xs later = record later { acts = xs ++ later.acts }

-- all these events, from the first to the last
abbrev pub run_of : Gateway → Naming → Kept → List GatewayEvent → Step
run_of c n k [] = record { acts = []; kept = k; naming = n }
run_of c n k (e ∷ es) = behind (step_of c n k e).acts (run_of c (step_of c n k e).naming (step_of c n k e).kept es)

-- Lives, each the events until the next restart. A gateway that starts anew keeps nothing, and is given the clock at once.
abbrev pub lives_of : Gateway → Naming → Kept → List (List GatewayEvent) → List Act
lives_of c n k [] = []
lives_of c n k (es ∷ more) =
    (run_of c n k es).acts ++ acts.Boot n.name
    ∷ lives_of c (restarted (run_of c n k es).naming) (clock_read (run_of c n k es).kept.clock booted).kept more

-- the same by the law of the gateway, over its past
abbrev pub lives_after : Gateway → List Act → List (List GatewayEvent) → List Act
lives_after c h [] = []
lives_after c h (es ∷ more) = gw_history c h es ++ acts.Boot c.name ∷ lives_after c (acts.Boot c.name ∷ after h (gw_history c h es)) more
