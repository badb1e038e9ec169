-- For which past the world of a script stands: what each part of it is, in the law's words.
use Rattle.std.specs.Prelude.{◌≡◌, ℕ, List, [], ◌∷◌, ◌++◌, map, None}
use Rattle.ikeless_tree.specs.declared.command.Peer.{Peer}
use Rattle.hist_acts.specs.declared.act.Act.{Act}
use Rattle.hist_acts.specs.declared.act.Act.TheVariants as acts
use Rattle.hist_acts.specs.declared.event.Event as script
use Rattle.hist_acts.specs.declared.event.Event.TheVariants as events
use Rattle.hist_acts.specs.declared.event.Header.{Header}
use Rattle.hist_acts.specs.Past.{clock, events_taken}
use Rattle.hist_acts.specs.Sessions.{answered, next_answer, next_notice, next_request, openings, orders}
use Rattle.hist_gateway.specs.Handle.{requests}
use Rattle.hist_gateway.specs.State.{state_of}
use Rattle.hist_world.specs.Block.{Past}
use Rattle.hist_wire.specs.Wire.{pipe_at}
use Rattle.gw_law.specs.Told.{kept_of}
use Rattle.ctl_law.specs.Stands as controller
use Rattle.acts_spell.specs.Spelled.{IsTold}
use Rattle.world_steps.specs.Nodes.{Node}
use Rattle.world_steps.specs.Worlds.{World}
use Rattle.world_steps.specs.Steps.{Found}

-- a gateway of the header after this past
abbrev pub node_of : Header → List Act → Peer → Node
node_of header h p = record {
  name = p.name;
  config = record { address = p.address; seq_last = header.seq_last };
  kept = kept_of (state_of p.name h);
  pipe = pipe_at p.name p.address h;
  orders = orders p.name (openings p.name h) h;
  handled = requests p.name h;
  answered = answered p.name (openings p.name h) h;
}

-- the datagrams sent, the first one first
abbrev pub sent : List Act → List (List ℕ)
sent [] = []
sent (acts.Sent f y n o ∷ h) = sent h ++ o ∷ []
sent (_ ∷ h) = sent h

-- what the next message of the event's lane says
abbrev pub found : List Act → script.Event → Found
found h (events.Down g) = record { order = next_request g h; answer = None; notice = None }
found h (events.Up g) = record { order = None; answer = next_answer g h; notice = None }
found h (events.Note g) = record { order = None; answer = None; notice = next_notice g h }
found h _ = record { order = None; answer = None; notice = None }

-- Every part of the world is what this past says of it: gateways, their pipes and counts, the controller, the datagrams sent and the clock.
pub record StandsFor (header : Header) (p : Past) (w : World) : Type 0 where
  -- what the world keeps is what the past says
  pub nodes : w.nodes ≡ map (node_of header p.world) header.gateways
  pub controller : controller.StandsFor header.gateways p.controller w.controller
  pub sent : w.sent ≡ sent p.world
  pub clock : w.clock ≡ clock p.world
  pub taken : w.taken ≡ events_taken p.world
  -- the past is one of the law, and each of its acts has a line
  pub told : IsTold header p
