-- The number of an event is no matter of what can be taken.
use Rattle.std.proofs.Common.{◌≡◌, ℕ, ◌+◌, ◌-◌, ◌*◌, ◌^◌, ◌<◌, ◌≤◌, List, refl, arith}
use Rattle.std.specs.List.{All}
use Rattle.std.proofs.lemmas.List.Elements.{All-weaker}
use Rattle.hist_acts.specs.declared.event.Event as script
use Rattle.hist_acts.specs.declared.event.Event.TheVariants as events
use Rattle.world_steps.specs.Nodes.{Node}
use Rattle.world_steps.specs.Worlds.{World}
use Rattle.world_steps.specs.Steps.{Found}
use Rattle.world_steps.specs.Conditions.{CanTake, IsCounted}
use Rattle.world_run.specs.Taken.{AreFew, IsRoom, IsRoomy}

pub counted-on : (r : Found) (e : script.Event) (m : ℕ) (w : World) → CanTake r e w → CanTake r e (record w { taken = m })
counted-on r (events.Let g o) m w c = c
counted-on r (events.Arrive g o) m w c = c
counted-on r (events.ArriveSent g k) m w c = c
counted-on r (events.ArriveFlip g k offset bit) m w c = c
counted-on r (events.ArriveTtl g k ttl) m w c = c
counted-on r (events.Now t) m w c = c
counted-on r (events.Boot g) m w c = c
counted-on r (events.Open g) m w c = c
counted-on r (events.Cut g) m w c = c
counted-on r (events.Down g) m w c = c
counted-on r (events.Up g) m w c = c
counted-on r (events.Note g) m w c = c
counted-on r (events.Wire g lane) m w c = c
counted-on r (events.Policy g list) m w c = c
counted-on r (events.Tunnel spec) m w c = c
counted-on r (events.End reqid) m w c = c
counted-on r (events.Rekey reqid) m w c = c
counted-on r (events.Keys key) m w c = c

-- so many events leave room for one more
roomy : (taken : ℕ) (n : Node) → taken < 2 ^ 32 - 1 → IsCounted taken n → IsRoomy n
roomy taken n few c = record {
  openings = omega (arith, few, c.openings);
  handled = omega (arith, few, c.handled);
  answered = omega (arith, few, c.answered);
  orders = omega (arith, few, c.orders);
}

pub room-counted : (w : World) → w.taken < 2 ^ 32 - 1 → All (IsCounted w.taken) w.nodes → IsRoom w
room-counted w few c = All-weaker (IsCounted w.taken) IsRoomy (λ n. roomy w.taken n few) w.nodes c

pub few-room : (w : World) → IsRoom w → AreFew w
few-room w r = All-weaker IsRoomy (λ n. n.orders < 2 ^ 62) (λ n. λ h. h.orders) w.nodes r
