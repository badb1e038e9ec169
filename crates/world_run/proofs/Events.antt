-- What an event needs, by its kind.
use Rattle.std.proofs.Common.{◌≡◌, ℕ, ◌+◌, List, Option, subst}
use Rattle.ikeless_tree.specs.declared.order.Answer.{Answer}
use Rattle.ikeless_tree.specs.declared.order.Notice.{Notice}
use Rattle.ikeless_tree.specs.declared.order.Order.{Order}
use Rattle.hist_acts.specs.declared.event.Event as script
use Rattle.hist_acts.specs.declared.event.Event.TheVariants as events
use Rattle.world_steps.specs.Worlds.{World, node_at}
use Rattle.world_steps.specs.Steps.{Found}
use Rattle.world_steps.specs.Conditions.{Answers, Asks, CanStep, CanTake, Notices, at}
use Rattle.world_run.proofs.Counts.{counted-on}

pub down-asks : (e : script.Event) (g : List ℕ) (w : World) → e ≡ events.Down g → ((r : Found) × CanTake r e w)
    → (x : Option Order) × at (λ n. Asks n x) (node_at g w)
down-asks e g w s (r, k) = (r.order, subst (λ (z : script.Event). CanTake r z w) s k)

pub up-answers : (e : script.Event) (g : List ℕ) (w : World) → e ≡ events.Up g → ((r : Found) × CanTake r e w)
    → (x : Option Answer) × at (λ n. Answers n w x) (node_at g w)
up-answers e g w s (r, k) = (r.answer, subst (λ (z : script.Event). CanTake r z w) s k)

pub note-notices : (e : script.Event) (g : List ℕ) (w : World) → e ≡ events.Note g → ((r : Found) × CanTake r e w)
    → (x : Option Notice) × at (λ n. Notices n w x) (node_at g w)
note-notices e g w s (r, k) = (r.notice, subst (λ (z : script.Event). CanTake r z w) s k)

-- behind the number of the event
pub can-count : (e : script.Event) (m : ℕ) (w : World) → ((r : Found) × CanStep r e w) → (r : Found) × CanTake r e (record w { taken = m })
can-count e m w (r, s) = (r, counted-on r e m w s.takes)
