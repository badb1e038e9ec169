-- The orders of one event before they are given: the acts, and what each gateway's queue gets.
use Rattle.std.specs.Prelude.{ℕ, ◌-◌, ◌==◌, List, [], ◌∷◌, ◌++◌, Option, if◌then◌else◌}
use Rattle.ikeless_tree.specs.declared.order as orders
use Rattle.ctl_tunnels.specs.declared.life.HalfOrder.{HalfOrder}
use Rattle.ctl_core.specs.declared.acts.CtlAct.{CtlAct}
use Rattle.ctl_core.specs.declared.acts.CtlAct.TheVariants as acts
use Rattle.ctl_core.specs.declared.peer.Waiting.{Waiting}

-- The acts in their order, what is added to the queue of each gateway by its number, and the last serial once all this is given.
pub record Drafted : Type 0 where
  pub acts : List CtlAct
  pub queues : List (List Waiting)
  pub serials : ℕ

-- one more order at the end of what this gateway's queue gets
abbrev pub queued : ℕ → Waiting → List (List Waiting) → List (List Waiting)
queued g w [] = []
queued g w (q ∷ qs) = if g == 0 then (q ++ w ∷ []) ∷ qs else q ∷ queued (g - 1) w qs

-- one more order
abbrev pub given : ℕ → orders.Order.Order → Option HalfOrder → Drafted → Drafted
given g o half d = record d { acts = d.acts ++ acts.Order g o ∷ []; queues = queued g (record { order = o; half = half }) d.queues }

-- the same, with this as the last serial
abbrev pub with_serials : ℕ → Drafted → Drafted
with_serials n d = record d { serials = n }
