-- What a step of the code gives, and when its numbers fit their types.
use Rattle.std.specs.Prelude.{◌≡◌, ℕ, ◌<◌, ◌≤◌, ◌-◌, ◌^◌, Bool, true, false, List, ◌∷◌, ◌++◌, Some, max, position, All}
use Rattle.std.specs.Str.{bytes_eq}
use Rattle.hist_acts.specs.declared.act.Act.{Act}
use Rattle.hist_acts.specs.declared.act.Act.TheVariants as acts
use Rattle.world_steps.specs.Nodes.{Node}
use Rattle.world_steps.specs.Worlds.{World}
use Rattle.world_steps.specs.Steps.{Done, clock_acts, clock_read, did}
use Rattle.world_run.specs.declared.go.Go.{Go}
use Rattle.world_run.specs.declared.go.Go.TheVariants as gos

-- a last number that a gateway can have: numbers of a half are those of ESP without extended ones (RFC 4303 section 2.2)
abbrev pub IsLast : ℕ → Type 0
IsLast n = (1 ≤ n) × (n ≤ 4294967295)

-- a forged arrival ends the script, and every other event lets it go on
abbrev pub go_of : Bool → Go
go_of true = gos.Forged
go_of false = gos.On

-- These acts stand after those before, and this world is kept. Of what is kept after a forged arrival nothing is said.
pub record IsDone (d : Done) (before : List Act) (after : List Act) (kept : World) (given : Go) : Type 0 where
  pub acts : after ≡ before ++ d.acts
  pub go : given ≡ go_of d.is_forged
  pub world : d.is_forged ≡ false → kept ≡ d.world

-- the gateway of this name is at this place
abbrev pub IsPlace : List ℕ → ℕ → World → Type 0
IsPlace g i w = position (λ n. bytes_eq n.name g) w.nodes ≡ Some i

-- a reading of the clock
abbrev pub now_done : ℕ → World → Done
now_done t w = did (acts.Now (max t w.clock) ∷ clock_acts t w.nodes) (clock_read t w)

-- the numbers of a gateway can grow by those of one event
pub record IsRoomy (n : Node) : Type 0 where
  pub openings : n.pipe.openings < 2 ^ 32 - 1
  pub handled : n.handled < 2 ^ 62
  pub answered : n.answered < 2 ^ 62
  pub orders : n.orders < 2 ^ 62

-- the numbers of every gateway can grow by those of one event
abbrev pub IsRoom : World → Type 0
IsRoom w = All IsRoomy w.nodes

-- so many orders can be given still
abbrev pub AreFew : World → Type 0
AreFew w = All (λ n. n.orders < 2 ^ 62) w.nodes
