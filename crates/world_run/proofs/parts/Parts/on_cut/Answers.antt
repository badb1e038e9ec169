use Rattle.std.proofs.Common.{◌≡◌, Option, None, refl, sym, subst}
use Rattle.ctl_core.specs.declared.acts.CtlEvent.TheVariants as told
use Rattle.world_steps.specs.Nodes.{Node}
use Rattle.world_steps.specs.Worlds.{World, node_at}
use Rattle.world_steps.specs.Steps.{cut_at}
use Rattle.world_run.specs.declared.go.Go.TheVariants as gos
use Rattle.world_steps.specs.Conditions.{Gives}
use Rattle.world_run.specs.Taken.{IsDone, IsPlace}
use Rattle.world_run.specs.contracts.parts.Parts.{the_view}
use Rattle.world_run.proofs.Done.{none-done}
use Rattle.world_run.proofs.Places.{number-placed, placed-found, unplaced}
use Rattle.world_run.proofs.parts.Parts.on_cut.Goals as goal

pub returns-in-None : goal.returns-in-None
returns-in-None c =
    let w : World = c.args.self.now in
    let none : node_at c.args.g w ≡ None = unplaced c.args.g
    (the_view c.self.inside) w c.deref.result.now c.in-None.ensures c.deref.ensures.value c.self.view_is in
    subst (λ (z : Option Node). IsDone (cut_at w z) c.args.acts.now c.args.acts.now w gos.On) (sym none)
    (none-done w w c.args.acts.now c.args.acts.now gos.On refl refl refl)

pub cut_at-requires-clause-gives : goal.cut_at-requires-clause-gives
cut_at-requires-clause-gives c =
    let w : World = c.args.self.now in
    let place : IsPlace c.args.g c.in-Some.i w =
    placed-found c.args.g c.in-Some.i (the_view c.self.inside) w c.deref.result.now c.in-Some.ensures c.deref.ensures.value c.self.view_is
    in
    subst (λ k. Gives (told.Cut k) w) (number-placed c.args.g c.in-Some.i w place) c.requires.gives
