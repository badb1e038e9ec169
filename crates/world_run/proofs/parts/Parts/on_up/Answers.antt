use Rattle.std.proofs.Common.{◌≡◌, List, Option, Some, None, refl, sym, subst}
use Rattle.ikeless_tree.specs.declared.order.Answer.{Answer}
use Rattle.hist_acts.specs.declared.act.Act.{Act}
use Rattle.world_steps.specs.Nodes.{Node}
use Rattle.world_steps.specs.Worlds.{World, node_at}
use Rattle.world_steps.specs.Steps.{up_at}
use Rattle.world_run.specs.declared.go.Go.TheVariants as gos
use Rattle.world_run.specs.Taken.{IsDone}
use Rattle.world_run.specs.contracts.parts.Parts.{the_view}
use Rattle.world_run.proofs.Done.{none-done}
use Rattle.world_run.proofs.Places.{unplaced}
use Rattle.world_run.proofs.parts.Parts.on_up.Goals as goal

nothing : (x : Option Answer) (w : World) (xs : List Act) → IsDone (up_at x w None) xs xs w gos.On
nothing None w xs = none-done w w xs xs gos.On refl refl refl
nothing (Some y) w xs = none-done w w xs xs gos.On refl refl refl

pub returns-in-None : goal.returns-in-None
returns-in-None c = λ x a.
    let w : World = c.args.self.now in
    let none : node_at c.args.g w ≡ None = unplaced c.args.g
    (the_view c.self.inside) w c.deref.result.now c.in-None.ensures c.deref.ensures.value c.self.view_is in
    subst (λ (z : Option Node). IsDone (up_at x w z) c.args.acts.now c.args.acts.now w gos.On) (sym none) (nothing x w c.args.acts.now)
