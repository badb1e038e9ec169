use Rattle.std.proofs.Common.{◌≡◌, ◌+◌, ◌^◌, ◌<◌, ◌++◌, length}
use Rattle.std.specs.List.{All}
use Rattle.std.specs.Vec.Iter.{into_iter_items}
use Rattle.world_steps.specs.Steps.{giving}
use Rattle.world_run.proofs.Shapes.{AreAlike}
use Rattle.world_run.proofs.parts.Parts.give.Given as goal

abbrev pub invariant-loop-act : goal.invariant-loop-act
invariant-loop-act l = record {
  rest : l.yielded ++ into_iter_items l.act-iterator ≡ l.fn.given;
  world : l.self ≡ (giving l.yielded l.fn.self).world;
  acts : l.acts ≡ l.fn.acts ++ (giving l.yielded l.fn.self).acts;
  alike : AreAlike l.fn.self.nodes l.self.nodes;
  back : AreAlike l.self.nodes l.fn.self.nodes;
  few : All (λ n. n.orders < 2 ^ 62 + length l.yielded) l.self.nodes;
}
