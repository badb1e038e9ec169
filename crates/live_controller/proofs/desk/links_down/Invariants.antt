use Rattle.std.proofs.Common.{◌≡◌, false, length}
use Rattle.std.specs.Prelude.{All}
use Rattle.live_controller.proofs.desk.links_down.Given as goal

abbrev pub invariant-loop-peer : goal.invariant-loop-peer
invariant-loop-peer l = record {
  size : length l.links.items ≡ l._peer;
  down : All (λ link. link.is_up ≡ false) l.links.items;
}
