use Rattle.std.proofs.Common.{refl, rules, arith}
use Rattle.live_controller.proofs.Doing.{calm-back, calm-front, later-on, later-same}
use Rattle.live_controller.proofs.Replying.{at-most-as, at-most-on, quiet-back, quiet-front, tells-none, tells-on}
use Rattle.live_controller.proofs.Turning.{turns-first, turns-on}
use Rattle.live_controller.proofs.serve.serve_turns.Goals as goal

pub turns-init : goal.turns-init
turns-init g c = record {
  serves = c.requires.serves;
  taken = search rules;
  tells = tells-none _ _ _ _ refl refl;
  room = search rules;
  later = later-same _;
  dock_later = at-most-as _ _ refl;
  served = λ calm quiet. turns-first _ c.args.desk c.begun-session.result c.requires.core c.requires.down c.begun-session.ensures.there;
}

pub turns-preserved : goal.turns-preserved
turns-preserved g c =
    let before = c.turns.invariant in
    let one = c.in-Ok.ensures in
    record {
      serves = one.serves;
      taken = one.taken;
      tells = tells-on _ _ _ _ _ _ _ before.tells one.tells;
      room = let size = before.room in let kept = c.turn.auto.buf in omega (arith, size, kept);
      later = later-on _ _ _ before.later one.later;
      dock_later = at-most-on _ _ _ before.dock_later one.dock_later;
      served = λ calm quiet.
          turns-on _ _ _ _ _ _ _ _ _ (one.goes (calm-back _ _ _ before.later calm) (quiet-back _ _ _ before.dock_later quiet))
          (before.served (calm-front _ _ _ one.later calm) (quiet-front _ _ _ one.dock_later quiet));
    }
