use Rattle.std.proofs.Common.{rules, arith}
use Rattle.live_gateway.proofs.Making.{later-on, later-same}
use Rattle.live_gateway.proofs.Telling.{tells_on, tells_same}
use Rattle.live_gateway.proofs.Turning.{turns-first, turns-on}
use Rattle.live_gateway.proofs.serve.serve.Goals as goal

pub turns-preserved : goal.turns-preserved
turns-preserved g c = record {
  served = turns-on c.readers_hold.ensures _ _ _ _ _ _ _ _ _ _ _ _ c.turns.invariant.later c.in-Ok.ensures.later c.in-Ok.ensures.goes
      c.turns.invariant.served;
  size = let size = c.turns.invariant.size in let kept = c.turn.auto.buf in omega (arith, size, kept);
  later = later-on _ _ _ c.turns.invariant.later c.in-Ok.ensures.later;
  may = c.in-Ok.ensures.may;
  read = c.in-Ok.ensures.read;
  inside_tells = tells_on _ _ _ _ _ _ _ c.turns.invariant.inside_tells c.in-Ok.ensures.inside_tells;
  outside_tells = tells_on _ _ _ _ _ _ _ c.turns.invariant.outside_tells c.in-Ok.ensures.outside_tells;
  accept_tells = tells_on _ _ _ _ _ _ _ c.turns.invariant.accept_tells c.in-Ok.ensures.accept_tells;
}

pub turns-init : goal.turns-init
turns-init g c = record {
  served = λ calm. turns-first c.args.gateway _ _ c.requires;
  size = search rules;
  later = later-same _;
  may = tt;
  read = tt;
  inside_tells = tells_same _ _;
  outside_tells = tells_same _ _;
  accept_tells = tells_same _ _;
}
