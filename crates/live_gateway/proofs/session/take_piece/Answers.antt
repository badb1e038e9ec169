use Rattle.std.proofs.Common.{◌≡◌, [], drop, sym}
use Rattle.live_gateway.proofs.Making.{later-on, later-same}
use Rattle.live_gateway.proofs.Sessions.{pieces-on, rest-is}
use Rattle.live_gateway.proofs.Telling.{tells_on, tells_same}
use Rattle.live_gateway.proofs.session.take_piece.Goals as goal

pub loop-rest-init : goal.loop-rest-init
loop-rest-init g c = record {
  goes = λ cfg start past st. ([], tt, st);
  later = later-same _;
  may = c.requires.may;
  read = c.requires.read;
  inside_tells = tells_same _ _;
  outside_tells = tells_same _ _;
  accept_tells = tells_same _ _;
}

pub loop-rest-preserved : goal.loop-rest-preserved
loop-rest-preserved g c =
    let cut : c.split_at.result.1.now ≡ drop c.in-Ok.n c.loop-rest.rest.now = cc in
    record {
      goes = λ cfg start past st. rest-is _ _ _ _ _ _ _ _ (sym cut)
          (pieces-on _ _ _ _ _ _ _ _ _ _ _ (c.loop-rest.invariant.goes cfg start past st) (c.in-Ok.ensures.goes cfg start));
      later = later-on _ _ _ c.loop-rest.invariant.later c.in-Ok.ensures.later;
      may = c.in-Ok.ensures.may;
      read = c.in-Ok.ensures.read;
      inside_tells = tells_on _ _ _ _ _ _ _ c.loop-rest.invariant.inside_tells c.in-Ok.ensures.inside_tells;
      outside_tells = tells_on _ _ _ _ _ _ _ c.loop-rest.invariant.outside_tells c.in-Ok.ensures.outside_tells;
      accept_tells = tells_on _ _ _ _ _ _ _ c.loop-rest.invariant.accept_tells c.in-Ok.ensures.accept_tells;
    }
