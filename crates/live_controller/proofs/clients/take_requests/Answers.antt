use Rattle.std.proofs.Common.{◌≡◌, [], drop, sym, refl, ◌∙◌}
use Rattle.live_controller.proofs.Doing.{calm-back, calm-front, later-on, later-same}
use Rattle.live_controller.proofs.Replying.{at-most-as, at-most-on, quiet-back, quiet-front}
use Rattle.live_controller.proofs.Requesting.{requests-left, requests-on}
use Rattle.live_controller.proofs.clients.take_requests.Goals as goal

pub requests-init : goal.requests-init
requests-init g c = record {
  serves = c.requires.serves;
  peers = refl;
  taken = c.requires.taken;
  accepts = (refl, refl);
  later = later-same _;
  dock_later = at-most-as _ _ refl;
  goes = λ calm quiet ps start past st. ([], tt, st);
}

pub requests-preserved : goal.requests-preserved
requests-preserved g c =
    let before = c.requests.invariant in
    let one = c.in_ok-taken.ensures in
    let cut : c.split_at.result.1.now ≡ drop c.in_ok-taken.taken c.requests.rest.now = cc in
    record {
      serves = one.serves;
      peers = one.peers ∙ before.peers;
      taken = one.taken;
      accepts = (one.accepts.0 ∙ before.accepts.0, one.accepts.1 ∙ before.accepts.1);
      later = later-on _ _ _ before.later one.later;
      dock_later = at-most-on _ _ _ before.dock_later one.dock_later;
      goes = λ calm quiet ps start past st.
          requests-left ps start past _ _ _ _ _ (sym cut)
          (requests-on ps start past _ _ _ _ _ _ _ _
          (before.goes (calm-front _ _ _ one.later calm) (quiet-front _ _ _ one.dock_later quiet) ps start past st)
          (one.goes (calm-back _ _ _ before.later calm) (quiet-back _ _ _ before.dock_later quiet) ps start));
    }
