use Rattle.std.proofs.Common.{◌≡◌, ◌++◌, [], drop}
use Rattle.live_controller.proofs.Doing.{calm-back, calm-front, later-on, later-same}
use Rattle.live_controller.proofs.Noting.{lines-on}
use Rattle.live_controller.proofs.Keeping.{keeps_none, keeps_on}
use Rattle.live_controller.proofs.desk.Desk.take_notices.Goals as goal

pub lines-init : goal.lines-init
lines-init g c = record {
  serves = c.requires.serves;
  keeps = keeps_none _;
  later = later-same _;
  goes = λ calm ps start past st. ([], tt, st);
}

pub lines-preserved : goal.lines-preserved
lines-preserved g c =
    let before = c.lines.invariant in
    let one = c.in_ok-taken.ensures in
    let left : c.split_at.result.1.now ≡ drop c.in_ok-taken.taken c.lines.rest.now = cc in
    record {
      serves = one.serves;
      keeps = keeps_on _ _ _ before.keeps one.keeps;
      later = later-on _ _ _ before.later one.later;
      goes = λ calm ps start past st.
          let first = before.goes (calm-front _ _ _ one.later calm) ps start past st in
          let next = one.goes (calm-back _ _ _ before.later calm) ps start (first.0 ++ past) first.2 in
          lines-on ps start past first.0 next.0 c.args.g c.in_ok-taken.taken c.lines.rest.now c.split_at.result.1.now _ _ left first.1
          next.1 next.2;
    }
