use Rattle.std.proofs.Common.{refl, sym, ◌∙◌, ◌∷◌, ◌+◌, arith}
use Rattle.live_controller.specs.Past.{Dialled}
use Rattle.live_controller.proofs.Dialling.{dials-none, dials-one, open-is}
use Rattle.live_controller.proofs.Doing.{calm-back, calm-front, later-on, later-same}
use Rattle.live_controller.proofs.desk.Desk.dial_closed.Goals as goal
use Rattle.live_controller.proofs.desk.Desk.dial_closed.Goals.{then-not-is_open+in_ok-dial, else-not-is_open}

pub loop-g-init : goal.loop-g-init
loop-g-init g c = record {
  serves = c.requires;
  peers = refl;
  later = later-same _;
  goes = λ calm ps start past st. (past, refl, st);
}

pub loop-g-preserved : goal.loop-g-preserved
loop-g-preserved g c = elim c.if-not-is_open.branch [
  | then-not-is_open+in_ok-dial w ↦
      let before = c.loop-g.invariant in
      let one = w.in_ok-dial.ensures in
      rw (w.self-is, w.dialer-is) (record {
        serves = one.serves;
        peers = one.peers ∙ before.peers;
        later = later-on _ _ _ before.later one.later;
        goes = λ calm ps start past st.
            let first = before.goes (calm-front _ _ _ one.later calm) ps start past st in
            let next = one.goes (calm-back _ _ _ before.later calm) ps start first.0 first.2 in
            let down = open-is ps start first.0 _ _ _ _ c.loop-g.g _ first.2 (sym c.is_open.ensures ∙ w.if-not-is_open.true) in
            (Dialled c.loop-g.g ∷ first.0, dials-one ps c.loop-g.g (c.loop-g.g + 1) past first.0 (omega arith) first.1 down, next);
      })
  | else-not-is_open w ↦
      let before = c.loop-g.invariant in
      rw (w.self-is, w.dialer-is) (record {
        serves = before.serves;
        peers = before.peers;
        later = before.later;
        goes = λ calm ps start past st.
            let first = before.goes calm ps start past st in
            let up = open-is ps start first.0 _ _ _ _ c.loop-g.g _ first.2 (sym c.is_open.ensures ∙ w.if-not-is_open.false) in
            (first.0, dials-none ps c.loop-g.g (c.loop-g.g + 1) past first.0 (omega arith) first.1 up, first.2);
      })
]
