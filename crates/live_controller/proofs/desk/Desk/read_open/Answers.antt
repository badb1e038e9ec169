use Rattle.std.proofs.Common.{refl, sym, ◌∙◌, ◌≡◌, ◌+◌, length, arith}
use Rattle.live_controller.proofs.Dialling.{open-is, reads-none, reads-on}
use Rattle.live_controller.proofs.Doing.{calm-back, calm-front, later-on, later-same}
use Rattle.live_controller.proofs.desk.Desk.read_open.Goals as goal
use Rattle.live_controller.proofs.desk.Desk.read_open.Goals.{then-is_open+in_ok-read_peer, else-is_open}

pub loop-g-init : goal.loop-g-init
loop-g-init g c = record {
  serves = c.requires.serves;
  peers = refl;
  room = c.requires.room;
  later = later-same _;
  goes = λ calm ps start past st. (past, refl, st);
}

pub loop-g-preserved : goal.loop-g-preserved
loop-g-preserved g c = elim c.if-is_open.branch [
  | then-is_open+in_ok-read_peer w ↦
      let before = c.loop-g.invariant in
      let one = w.in_ok-read_peer.ensures in
      let room : length w.read_peer.new.buf ≡ 65536 = omega (arith, w.read_peer.auto.buf, before.room) in
      rw (w.self-is, w.dialer-is, w.buf-is) (record {
        serves = one.serves;
        peers = one.keeps.peers ∙ before.peers;
        room = room;
        later = later-on _ _ _ before.later one.later;
        goes = λ calm ps start past st.
            let first = before.goes (calm-front _ _ _ one.later calm) ps start past st in
            let next = one.goes (calm-back _ _ _ before.later calm) ps start first.0 first.2 in
            (next.0, reads-on ps c.loop-g.g (c.loop-g.g + 1) past first.0 next.0 (omega arith) first.1 next.1, next.2);
      })
  | else-is_open w ↦
      let before = c.loop-g.invariant in
      rw (w.self-is, w.dialer-is, w.buf-is) (record {
        serves = before.serves;
        peers = before.peers;
        room = before.room;
        later = before.later;
        goes = λ calm ps start past st.
            let first = before.goes calm ps start past st in
            let over = open-is ps start first.0 _ _ _ _ c.loop-g.g _ first.2 (sym c.is_open.ensures ∙ w.if-is_open.false) in (
              first.0,
              reads-on ps c.loop-g.g (c.loop-g.g + 1) past first.0 first.0 (omega arith) first.1
                  (reads-none ps c.loop-g.g first.0 over),
              first.2,
            );
      })
]
