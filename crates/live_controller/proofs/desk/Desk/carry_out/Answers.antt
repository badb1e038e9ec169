use Rattle.std.proofs.Common.{◌≡◌, ◌<◌, ℕ, List, ◌∷◌, [], length, sym, subst, ◌∙◌, arith}
use Rattle.std.specs.Prelude.{All}
use Rattle.ikeless_tree.specs.declared.command.Peer.{Peer}
use Rattle.live_controller.specs.declared.link.Link.{Link}
use Rattle.live_controller.specs.Doings.{Carried, IsReady}
use Rattle.live_controller.proofs.Doing.{calm-back, calm-front, carried-step, later-on}
use Rattle.live_controller.proofs.Keeping.{keeps_on}
use Rattle.live_controller.proofs.desk.Desk.carry_out.Goals as goal

pub loop-act-preserved : goal.loop-act-preserved
loop-act-preserved g c =
    let before = c.loop-act.invariant in
    let one = c.in_ok-carry_out_one.ensures in
    let i = c.loop-act.act-index in
    let xs = c.as_slice-act-items.result.now in
    let lt : c.loop-act.act-index < length c.as_slice-act-items.result.now = omega arith in
    let N : List Peer → Type 0 = λ ps. All (λ (k : ℕ). k < length ps) c.carry_out_one.new.lost.items in
    record {
      serves = one.serves;
      keeps = keeps_on _ _ _ before.keeps one.keeps;
      lost = subst N before.keeps.peers one.lost;
      core = one.core ∙ before.core;
      later = later-on _ _ _ before.later one.later;
      carried = λ calm ready.
          let first = before.carried (calm-front _ _ _ one.later calm) ready in
          let P : List Link → Type 0 = λ links. IsReady links c.act-item.result in
          let here : IsReady c.args.self.now.links.items c.act-item.result =
          subst (IsReady c.args.self.now.links.items) (sym c.act-item.is) (ready i c.act-item.result lt) in
          let links : c.args.self.now.links.items ≡ c.loop-act.self.links.items = let same = first.links in cc in
          let second = one.carried (calm-back _ _ _ before.later calm) (subst P links here) in
          let Q : List Peer → Type 0 = λ ps. Carried ps (c.act-item.result ∷ []) c.loop-act.self c.carry_out_one.new.self
          c.loop-act.lost.items c.carry_out_one.new.lost.items (g.L.Dialer.held c.loop-act.dialer)
          (g.L.Dialer.held c.carry_out_one.new.dialer) in
          carried-step c.args.self.now.peers xs i c.act-item.result _ _ _ _ _ _ _ _ _ lt c.act-item.is first
          (subst Q before.keeps.peers second);
    }
