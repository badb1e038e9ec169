use Rattle.std.proofs.Common.{◌++◌, List, ℕ, take, ap, ◌∙◌}
use Rattle.life_count.specs.declared.event.LifeEvent.{LifeEvent}
use Rattle.hist_gateway.specs.Places.{names_reached}
use Rattle.gw_packets.specs.Looks.{gone_by}
use Rattle.gw_packets.proofs.Plans.{reached-next}
use Rattle.gw_packets.proofs.looks.reached.Goals as goal

pub loop-i-preserved : goal.loop-i-preserved
loop-i-preserved c =
    let now = c.args.clock in
    let xs = c.args.halves.now in
    let i = c.loop-i.i in
    let x = c.half-x.result.now in
    c.in_ok-add_gone.ensures
    ∙ (ap (λ (ns : List (List ℕ)). ns ++ gone_by x.entry.name c.event_now.result) c.loop-i.invariant
    ∙ (ap (λ (e : LifeEvent). names_reached now (take i xs) ++ gone_by x.entry.name e) c.event_now.ensures
    ∙ reached-next now xs i x c.half-x.ensures))
