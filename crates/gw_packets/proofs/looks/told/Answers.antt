use Rattle.std.proofs.Common.{◌++◌, List, take, ap, ◌∙◌}
use Rattle.ikeless_tree.specs.declared.order.Notice.{Notice}
use Rattle.ikeless_tree.specs.declared.sad.Limits.{Limits}
use Rattle.life_count.specs.declared.event.LifeEvent.{LifeEvent}
use Rattle.life_count.specs.Lifetime.{counts_of, expiry}
use Rattle.gw_packets.specs.Looks.{expiries}
use Rattle.gw_packets.proofs.Plans.{told-next}
use Rattle.gw_packets.proofs.looks.told.Goals as goal

pub loop-i-preserved : goal.loop-i-preserved
loop-i-preserved c =
    let now = c.args.clock in
    let xs = c.args.halves.now in
    let i = c.loop-i.i in
    let x = c.half-x.result.now in
    c.in_ok-add_expiry.ensures
    ∙ (ap (λ (ns : List Notice). ns ++ expiry x.entry.name c.current.result c.event_now-event.result) c.loop-i.invariant
    ∙ (ap (λ (l : Limits). expiries now (take i xs) ++ expiry x.entry.name l c.event_now-event.result) c.current.ensures
    ∙ (ap (λ (e : LifeEvent). expiries now (take i xs) ++ expiry x.entry.name (counts_of now x.life) e) c.event_now-event.ensures
    ∙ told-next now xs i x c.half-x.ensures)))
