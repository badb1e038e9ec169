use Rattle.std.proofs.Common.{ap, sym, ◌∙◌}
use Rattle.esp_frame.specs.Esp.{Keying, keying}
use Rattle.esp_frame.specs.Open.{opened}
use Rattle.gw_packets.specs.Opened.{unsealed_by}
use Rattle.gw_packets.proofs.Plans.{if-ok-by, taken-by-text}
use Rattle.gw_packets.proofs.inbound.open_fresh.Goals as goal

pub returns-in-Some-clause-plan : goal.returns-in-Some-clause-plan
returns-in-Some-clause-plan c =
    let b = c.args.octets.now in
    let x = c.args.x.now in
    let text = opened (keying x.entry.spi x.entry.key) b in
    let u = c.in_ok-u.ensures ∙ ap (λ (key : Keying). unsealed_by (opened key b)) c.key_of.ensures in
    let answer = sym c.in_ok-answer_to.ensures ∙ c.in-Some.is in
    if-ok-by (λ q planned k clock. planned k clock ∙ taken-by-text b c.args.i x c.args.number text c.in_ok-u.u c.in-Some.answer k u answer)
    c.take.result c.take.ensures.plan
