use Rattle.std.proofs.Common.{sym, ◌∙◌}
use Rattle.live_controller.proofs.Dialling.{on-ok-both, open-is, reads-both, reads-first}
use Rattle.live_controller.proofs.Doing.{calm-back, calm-front}
use Rattle.live_controller.proofs.desk.Desk.read_peer.Goals as goal

pub returns-then-not-is_open-clause-goes : goal.returns-then-not-is_open-clause-goes
returns-then-not-is_open-clause-goes g c = λ calm ps start past st.
    let heard = c.in_ok-read_responses.ensures.goes calm ps start past st in
    let up = open-is ps start past _ _ _ _ c.args.g _ st c.requires.up in
    let over = open-is ps start heard.0 _ _ _ _ c.args.g _ heard.2 (sym c.is_open.ensures ∙ c.if-not-is_open.true) in
    (heard.0, reads-first ps c.args.g past heard.0 up over heard.1, heard.2)

pub returns-clause-goes : goal.returns-clause-goes
returns-clause-goes g c =
    let first = c.in_ok-read_responses.ensures in
    on-ok-both c.read_notices.result (λ later goes calm ps start past st.
    let heard = first.goes (calm-front _ _ _ later calm) ps start past st in
    let told = goes (calm-back _ _ _ first.later calm) ps start heard.0 heard.2 in
    let up = open-is ps start past _ _ _ _ c.args.g _ st c.requires.up in
    let still = open-is ps start heard.0 _ _ _ _ c.args.g _ heard.2 (sym c.is_open.ensures ∙ c.if-not-is_open.false) in
    (told.0, reads-both ps c.args.g past heard.0 told.0 up still heard.1 told.1, told.2)) c.read_notices.ensures.later
    c.read_notices.ensures.goes
