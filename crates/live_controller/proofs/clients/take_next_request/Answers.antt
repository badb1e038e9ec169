use Rattle.std.proofs.Common.{refl, ap, ◌∙◌}
use Rattle.live_controller.specs.declared.clients.Session.{Session}
use Rattle.live_controller.proofs.Requesting.{answers-on, breaks-on, waits-on}
use Rattle.live_controller.proofs.clients.take_next_request.Goals as goal

pub returns-in-NoneYet-clause-goes : goal.returns-in-NoneYet-clause-goes
returns-in-NoneYet-clause-goes g c = λ calm quiet ps start past st.
    let brings = rw c.in-NoneYet.is at c.in_ok-feed.ensures in
    waits-on ps start past c.args.piece.now _ _ c.args.session.now _ refl brings.0 brings.1 st

pub returns-in_ok-refuse-in-Broken-clause-goes : goal.returns-in_ok-refuse-in-Broken-clause-goes
returns-in_ok-refuse-in-Broken-clause-goes g c = λ calm quiet ps start past st.
    let brings = rw c.in-Broken.is at c.in_ok-feed.ensures in
    let refused = c.in_ok-refuse-in-Broken.ensures in
    breaks-on ps start past c.args.piece.now _ c.in-Broken.fault _ _ _ _ c.args.session.now _ c.requires.there refused.over brings
    (refused.wrote quiet)
    st

pub returns-in_ok-answer-in-Whole-clause-goes : goal.returns-in_ok-answer-in-Whole-clause-goes
returns-in_ok-answer-in-Whole-clause-goes g c = λ calm quiet ps start past st.
    let brings = rw c.in-Whole.is at c.in_ok-feed.ensures in
    let done = c.in_ok-answer-in-Whole.ensures in
    let same = done.kept quiet in
    answers-on ps start past c.args.piece.now c.in-Whole.message c.in-Whole.taken _ _ _ _ _ _ c.args.session.now c.answer.new.session
    c.requires.there
    (ap (λ (s : Session). s.is_there) same ∙ c.requires.there) (ap (λ (s : Session). s.requests) same ∙ brings.1) brings.0
    (done.wrote quiet)
    (done.does calm st.peers.agrees) st
