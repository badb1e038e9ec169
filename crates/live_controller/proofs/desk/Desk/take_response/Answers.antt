use Rattle.std.proofs.Common.{refl, sym, ap, subst, ◌∙◌}
use Rattle.ctl_core.specs.declared.acts.CtlEvent.{CtlEvent}
use Rattle.ctl_core.specs.declared.acts.CtlEvent.TheVariants as events
use Rattle.live_controller.specs.Doings.{Does}
use Rattle.live_controller.specs.Past.{answer_in}
use Rattle.live_controller.proofs.Telling.{does-told}
use Rattle.live_controller.proofs.desk.Desk.take_response.Goals as goal

pub returns-in_ok-tell-in-Some-clause-does : goal.returns-in_ok-tell-in-Some-clause-does
returns-in_ok-tell-in-Some-clause-does g c = λ calm agrees.
    let told = c.in_ok-tell-in-Some.ensures.tells calm agrees in
    let does = does-told (events.Answered c.args.g c.in-Some.answer) _ _ _ _ (λ k p. refl) (λ k. refl) told in
    let P : CtlEvent → Type 0 = λ e. Does e c.args.self.now c.tell.new.self (g.L.Dialer.held c.args.dialer.now)
    (g.L.Dialer.held c.tell.new.dialer) in
    subst P (ap (answer_in c.args.g) (sym c.in-Some.is ∙ c.in_ok-answer.ensures.answer)) does
