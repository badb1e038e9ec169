use Rattle.std.proofs.Common.{refl}
use Rattle.ctl_core.specs.declared.acts.CtlEvent.TheVariants as events
use Rattle.live_controller.proofs.Telling.{does-told}
use Rattle.live_controller.proofs.desk.Desk.take_notice.Goals as goal

pub returns-clause-does : goal.returns-clause-does
returns-clause-does g c = λ calm agrees.
    does-told (events.Noticed c.args.g c.args.notice) _ _ _ _ (λ k p. refl) (λ k. refl) (c.in_ok-tell.ensures.tells calm agrees)
