use Rattle.ctl_law.specs.Told.{event_of}
use Rattle.ctl_law.proofs.Steps.{step-follows, past-stays, plain-stays}
use Rattle.ctl_law.proofs.laws.steps_follow.Goals as goal

pub returns-clause-acts : goal.returns-clause-acts
returns-clause-acts c = λ ps h core e l y s m. (step-follows ps h core e l y s m).acts

pub returns-clause-stands : goal.returns-clause-stands
returns-clause-stands c = λ ps h core e l y s m. (step-follows ps h core e l y s m).stands

pub returns-clause-past : goal.returns-clause-past
returns-clause-past c = λ ps h e l. past-stays ps h (event_of e) l

pub returns-clause-plain : goal.returns-clause-plain
returns-clause-plain c = plain-stays
