use Rattle.std.proofs.Common.{◌∙◌}
use Rattle.hist_gateway.specs.State.{state_of}
use Rattle.gw_law.specs.Told.{kept_of, naming_of}
use Rattle.gw_history.specs.Told.{event_of, gateway_of}
use Rattle.gw_history.proofs.Steps.{step-told}
use Rattle.gw_history.proofs.laws.steps_follow.Goals as goal

pub returns-clause-acts : goal.returns-clause-acts
returns-clause-acts c = λ config g h e l t. (step-told g config (naming_of g (state_of g h)) (kept_of (state_of g h)) e).acts
    ∙ c.events_follow.ensures.acts (gateway_of g config) h (event_of e) l t

pub returns-clause-kept : goal.returns-clause-kept
returns-clause-kept c = λ config g h e l t. (step-told g config (naming_of g (state_of g h)) (kept_of (state_of g h)) e).kept
    ∙ c.events_follow.ensures.kept (gateway_of g config) h (event_of e) l t

pub returns-clause-naming : goal.returns-clause-naming
returns-clause-naming c = λ config g h e l t. (step-told g config (naming_of g (state_of g h)) (kept_of (state_of g h)) e).naming
    ∙ c.events_follow.ensures.naming (gateway_of g config) h (event_of e) l t
