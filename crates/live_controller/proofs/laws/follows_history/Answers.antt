use Rattle.std.proofs.Common.{sym, ◌∙◌}
use Rattle.live_controller.specs.Past.{happened}
use Rattle.live_controller.proofs.Following.{acts-follow, all-told, core-follows}
use Rattle.live_controller.proofs.laws.follows_history.Goals as goal

pub returns-clause-core : goal.returns-clause-core
returns-clause-core c = core-follows

pub returns-clause-acts : goal.returns-clause-acts
returns-clause-acts c = acts-follow

pub returns-clause-history : goal.returns-clause-history
returns-clause-history c = λ ps start past found.
    sym (acts-follow ps past)
    ∙ c.runs_follow.ensures.first ps (happened ps past)
    (all-told c.answers_have_statuses.ensures c.begins.ensures c.runs_follow.ensures.stands ps start past found)
