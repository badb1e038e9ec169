use Rattle.std.proofs.Common.{◌∙◌, ap, map}
use Rattle.hist_gateway.specs.State.{state_of}
use Rattle.gw_tables.specs.Kept.{booted}
use Rattle.gw_law.specs.Told.{begun, kept_of, naming_of}
use Rattle.gw_law.specs.Steps.{Step}
use Rattle.gw_history.specs.Told.{event_of, gateway_of}
use Rattle.gw_history.proofs.Steps.{run-told, tunnels}
use Rattle.gw_history.proofs.laws.runs_follow.Goals as goal

pub returns-clause-begun : goal.returns-clause-begun
returns-clause-begun c = λ config g es p. ap (λ (r : Step). r.acts) (run-told g config es (begun g) booted)
    ∙ c.runs_follow.ensures.begun (gateway_of g config) (map event_of es) (tunnels es p)

pub returns-clause-begun_kept : goal.returns-clause-begun_kept
returns-clause-begun_kept c = λ config g es p. ap (λ (r : Step). r.kept) (run-told g config es (begun g) booted)
    ∙ c.runs_follow.ensures.begun_kept (gateway_of g config) (map event_of es) (tunnels es p)

pub returns-clause-past : goal.returns-clause-past
returns-clause-past c =
    λ config g h es l t p. ap (λ (r : Step). r.acts) (run-told g config es (naming_of g (state_of g h)) (kept_of (state_of g h)))
    ∙ c.runs_follow.ensures.past (gateway_of g config) h (map event_of es) l t (tunnels es p)

pub returns-clause-past_kept : goal.returns-clause-past_kept
returns-clause-past_kept c =
    λ config g h es l t p. ap (λ (r : Step). r.kept) (run-told g config es (naming_of g (state_of g h)) (kept_of (state_of g h)))
    ∙ c.runs_follow.ensures.past_kept (gateway_of g config) h (map event_of es) l t (tunnels es p)
