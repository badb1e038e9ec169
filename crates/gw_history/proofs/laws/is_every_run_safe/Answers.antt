use Rattle.std.proofs.Common.{map, sym, subst, []}
use Rattle.std.proofs.lemmas.List.Elements.{All-nil}
use Rattle.gw_law.specs.Orderly.{InstallsTunnel}
use Rattle.hist_acts.specs.Past.{after}
use Rattle.hist_gateway.specs.Safe.{IsGatewaySafe}
use Rattle.hist_gateway.specs.State.{state_of}
use Rattle.gw_tables.specs.Kept.{booted}
use Rattle.gw_law.specs.Told.{begun, kept_of, naming_of}
use Rattle.gw_law.specs.Steps.{Step}
use Rattle.gw_history.specs.Told.{event_of, gateway_of}
use Rattle.gw_history.proofs.Steps.{run-told, tunnels}
use Rattle.gw_history.proofs.laws.is_every_run_safe.Goals as goal

pub returns-clause-begun : goal.returns-clause-begun
returns-clause-begun c = λ config g es p. subst (λ (r : Step). IsGatewaySafe (after [] r.acts))
    (sym (run-told g config es (begun g) booted)) (c.is_every_run_safe.ensures.past (gateway_of g config) [] (map event_of es) tt
    (All-nil InstallsTunnel) (tunnels es p))

pub returns-clause-past : goal.returns-clause-past
returns-clause-past c = λ config g h es l t p. subst (λ (r : Step). IsGatewaySafe (after h r.acts))
    (sym (run-told g config es (naming_of g (state_of g h)) (kept_of (state_of g h))))
    (c.is_every_run_safe.ensures.past (gateway_of g config) h (map event_of es) l t (tunnels es p))
