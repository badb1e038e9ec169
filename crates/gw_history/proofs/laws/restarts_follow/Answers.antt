use Rattle.std.proofs.Common.{◌∙◌, ap, map}
use Rattle.hist_acts.specs.Past.{clock}
use Rattle.gw_packets.specs.Looks.{clock_read}
use Rattle.hist_gateway.specs.State.{state_of}
use Rattle.gw_tables.specs.Kept.{booted}
use Rattle.gw_law.specs.Told.{naming_of, restarted}
use Rattle.gw_law.specs.Steps.{Step}
use Rattle.gw_history.specs.Told.{event_of, gateway_of}
use Rattle.gw_history.proofs.Steps.{run-told, tunnels}
use Rattle.gw_history.proofs.laws.restarts_follow.Goals as goal

pub returns-clause-run : goal.returns-clause-run
returns-clause-run c = λ config g h es l t p. ap (λ (r : Step). r.acts) (run-told g config es (restarted (naming_of g (state_of g h)))
    (clock_read (clock h) booted).kept) ∙ c.restarts_follow.ensures.run (gateway_of g config) h (map event_of es) l t (tunnels es p)
