-- A datagram that comes to a gateway.
use Rattle.std.specs.Prelude.{◌≡◌, ◌&&◌, not, ℕ, Bool, true, false, List, ◌++◌, [], ◌∷◌}
use Rattle.std.specs.List.{list_any}
use Rattle.hist_acts.specs.declared.act.Act.{Act}
use Rattle.hist_acts.specs.declared.act.Act.TheVariants as acts
use Rattle.hist_halves.specs.Sealed.{esp_of}
use Rattle.gw_core.specs.Machine.{Arrive}
use Rattle.world_steps.specs.Nodes.{Node, acts_told, after_event, all_sent, outcome}
use Rattle.world_steps.specs.Worlds.{was_sent}
use Rattle.world_steps.specs.Steps.{did_open}
use Rattle.world_run.specs.declared.go.Go.{Go}
use Rattle.world_run.specs.Taken.{go_of}

-- its tag is right, and no datagram with its ESP octets was sent
abbrev pub is_forged_in : List ℕ → Node → List (List ℕ) → Bool
is_forged_in o n sent = list_any did_open (outcome n (Arrive o)).acts && not (was_sent (esp_of o) sent)

-- what it becomes where it isn't forged; a forged one is told alone
pub record IsTakenIn (g o : List ℕ) (before after : Node) (sent_before sent_after : List (List ℕ)) (acts_before acts_after : List Act)
    (given : Go) : Type 0 where
  pub go : given ≡ go_of (is_forged_in o before sent_before)
  pub forged : is_forged_in o before sent_before ≡ true → acts_after ≡ acts_before ++ acts.Arrived g o ∷ []
  pub acts : is_forged_in o before sent_before ≡ false
      → acts_after ≡ acts_before ++ acts.Arrived g o ∷ acts_told before (outcome before (Arrive o)).acts
  pub node : is_forged_in o before sent_before ≡ false → after ≡ after_event (Arrive o) before
  pub sent : is_forged_in o before sent_before ≡ false → sent_after ≡ sent_before ++ all_sent (outcome before (Arrive o)).acts
