-- The same words over all associations that were ever put in a direction.
use Rattle.std.specs.Prelude.{◌≡◌, false, List, [], ◌∷◌, ◌++◌, length, ◌⊎◌, if◌then◌else◌}
use Rattle.hist_controller.specs.Acts.{Way, Association, ControllerAct, Ordered, Accepted}
use Rattle.hist_controller.specs.Past.{directions, is_made_by, RemovingIn, has_answer, inbound_put, spare, is_busy}
use Rattle.hist_controller.specs.Law.{may_out_remove, may_in_remove, may_out_put, may_in_put}
use Rattle.hist_controller.specs.Clauses.{Has}

-- the associations put in the direction
abbrev pub made : Way → List ControllerAct → List Association
made d [] = []
made d (Accepted c ∷ h) = if is_made_by c (length (directions h)) d then [] else made d h
made d (Ordered g s n o ∷ h) = made d h ++ inbound_put d o
made d (_ ∷ h) = made d h

-- no order of the direction is allowed, for any association of it
pub record AllQuiet (h : List ControllerAct) (d : Way) : Type 0 where
  pub no_out_remove : (x : Association) → Has x (made d h) → may_out_remove h d x ≡ false
  pub no_in_remove : (x : Association) → Has x (made d h) → has_answer RemovingIn x.serial h ≡ false → may_in_remove h d x ≡ false
  pub no_out_put : (x : Association) → Has x (made d h) → may_out_put h d x ≡ false
  pub no_in_put : (may_in_put h d ≡ false) ⊎ (spare h ≡ [])

-- in a direction that isn't busy no order is allowed, for any association of it
abbrev pub AllNotIdle : List ControllerAct → Type 0
AllNotIdle h = (d : Way) → Has d (directions h) → is_busy d h ≡ false → AllQuiet h d
