-- The part of what happened that the controller took part in.
use Rattle.std.specs.Prelude.{List, [], ◌∷◌}
use Rattle.hist_acts.specs.declared.act.Act.{Act}
use Rattle.hist_acts.specs.declared.act.Act.TheVariants as acts

-- the acts that the controller did or heard; those of gateways, of the clock and of `wire` are left out
abbrev pub controllers_part : List Act → List Act
controllers_part [] = []
controllers_part (acts.Opened f s ∷ h) = acts.Opened f s ∷ controllers_part h
controllers_part (acts.Cut f s ∷ h) = acts.Cut f s ∷ controllers_part h
controllers_part (acts.Order f s k o ∷ h) = acts.Order f s k o ∷ controllers_part h
controllers_part (acts.Answered f s k a ∷ h) = acts.Answered f s k a ∷ controllers_part h
controllers_part (acts.Heard f s n ∷ h) = acts.Heard f s n ∷ controllers_part h
controllers_part (acts.Refused w ∷ h) = acts.Refused w ∷ controllers_part h
controllers_part (_ ∷ h) = controllers_part h
