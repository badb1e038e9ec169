-- Words that look back over what happened. A past has its newest act first.
use Rattle.std.specs.Prelude.{ℕ, ◌+◌, max, List, [], ◌∷◌, if◌then◌else◌}
use Rattle.std.specs.Str.{bytes_eq}
use Rattle.ikeless_tree.specs.declared.entry.SpdEntry.{SpdEntry}
use Rattle.hist_acts.specs.declared.act.Act.{Act}
use Rattle.hist_acts.specs.declared.act.Act.TheVariants as acts

-- a past after further acts, which stand in their order
abbrev pub after : {A : Type 0} → List A → List A → List A
after h [] = h
after h (a ∷ more) = after (a ∷ h) more

-- how many events were taken
abbrev pub events_taken : List Act → ℕ
events_taken [] = 0
events_taken (acts.Took k ∷ h) = events_taken h + 1
events_taken (_ ∷ h) = events_taken h

-- the clock: the greatest reading so far in seconds, 0 at the start
abbrev pub clock : List Act → ℕ
clock [] = 0
clock (acts.Now t ∷ h) = max t (clock h)
clock (_ ∷ h) = clock h

-- The list in force at a gateway: that of the last Policy there, and else, as after a boot, the empty list
-- (the security policy database of RFC 4301 section 4.4.1).
abbrev pub force : List ℕ → List Act → List SpdEntry
force g [] = []
force g (acts.Policy name list ∷ h) = if bytes_eq name g then list else force g h
force g (acts.Boot name ∷ h) = if bytes_eq name g then [] else force g h
force g (_ ∷ h) = force g h
