-- The lists of policies commanded for a gateway, and those put in force there, oldest first.
use Rattle.std.specs.Prelude.{◌≡◌, ℕ, ◌≤◌, List, [], ◌∷◌, ◌++◌, Some, if◌then◌else◌}
use Rattle.std.specs.Str.{bytes_eq}
use Rattle.ikeless_tree.specs.declared.entry.SpdEntry.{SpdEntry}
use Rattle.hist_acts.specs.declared.act.Act.{Act}
use Rattle.hist_acts.specs.declared.act.Act.TheVariants as acts
use Rattle.hist_acts.specs.declared.event.Event.{Event}
use Rattle.hist_acts.specs.declared.event.Event.TheVariants as events
use Rattle.hist_controller.specs.Machine.{place}

-- the lists commanded for the gateway by these events
abbrev pub commanded : List ℕ → List Event → List (List SpdEntry)
commanded g [] = []
commanded g (events.Policy f list ∷ es) = if bytes_eq f g then list ∷ commanded g es else commanded g es
commanded g (_ ∷ es) = commanded g es

-- the lists put in force at the gateway; a restart puts none in force
abbrev pub put_in_force : List ℕ → List Act → List (List SpdEntry)
put_in_force g [] = []
put_in_force g (acts.Policy f list ∷ h) = if bytes_eq f g then put_in_force g h ++ list ∷ [] else put_in_force g h
put_in_force g (_ ∷ h) = put_in_force g h

-- each of these lists stands among all at a place that is neither before n nor before that of the list before it
abbrev pub StandFrom : ℕ → List (List SpdEntry) → List (List SpdEntry) → Type 0
StandFrom n all [] = Unit {0}
StandFrom n all (l ∷ ls) = (i : ℕ) × (n ≤ i) × (place i all ≡ Some l) × StandFrom i all ls

-- Lists in the order of all: some may be left out and some come again, but none goes back.
abbrev pub NeverBack : List (List SpdEntry) → List (List SpdEntry) → Type 0
NeverBack all ls = StandFrom 0 all ls
