-- Directions that are over and have nothing left, which may be forgotten.
use Rattle.std.specs.Prelude.{◌≡◌, Bool, true, false, ◌&&◌, ◌||◌, List, [], ◌∷◌, length, if◌then◌else◌}
use Rattle.hist_controller.specs.Acts.{Way, ControllerAct, Accepted}
use Rattle.hist_controller.specs.Past.{new_ways, directions, is_over, left, is_busy}
use Rattle.hist_controller.specs.Law.{is_none, is_counted, give}

-- its tunnel is ended, and no association of it is left
abbrev pub is_spent : Way → List ControllerAct → Bool
is_spent d h = is_over d h && is_none (left d h)

-- the second list is the first without some tunnels both of whose directions are spent; the two directions of a tunnel stand
-- together
pub data Forgets (h : List ControllerAct) : List Way → List Way → Type 0 where
  none : Forgets h [] []
  keeps : (d e : Way) (ds ks : List Way) → Forgets h ds ks → Forgets h (d ∷ e ∷ ds) (d ∷ e ∷ ks)
  drops : (d e : Way) (ds ks : List Way) → is_spent d h ≡ true → is_spent e h ≡ true → Forgets h ds ks → Forgets h (d ∷ e ∷ ds) ks

-- the directions that an act adds
abbrev pub added_ways : List ControllerAct → ControllerAct → List Way
added_ways h (Accepted c) = new_ways (length (directions h)) c
added_ways h (_) = []

-- those of tunnels that aren't spent
abbrev pub unspent : List ControllerAct → List Way → List Way
unspent h [] = []
unspent h (d ∷ []) = []
unspent h (d ∷ e ∷ ds) = if is_counted h d || is_counted h e then d ∷ e ∷ unspent h ds else unspent h ds

-- it stays spent, no order of it waits, and it is given none
pub record StaysSpent (d : Way) (h : List ControllerAct) : Type 0 where
  pub spent : is_spent d h ≡ true
  pub free : is_busy d h ≡ false
  pub still : give h d ≡ []
