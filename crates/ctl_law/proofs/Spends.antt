-- A direction that is over with nothing left.
use Rattle.std.proofs.Common.{◌≡◌, Bool, true, false, ◌&&◌, List, [], ◌∷◌, refl}
use Rattle.hist_controller.specs.Acts.{Way, Association, ControllerAct}
use Rattle.hist_controller.specs.Past.{is_over, left}
use Rattle.hist_controller.specs.Law.{is_none}
use Rattle.hist_controller.specs.Spent.{is_spent}

pub record IsSpent (h : List ControllerAct) (d : Way) : Type 0 where
  pub over : is_over d h ≡ true
  pub left : left d h ≡ []

pub and-both : (a b : Bool) → (a && b) ≡ true → (a ≡ true) × (b ≡ true)
and-both true b e = (refl, e)
and-both false b e = cc

no-left : (xs : List Association) → is_none xs ≡ true → xs ≡ []
no-left [] e = refl
no-left (x ∷ xs) e = cc

pub spent-parts : (h : List ControllerAct) (d : Way) → is_spent d h ≡ true → IsSpent h d
spent-parts h d e = let q = and-both (is_over d h) (is_none (left d h)) e in record { over = q.0; left = no-left (left d h) q.1 }

pub spent-whole : (h : List ControllerAct) (d : Way) → IsSpent h d → is_spent d h ≡ true
spent-whole h d s = let o : is_over d h ≡ true = s.over in let l : left d h ≡ [] = s.left in rw (o, l) refl
