-- The order of a number, read plainly.
use Rattle.std.specs.Prelude.{ℕ, ◌==◌, ◌&&◌, List, [], ◌∷◌, Option, Some, None, if◌then◌else◌}
use Rattle.hist_controller.specs.Acts.{ControllerOrder, ControllerAct, Ordered}

-- the order of this number in this session of the gateway
abbrev pub numbered : ℕ → ℕ → ℕ → List ControllerAct → Option ControllerOrder
numbered g s n [] = None
numbered g s n (Ordered f t i o ∷ h) = if (g == f) && (s == t) && (n == i) then Some o else numbered g s n h
numbered g s n (_ ∷ h) = numbered g s n h
