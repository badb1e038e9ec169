-- How many halves a controller has at a gateway.
use Rattle.std.specs.Prelude.{◌≡◌, ℕ, ◌+◌, Bool, true, ◌==◌, ◌||◌, nat_le, List, [], ◌∷◌, Option, Some, length, if◌then◌else◌}
use Rattle.hist_controller.specs.Acts.{Way, ControllerOrder, PutIn, PutOut, ControllerAct, Answered}
use Rattle.hist_controller.specs.Past.{oldest, queue, left}

-- a put is answered with 201, or refused
abbrev pub is_plain : Option ControllerOrder → ℕ → Bool
is_plain (Some (PutIn x)) status = (status == 201) || nat_le 400 status
is_plain (Some (PutOut x)) status = (status == 201) || nat_le 400 status
is_plain (_) status = true

-- each put of a past was answered so
abbrev pub PlainAnswers : List ControllerAct → Type 0
PlainAnswers [] = Unit {0}
PlainAnswers (Answered g s n a ∷ h) = (is_plain (oldest (queue g h)) a.status ≡ true) × PlainAnswers h
PlainAnswers (_ ∷ h) = PlainAnswers h

-- the gateway is the sender or the receiver of the direction
abbrev pub is_at_gateway : ℕ → Way → Bool
is_at_gateway g d = (d.sender == g) || (d.receiver == g)

-- each association left has a half at most at each of its two gateways
abbrev pub half_count : ℕ → List ControllerAct → List Way → ℕ
half_count g h [] = 0
half_count g h (d ∷ ds) = if is_at_gateway g d then length (left d h) + half_count g h ds else half_count g h ds
