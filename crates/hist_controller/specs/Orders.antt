-- What stood before each order, in words of orders and answers alone.
use Rattle.std.specs.Prelude.{◌≡◌, ℕ, Bool, true, false, ◌==◌, not, ◌&&◌, ◌||◌, List, [], ◌∷◌, Option, Some, None, ◌⊎◌}
use Rattle.std.specs.List.{list_any}
use Rattle.ikeless_tree.specs.declared.order.Answer.{Answer}
use Rattle.ikeless_tree.specs.Half.{in_name}
use Rattle.hist_controller.specs.Acts.{Association, ControllerOrder, Read, Policy, PutIn, PutOut, RemoveIn, RemoveOut, ControllerAct, Answered, Ordered}
use Rattle.hist_controller.specs.Past.{oldest, queue, is_shown, Kind, PuttingIn, PuttingOut, RemovingIn, RemovingOut, is_kind, has_answer}

-- such an order was ever given
abbrev pub was_ordered : Kind → ℕ → List ControllerAct → Bool
was_ordered k n [] = false
was_ordered k n (Ordered g s i o ∷ h) = is_kind k n o || was_ordered k n h
was_ordered k n (_ ∷ h) = was_ordered k n h

-- it answers a reading at the receiver that doesn't show in/n, where the put of in/n was answered before
abbrev pub is_not_shown : Association → ℕ → Option ControllerOrder → Answer → Bool → Bool
is_not_shown x g None a done = false
is_not_shown x g (Some Read) a done = (x.way.receiver == g) && done && not (is_shown a.names (in_name x.serial))
is_not_shown x g (Some (Policy l)) a done = false
is_not_shown x g (Some (PutIn y)) a done = false
is_not_shown x g (Some (PutOut y)) a done = false
is_not_shown x g (Some (RemoveIn n)) a done = false
is_not_shown x g (Some (RemoveOut n)) a done = false

-- since the put of in/n was answered, a reading answered at the receiver did not show it
abbrev pub was_missed : Association → List ControllerAct → Bool
was_missed x [] = false
was_missed x (Answered g s n a ∷ h) = is_not_shown x g (oldest (queue g h)) a (has_answer PuttingIn x.serial h) || was_missed x h
was_missed x (Ordered g s n o ∷ h) = not (is_kind PuttingIn x.serial o) && was_missed x h
was_missed x (_ ∷ h) = was_missed x h

-- what stands before an order
abbrev pub Before : List ControllerAct → ControllerOrder → Type 0
Before h Read = Unit {0}
Before h (Policy l) = Unit {0}
Before h (PutIn x) = was_ordered PuttingIn x.serial h ≡ false
Before h (PutOut x) = (has_answer PuttingIn x.serial h ≡ true) × (was_ordered PuttingOut x.serial h ≡ false)
    × (was_ordered RemovingIn x.serial h ≡ false) × (was_missed x h ≡ false)
Before h (RemoveOut n) = (was_ordered PuttingOut n h ≡ true) × ((g : ℕ) → list_any (is_kind PuttingOut n) (queue g h) ≡ false)
Before h (RemoveIn n) = (was_ordered PuttingOut n h ≡ false) ⊎ (has_answer RemovingOut n h ≡ true)

-- so it was before each order of a past
abbrev pub AllBefore : List ControllerAct → Type 0
AllBefore [] = Unit {0}
AllBefore (Ordered g s n o ∷ h) = Before h o × AllBefore h
AllBefore (_ ∷ h) = AllBefore h

-- the order was given at this gateway
abbrev pub WasOrdered : ControllerOrder → ℕ → List ControllerAct → Type 0
WasOrdered o g [] = ⊥
WasOrdered o g (Ordered f s n z ∷ h) = ((o ≡ z) × (g ≡ f)) ⊎ WasOrdered o g h
WasOrdered o g (_ ∷ h) = WasOrdered o g h

-- the association of this serial was put so
abbrev pub PutOf : (Association → ControllerOrder) → ℕ → ℕ → List ControllerAct → Type 0
PutOf put n g h = (x : Association) × (n ≡ x.serial) × WasOrdered (put x) g h
