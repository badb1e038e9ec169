-- What each act says of the past before it: the law of the controller, clause by clause.
use Rattle.std.specs.Prelude.{◌≡◌, ℕ, ◌+◌, Bool, true, false, ◌==◌, not, ◌&&◌, List, [], ◌∷◌, Option, Some, None, ◌⊎◌}
use Rattle.std.specs.List.{list_any}
use Rattle.ikeless_tree.specs.declared.order.Notice.{Notice}
use Rattle.ikeless_tree.specs.declared.order.Notice.TheVariants as notices
use Rattle.hist_controller.specs.Acts.{Way, Association, ControllerOrder, Read, Policy, PutIn, PutOut, RemoveIn, RemoveOut, PlacedCommand, SetPolicy, ControllerAct, Opened, Cut, Answered, Heard, Ordered, Accepted, Refused}
use Rattle.hist_controller.specs.Past.{is_open, openings, orders, answered, oldest, queue, newest_list, serials, spare, directions, left, is_busy}
use Rattle.hist_controller.specs.Law.{may_out_remove, may_in_remove, may_out_put, may_in_put, first, is_reading, refusal}

-- the list has this element
abbrev pub Has : {A : Type 0} → A → List A → Type 0
Has x [] = ⊥
Has x (y ∷ ys) = (x ≡ y) ⊎ Has x ys

-- the oldest of the keys left
abbrev pub next_key : List (List ℕ) → Option (List ℕ)
next_key [] = None
next_key (k ∷ ks) = Some k

-- none of these associations passes the test
abbrev pub NonePasses : (Association → Bool) → List Association → Type 0
NonePasses p xs = (x : Association) → Has x xs → p x ≡ false

-- the half in/n of a direction is put, with the oldest key left
pub record MayOrderInPut (h : List ControllerAct) (g : ℕ) (x : Association) : Type 0 where
  pub of : Has x.way (directions h)
  pub at : g ≡ x.way.receiver
  pub free : is_busy x.way h ≡ false
  pub may : may_in_put h x.way ≡ true
  pub serial : x.serial ≡ serials h + 1
  pub key : next_key (spare h) ≡ Some x.key
  pub no_out_remove : NonePasses (may_out_remove h x.way) (left x.way h)
  pub no_in_remove : NonePasses (may_in_remove h x.way) (left x.way h)
  pub no_out_put : NonePasses (may_out_put h x.way) (left x.way h)

-- the half out/n of an association left is put, after its inbound half
pub record MayOrderOutPut (h : List ControllerAct) (g : ℕ) (x : Association) : Type 0 where
  pub way : Way
  pub of : Has way (directions h)
  pub oldest : first (may_out_put h way) (left way h) ≡ Some x
  pub no_out_remove : NonePasses (may_out_remove h way) (left way h)
  pub no_in_remove : NonePasses (may_in_remove h way) (left way h)
  pub left : Has x (left way h)
  pub at : g ≡ way.sender
  pub free : is_busy way h ≡ false
  pub may : may_out_put h way x ≡ true

-- the half in/n of an ended association is removed, after its outbound half
pub record MayOrderInRemove (h : List ControllerAct) (g n : ℕ) : Type 0 where
  pub way : Way
  pub of : Has way (directions h)
  pub association : Association
  pub oldest : first (may_in_remove h way) (left way h) ≡ Some association
  pub no_out_remove : NonePasses (may_out_remove h way) (left way h)
  pub left : Has association (left way h)
  pub name : n ≡ association.serial
  pub at : g ≡ way.receiver
  pub free : is_busy way h ≡ false
  pub may : may_in_remove h way association ≡ true

-- the half out/n of an ended association is removed
pub record MayOrderOutRemove (h : List ControllerAct) (g n : ℕ) : Type 0 where
  pub way : Way
  pub of : Has way (directions h)
  pub association : Association
  pub oldest : first (may_out_remove h way) (left way h) ≡ Some association
  pub left : Has association (left way h)
  pub name : n ≡ association.serial
  pub at : g ≡ way.sender
  pub free : is_busy way h ≡ false
  pub may : may_out_remove h way association ≡ true

-- the notice tells a bad SPI
abbrev pub is_bad : Notice → Bool
is_bad (notices.BadSpi s) = true
is_bad (_) = false

-- the newest act opens a session there, or is a bad SPI heard from there while no reading waits there
abbrev pub is_reading_due : ℕ → List ControllerAct → Bool
is_reading_due g (Opened f s ∷ h) = g == f
is_reading_due g (Heard f s t ∷ h) = (g == f) && is_bad t && not (list_any is_reading (queue g h))
is_reading_due g (_) = false

-- the command gives this gateway a list
abbrev pub is_list_for : ℕ → PlacedCommand → Bool
is_list_for g (SetPolicy f l) = g == f
is_list_for g (_) = false

-- the newest act opens a session at this gateway
abbrev pub is_just_opened : ℕ → List ControllerAct → Bool
is_just_opened g (Opened f s ∷ h) = g == f
is_just_opened g (_) = false

-- the order is the reading that follows an opening at this gateway
abbrev pub is_opening_reading : ℕ → ControllerOrder → List ControllerAct → Bool
is_opening_reading g Read h = is_just_opened g h
is_opening_reading g (_) h = false

-- the newest act is a list accepted for it, or the reading at an opening
abbrev pub is_policy_due : ℕ → List ControllerAct → Bool
is_policy_due g (Accepted c ∷ h) = is_list_for g c
is_policy_due g (Ordered f s n o ∷ h) = (g == f) && is_opening_reading g o h
is_policy_due g (_) = false

-- an order that may be given at this gateway, by its own clause
abbrev pub MayOrder : List ControllerAct → ℕ → ControllerOrder → Type 0
MayOrder h g Read = is_reading_due g h ≡ true
MayOrder h g (Policy l) = (newest_list g h ≡ Some l) × (is_policy_due g h ≡ true)
MayOrder h g (PutIn x) = MayOrderInPut h g x
MayOrder h g (PutOut x) = MayOrderOutPut h g x
MayOrder h g (RemoveIn n) = MayOrderInRemove h g n
MayOrder h g (RemoveOut n) = MayOrderOutRemove h g n

-- an act that may stand after a past, for so many gateways
abbrev pub ControllerMayAct : ℕ → List ControllerAct → ControllerAct → Type 0
ControllerMayAct p h (Opened g s) = (is_open g h ≡ false) × (s ≡ openings g h + 1)
ControllerMayAct p h (Cut g s) = (is_open g h ≡ true) × (s ≡ openings g h)
ControllerMayAct p h (Answered g s n a) = (o : ControllerOrder) × (oldest (queue g h) ≡ Some o) × (s ≡ openings g h)
    × (n ≡ answered g h + 1)
ControllerMayAct p h (Heard g s t) = (is_open g h ≡ true) × (s ≡ openings g h)
ControllerMayAct p h (Ordered g s n o) = (s ≡ openings g h) × (n ≡ orders g h + 1) × (is_open g h ≡ true) × MayOrder h g o
ControllerMayAct p h (Accepted c) = refusal p h c ≡ None
ControllerMayAct p h (Refused w) = (c : PlacedCommand) × (refusal p h c ≡ Some w)

-- so may each of these acts, after those before it
abbrev pub ControllerMayActAll : ℕ → List ControllerAct → List ControllerAct → Type 0
ControllerMayActAll p h [] = Unit {0}
ControllerMayActAll p h (a ∷ more) = ControllerMayAct p h a × ControllerMayActAll p (a ∷ h) more

-- each act of a past may stand after those before it
abbrev pub IsControllerPast : ℕ → List ControllerAct → Type 0
IsControllerPast p [] = Unit {0}
IsControllerPast p (a ∷ h) = ControllerMayAct p h a × IsControllerPast p h

-- no order of the direction is allowed
pub record Quiet (h : List ControllerAct) (d : Way) : Type 0 where
  pub no_out_remove : NonePasses (may_out_remove h d) (left d h)
  pub no_in_remove : NonePasses (may_in_remove h d) (left d h)
  pub no_out_put : NonePasses (may_out_put h d) (left d h)
  pub no_in_put : (may_in_put h d ≡ false) ⊎ (spare h ≡ [])

-- a direction without a waiting put or removal of its own has no order that is allowed
abbrev pub NotIdle : List ControllerAct → Type 0
NotIdle h = (d : Way) → Has d (directions h) → is_busy d h ≡ false → Quiet h d
