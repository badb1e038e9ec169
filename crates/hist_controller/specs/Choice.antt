-- The clauses leave no choice: which order comes next, when a block is whole, and which lists of acts are the block of an event.
use Rattle.std.specs.Prelude.{◌≡◌, ℕ, ◌<◌, true, false, List, [], ◌∷◌, Some, length}
use Rattle.ikeless_tree.specs.declared.command.Peer.{Peer}
use Rattle.hist_controller.specs.Acts.{Way, ControllerOrder, Read, Policy, ControllerAct, Opened, Cut, Answered, Heard, Ordered, Accepted, Refused, ControllerEvent, Told, Opens, Cuts, Answers, Notices}
use Rattle.hist_controller.specs.Past.{is_open, newest_list, directions, left, is_own, is_busy}
use Rattle.hist_controller.specs.Law.{placed_command, refusal}
use Rattle.hist_controller.specs.Clauses.{Has, is_reading_due, is_policy_due, ControllerMayAct, Quiet, NotIdle}

-- An order that belongs to no direction is due: at an opening a reading, and then the newest list if there is one; at a list
-- accepted for a gateway with an open session this list; at a bad SPI a reading, unless one waits.
abbrev pub IsDue : List ControllerAct → ℕ → ControllerOrder → Type 0
IsDue h g Read = is_reading_due g h ≡ true
IsDue h g (Policy l) = (is_open g h ≡ true) × (newest_list g h ≡ Some l) × (is_policy_due g h ≡ true)
IsDue h g _ = ⊥

-- no order that belongs to no direction is due
abbrev pub NoneDue : List ControllerAct → Type 0
NoneDue h = (g : ℕ) (o : ControllerOrder) → IsDue h g o → ⊥

-- it is the turn of this direction: no such order is due, and no direction commanded before it has an order that is allowed
pub record HasTurn (h : List ControllerAct) (d : Way) : Type 0 where
  pub none_due : NoneDue h
  pub earlier : (e : Way) → Has e (directions h) → e.id < d.id → is_busy e h ≡ false → Quiet h e

-- an order of a direction comes where that has its turn
abbrev pub ComesNext : List ControllerAct → ControllerOrder → Type 0
ComesNext h o = (d : Way) → Has d (directions h) → is_own d (left d h) o ≡ true → HasTurn h d

-- orders, each of which may be given and comes next after what is before it, until none is due and none is allowed
abbrev pub AreOrdersNext : ℕ → List ControllerAct → List ControllerAct → Type 0
AreOrdersNext p h [] = NoneDue h × NotIdle h
AreOrdersNext p h (Ordered g s n o ∷ more) = ControllerMayAct p h (Ordered g s n o) × ComesNext h o
    × AreOrdersNext p (Ordered g s n o ∷ h) more
AreOrdersNext p h (_ ∷ more) = ⊥

-- the act is the event's own
abbrev pub IsOwnAct : List Peer → List ControllerAct → ControllerEvent → ControllerAct → Type 0
IsOwnAct ps h (Told c) (Accepted k) = k ≡ placed_command ps c
IsOwnAct ps h (Told c) (Refused w) = refusal (length ps) h (placed_command ps c) ≡ Some w
IsOwnAct ps h (Opens g) (Opened f s) = f ≡ g
IsOwnAct ps h (Cuts g) (Cut f s) = f ≡ g
IsOwnAct ps h (Answers g a) (Answered f s n b) = (f ≡ g) × (b ≡ a)
IsOwnAct ps h (Notices g t) (Heard f s u) = (f ≡ g) × (u ≡ t)
IsOwnAct ps h _ _ = ⊥

-- The acts are a block of the event: its own act and all orders that come after that; none where its own act may not stand.
abbrev pub IsBlock : List Peer → List ControllerAct → ControllerEvent → List ControllerAct → Type 0
IsBlock ps h e [] = (a : ControllerAct) → IsOwnAct ps h e a → ControllerMayAct (length ps) h a → ⊥
IsBlock ps h e (a ∷ os) = IsOwnAct ps h e a × ControllerMayAct (length ps) h a × AreOrdersNext (length ps) (a ∷ h) os
