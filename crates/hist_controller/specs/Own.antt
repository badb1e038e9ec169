-- The put or removal of its own for whose answer a direction waits.
use Rattle.std.specs.Prelude.{◌≡◌, ℕ, Bool, true, false, not, ◌&&◌, ◌||◌, List, ◌++◌, Option}
use Rattle.std.specs.List.{filter}
use Rattle.hist_controller.specs.Acts.{Way, Association, ControllerOrder, Read, Policy, PutIn, PutOut, RemoveIn, RemoveOut, ControllerAct}
use Rattle.hist_controller.specs.Past.{oldest, queue, directions, left, newest_serial, is_own}
use Rattle.hist_controller.specs.State.{KeptAssociation, association_of}
use Rattle.hist_controller.specs.Clauses.{Has}

-- those that wait at its two gateways
abbrev pub own_orders : Way → List ControllerAct → List ControllerOrder
own_orders d h = filter (is_own d (left d h)) (queue d.sender h) ++ filter (is_own d (left d h)) (queue d.receiver h)

-- the one that waits
abbrev pub waiting_order : Way → List ControllerAct → Option ControllerOrder
waiting_order d h = oldest (own_orders d h)

-- a put or a removal
abbrev pub is_half_order : ControllerOrder → Bool
is_half_order Read = false
is_half_order (Policy l) = false
is_half_order (PutIn x) = true
is_half_order (PutOut x) = true
is_half_order (RemoveIn n) = true
is_half_order (RemoveOut n) = true

-- a put of either half
abbrev pub is_put : ControllerOrder → Bool
is_put Read = false
is_put (Policy l) = false
is_put (PutIn x) = true
is_put (PutOut x) = true
is_put (RemoveIn n) = false
is_put (RemoveOut n) = false

-- the gateway at which a direction gets a put or a removal
abbrev pub place_of : Way → ControllerOrder → ℕ
place_of d Read = d.receiver
place_of d (Policy l) = d.receiver
place_of d (PutIn x) = d.receiver
place_of d (PutOut x) = d.sender
place_of d (RemoveIn n) = d.receiver
place_of d (RemoveOut n) = d.sender

-- a put or a removal of this association
abbrev pub IsOf : Association → ControllerOrder → Type 0
IsOf x Read = ⊥
IsOf x (Policy l) = ⊥
IsOf x (PutIn y) = y ≡ x
IsOf x (PutOut y) = y ≡ x
IsOf x (RemoveIn n) = n ≡ x.serial
IsOf x (RemoveOut n) = n ≡ x.serial

-- how far an association has come while such an order of it waits
abbrev pub is_awaited : ControllerOrder → KeptAssociation → Bool
is_awaited Read k = false
is_awaited (Policy l) k = false
is_awaited (PutIn x) k = not k.in_done && not k.out_sent && not k.out_done && not k.out_gone
is_awaited (PutOut x) k = k.in_done && k.out_sent && not k.out_done && not k.out_gone
is_awaited (RemoveIn n) k = k.ended && (not k.out_sent || k.out_gone)
is_awaited (RemoveOut n) k = k.ended && k.out_sent && not k.out_gone

-- an order of the direction waits at this gateway
pub record OwnWaits (d : Way) (h : List ControllerAct) (g : ℕ) (o : ControllerOrder) : Type 0 where
  pub association : Association
  pub left : Has association (left d h)
  pub of : IsOf association o
  pub at : g ≡ place_of d o
  pub state : is_awaited o (association_of h association) ≡ true
  pub newest : is_put o ≡ true → association.serial ≡ newest_serial d h

-- it is an order of one of the directions
pub record Owner (h : List ControllerAct) (g : ℕ) (o : ControllerOrder) : Type 0 where
  pub way : Way
  pub of : Has way (directions h)
  pub waits : OwnWaits way h g o

-- an outbound half is put after its inbound one, answered after it was put, and removed after its association ended
abbrev pub is_in_order : KeptAssociation → Bool
is_in_order k = (not k.out_sent || k.in_done) && (not k.out_done || k.out_sent) && (not k.out_gone || (k.ended && k.out_sent))

-- a put or a removal that waits at this gateway is of an association left, whose direction has it there
abbrev pub IsOfLeft : List ControllerAct → ℕ → ControllerOrder → Type 0
IsOfLeft h g Read = Unit {0}
IsOfLeft h g (Policy l) = Unit {0}
IsOfLeft h g (PutIn x) = Has x.way (directions h) × Has x (left x.way h) × (g ≡ x.way.receiver)
IsOfLeft h g (PutOut x) = Has x.way (directions h) × Has x (left x.way h) × (g ≡ x.way.sender)
IsOfLeft h g (RemoveIn n) = (x : Association) × (n ≡ x.serial) × Has x.way (directions h) × Has x (left x.way h) × (g ≡ x.way.receiver)
IsOfLeft h g (RemoveOut n) = (x : Association) × (n ≡ x.serial) × Has x.way (directions h) × Has x (left x.way h) × (g ≡ x.way.sender)
