-- What a controller is told, what it hears and what it orders. A gateway stands as its number among the peers. These are
-- the controller's own acts; `told` in Told says which acts of a transcript they are.
use Rattle.std.specs.Prelude.{ℕ, List}
use Rattle.ikl_base.specs.declared.address.Prefix.{Prefix}
use Rattle.ikeless_tree.specs.declared.entry.SpdEntry.{SpdEntry}
use Rattle.ikeless_tree.specs.declared.order.Answer.{Answer}
use Rattle.ikeless_tree.specs.declared.order.Notice.{Notice}
use Rattle.ikeless_tree.specs.declared.command.Command.{Command}
use Rattle.ikeless_tree.specs.declared.command.Refusal.{Refusal}
use Rattle.ikeless_tree.specs.declared.command.TunnelSpec.{TunnelSpec}

-- one direction of a tunnel; its id is its place among all directions, in the order of the commands
pub record Way : Type 0 where
  pub id : ℕ
  pub tunnel : TunnelSpec
  pub sender : ℕ
  pub receiver : ℕ
  pub near : Prefix  -- behind the sender
  pub far : Prefix  -- behind the receiver

-- an association as its two halves are put: `in/N` at the receiver and `out/N` at the sender, N its serial
pub record Association : Type 0 where
  pub serial : ℕ
  pub key : List ℕ
  pub way : Way

-- an order at a gateway; a half is put whole and removed by its serial
pub data ControllerOrder : Type 0 where
  Read : ControllerOrder
  Policy : (l : List SpdEntry) → ControllerOrder
  PutIn : (x : Association) → ControllerOrder
  PutOut : (x : Association) → ControllerOrder
  RemoveIn : (n : ℕ) → ControllerOrder
  RemoveOut : (n : ℕ) → ControllerOrder

-- a tunnel that is commanded, with its gateways by their numbers
pub record PlacedTunnel : Type 0 where
  pub spec : TunnelSpec
  pub first : ℕ
  pub second : ℕ

-- a command with its gateways by their numbers
pub data PlacedCommand : Type 0 where
  SetPolicy : (g : ℕ) (l : List SpdEntry) → PlacedCommand
  Tunnel : (t : PlacedTunnel) → PlacedCommand
  End : (r : ℕ) → PlacedCommand
  Rekey : (r : ℕ) → PlacedCommand
  Keys : (k : List ℕ) → PlacedCommand

-- g a gateway, s a session of it, n the number of an order in the session
pub data ControllerAct : Type 0 where
  Opened : (g s : ℕ) → ControllerAct
  Cut : (g s : ℕ) → ControllerAct
  Answered : (g s n : ℕ) (a : Answer) → ControllerAct
  Heard : (g s : ℕ) (t : Notice) → ControllerAct
  Ordered : (g s n : ℕ) (o : ControllerOrder) → ControllerAct
  Accepted : (c : PlacedCommand) → ControllerAct
  Refused : (w : Refusal) → ControllerAct

-- a command, or what comes from the gateway with this number: a session, its cut, an answer or a notice
pub data ControllerEvent : Type 0 where
  Told : (c : Command) → ControllerEvent
  Opens : (g : ℕ) → ControllerEvent
  Cuts : (g : ℕ) → ControllerEvent
  Answers : (g : ℕ) (a : Answer) → ControllerEvent
  Notices : (g : ℕ) (t : Notice) → ControllerEvent
