-- Which acts of a transcript the controller's own acts are.
use Rattle.std.specs.Prelude.{◌≡◌, ℕ, ◌+◌, ◌-◌, ◌<◌, ◌==◌, ◌&&◌, not, Bool, true, List, [], ◌∷◌, ◌++◌, None, length, if◌then◌else◌}
use Rattle.std.specs.List.{list_all}
use Rattle.std.specs.Str.{bytes_eq}
use Rattle.ikl_base.specs.declared.address.Addr.{Addr}
use Rattle.ikl_base.specs.declared.address.Addr.TheVariants.{V4}
use Rattle.ikl_base.specs.declared.address.Prefix.{Prefix}
use Rattle.ikeless_tree.specs.declared.sad.Df.TheVariants as df
use Rattle.ikeless_tree.specs.declared.sad.SadEntry.{SadEntry}
use Rattle.ikeless_tree.specs.declared.command.Peer.{Peer}
use Rattle.ikeless_tree.specs.declared.entry.Selector.{Selector}
use Rattle.ikeless_tree.specs.declared.order.Order.TheVariants as tree
use Rattle.ikeless_tree.specs.Half.{in_name, out_name}
use Rattle.hist_acts.specs.declared.act.Act.TheVariants as acts
use Rattle.ikeless_tree.specs.declared.order as orders
use Rattle.hist_acts.specs.declared.act as happened
use Rattle.hist_controller.specs.Acts.{Association, ControllerOrder, Read, Policy, PutIn, PutOut, RemoveIn, RemoveOut, ControllerAct, Opened, Cut, Answered, Heard, Ordered, Accepted, Refused}

-- the name and the address of the peer with this number; an unknown one has none
abbrev pub peer_name : List Peer → ℕ → List ℕ
peer_name [] g = []
peer_name (p ∷ ps) g = if g == 0 then p.name else peer_name ps (g - 1)

-- the address of the peer with this number; an unknown one has 0.0.0.0
abbrev pub peer_address : List Peer → ℕ → Addr
peer_address [] g = V4 (0 ∷ 0 ∷ 0 ∷ 0 ∷ [])
peer_address (p ∷ ps) g = if g == 0 then p.address else peer_address ps (g - 1)

-- any protocol and any ports between two prefixes
abbrev pub between : Prefix → Prefix → Selector
between own other = record { local = own; remote = other; proto = None; local_ports = []; remote_ports = [] }

-- The two halves as entries of the databases at their gateways (RFC 4301 section 4.4.2): local is what the gateway has
-- itself, and the SPI is 256 and the serial.
abbrev pub in_entry : List Peer → Association → SadEntry
in_entry ps x = record {
  name = in_name x.serial;
  reqid = x.way.tunnel.reqid;
  spi = 256 + x.serial;
  window = x.way.tunnel.window;
  selector = between x.way.far x.way.near;
  key = x.key;
  local = peer_address ps x.way.receiver;
  remote = peer_address ps x.way.sender;
  df = df.Copy;
  hard = x.way.tunnel.hard;
  soft = x.way.tunnel.soft;
}

-- the outbound half as its gateway gets it; local is the sender's side
abbrev pub out_entry : List Peer → Association → SadEntry
out_entry ps x = record {
  name = out_name x.serial;
  reqid = x.way.tunnel.reqid;
  spi = 256 + x.serial;
  window = x.way.tunnel.window;
  selector = between x.way.near x.way.far;
  key = x.key;
  local = peer_address ps x.way.sender;
  remote = peer_address ps x.way.receiver;
  df = df.Copy;
  hard = x.way.tunnel.hard;
  soft = x.way.tunnel.soft;
}

-- an order as the gateway gets it
abbrev pub order_told : List Peer → ControllerOrder → orders.Order.Order
order_told ps Read = tree.Read
order_told ps (Policy l) = tree.Policy l
order_told ps (PutIn x) = tree.Put (in_entry ps x)
order_told ps (PutOut x) = tree.Put (out_entry ps x)
order_told ps (RemoveIn n) = tree.Remove (in_name n)
order_told ps (RemoveOut n) = tree.Remove (out_name n)

-- An act as a transcript has it. A transcript has no act for an accepted command: its block has no refusal.
abbrev pub told : List Peer → ControllerAct → List happened.Act.Act
told ps (Opened g s) = acts.Opened (peer_name ps g) s ∷ []
told ps (Cut g s) = acts.Cut (peer_name ps g) s ∷ []
told ps (Answered g s n a) = acts.Answered (peer_name ps g) s n a ∷ []
told ps (Heard g s t) = acts.Heard (peer_name ps g) s t ∷ []
told ps (Ordered g s n o) = acts.Order (peer_name ps g) s n (order_told ps o) ∷ []
told ps (Accepted c) = []
told ps (Refused w) = acts.Refused w ∷ []

-- acts, in their order
abbrev pub all_told : List Peer → List ControllerAct → List happened.Act.Act
all_told ps [] = []
all_told ps (a ∷ more) = told ps a ++ all_told ps more

-- a past, its newest act first
abbrev pub past_told : List Peer → List ControllerAct → List happened.Act.Act
past_told ps [] = []
past_told ps (a ∷ h) = told ps a ++ past_told ps h

-- peers of different numbers have different names
abbrev pub Named : List Peer → Type 0
Named ps = (f g : ℕ) → f < length ps → g < length ps → bytes_eq (peer_name ps f) (peer_name ps g) ≡ (g == f)

-- no two of these peers have one name
abbrev pub are_names_apart : List Peer → Bool
are_names_apart [] = true
are_names_apart (p ∷ ps) = list_all (λ q. not (bytes_eq p.name q.name)) ps && are_names_apart ps
