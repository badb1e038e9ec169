-- A tunnel by the numbers of its gateways, and its two directions.
use Rattle.std.specs.Prelude.{ℕ, Bool}
use Rattle.ikeless_tree.specs.declared.command.TunnelSpec.{TunnelSpec}
use Rattle.ctl_tunnels.specs.declared.tunnel.Direction.{Direction}
use Rattle.ctl_tunnels.specs.declared.tunnel.Pair.{Pair}
use Rattle.ctl_tunnels.specs.declared.tunnel.Tunnel.{Tunnel}
use Rattle.ctl_tunnels.specs.Steps as steps

-- both directions of a tunnel that was just commanded; with `now` both want an association at once
abbrev pub begun : Bool → Pair
begun now = record { forth = steps.begun now; back = steps.begun now }

-- the tunnel that a command tells, between the gateways with these numbers
abbrev pub of_spec : TunnelSpec → ℕ → ℕ → Tunnel
of_spec spec f s = record {
  reqid = spec.reqid;
  first = f;
  second = s;
  first_prefix = spec.first_prefix;
  second_prefix = spec.second_prefix;
  window = spec.window;
  hard = spec.hard;
  soft = spec.soft;
}

-- the direction from the first gateway to the second; near is the prefix behind the sender, far that behind the receiver
abbrev pub forth : Tunnel → Direction
forth t = record {
  reqid = t.reqid;
  sender = t.first;
  receiver = t.second;
  near = t.first_prefix;
  far = t.second_prefix;
  window = t.window;
  hard = t.hard;
  soft = t.soft;
}

-- the direction from the second gateway to the first
abbrev pub back : Tunnel → Direction
back t = record {
  reqid = t.reqid;
  sender = t.second;
  receiver = t.first;
  near = t.second_prefix;
  far = t.first_prefix;
  window = t.window;
  hard = t.hard;
  soft = t.soft;
}
