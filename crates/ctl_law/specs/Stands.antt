-- For which past a core stands: what each part of it is, in the law's words.
use Rattle.std.specs.Prelude.{◌≡◌, ℕ, ◌+◌, Bool, true, false, List, [], ◌∷◌, Option, Some, None, map}
use Rattle.std.specs.Option.{option_map}
use Rattle.ikeless_tree.specs.declared.command.Peer.{Peer}
use Rattle.hist_controller.specs.Acts.{Way, Association, ControllerOrder, Read, Policy, PutIn, PutOut, RemoveIn, RemoveOut, ControllerAct}
use Rattle.hist_controller.specs.Past.{is_open, is_first_answered, newest_list, queue, keys, serials, directions, is_over, is_wanted, is_out_ordered, has_answer, is_ended, PuttingIn, PuttingOut, RemovingOut}
use Rattle.hist_controller.specs.Spent.{is_spent}
use Rattle.hist_controller.specs.Told.{order_told}
use Rattle.ctl_tunnels.specs.declared.life.HalfOrder.{HalfOrder}
use Rattle.ctl_tunnels.specs.declared.life.Life.{Life}
use Rattle.ctl_tunnels.specs.declared.life.Task.TheVariants as tasks
use Rattle.ctl_tunnels.specs.declared.progress.Progress.{Progress}
use Rattle.ctl_tunnels.specs.declared.tunnel.Direction.{Direction}
use Rattle.ctl_tunnels.specs.declared.tunnel.Pair.{Pair}
use Rattle.ctl_tunnels.specs.declared.tunnel.Tunnel.{Tunnel}
use Rattle.ctl_tunnels.specs.Tunnels as tunnels
use Rattle.ctl_core.specs.declared.peer.Session.{Session}
use Rattle.ctl_core.specs.declared.peer.Session.TheVariants as sessions
use Rattle.ctl_core.specs.declared.peer.Station.{Station}
use Rattle.ctl_core.specs.declared.peer.Waiting.{Waiting}
use Rattle.ctl_core.specs.Core.{Core}
use Rattle.hist_controller.specs.Left.{newest_left, older_left}
use Rattle.hist_controller.specs.Own.{own_orders}

-- ## gateways

-- which half an order puts or removes, if it does
abbrev pub half_of : ControllerOrder → Option HalfOrder
half_of Read = None
half_of (Policy l) = None
half_of (PutIn x) = Some (record { task = tasks.PutIn; serial = x.serial })
half_of (PutOut x) = Some (record { task = tasks.PutOut; serial = x.serial })
half_of (RemoveIn n) = Some (record { task = tasks.RemoveIn; serial = n })
half_of (RemoveOut n) = Some (record { task = tasks.RemoveOut; serial = n })

-- a waiting order as its gateway gets it, and which half it is of
abbrev pub waiting_of : List Peer → ControllerOrder → Waiting
waiting_of ps o = record { order = order_told ps o; half = half_of o }

-- the session of a gateway, whether one is open and its first reading is answered
abbrev pub session_of : Bool → Bool → Session
session_of false read = sessions.Closed
session_of true false = sessions.Unread
session_of true true = sessions.Read

-- the gateway of a number, which is this peer: its session, its newest list, and its waiting orders, oldest first
abbrev pub station_of : List Peer → List ControllerAct → ℕ → Peer → Station
station_of ps h g p = record {
  name = p.name;
  address = p.address;
  session = session_of (is_open g h) (is_first_answered g h);
  list = newest_list g h;
  queue = map (waiting_of ps) (queue g h);
}

-- one for each peer, with their numbers from this one on
abbrev pub numbered : {A : Type 0} → (ℕ → Peer → A) → ℕ → List Peer → List A
numbered f g [] = []
numbered f g (p ∷ ps) = f g p ∷ numbered f (g + 1) ps

-- ## directions

-- an association left: which of its orders were given and answered, and whether it is ended
abbrev pub life_of : List ControllerAct → Association → Life
life_of h x = record {
  serial = x.serial;
  in_done = has_answer PuttingIn x.serial h;
  out_sent = is_out_ordered x.serial h;
  out_done = has_answer PuttingOut x.serial h;
  out_gone = has_answer RemovingOut x.serial h;
  ended = is_ended x h;
}

-- the half that the first of these orders puts or removes; none where there is no order, or it is a reading or a list
abbrev pub first_half : List ControllerOrder → Option HalfOrder
first_half [] = None
first_half (o ∷ os) = half_of o

-- how far a direction has come: whether its tunnel is ended, whether an association is wanted, the order of its own that waits, and
-- the associations left, the one put last and an older one
abbrev pub progress_of : List ControllerAct → Way → Progress
progress_of h d = record {
  over = is_over d h;
  wanted = is_wanted d h;
  waits = first_half (own_orders d h);
  older = option_map (life_of h) (older_left d h);
  newer = option_map (life_of h) (newest_left d h);
}

-- one direction of a tunnel as the core keeps it: its ends by their numbers, the prefixes behind them, window and limits
abbrev pub direction_of : Way → Direction
direction_of d = record {
  reqid = d.tunnel.reqid;
  sender = d.sender;
  receiver = d.receiver;
  near = d.near;
  far = d.far;
  window = d.tunnel.window;
  hard = d.tunnel.hard;
  soft = d.tunnel.soft;
}

-- the tunnel has these two directions
pub record IsTunnel (t : Tunnel) (d e : Way) : Type 0 where
  pub forth : tunnels.forth t ≡ direction_of d
  pub back : tunnels.back t ≡ direction_of e

-- Tunnels and how far they have come stand for the directions, two by two and in their order; a tunnel that is spent in both
-- directions may be left out.
pub data TunnelsStand (h : List ControllerAct) : List Way → List Tunnel → List Pair → Type 0 where
  no_more : TunnelsStand h [] [] []
  left_out : (d e : Way) (ds : List Way) (ts : List Tunnel) (ps : List Pair) → is_spent d h ≡ true → is_spent e h ≡ true
      → TunnelsStand h ds ts ps → TunnelsStand h (d ∷ e ∷ ds) ts ps
  stands : (d e : Way) (ds : List Way) (t : Tunnel) (ts : List Tunnel) (ps : List Pair) → IsTunnel t d e → TunnelsStand h ds ts ps
      → TunnelsStand h (d ∷ e ∷ ds) (t ∷ ts) (record { forth = progress_of h d; back = progress_of h e } ∷ ps)

-- ## the whole

-- What the core keeps is what this past says. It says nothing of answers and notices that are still to come.
pub record StandsFor (ps : List Peer) (h : List ControllerAct) (c : Core) : Type 0 where
  pub gateways : c.stations ≡ numbered (station_of ps h) 0 ps
  pub tunnels : TunnelsStand h (directions h) c.tunnels c.pairs
  pub keys : c.keys ≡ keys h
  pub serials : c.serials ≡ serials h
