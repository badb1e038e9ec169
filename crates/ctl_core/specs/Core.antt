-- What a controller keeps: its gateways with their sessions and waiting orders, the tunnels that aren't ended or have an
-- association left, how far their directions have come, the keys accepted, and the last serial.
use Rattle.std.specs.Prelude.{ℕ, ◌+◌, ◌-◌, Bool, true, false, ◌==◌, not, ◌&&◌, ◌||◌, List, [], ◌∷◌, ◌++◌, Option, Some, None, map, drop, length, position, slice_get, if◌then◌else◌}
use Rattle.std.specs.List.{list_any}
use Rattle.std.specs.Str.{bytes_eq}
use Rattle.ikl_base.specs.declared.address.Addr.{Addr}
use Rattle.ikl_base.specs.declared.address.Addr.TheVariants.{V4}
use Rattle.ikeless_tree.specs.declared.command.Peer.{Peer}
use Rattle.ikeless_tree.specs.declared.entry.SpdEntry.{SpdEntry}
use Rattle.ikeless_tree.specs.declared.order as orders
use Rattle.ikeless_tree.specs.declared.order.Order.TheVariants as tree
use Rattle.ctl_tunnels.specs.declared.tunnel.Pair.{Pair}
use Rattle.ctl_tunnels.specs.declared.tunnel.Tunnel.{Tunnel}
use Rattle.ctl_core.specs.declared.peer.Session.{Session}
use Rattle.ctl_core.specs.declared.peer.Session.TheVariants as sessions
use Rattle.ctl_core.specs.declared.peer.Station.{Station}
use Rattle.ctl_core.specs.declared.peer.Waiting.{Waiting}

-- Pairs go with tunnels one by one. The N-th key is that of serial N, and `serials` is the last serial that was put.
pub record Core : Type 0 where
  pub stations : List Station
  pub tunnels : List Tunnel
  pub pairs : List Pair
  pub keys : List (List ℕ)
  pub serials : ℕ

-- the controller has a session with the gateway, read or not
abbrev pub is_open : Session → Bool
is_open sessions.Closed = false
is_open sessions.Unread = true
is_open sessions.Read = true

-- the session's first reading is answered, so that halves can be ordered in it
abbrev pub is_ready : Session → Bool
is_ready sessions.Closed = false
is_ready sessions.Unread = false
is_ready sessions.Read = true

-- a gateway of the header before any session
abbrev pub station_of : Peer → Station
station_of p = record { name = p.name; address = p.address; session = sessions.Closed; list = None; queue = [] }

-- a controller at the start: no session, tunnel or key
abbrev pub told_nothing : List Peer → Core
told_nothing ps = record { stations = map station_of ps; tunnels = []; pairs = []; keys = []; serials = 0 }

-- a place, or this number where there is none
abbrev pub place_or : ℕ → Option ℕ → ℕ
place_or n None = n
place_or n (Some i) = i

-- the place of the first gateway of this name, or how many there are
abbrev pub number_of : List ℕ → List Station → ℕ
number_of name ss = place_or (length ss) (position (λ s. bytes_eq s.name name) ss)

-- the address of a gateway; 0.0.0.0 where there is none of its number
abbrev pub address_or_none : Option Station → Addr
address_or_none None = V4 (0 ∷ 0 ∷ 0 ∷ 0 ∷ [])
address_or_none (Some s) = s.address

-- the address of the gateway with this number, counted from 0
abbrev pub address_of : List Station → ℕ → Addr
address_of ss g = address_or_none (slice_get ss g)

-- the gateway, if there is one, has an open session
abbrev pub open_or_not : Option Station → Bool
open_or_not None = false
open_or_not (Some s) = is_open s.session

-- a gateway of this number has an open session
abbrev pub is_open_at : List Station → ℕ → Bool
is_open_at ss g = open_or_not (slice_get ss g)

-- there is such a gateway, and it has no open session
abbrev pub closed_or_not : Option Station → Bool
closed_or_not None = false
closed_or_not (Some s) = not (is_open s.session)

-- a gateway of this number has none
abbrev pub is_closed_at : List Station → ℕ → Bool
is_closed_at ss g = closed_or_not (slice_get ss g)

-- the list of policies commanded last for the gateway, if any was
abbrev pub list_or_none : Option Station → Option (List SpdEntry)
list_or_none None = None
list_or_none (Some s) = s.list

-- the newest list of a gateway
abbrev pub list_at : List Station → ℕ → Option (List SpdEntry)
list_at ss g = list_or_none (slice_get ss g)

-- the waiting orders of the gateway; none where there is no gateway
abbrev pub queue_or_none : Option Station → List Waiting
queue_or_none None = []
queue_or_none (Some s) = s.queue

-- the waiting orders of a gateway, oldest first
abbrev pub queue_at : List Station → ℕ → List Waiting
queue_at ss g = queue_or_none (slice_get ss g)

-- there is an order that waits
abbrev pub is_some_waiting : Option Waiting → Bool
is_some_waiting None = false
is_some_waiting (Some w) = true

-- the order asks which halves the gateway has
abbrev pub is_reading : orders.Order.Order → Bool
is_reading tree.Read = true
is_reading (tree.Policy l) = false
is_reading (tree.Put e) = false
is_reading (tree.Remove n) = false

-- a reading waits for its answer
abbrev pub has_reading : List Waiting → Bool
has_reading ws = list_any (λ w. is_reading w.order) ws

-- the oldest of these orders
abbrev pub front : List Waiting → Option Waiting
front [] = None
front (w ∷ ws) = Some w

-- the others, once the oldest was answered
abbrev pub without_front : List Waiting → List Waiting
without_front ws = drop 1 ws

-- the order that waits, as its gateway gets it
abbrev pub order_or_none : Option Waiting → Option orders.Order.Order
order_or_none None = None
order_or_none (Some w) = Some w.order

-- the order of which the gateway's next answer is
abbrev pub oldest_or_none : Option Station → Option orders.Order.Order
oldest_or_none None = None
oldest_or_none (Some s) = order_or_none (front s.queue)

-- the oldest waiting order of a gateway
abbrev pub expected : Core → ℕ → Option orders.Order.Order
expected c g = oldest_or_none (slice_get c.stations g)

-- the gateways, with the one of this number changed; nothing changes where there is none
abbrev pub at : ℕ → (Station → Station) → List Station → List Station
at g f [] = []
at g f (s ∷ ss) = if g == 0 then f s ∷ ss else s ∷ at (g - 1) f ss
