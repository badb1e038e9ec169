-- The pass over the directions: each is changed by the event, and gets its next order.
use Rattle.std.specs.Prelude.{ℕ, ◌+◌, ◌-◌, Bool, false, ◌==◌, ◌&&◌, nat_lt, List, [], ◌∷◌, ◌++◌, Option, Some, None, length, slice_get, if◌then◌else◌}
use Rattle.ikeless_tree.specs.declared.order as orders
use Rattle.ctl_tunnels.specs.declared.life.HalfOrder.{HalfOrder}
use Rattle.ctl_tunnels.specs.declared.progress.Progress.{Progress}
use Rattle.ctl_tunnels.specs.declared.tunnel.Direction.{Direction}
use Rattle.ctl_tunnels.specs.declared.tunnel.Pair.{Pair}
use Rattle.ctl_tunnels.specs.declared.tunnel.Tunnel.{Tunnel}
use Rattle.ctl_tunnels.specs.Lives as lives
use Rattle.ctl_tunnels.specs.Steps as steps
use Rattle.ctl_tunnels.specs.Halves as halves
use Rattle.ctl_tunnels.specs.Rings as rings
use Rattle.ctl_tunnels.specs.Tunnels as tunnels
use Rattle.ctl_core.specs.declared.peer.Station.{Station}
use Rattle.ctl_core.specs.declared.peer.Waiting.{Waiting}
use Rattle.ctl_core.specs.Core.{address_of}
use Rattle.ctl_core.specs.Drafts.{Drafted, given}

-- what an event changes in a direction
abbrev pub Effect : Type 0
Effect = Direction → Progress → Progress

-- whether a session is read; false where there is no gateway of this number
abbrev pub or_false : Option Bool → Bool
or_false None = false
or_false (Some b) = b

-- the gateway of this number has a session that is open and read
abbrev pub is_read : List Bool → ℕ → Bool
is_read ready g = or_false (slice_get ready g)

-- the serial of a new association, where a key is left
abbrev pub fresh_serial : List (List ℕ) → ℕ → Option ℕ
fresh_serial keys n = if nat_lt n (length keys) then Some (n + 1) else None

-- the key of an order: that of its serial for a put, and none for a removal
abbrev pub key_of : List (List ℕ) → HalfOrder → List ℕ
key_of keys o = if lives.puts o.task && nat_lt 0 o.serial then rings.key_at (o.serial - 1) keys else []

-- a put or a removal as its gateway gets it
abbrev pub order_of : List Station → List (List ℕ) → Direction → HalfOrder → orders.Order.Order
order_of ss ks d o = halves.order_of d o.serial (key_of ks o) (address_of ss d.sender) (address_of ss d.receiver) o.task

-- the gateway that gets the order: the receiver for an inbound half, the sender for an outbound one
abbrev pub place_of : Direction → HalfOrder → ℕ
place_of d o = if lives.is_inbound o.task then d.receiver else d.sender

-- the order that is due in a direction, where the sessions in `ready` are read and `serials` is the last serial
abbrev pub next_of : List (List ℕ) → List Bool → Direction → Progress → ℕ → Option HalfOrder
next_of ks ready d p serials = steps.next (is_read ready d.sender) (is_read ready d.receiver) (fresh_serial ks serials) p

-- a put of an inbound half takes the next serial
abbrev pub serials_after : HalfOrder → Drafted → Drafted
serials_after o d = if lives.begins o.task then record d { serials = o.serial } else d

-- the order that is due, if any, is one more act, and waits at its gateway
abbrev pub draft_with : List Station → List (List ℕ) → Direction → Option HalfOrder → Drafted → Drafted
draft_with ss ks d None x = x
draft_with ss ks d (Some o) x = serials_after o (given (place_of d o) (order_of ss ks d o) (Some o) x)

-- how far the direction has come once that order is given
abbrev pub progress_with : Option HalfOrder → Progress → Progress
progress_with None p = p
progress_with (Some o) p = steps.ordered o p

-- a direction with its next order
abbrev pub advanced : List (List ℕ) → List Bool → Direction → Progress → Drafted → Progress
advanced ks ready d p x = progress_with (next_of ks ready d p x.serials) p

-- the acts and queues with what is due in this direction
abbrev pub drafted : List Station → List (List ℕ) → List Bool → Direction → Progress → Drafted → Drafted
drafted ss ks ready d p x = draft_with ss ks d (next_of ks ready d p x.serials) x

-- both directions of a tunnel
abbrev pub draft_forth : List Station → List (List ℕ) → Effect → List Bool → Tunnel → Pair → Drafted → Drafted
draft_forth ss ks ch ready t p x = drafted ss ks ready (tunnels.forth t) (ch (tunnels.forth t) p.forth) x

-- with what is due from the first gateway to the second, and then back, each after what the event changed there
abbrev pub draft_pair : List Station → List (List ℕ) → Effect → List Bool → Tunnel → Pair → Drafted → Drafted
draft_pair ss ks ch ready t p x = drafted ss ks ready (tunnels.back t) (ch (tunnels.back t) p.back) (draft_forth ss ks ch ready t p x)

-- how far both directions have come then; the one back sees the serial that the other one took
abbrev pub advanced_pair : List Station → List (List ℕ) → Effect → List Bool → Tunnel → Pair → Drafted → Pair
advanced_pair ss ks ch ready t p x = record {
  forth = advanced ks ready (tunnels.forth t) (ch (tunnels.forth t) p.forth) x;
  back = advanced ks ready (tunnels.back t) (ch (tunnels.back t) p.back) (draft_forth ss ks ch ready t p x);
}

-- all directions, in the order of the tunnels' commands
abbrev pub pass_draft : List Station → List (List ℕ) → Effect → List Bool → List Tunnel → List Pair → Drafted → Drafted
pass_draft ss ks ch ready [] ps x = x
pass_draft ss ks ch ready (t ∷ ts) [] x = x
pass_draft ss ks ch ready (t ∷ ts) (p ∷ ps) x = pass_draft ss ks ch ready ts ps (draft_pair ss ks ch ready t p x)

-- how far the directions of all tunnels have come then
abbrev pub pass_pairs : List Station → List (List ℕ) → Effect → List Bool → List Tunnel → List Pair → Drafted → List Pair
pass_pairs ss ks ch ready [] ps x = []
pass_pairs ss ks ch ready (t ∷ ts) [] x = []
pass_pairs ss ks ch ready (t ∷ ts) (p ∷ ps) x = advanced_pair ss ks ch ready t p x
    ∷ pass_pairs ss ks ch ready ts ps (draft_pair ss ks ch ready t p x)

-- each gateway, with what its queue gets at its end
abbrev pub with_queues : List Station → List (List Waiting) → List Station
with_queues [] qs = []
with_queues (s ∷ ss) [] = s ∷ ss
with_queues (s ∷ ss) (q ∷ qs) = record s { queue = s.queue ++ q } ∷ with_queues ss qs
