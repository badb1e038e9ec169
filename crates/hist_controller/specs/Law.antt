-- What a controller must do: which orders may be given, why a command is refused, and the one block of acts that an event
-- has. The order of a rekey and of a recovery is that of RFC 9061, made exact by this project.
use Rattle.std.specs.Prelude.{ℕ, ◌+◌, Bool, true, false, ◌==◌, not, ◌&&◌, ◌||◌, nat_le, nat_lt, List, [], ◌∷◌, ◌++◌, Option, Some, None, length, if◌then◌else◌}
use Rattle.std.specs.List.{list_any}
use Rattle.std.specs.Str.{bytes_eq}
use Rattle.ikeless_tree.specs.Check.{is_key_length}
use Rattle.ikeless_tree.specs.Half.{aes_part}
use Rattle.ikeless_tree.specs.declared.command.Command.{Command}
use Rattle.ikeless_tree.specs.declared.command.Command.TheVariants as commands
use Rattle.ikeless_tree.specs.declared.command.Peer.{Peer}
use Rattle.ikeless_tree.specs.declared.command.Refusal.{Refusal}
use Rattle.ikeless_tree.specs.declared.entry.SpdEntry.{SpdEntry}
use Rattle.ikeless_tree.specs.declared.order.Answer.{Answer}
use Rattle.ikeless_tree.specs.declared.order.Notice.{Notice}
use Rattle.ikeless_tree.specs.declared.order.Notice.TheVariants as notices
use Rattle.ikeless_tree.specs.declared.command.Refusal.TheVariants as refusals
use Rattle.hist_controller.specs.Acts.{Way, Association, ControllerOrder, Read, Policy, PutIn, PutOut, RemoveIn, RemoveOut, PlacedCommand, SetPolicy, Tunnel, End, Rekey, Keys, ControllerAct, Opened, Cut, Answered, Heard, Ordered, Accepted, Refused, ControllerEvent, Told, Opens, Cuts, Answers, Notices}
use Rattle.hist_acts.specs.Past.{after}
use Rattle.hist_controller.specs.Past.{is_open, openings, orders, answered, queue, is_read, newest_list, keys, serials, spare, directions, is_over, PuttingIn, RemovingOut, is_out_ordered, has_answer, is_ended, is_in_progress, left, is_busy, is_owed}

-- the order as the next one of the gateway's session
abbrev pub order : List ControllerAct → ℕ → ControllerOrder → ControllerAct
order h g o = Ordered g (openings g h) (orders g h + 1) o

-- ## which orders a direction may get
-- A new association is put inbound first, and outbound once that is answered; an ended one is removed outbound first, and
-- inbound once that is answered.

-- out/N of an ended association: it was ordered put, no removal of it is answered, and its gateway is read
abbrev pub may_out_remove : List ControllerAct → Way → Association → Bool
may_out_remove h d x = is_ended x h && is_out_ordered x.serial h && not (has_answer RemovingOut x.serial h) && is_read d.sender h

-- in/N of an ended association: out/N was never ordered put, or its removal is answered
abbrev pub may_in_remove : List ControllerAct → Way → Association → Bool
may_in_remove h d x = is_ended x h && (not (is_out_ordered x.serial h) || has_answer RemovingOut x.serial h) && is_read d.receiver h

-- out/N of an association in progress: the put of in/N is answered, and both gateways are read
abbrev pub may_out_put : List ControllerAct → Way → Association → Bool
may_out_put h d x = is_in_progress h x && not (is_out_ordered x.serial h) && has_answer PuttingIn x.serial h && is_read d.sender h
    && is_read d.receiver h

-- in/N of a new association: the direction is owed one, and both gateways are read
abbrev pub may_in_put : List ControllerAct → Way → Bool
may_in_put h d = is_owed d h && is_read d.sender h && is_read d.receiver h

-- the first that passes
abbrev pub first : (Association → Bool) → List Association → Option Association
first p [] = None
first p (x ∷ xs) = if p x then Some x else first p xs

-- where in/N may be put: a new association with the oldest of these keys and the next serial; without a key there is none
abbrev pub key_put : List ControllerAct → Way → List (List ℕ) → List ControllerAct
key_put h d [] = []
key_put h d (k ∷ ks) = if may_in_put h d then order h d.receiver (PutIn (record { serial = serials h + 1; key = k; way = d })) ∷ [] else []

-- the put of out/N of this association, or else a new association where none is to be put
abbrev pub out_put : List ControllerAct → Way → Option Association → List ControllerAct
out_put h d (Some x) = order h d.sender (PutOut x) ∷ []
out_put h d None = key_put h d (spare h)

-- the removal of in/N of this association, or else a put
abbrev pub in_remove : List ControllerAct → Way → Option Association → List ControllerAct
in_remove h d (Some x) = order h d.receiver (RemoveIn x.serial) ∷ []
in_remove h d None = out_put h d (first (may_out_put h d) (left d h))

-- the removal of out/N of this association, or else a later kind of order
abbrev pub out_remove : List ControllerAct → Way → Option Association → List ControllerAct
out_remove h d (Some x) = order h d.sender (RemoveOut x.serial) ∷ []
out_remove h d None = in_remove h d (first (may_in_remove h d) (left d h))

-- the order of a direction, or none: removals before puts, outbound ones before inbound ones, the oldest first
abbrev pub give : List ControllerAct → Way → List ControllerAct
give h d = if is_busy d h then [] else out_remove h d (first (may_out_remove h d) (left d h))

-- the orders of directions, one after another, each with those before it in its past
abbrev pub pass : List ControllerAct → List Way → List ControllerAct
pass h [] = []
pass h (d ∷ ds) = give h d ++ pass (after h (give h d)) ds

-- ## orders that belong to no direction

-- the list is ordered at the gateway, where there is one
abbrev pub with_list : List ControllerAct → ℕ → Option (List SpdEntry) → List ControllerAct
with_list h g None = []
with_list h g (Some l) = order h g (Policy l) ∷ []

-- the order asks which halves the gateway has
abbrev pub is_reading : ControllerOrder → Bool
is_reading Read = true
is_reading (_) = false

-- a list that is accepted goes to its gateway at once if a session is open there
abbrev pub by_command : List ControllerAct → PlacedCommand → List ControllerAct
by_command h (SetPolicy g l) = if is_open g h then order h g (Policy l) ∷ [] else []
by_command h (_) = []

-- after a bad SPI the gateway is read, unless a reading waits there
abbrev pub by_notice : List ControllerAct → ℕ → Notice → List ControllerAct
by_notice h g (notices.BadSpi spi) = if list_any is_reading (queue g h) then [] else order h g Read ∷ []
by_notice h g (_) = []

-- at an opening: a reading, and the newest list where there is one
abbrev pub read_put : List ControllerAct → ℕ → List ControllerAct
read_put h g = order h g Read ∷ with_list (order h g Read ∷ h) g (newest_list g h)

-- after which act; orders of this kind come first in a block
abbrev pub asked : List ControllerAct → ControllerAct → List ControllerAct
asked h (Accepted c) = by_command h c
asked h (Opened g s) = read_put h g
asked h (Heard g s t) = by_notice h g t
asked h (_) = []

-- ## commands

-- the number of the first peer of this name, or how many peers there are
abbrev pub peer_number : List ℕ → List Peer → ℕ
peer_number name [] = 0
peer_number name (p ∷ ps) = if bytes_eq p.name name then 0 else peer_number name ps + 1

-- a command with its gateways by their numbers; an unknown one has a number that no peer has
abbrev pub placed_command : List Peer → Command → PlacedCommand
placed_command ps (commands.Policy g l) = SetPolicy (peer_number g ps) l
placed_command ps (commands.Tunnel t) = Tunnel (record { spec = t; first = peer_number t.first ps; second = peer_number t.second ps })
placed_command ps (commands.End r) = End r
placed_command ps (commands.Rekey r) = Rekey r
placed_command ps (commands.Keys k) = Keys k

-- a tunnel of this reqid is not ended
abbrev pub has_tunnel : ℕ → List ControllerAct → Bool
has_tunnel r h = list_any (λ d. (d.tunnel.reqid == r) && not (is_over d h)) (directions h)

-- there is no association
abbrev pub is_none : List Association → Bool
is_none [] = true
is_none (x ∷ xs) = false

-- a direction counts while its tunnel isn't ended, or an association of it is left
abbrev pub is_counted : List ControllerAct → Way → Bool
is_counted h d = not (is_over d h) || not (is_none (left d h))

-- how many tunnels aren't ended or have an association left; the two directions of a tunnel stand together
abbrev pub tunnels : List ControllerAct → List Way → ℕ
tunnels h [] = 0
tunnels h (d ∷ []) = 0
tunnels h (d ∷ e ∷ ds) = if is_counted h d || is_counted h e then tunnels h ds + 1 else tunnels h ds

-- one of these keys has its AES key
abbrev pub is_seen : List ℕ → List (List ℕ) → Bool
is_seen k ks = list_any (λ x. bytes_eq (aes_part x) (aes_part k)) ks

-- why a command is refused, by the first reason that applies, among so many gateways
abbrev pub refusal : ℕ → List ControllerAct → PlacedCommand → Option Refusal
refusal p h (SetPolicy g l) = if nat_lt g p then None else Some refusals.UnknownGateway
refusal p h (Tunnel t) =
    if not (nat_lt t.first p && nat_lt t.second p) then Some refusals.UnknownGateway
    else if t.first == t.second then Some refusals.SameGateway
    else if has_tunnel t.spec.reqid h then Some refusals.TunnelExists
    else if nat_le 1024 (tunnels h (directions h)) then Some refusals.TunnelLimit
    else None
refusal p h (End r) = if has_tunnel r h then None else Some refusals.NoTunnel
refusal p h (Rekey r) = if has_tunnel r h then None else Some refusals.NoTunnel
refusal p h (Keys k) =
    if not (is_key_length (length k)) then Some refusals.KeyLength
    else if is_seen k (keys h) then Some refusals.KeySeen
    else if nat_le 1048576 (length (keys h)) then Some refusals.KeyLimit
    else None

-- ## blocks

-- these orders of no direction, and behind them the orders of the directions
abbrev pub asked_then : List ControllerAct → List ControllerAct → List ControllerAct
asked_then h os = os ++ pass (after h os) (directions (after h os))

-- an act, the orders that belong to no direction, and those of the directions
abbrev pub going : List ControllerAct → ControllerAct → List ControllerAct
going h a = a ∷ asked_then (a ∷ h) (asked (a ∷ h) a)

-- a command that is accepted has its orders behind it, one that is refused its refusal alone
abbrev pub by_refusal : List ControllerAct → PlacedCommand → Option Refusal → List ControllerAct
by_refusal h c None = going h (Accepted c)
by_refusal h c (Some w) = Refused w ∷ []

-- an answer is to the oldest order that waits; where none waits, nothing is done
abbrev pub by_answer : List ControllerAct → ℕ → Answer → List ControllerOrder → List ControllerAct
by_answer h g a [] = []
by_answer h g a (o ∷ os) = going h (Answered g (openings g h) (answered g h + 1) a)

-- the one block that an event has after a past, with these peers; an event that changes nothing has none
abbrev pub block : List Peer → List ControllerAct → ControllerEvent → List ControllerAct
block ps h (Told c) = by_refusal h (placed_command ps c) (refusal (length ps) h (placed_command ps c))
block ps h (Opens g) = if is_open g h then [] else going h (Opened g (openings g h + 1))
block ps h (Cuts g) = if is_open g h then going h (Cut g (openings g h)) else []
block ps h (Answers g a) = by_answer h g a (queue g h)
block ps h (Notices g t) = if is_open g h then going h (Heard g (openings g h) t) else []

-- the acts of events are the blocks of each, in order
abbrev pub history : List Peer → List ControllerAct → List ControllerEvent → List ControllerAct
history ps h [] = []
history ps h (e ∷ es) = block ps h e ++ history ps (after h (block ps h e)) es

-- why an event is refused, if it is
abbrev pub event_refusal : List Peer → List ControllerAct → ControllerEvent → Option Refusal
event_refusal ps h (Told c) = refusal (length ps) h (placed_command ps c)
event_refusal ps h (_) = None

-- a refusal as a list of at most one
abbrev pub one_or_none : Option Refusal → List Refusal
one_or_none None = []
one_or_none (Some w) = w ∷ []

-- the refusals among acts
abbrev pub refusals_in : List ControllerAct → List Refusal
refusals_in [] = []
refusals_in (Refused w ∷ more) = w ∷ refusals_in more
refusals_in (_ ∷ more) = refusals_in more
