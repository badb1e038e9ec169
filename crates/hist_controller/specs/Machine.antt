-- The controller as a machine over what it keeps, word for word beside the law.
use Rattle.std.specs.Prelude.{ℕ, ◌+◌, ◌-◌, Bool, true, false, ◌==◌, not, ◌&&◌, ◌||◌, nat_le, nat_lt, List, [], ◌∷◌, ◌++◌, Option, Some, None, length, if◌then◌else◌}
use Rattle.std.specs.List.{list_any}
use Rattle.ikeless_tree.specs.Check.{is_key_length}
use Rattle.ikeless_tree.specs.declared.command.Peer.{Peer}
use Rattle.ikeless_tree.specs.declared.command.Refusal.{Refusal}
use Rattle.ikeless_tree.specs.declared.entry.SpdEntry.{SpdEntry}
use Rattle.ikeless_tree.specs.declared.order.Answer.{Answer}
use Rattle.ikeless_tree.specs.declared.order.Notice.{Notice}
use Rattle.ikeless_tree.specs.declared.order.Notice.TheVariants as notices
use Rattle.ikeless_tree.specs.declared.command.Refusal.TheVariants as refusals
use Rattle.hist_controller.specs.Acts.{Way, ControllerOrder, Read, Policy, PutIn, PutOut, RemoveIn, RemoveOut, PlacedCommand, SetPolicy, Tunnel, End, Rekey, Keys, ControllerAct, Opened, Cut, Answered, Heard, Ordered, Accepted, Refused, ControllerEvent, Told, Opens, Cuts, Answers, Notices}
use Rattle.hist_controller.specs.Law.{is_reading, placed_command, is_seen}
use Rattle.hist_controller.specs.State.{KeptGateway, KeptAssociation, KeptWay, ControllerState, is_kept_in_progress, did, did_all}

-- the order as the next one of the gateway's session
abbrev pub order_act : ControllerState → ℕ → ControllerOrder → ControllerAct
order_act s g o = Ordered g (s.gateway g).session ((s.gateway g).orders + 1) o

-- a session is open at the gateway, and its first reading was answered
abbrev pub is_read_of : KeptGateway → Bool
is_read_of x = x.up && x.read

-- a put or a removal of the direction, with these associations left
abbrev pub is_own_of : Way → List KeptAssociation → ControllerOrder → Bool
is_own_of d ks (PutIn x) = d.id == x.way.id
is_own_of d ks (PutOut x) = d.id == x.way.id
is_own_of d ks (RemoveIn n) = list_any (λ k. k.association.serial == n) ks
is_own_of d ks (RemoveOut n) = list_any (λ k. k.association.serial == n) ks
is_own_of d ks (_) = false

-- a put or a removal of the direction waits for its answer
abbrev pub is_busy_of : ControllerState → KeptWay → Bool
is_busy_of s w = list_any (is_own_of w.way w.associations) (s.gateway w.way.sender).queue
    || list_any (is_own_of w.way w.associations) (s.gateway w.way.receiver).queue

-- out/N of an ended association: it was ordered put, no removal of it is answered, and its gateway is read
abbrev pub may_out_remove_of : ControllerState → KeptWay → KeptAssociation → Bool
may_out_remove_of s w k = k.ended && k.out_sent && not k.out_gone && is_read_of (s.gateway w.way.sender)

-- in/N of an ended association: out/N was never ordered put, or its removal is answered
abbrev pub may_in_remove_of : ControllerState → KeptWay → KeptAssociation → Bool
may_in_remove_of s w k = k.ended && (not k.out_sent || k.out_gone) && is_read_of (s.gateway w.way.receiver)

-- out/N of an association in progress: the put of in/N is answered, and both gateways are read
abbrev pub may_out_put_of : ControllerState → KeptWay → KeptAssociation → Bool
may_out_put_of s w k = is_kept_in_progress k && not k.out_sent && k.in_done && is_read_of (s.gateway w.way.sender)
    && is_read_of (s.gateway w.way.receiver)

-- in/N of a new association: the direction is owed one, and both gateways are read
abbrev pub may_in_put_of : ControllerState → KeptWay → Bool
may_in_put_of s w = (w.wanted && not w.over) && is_read_of (s.gateway w.way.sender) && is_read_of (s.gateway w.way.receiver)

-- the first association that passes
abbrev pub first_of : (KeptAssociation → Bool) → List KeptAssociation → Option KeptAssociation
first_of p [] = None
first_of p (k ∷ ks) = if p k then Some k else first_of p ks

-- where in/N may be put: a new association with the oldest of these keys and the next serial; without a key there is none
abbrev pub key_put_of : ControllerState → KeptWay → List (List ℕ) → List ControllerAct
key_put_of s w [] = []
key_put_of s w (k ∷ ks) = if may_in_put_of s w then order_act s w.way.receiver
    (PutIn (record { serial = s.serials + 1; key = k; way = w.way })) ∷ [] else []

-- the put of out/N of this association, or else a new association where none is to be put
abbrev pub out_put_of : ControllerState → KeptWay → Option KeptAssociation → List ControllerAct
out_put_of s w (Some k) = order_act s w.way.sender (PutOut k.association) ∷ []
out_put_of s w None = key_put_of s w s.spare

-- the removal of in/N of this association, or else a put
abbrev pub in_remove_of : ControllerState → KeptWay → Option KeptAssociation → List ControllerAct
in_remove_of s w (Some k) = order_act s w.way.receiver (RemoveIn k.association.serial) ∷ []
in_remove_of s w None = out_put_of s w (first_of (may_out_put_of s w) w.associations)

-- the removal of out/N of this association, or else a later kind of order
abbrev pub out_remove_of : ControllerState → KeptWay → Option KeptAssociation → List ControllerAct
out_remove_of s w (Some k) = order_act s w.way.sender (RemoveOut k.association.serial) ∷ []
out_remove_of s w None = in_remove_of s w (first_of (may_in_remove_of s w) w.associations)

-- the order of a direction, or none: removals before puts, outbound ones before inbound ones, the oldest first
abbrev pub give_of : ControllerState → KeptWay → List ControllerAct
give_of s w = if is_busy_of s w then [] else out_remove_of s w (first_of (may_out_remove_of s w) w.associations)

-- the element at this place, counted from 0
abbrev pub place : {A : Type 0} → ℕ → List A → Option A
place i [] = None
place i (x ∷ xs) = if i == 0 then Some x else place (i - 1) xs

-- the order of the direction at a place, where there is one
abbrev pub give_at : ControllerState → Option KeptWay → List ControllerAct
give_at s None = []
give_at s (Some w) = give_of s w

-- the directions from a place on, so many as the list is long; each is read when its turn comes
abbrev pub pass_of : ControllerState → ℕ → List KeptWay → List ControllerAct
pass_of s i [] = []
pass_of s i (w ∷ ws) = give_at s (place i s.ways) ++ pass_of (did_all s (give_at s (place i s.ways))) (i + 1) ws

-- the list is ordered at the gateway, where there is one
abbrev pub with_list_of : ControllerState → ℕ → Option (List SpdEntry) → List ControllerAct
with_list_of s g None = []
with_list_of s g (Some l) = order_act s g (Policy l) ∷ []

-- a list that is accepted goes to its gateway at once if a session is open there
abbrev pub by_command_of : ControllerState → PlacedCommand → List ControllerAct
by_command_of s (SetPolicy g l) = if (s.gateway g).up then order_act s g (Policy l) ∷ [] else []
by_command_of s (_) = []

-- after a bad SPI the gateway is read, unless a reading waits there
abbrev pub by_notice_of : ControllerState → ℕ → Notice → List ControllerAct
by_notice_of s g (notices.BadSpi n) = if list_any is_reading (s.gateway g).queue then [] else order_act s g Read ∷ []
by_notice_of s g (_) = []

-- at an opening: a reading, and the newest list where there is one
abbrev pub read_put_of : ControllerState → ℕ → List ControllerAct
read_put_of s g = order_act s g Read ∷ with_list_of (did s (order_act s g Read)) g (s.gateway g).list

-- the orders of no direction that follow this act
abbrev pub asked_of : ControllerState → ControllerAct → List ControllerAct
asked_of s (Accepted c) = by_command_of s c
asked_of s (Opened g n) = read_put_of s g
asked_of s (Heard g n t) = by_notice_of s g t
asked_of s (_) = []

-- a tunnel of this reqid is not ended
abbrev pub has_tunnel_of : ℕ → ControllerState → Bool
has_tunnel_of r s = list_any (λ w. (w.way.tunnel.reqid == r) && not w.over) s.ways

-- there is no association
abbrev pub is_none_kept : List KeptAssociation → Bool
is_none_kept [] = true
is_none_kept (x ∷ xs) = false

-- a direction counts while its tunnel isn't ended, or an association of it is left
abbrev pub is_counted_way : KeptWay → Bool
is_counted_way w = not w.over || not (is_none_kept w.associations)

-- how many tunnels count; the two directions of a tunnel stand together
abbrev pub tunnels_of : List KeptWay → ℕ
tunnels_of [] = 0
tunnels_of (w ∷ []) = 0
tunnels_of (w ∷ v ∷ ws) = if is_counted_way w || is_counted_way v then tunnels_of ws + 1 else tunnels_of ws

-- why a command is refused, by the first reason that applies, among so many gateways
abbrev pub refusal_of : ℕ → ControllerState → PlacedCommand → Option Refusal
refusal_of p s (SetPolicy g l) = if nat_lt g p then None else Some refusals.UnknownGateway
refusal_of p s (Tunnel t) =
    if not (nat_lt t.first p && nat_lt t.second p) then Some refusals.UnknownGateway
    else if t.first == t.second then Some refusals.SameGateway
    else if has_tunnel_of t.spec.reqid s then Some refusals.TunnelExists
    else if nat_le 1024 (tunnels_of s.ways) then Some refusals.TunnelLimit
    else None
refusal_of p s (End r) = if has_tunnel_of r s then None else Some refusals.NoTunnel
refusal_of p s (Rekey r) = if has_tunnel_of r s then None else Some refusals.NoTunnel
refusal_of p s (Keys k) =
    if not (is_key_length (length k)) then Some refusals.KeyLength
    else if is_seen k s.keys then Some refusals.KeySeen
    else if nat_le 1048576 (length s.keys) then Some refusals.KeyLimit
    else None

-- these orders of no direction, and behind them the orders of the directions
abbrev pub asked_then_of : ControllerState → List ControllerAct → List ControllerAct
asked_then_of s os = os ++ pass_of (did_all s os) 0 (did_all s os).ways

-- an act, the orders that belong to no direction, and those of the directions
abbrev pub going_of : ControllerState → ControllerAct → List ControllerAct
going_of s a = a ∷ asked_then_of (did s a) (asked_of (did s a) a)

-- a command that is accepted has its orders behind it, one that is refused its refusal alone
abbrev pub by_refusal_of : ControllerState → PlacedCommand → Option Refusal → List ControllerAct
by_refusal_of s c None = going_of s (Accepted c)
by_refusal_of s c (Some w) = Refused w ∷ []

-- an answer is to the oldest order that waits; where none waits, nothing is done
abbrev pub by_answer_of : ControllerState → ℕ → Answer → List ControllerOrder → List ControllerAct
by_answer_of s g a [] = []
by_answer_of s g a (o ∷ os) = going_of s (Answered g (s.gateway g).session ((s.gateway g).answers + 1) a)

-- the acts of an event
abbrev pub acts_of : List Peer → ControllerState → ControllerEvent → List ControllerAct
acts_of ps s (Told c) = by_refusal_of s (placed_command ps c) (refusal_of (length ps) s (placed_command ps c))
acts_of ps s (Opens g) = if (s.gateway g).up then [] else going_of s (Opened g ((s.gateway g).session + 1))
acts_of ps s (Cuts g) = if (s.gateway g).up then going_of s (Cut g (s.gateway g).session) else []
acts_of ps s (Answers g a) = by_answer_of s g a (s.gateway g).queue
acts_of ps s (Notices g t) = if (s.gateway g).up then going_of s (Heard g (s.gateway g).session t) else []

-- what is kept after an event
abbrev pub next : List Peer → ControllerState → ControllerEvent → ControllerState
next ps s e = did_all s (acts_of ps s e)

-- the acts of events, one after another
abbrev pub run : List Peer → ControllerState → List ControllerEvent → List ControllerAct
run ps s [] = []
run ps s (e ∷ es) = acts_of ps s e ++ run ps (next ps s e) es
