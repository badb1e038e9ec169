-- What each event makes of a controller, and what the controller does at it.
use Rattle.std.specs.Prelude.{ℕ, ◌+◌, ◌-◌, Bool, true, false, ◌==◌, not, ◌&&◌, ◌||◌, nat_le, nat_lt, List, [], ◌∷◌, ◌++◌, Option, Some, None, length, map, slice_get, if◌then◌else◌}
use Rattle.ikeless_tree.specs.declared.command.Refusal.{Refusal}
use Rattle.ikeless_tree.specs.declared.command.Refusal.TheVariants as refusals
use Rattle.ikeless_tree.specs.declared.entry.SpdEntry.{SpdEntry}
use Rattle.ikeless_tree.specs.declared.command.Command.{Command}
use Rattle.ikeless_tree.specs.declared.command.Command.TheVariants as commands
use Rattle.ikeless_tree.specs.declared.command.TunnelSpec.{TunnelSpec}
use Rattle.ikeless_tree.specs.declared.order as orders
use Rattle.ikeless_tree.specs.declared.order.Answer.{Answer}
use Rattle.ikeless_tree.specs.declared.order.Notice.{Notice}
use Rattle.ikeless_tree.specs.declared.order.Notice.TheVariants as notices
use Rattle.ikeless_tree.specs.declared.order.Order.TheVariants as tree
use Rattle.ctl_tunnels.specs.declared.half.HalfName.{HalfName}
use Rattle.ctl_tunnels.specs.declared.life.HalfOrder.{HalfOrder}
use Rattle.ctl_tunnels.specs.Halves.{half_named, shows_in, shows_out}
use Rattle.ctl_tunnels.specs.Rings.{key_refusal}
use Rattle.ctl_tunnels.specs.Steps as steps
use Rattle.ctl_tunnels.specs.Tunnels as tunnels
use Rattle.ctl_tunnels.specs.declared.tunnel.Pair.{Pair}
use Rattle.ctl_tunnels.specs.declared.tunnel.Tunnel.{Tunnel}
use Rattle.ctl_core.specs.declared.peer.Session.{Session}
use Rattle.ctl_core.specs.declared.peer.Session.TheVariants as sessions
use Rattle.ctl_core.specs.declared.peer.Station.{Station}
use Rattle.ctl_core.specs.declared.peer.Waiting.{Waiting}
use Rattle.ctl_core.specs.declared.acts.CtlAct.{CtlAct}
use Rattle.ctl_core.specs.declared.acts.CtlAct.TheVariants as acts
use Rattle.ctl_core.specs.declared.acts.CtlEvent.{CtlEvent}
use Rattle.ctl_core.specs.declared.acts.CtlEvent.TheVariants as events
use Rattle.ctl_core.specs.Core as core
use Rattle.ctl_core.specs.Core.{Core}
use Rattle.ctl_core.specs.Changes.{has_tunnel, count_tunnels, unspent_tunnels, unspent_pairs, reqids_in, has_reqid}
use Rattle.ctl_core.specs.Drafts.{Drafted, given}
use Rattle.ctl_core.specs.Pass.{Effect, pass_draft, pass_pairs, with_queues}

-- no act yet, nothing for any queue, and the last serial so far
abbrev pub no_draft : Core → Drafted
no_draft c = record { acts = []; queues = map (λ s. []) c.stations; serials = c.serials }

-- whether each gateway's session is open and read
abbrev pub readiness : List Station → List Bool
readiness ss = map (λ s. core.is_ready s.session) ss

-- the acts of an event: those drafted, and those of the pass over the directions
abbrev pub passed : Core → Effect → List Bool → Drafted → Drafted
passed c ch ready x = pass_draft c.stations c.keys ch ready c.tunnels c.pairs x

-- what the controller keeps once these orders are given
abbrev pub committed : Core → Drafted → List Pair → Core
committed c x ps = record c { stations = with_queues c.stations x.queues; pairs = ps; serials = x.serials }

-- what the controller keeps after the pass over its directions
abbrev pub after_pass : Core → Effect → List Bool → Drafted → Core
after_pass c ch ready x = committed c (passed c ch ready x) (pass_pairs c.stations c.keys ch ready c.tunnels c.pairs x)

-- why a tunnel between two gateways is refused, by the first reason that applies
abbrev pub tunnel_refusal : Core → ℕ → ℕ → ℕ → Option Refusal
tunnel_refusal c reqid first second =
    if not (nat_lt first (length c.stations) && nat_lt second (length c.stations)) then Some refusals.UnknownGateway
    else if first == second then Some refusals.SameGateway
    else if has_tunnel reqid c.tunnels c.pairs then Some refusals.TunnelExists
    else if nat_le 1024 (count_tunnels c.pairs) then Some refusals.TunnelLimit
    else None

-- what an event leaves, and its acts
pub record Outcome : Type 0 where
  pub core : Core
  pub acts : List CtlAct

-- nothing is done and nothing changes
abbrev pub still : Core → Outcome
still c = record { core = c; acts = [] }

-- a command is refused, which is its only act and changes nothing
abbrev pub refused : Core → Refusal → Outcome
refused c why = record { core = c; acts = acts.Refused why ∷ [] }

-- what was drafted and then the pass over all directions, each changed by the event and given its next order where `ready` lets it
abbrev pub ran : Core → Effect → List Bool → Drafted → Outcome
ran c ch ready x = record { core = after_pass c ch ready x; acts = (passed c ch ready x).acts }

-- the event concerns no direction
abbrev pub nothing : Effect
nothing d p = p

-- with a gateway changed at last
abbrev pub with_station : ℕ → (Station → Station) → Outcome → Outcome
with_station g f o = record o { core = record o.core { stations = core.at g f o.core.stations } }

-- ## sessions

-- the list of policies for a gateway is ordered there, if one was ever commanded
abbrev pub with_list : ℕ → Option (List SpdEntry) → Drafted → Drafted
with_list g None x = x
with_list g (Some l) x = given g (tree.Policy l) None x

-- a session opened, with its first orders
abbrev pub opening_with : Core → ℕ → Drafted → Outcome
opening_with c g x = with_station g (λ t. record t { session = sessions.Unread }) (ran c nothing (readiness c.stations) x)

-- A session is opened at the gateway of this number: its halves are read, and it gets its newest list. Nothing happens if one is open.
abbrev pub opened : Core → ℕ → Outcome
opened c g = if core.is_closed_at c.stations g
    then opening_with c g (with_list g (core.list_at c.stations g) (given g tree.Read None (no_draft c))) else still c

-- from now on the session of this gateway counts as read, or not
abbrev pub set_ready : ℕ → Bool → List Bool → List Bool
set_ready g b [] = []
set_ready g b (x ∷ xs) = if g == 0 then b ∷ xs else x ∷ set_ready (g - 1) b xs

-- orders that wait at this gateway are lost
abbrev pub cut_effect : ℕ → Effect
cut_effect g d p = steps.cut (d.sender == g) (d.receiver == g) p

-- the session of the gateway ends, and what waits in its queue with it
abbrev pub closing : Core → ℕ → Outcome
closing c g = with_station g (λ t. record t { session = sessions.Closed; queue = [] })
    (ran c (cut_effect g) (set_ready g false (readiness c.stations)) (no_draft c))

-- the session of the gateway of this number is cut; nothing happens if none is open
abbrev pub cut : Core → ℕ → Outcome
cut c g = if core.is_open_at c.stations g then closing c g else still c

-- ## answers

-- the gateway has the halves of these names and no others
abbrev pub read_effect : ℕ → List (List ℕ) → Effect
read_effect g names d p = steps.read (d.sender == g) (d.receiver == g) (shows_in names) (shows_out names) p

-- what the answer to an order of no direction changes: only a reading tells something of halves
abbrev pub whole_effect : ℕ → Answer → orders.Order.Order → Effect
whole_effect g a tree.Read = read_effect g a.names
whole_effect g a (tree.Policy l) = nothing
whole_effect g a (tree.Put e) = nothing
whole_effect g a (tree.Remove n) = nothing

-- what an answer to an order changes
abbrev pub answer_effect : ℕ → Answer → orders.Order.Order → Option HalfOrder → Effect
answer_effect g a o None = whole_effect g a o
answer_effect g a o (Some half) = λ d p. steps.answered half a.status p

-- The oldest waiting order is answered, so the session is read: its first order was a reading.
abbrev pub answering : Core → ℕ → Effect → Outcome
answering c g ch = with_station g (λ t. record t { session = sessions.Read; queue = core.without_front t.queue })
    (ran c ch (set_ready g true (readiness c.stations)) (no_draft c))

-- what an answer to the oldest waiting order changes
abbrev pub front_effect : ℕ → Answer → Option Waiting → Effect
front_effect g a None = nothing
front_effect g a (Some w) = answer_effect g a w.order w.half

-- An answer comes from the gateway of this number, to its oldest waiting order. Nothing happens if none waits.
abbrev pub answered : Core → ℕ → Answer → Outcome
answered c g a =
    if core.is_some_waiting (core.front (core.queue_at c.stations g))
    then answering c g (front_effect g a (core.front (core.queue_at c.stations g)))
    else still c

-- ## notices

-- the half that a name in a notice is of, if it is one of the controller's
abbrev pub half_of : List ℕ → Option HalfName
half_of name = half_named name

-- the reqids that an acquire of this entry's name is about, by the newest list of the gateway
abbrev pub reqids : List ℕ → Option (List SpdEntry) → List ℕ
reqids name list = reqids_in name list

-- an expiry or an overflow of a half is a cause, where it is of the association put last and that isn't ended
abbrev pub worn_effect : ℕ → Option HalfName → Effect
worn_effect g None = nothing
worn_effect g (Some half) = λ d p. steps.wanted_if (steps.has_newest (d.sender == g) (d.receiver == g) half p) p

-- what a notice changes, with the newest list of its gateway
abbrev pub notice_effect : ℕ → Option (List SpdEntry) → Notice → Effect
notice_effect g list (notices.Acquire name s) = λ d p. steps.wanted_if ((d.sender == g) && has_reqid (reqids_in name list) d.reqid
    && steps.is_settled p) p
notice_effect g list (notices.Expire name soft l) = worn_effect g (half_named name)
notice_effect g list (notices.SeqOverflow name) = worn_effect g (half_named name)
notice_effect g list (notices.BadSpi spi) = nothing

-- a reading after a bad SPI, unless one waits
abbrev pub asked_again : ℕ → List Waiting → Notice → Drafted → Drafted
asked_again g ws (notices.Acquire name s) x = x
asked_again g ws (notices.Expire name soft l) x = x
asked_again g ws (notices.SeqOverflow name) x = x
asked_again g ws (notices.BadSpi spi) x = if core.has_reading ws then x else given g tree.Read None x

-- A notice comes from the gateway of this number. Nothing happens if no session is open there.
abbrev pub noticed : Core → ℕ → Notice → Outcome
noticed c g n =
    if core.is_open_at c.stations g
    then ran c (notice_effect g (core.list_at c.stations g) n) (readiness c.stations)
    (asked_again g (core.queue_at c.stations g) n (no_draft c))
    else still c

-- ## commands

-- the list of policies is ordered at once where a session is open; else at the next opening
abbrev pub policy_drafted : Core → ℕ → List SpdEntry → Drafted
policy_drafted c g l = if core.is_open_at c.stations g then given g (tree.Policy l) None (no_draft c) else no_draft c

-- the list is the newest one of its gateway from now on
abbrev pub policy_taken : Core → ℕ → List SpdEntry → Outcome
policy_taken c g l = with_station g (λ t. record t { list = Some l }) (ran c nothing (readiness c.stations) (policy_drafted c g l))

-- a list of policies is commanded for the gateway of this number; refused if there is none
abbrev pub policy_at : Core → ℕ → List SpdEntry → Outcome
policy_at c g l = if nat_lt g (length c.stations) then policy_taken c g l else refused c refusals.UnknownGateway

-- the spent tunnels are forgotten, and one more comes last; with `now` it wants associations at once
abbrev pub with_tunnel : Core → Tunnel → Bool → Core
with_tunnel c t now = record c {
  tunnels = unspent_tunnels c.tunnels c.pairs ++ t ∷ [];
  pairs = unspent_pairs c.tunnels c.pairs
      ++ tunnels.begun now ∷ [];
}

-- the tunnel is accepted, and gets its first orders where sessions are read and keys are left
abbrev pub tunnel_taken : Core → Tunnel → Bool → Outcome
tunnel_taken c t now = ran (with_tunnel c t now) nothing (readiness c.stations) (no_draft c)

-- the tunnel between the gateways with these numbers is refused for this reason, or accepted
abbrev pub tunnel_by : Core → TunnelSpec → ℕ → ℕ → Option Refusal → Outcome
tunnel_by c spec first second (Some why) = refused c why
tunnel_by c spec first second None = tunnel_taken c (tunnels.of_spec spec first second) spec.now

-- a tunnel is commanded between the gateways of two names
abbrev pub tunneled : Core → TunnelSpec → Outcome
tunneled c spec = tunnel_by c spec (core.number_of spec.first c.stations) (core.number_of spec.second c.stations)
    (tunnel_refusal c spec.reqid (core.number_of spec.first c.stations) (core.number_of spec.second c.stations))

-- a command for the tunnel of this reqid, refused where none is or it is ended
abbrev pub known : Core → ℕ → Effect → Outcome
known c reqid ch = if has_tunnel reqid c.tunnels c.pairs then ran c ch (readiness c.stations) (no_draft c) else refused c refusals.NoTunnel

-- the tunnel of this reqid is ended in both directions
abbrev pub end_effect : ℕ → Effect
end_effect r d p = if d.reqid == r then steps.ended p else p

-- both directions of the tunnel of this reqid want a new association
abbrev pub rekey_effect : ℕ → Effect
rekey_effect r d p = steps.wanted_if (d.reqid == r) p

-- what waited for a key
abbrev pub waited : Core → Outcome
waited c = ran c nothing (readiness c.stations) (no_draft c)

-- keying material is refused for this reason, or becomes the last of the keys
abbrev pub keys_by : Core → List ℕ → Option Refusal → Outcome
keys_by c k (Some why) = refused c why
keys_by c k None = waited (record c { keys = c.keys ++ k ∷ [] })

-- what a command does: it is refused, with that as its only act, or accepted and followed by the orders that are due
abbrev pub commanded : Core → Command → Outcome
commanded c (commands.Policy name l) = policy_at c (core.number_of name c.stations) l
commanded c (commands.Tunnel spec) = tunneled c spec
commanded c (commands.End r) = known c r (end_effect r)
commanded c (commands.Rekey r) = known c r (rekey_effect r)
commanded c (commands.Keys k) = keys_by c k (key_refusal k c.keys)

-- an event
abbrev pub stepped : Core → CtlEvent → Outcome
stepped c (events.Command command) = commanded c command
stepped c (events.Opened g) = opened c g
stepped c (events.Cut g) = cut c g
stepped c (events.Answered g a) = answered c g a
stepped c (events.Noticed g n) = noticed c g n
