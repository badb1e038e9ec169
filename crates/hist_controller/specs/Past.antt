-- What the past says. A past has its newest act first, so that each word looks back by recursion. The life of an
-- association follows the order of a rekey and of a recovery in RFC 9061, made exact by this project.
use Rattle.std.specs.Prelude.{ℕ, ◌+◌, Bool, true, false, ◌==◌, not, ◌&&◌, ◌||◌, nat_le, nat_lt, List, [], ◌∷◌, ◌++◌, Option, Some, None, length, if◌then◌else◌}
use Rattle.std.specs.List.{filter, list_any}
use Rattle.std.specs.Str.{bytes_eq}
use Rattle.ikeless_tree.specs.declared.entry.SpdEntry.{SpdEntry}
use Rattle.ikeless_tree.specs.declared.order.Answer.{Answer}
use Rattle.ikeless_tree.specs.declared.order.Notice.{Notice}
use Rattle.ikeless_tree.specs.declared.order.Notice.TheVariants as notices
use Rattle.ikeless_tree.specs.Half.{in_name, out_name}
use Rattle.hist_controller.specs.Acts.{Way, Association, ControllerOrder, Read, Policy, PutIn, PutOut, RemoveIn, RemoveOut, PlacedTunnel, PlacedCommand, SetPolicy, Tunnel, End, Rekey, Keys, ControllerAct, Opened, Cut, Answered, Heard, Ordered, Accepted}

-- ## sessions and orders

-- a session of the gateway is open
abbrev pub is_open : ℕ → List ControllerAct → Bool
is_open g [] = false
is_open g (Opened f s ∷ h) = (g == f) || is_open g h
is_open g (Cut f s ∷ h) = not (g == f) && is_open g h
is_open g (_ ∷ h) = is_open g h

-- how many sessions were opened
abbrev pub openings : ℕ → List ControllerAct → ℕ
openings g [] = 0
openings g (Opened f s ∷ h) = if g == f then openings g h + 1 else openings g h
openings g (_ ∷ h) = openings g h

-- how many orders were given in the newest session
abbrev pub orders : ℕ → List ControllerAct → ℕ
orders g [] = 0
orders g (Opened f s ∷ h) = if g == f then 0 else orders g h
orders g (Ordered f s n o ∷ h) = if g == f then orders g h + 1 else orders g h
orders g (_ ∷ h) = orders g h

-- how many of them were answered
abbrev pub answered : ℕ → List ControllerAct → ℕ
answered g [] = 0
answered g (Opened f s ∷ h) = if g == f then 0 else answered g h
answered g (Answered f s n a ∷ h) = if g == f then answered g h + 1 else answered g h
answered g (_ ∷ h) = answered g h

-- the orders that wait once the oldest is answered
abbrev pub rest : List ControllerOrder → List ControllerOrder
rest [] = []
rest (o ∷ os) = os

-- the order that waits longest, to which the next answer is
abbrev pub oldest : List ControllerOrder → Option ControllerOrder
oldest [] = None
oldest (o ∷ os) = Some o

-- the waiting orders, oldest first; a cut loses them
abbrev pub queue : ℕ → List ControllerAct → List ControllerOrder
queue g [] = []
queue g (Opened f s ∷ h) = if g == f then [] else queue g h
queue g (Cut f s ∷ h) = if g == f then [] else queue g h
queue g (Ordered f s n o ∷ h) = if g == f then queue g h ++ o ∷ [] else queue g h
queue g (Answered f s n a ∷ h) = if g == f then rest (queue g h) else queue g h
queue g (_ ∷ h) = queue g h

-- order 1 of the newest session was answered
abbrev pub is_first_answered : ℕ → List ControllerAct → Bool
is_first_answered g [] = false
is_first_answered g (Opened f s ∷ h) = not (g == f) && is_first_answered g h
is_first_answered g (Answered f s n a ∷ h) = ((g == f) && (n == 1)) || is_first_answered g h
is_first_answered g (_ ∷ h) = is_first_answered g h

-- its session is open and read
abbrev pub is_read : ℕ → List ControllerAct → Bool
is_read g h = is_open g h && is_first_answered g h

-- the list that the command gives this gateway, or else this one
abbrev pub list_if : ℕ → PlacedCommand → Option (List SpdEntry) → Option (List SpdEntry)
list_if g (SetPolicy f l) o = if g == f then Some l else o
list_if g (_) o = o

-- the newest list accepted for the gateway
abbrev pub newest_list : ℕ → List ControllerAct → Option (List SpdEntry)
newest_list g [] = None
newest_list g (Accepted c ∷ h) = list_if g c (newest_list g h)
newest_list g (_ ∷ h) = newest_list g h

-- ## keys and serials

-- the key that the command brings, if it brings one
abbrev pub key_of : PlacedCommand → List (List ℕ)
key_of (Keys k) = k ∷ []
key_of (_) = []

-- the keys accepted, oldest first
abbrev pub keys : List ControllerAct → List (List ℕ)
keys [] = []
keys (Accepted c ∷ h) = keys h ++ key_of c
keys (_ ∷ h) = keys h

-- the order puts an inbound half
abbrev pub is_inbound_put : ControllerOrder → Bool
is_inbound_put (PutIn x) = true
is_inbound_put (_) = false

-- how many inbound halves were ordered put
abbrev pub serials : List ControllerAct → ℕ
serials [] = 0
serials (Ordered g s n o ∷ h) = if is_inbound_put o then serials h + 1 else serials h
serials (_ ∷ h) = serials h

-- an inbound put takes the oldest key
abbrev pub keys_after : ControllerOrder → List (List ℕ) → List (List ℕ)
keys_after (PutIn x) [] = []
keys_after (PutIn x) (k ∷ ks) = ks
keys_after (_) ks = ks

-- the keys left, oldest first
abbrev pub spare : List ControllerAct → List (List ℕ)
spare [] = []
spare (Accepted c ∷ h) = spare h ++ key_of c
spare (Ordered g s n o ∷ h) = keys_after o (spare h)
spare (_ ∷ h) = spare h

-- ## directions

-- the two directions of a tunnel with the ids n and n + 1: from its first gateway to its second, and back
abbrev pub both_ways : ℕ → PlacedTunnel → List Way
both_ways n t =
    record { id = n; tunnel = t.spec; sender = t.first; receiver = t.second; near = t.spec.first_prefix; far = t.spec.second_prefix }
    ∷ record { id = n + 1; tunnel = t.spec; sender = t.second; receiver = t.first; near = t.spec.second_prefix; far = t.spec.first_prefix }
    ∷ []

-- the directions that a command makes: those of its tunnel
abbrev pub new_ways : ℕ → PlacedCommand → List Way
new_ways n (Tunnel t) = both_ways n t
new_ways n (_) = []

-- the directions of the accepted tunnels
abbrev pub directions : List ControllerAct → List Way
directions [] = []
directions (Accepted c ∷ h) = directions h ++ new_ways (length (directions h)) c
directions (_ ∷ h) = directions h

-- this command made the direction, where so many directions stood before
abbrev pub is_made_by : PlacedCommand → ℕ → Way → Bool
is_made_by (Tunnel t) n d = nat_le n d.id
is_made_by (_) n d = false

-- the command ends the tunnel of this reqid
abbrev pub is_end_of : ℕ → PlacedCommand → Bool
is_end_of r (End q) = r == q
is_end_of r (_) = false

-- its tunnel is ended
abbrev pub is_over : Way → List ControllerAct → Bool
is_over d [] = false
is_over d (Accepted c ∷ h) = not (is_made_by c (length (directions h)) d) && (is_end_of d.tunnel.reqid c || is_over d h)
is_over d (_ ∷ h) = is_over d h

-- ## associations of a direction
-- Each word of an association begins anew at the order of its inbound put, and each word of a direction at its command.

-- which order of a half
pub data Kind : Type 0 where
  PuttingIn : Kind
  PuttingOut : Kind
  RemovingIn : Kind
  RemovingOut : Kind

-- the order is of this kind, for the half of the association with the serial n
abbrev pub is_kind : Kind → ℕ → ControllerOrder → Bool
is_kind PuttingIn n (PutIn x) = n == x.serial
is_kind PuttingOut n (PutOut x) = n == x.serial
is_kind RemovingIn n (RemoveIn m) = n == m
is_kind RemovingOut n (RemoveOut m) = n == m
is_kind _ n _ = false

-- there is an order that is answered, and it is of this kind and this serial
abbrev pub is_answer_to : Kind → ℕ → Option ControllerOrder → Bool
is_answer_to k n None = false
is_answer_to k n (Some o) = is_kind k n o

-- the put of out/n was ordered, since the put of in/n
abbrev pub is_out_ordered : ℕ → List ControllerAct → Bool
is_out_ordered n [] = false
is_out_ordered n (Ordered g s k o ∷ h) = not (is_kind PuttingIn n o) && (is_kind PuttingOut n o || is_out_ordered n h)
is_out_ordered n (_ ∷ h) = is_out_ordered n h

-- such an order of serial n was answered, since the put of in/n was ordered
abbrev pub has_answer : Kind → ℕ → List ControllerAct → Bool
has_answer k n [] = false
has_answer k n (Ordered g s i o ∷ h) = not (is_kind PuttingIn n o) && has_answer k n h
has_answer k n (Answered g s i a ∷ h) = is_answer_to k n (oldest (queue g h)) || has_answer k n h
has_answer k n (_ ∷ h) = has_answer k n h

-- a name is among those that a reading shows
abbrev pub is_shown : List (List ℕ) → List ℕ → Bool
is_shown names name = list_any (λ x. bytes_eq name x) names

-- an answer that ends the association, where its inbound put was answered or not, and its outbound put ordered or not
abbrev pub is_spoiled : Association → ℕ → Option ControllerOrder → Answer → Bool → Bool → Bool
is_spoiled x g None a done sent = false
is_spoiled x g (Some Read) a done sent = (x.way.receiver == g) && done && not sent && not (is_shown a.names (in_name x.serial))
is_spoiled x g (Some (Policy l)) a done sent = false
is_spoiled x g (Some (PutIn y)) a done sent = (x.serial == y.serial) && nat_le 400 a.status
is_spoiled x g (Some (PutOut y)) a done sent =
    ((x.serial == y.serial) && nat_le 400 a.status)
    || ((x.way.id == y.way.id) && nat_lt x.serial y.serial && (a.status == 201))
is_spoiled x g (Some (RemoveIn n)) a done sent = false
is_spoiled x g (Some (RemoveOut n)) a done sent = false

-- its tunnel is ended, a put of it is lost or refused, a later one took its place, or a reading did not show it in time
abbrev pub is_ended : Association → List ControllerAct → Bool
is_ended x [] = false
is_ended x (Accepted c ∷ h) = is_end_of x.way.tunnel.reqid c || is_ended x h
is_ended x (Cut g s ∷ h) = list_any (λ o. is_kind PuttingIn x.serial o || is_kind PuttingOut x.serial o) (queue g h) || is_ended x h
is_ended x (Answered g s n a ∷ h) = is_spoiled x g (oldest (queue g h)) a (has_answer PuttingIn x.serial h) (is_out_ordered x.serial h)
    || is_ended x h
is_ended x (Ordered g s n o ∷ h) = not (is_kind PuttingIn x.serial o) && is_ended x h
is_ended x (_ ∷ h) = is_ended x h

-- from the order of its inbound put until the answer to its outbound put
abbrev pub is_in_progress : List ControllerAct → Association → Bool
is_in_progress h x = not (is_ended x h) && not (has_answer PuttingOut x.serial h)

-- the association that the order begins in the direction, by the put of its inbound half
abbrev pub inbound_put : Way → ControllerOrder → List Association
inbound_put d (PutIn x) = if d.id == x.way.id then x ∷ [] else []
inbound_put d (_) = []

-- the associations left: the removal of in/n was not answered
abbrev pub left : Way → List ControllerAct → List Association
left d [] = []
left d (Accepted c ∷ h) = if is_made_by c (length (directions h)) d then [] else left d h
left d (Ordered g s n o ∷ h) = left d h ++ inbound_put d o
left d (Answered g s n a ∷ h) = filter (λ x. not (is_answer_to RemovingIn x.serial (oldest (queue g h)))) (left d h)
left d (_ ∷ h) = left d h

-- the serial of the association that the order begins in the direction, or else this one
abbrev pub last_if : Way → ControllerOrder → ℕ → ℕ
last_if d (PutIn x) n = if d.id == x.way.id then x.serial else n
last_if d (_) n = n

-- the serial that was put last in the direction, or 0
abbrev pub newest_serial : Way → List ControllerAct → ℕ
newest_serial d [] = 0
newest_serial d (Accepted c ∷ h) = if is_made_by c (length (directions h)) d then 0 else newest_serial d h
newest_serial d (Ordered g s n o ∷ h) = last_if d o (newest_serial d h)
newest_serial d (_ ∷ h) = newest_serial d h

-- a put or a removal of the direction, with these associations left
abbrev pub is_own : Way → List Association → ControllerOrder → Bool
is_own d xs (PutIn x) = d.id == x.way.id
is_own d xs (PutOut x) = d.id == x.way.id
is_own d xs (RemoveIn n) = list_any (λ x. x.serial == n) xs
is_own d xs (RemoveOut n) = list_any (λ x. x.serial == n) xs
is_own d xs (_) = false

-- a put or a removal of its own is waiting: it gets no other order
abbrev pub is_busy : Way → List ControllerAct → Bool
is_busy d h = list_any (is_own d (left d h)) (queue d.sender h) || list_any (is_own d (left d h)) (queue d.receiver h)

-- ## causes, each said of the past before the act
-- A direction is owed a new association by one of six: its `tunnel` command asks for keys at once; a `rekey`; an acquire
-- from its sender while none is in progress; an expiry or an overflow of the association put last; a reading that does not
-- show a half whose put was answered; a cut that loses a put.

-- the command makes a tunnel and asks for its keys at once
abbrev pub is_start : PlacedCommand → Bool
is_start (Tunnel t) = t.spec.now
is_start (_) = false

-- the command rekeys the tunnel of the direction
abbrev pub is_renewal : Way → PlacedCommand → Bool
is_renewal d (Rekey r) = d.tunnel.reqid == r
is_renewal d (_) = false

-- an entry of this name has the reqid
abbrev pub has_entry : List ℕ → ℕ → Option (List SpdEntry) → Bool
has_entry name r None = false
has_entry name r (Some l) = list_any (λ e. bytes_eq e.name name && (e.reqid == r)) l

-- the half of this serial that the gateway has in the direction has this name
abbrev pub is_half_at : Way → ℕ → List ℕ → ℕ → Bool
is_half_at d g name n = ((d.receiver == g) && bytes_eq (in_name n) name) || ((d.sender == g) && bytes_eq (out_name n) name)

-- the half is one of the association put last, which is not ended
abbrev pub is_of_newest : List ControllerAct → Way → ℕ → List ℕ → Bool
is_of_newest h d g name = is_half_at d g name (newest_serial d h) && list_any (λ x. (x.serial == newest_serial d h) && not (is_ended x h))
    (left d h)

-- a notice heard from this gateway is a cause for a new association of the direction
abbrev pub is_cause_notice : List ControllerAct → Way → ℕ → Notice → Bool
is_cause_notice h d g (notices.Acquire name s) = (d.sender == g) && has_entry name d.tunnel.reqid (newest_list g h)
    && not (list_any (is_in_progress h) (left d h))
is_cause_notice h d g (notices.Expire name soft c) = is_of_newest h d g name
is_cause_notice h d g (notices.SeqOverflow name) = is_of_newest h d g name
is_cause_notice h d g (notices.BadSpi s) = false

-- a reading with these names does not show a half of an association that is not ended, whose own put was answered
abbrev pub is_unseen : List ControllerAct → Way → ℕ → List (List ℕ) → Association → Bool
is_unseen h d g names x =
    not (is_ended x h)
    && (((d.receiver == g) && has_answer PuttingIn x.serial h && not (is_shown names (in_name x.serial)))
    || ((d.sender == g) && has_answer PuttingOut x.serial h && not (is_shown names (out_name x.serial))))

-- an answer is a cause: it is to a reading, and a half of an association left isn't shown
abbrev pub is_cause_reading : List ControllerAct → Way → ℕ → Option ControllerOrder → Answer → Bool
is_cause_reading h d g (Some Read) a = list_any (is_unseen h d g a.names) (left d h)
is_cause_reading h d g (_) a = false

-- the order puts either half in the direction
abbrev pub is_put_of : Way → ControllerOrder → Bool
is_put_of d (PutIn x) = d.id == x.way.id
is_put_of d (PutOut x) = d.id == x.way.id
is_put_of d (_) = false

-- the order puts an inbound half in the direction
abbrev pub is_inbound_put_of : Way → ControllerOrder → Bool
is_inbound_put_of d (PutIn x) = d.id == x.way.id
is_inbound_put_of d (_) = false

-- the act is a cause of the direction
abbrev pub is_cause : Way → ControllerAct → List ControllerAct → Bool
is_cause d (Accepted c) h = if is_made_by c (length (directions h)) d then is_start c else is_renewal d c
is_cause d (Heard g s t) h = is_cause_notice h d g t
is_cause d (Answered g s n a) h = is_cause_reading h d g (oldest (queue g h)) a
is_cause d (Cut g s) h = list_any (is_put_of d) (queue g h)
is_cause d (_) h = false

-- a cause stands since the command of the direction and its last inbound put order
abbrev pub is_wanted : Way → List ControllerAct → Bool
is_wanted d [] = false
is_wanted d (Ordered g s n o ∷ h) = not (is_inbound_put_of d o) && is_wanted d h
is_wanted d (Accepted c ∷ h) = if is_made_by c (length (directions h)) d then is_start c else (is_renewal d c || is_wanted d h)
is_wanted d (a ∷ h) = is_cause d a h || is_wanted d h

-- a direction of an ended tunnel is never owed an association
abbrev pub is_owed : Way → List ControllerAct → Bool
is_owed d h = is_wanted d h && not (is_over d h)
