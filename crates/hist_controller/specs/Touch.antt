-- What hangs on which act: the next order of a direction, but for its key, and the acts that touch a direction.
use Rattle.std.specs.Prelude.{ℕ, ◌+◌, Bool, true, false, ◌==◌, ◌||◌, List, [], ◌∷◌, Option, Some, None, if◌then◌else◌}
use Rattle.hist_controller.specs.Acts.{Way, Association, PutIn, PutOut, RemoveIn, RemoveOut, PlacedCommand, SetPolicy, Tunnel, End, Rekey, Keys, ControllerAct, Opened, Cut, Answered, Heard, Ordered, Accepted, Refused}
use Rattle.hist_controller.specs.Past.{oldest, spare, serials, left, is_own, is_busy}
use Rattle.hist_controller.specs.Law.{order, may_out_remove, may_in_remove, may_out_put, may_in_put, first}
use Rattle.hist_controller.specs.State.{KeptGateway, KeptWay, way_told, way_cut, way_answered, way_heard, way_ordered}

-- what a direction gets next, a new association with whatever key comes next
pub data NextOrder : Type 0 where
  Nothing : NextOrder
  RemovesOut : (x : Association) → NextOrder
  RemovesIn : (x : Association) → NextOrder
  PutsOut : (x : Association) → NextOrder
  PutsNew : NextOrder

-- a new association, where one may be put
abbrev pub new_put : Bool → NextOrder
new_put b = if b then PutsNew else Nothing

-- the put of out/N of this association, or else a new association
abbrev pub next_out_put : List ControllerAct → Way → Option Association → NextOrder
next_out_put h d (Some x) = PutsOut x
next_out_put h d None = new_put (may_in_put h d)

-- the removal of in/N of this association, or else a put
abbrev pub next_in_remove : List ControllerAct → Way → Option Association → NextOrder
next_in_remove h d (Some x) = RemovesIn x
next_in_remove h d None = next_out_put h d (first (may_out_put h d) (left d h))

-- the removal of out/N of this association, or else a later kind of order
abbrev pub next_out_remove : List ControllerAct → Way → Option Association → NextOrder
next_out_remove h d (Some x) = RemovesOut x
next_out_remove h d None = next_in_remove h d (first (may_in_remove h d) (left d h))

-- what the direction gets next; nothing while a put or a removal of its own waits
abbrev pub next_order : List ControllerAct → Way → NextOrder
next_order h d = if is_busy d h then Nothing else next_out_remove h d (first (may_out_remove h d) (left d h))

-- the act with which it gets it; no new association where no key is left
abbrev pub with_key : List ControllerAct → Way → List (List ℕ) → List ControllerAct
with_key h d [] = []
with_key h d (k ∷ ks) = order h d.receiver (PutIn (record { serial = serials h + 1; key = k; way = d })) ∷ []

-- the act with which a direction gets this order
abbrev pub acts_for : List ControllerAct → Way → NextOrder → List ControllerAct
acts_for h d Nothing = []
acts_for h d (RemovesOut x) = order h d.sender (RemoveOut x.serial) ∷ []
acts_for h d (RemovesIn x) = order h d.receiver (RemoveIn x.serial) ∷ []
acts_for h d (PutsOut x) = order h d.sender (PutOut x) ∷ []
acts_for h d PutsNew = with_key h d (spare h)

-- the gateway is one of the direction's two
abbrev pub is_of_way : Way → ℕ → Bool
is_of_way d g = (d.sender == g) || (d.receiver == g)

-- the command ends or rekeys the tunnel of the direction
abbrev pub does_command_touch : Way → PlacedCommand → Bool
does_command_touch d (SetPolicy g l) = false
does_command_touch d (Tunnel t) = false
does_command_touch d (End r) = d.tunnel.reqid == r
does_command_touch d (Rekey r) = d.tunnel.reqid == r
does_command_touch d (Keys k) = false

-- the act touches a direction that was commanded: a cut, an answer or a notice at one of its gateways, an order of its own, or the
-- end or the rekey of its tunnel
abbrev pub does_touch : Way → ControllerAct → List ControllerAct → Bool
does_touch d (Opened g s) h = false
does_touch d (Cut g s) h = is_of_way d g
does_touch d (Answered g s n a) h = is_of_way d g
does_touch d (Heard g s t) h = is_of_way d g
does_touch d (Ordered g s n o) h = is_own d (left d h) o
does_touch d (Accepted c) h = does_command_touch d c
does_touch d (Refused w) h = false

-- a key is accepted
abbrev pub does_bring_key : ControllerAct → Bool
does_bring_key (Accepted (Keys k)) = true
does_bring_key (_) = false

-- what an act makes of the part that is kept of a direction
abbrev pub did_way : (ℕ → KeptGateway) → ControllerAct → KeptWay → KeptWay
did_way f (Opened g s) w = w
did_way f (Cut g s) w = way_cut (f g).queue w
did_way f (Answered g s n a) w = way_answered g (oldest (f g).queue) a w
did_way f (Heard g s t) w = way_heard (f g).list g t w
did_way f (Ordered g s n o) w = way_ordered o w
did_way f (Accepted c) w = way_told c w
did_way f (Refused r) w = w
