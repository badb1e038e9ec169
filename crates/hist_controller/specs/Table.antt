-- What the code can keep: a list in place of a function of the gateway.
use Rattle.std.specs.Prelude.{ℕ, zero, suc, ◌+◌, ◌-◌, ◌<◌, false, ◌==◌, List, [], ◌∷◌, ◌++◌, Some, None, map, length, if◌then◌else◌}
use Rattle.ikeless_tree.specs.declared.entry.SpdEntry.{SpdEntry}
use Rattle.ikeless_tree.specs.declared.command.Peer.{Peer}
use Rattle.hist_controller.specs.Acts.{PlacedCommand, SetPolicy, ControllerAct, Opened, Cut, Answered, Heard, Ordered, Accepted, Refused, ControllerEvent, Told, Opens, Cuts, Answers, Notices}
use Rattle.hist_controller.specs.Past.{oldest, keys_after, key_of, is_inbound_put, new_ways}
use Rattle.hist_controller.specs.Machine.{acts_of}
use Rattle.hist_controller.specs.State.{KeptGateway, KeptWay, ControllerState, gateway_opened, gateway_cut, gateway_answered, gateway_ordered, way_told, fresh_way, way_cut, way_answered, way_heard, way_ordered}

-- the gateways in the order of their numbers; the rest as in `ControllerState`
pub record Table : Type 0 where
  pub gateways : List KeptGateway
  pub ways : List KeptWay
  pub keys : List (List ℕ)
  pub spare : List (List ℕ)
  pub serials : ℕ

-- a gateway before its first session
abbrev pub shut : KeptGateway
shut = record { up = false; session = 0; orders = 0; answers = 0; queue = []; read = false; list = None }

-- the gateway of this number; one that isn't there is shut
abbrev pub gateway_at : ℕ → List KeptGateway → KeptGateway
gateway_at g [] = shut
gateway_at g (x ∷ xs) = if g == 0 then x else gateway_at (g - 1) xs

-- the gateways with that of this number changed
abbrev pub change : ℕ → (KeptGateway → KeptGateway) → List KeptGateway → List KeptGateway
change f k [] = []
change f k (x ∷ xs) = if f == 0 then k x ∷ xs else x ∷ change (f - 1) k xs

-- the gateway's newest list is this
abbrev pub listed : List SpdEntry → KeptGateway → KeptGateway
listed l x = record x { list = Some l }

-- after a command: a list is its gateway's newest one
abbrev pub told_gates : PlacedCommand → List KeptGateway → List KeptGateway
told_gates (SetPolicy f l) xs = change f (listed l) xs
told_gates (_) xs = xs

-- a table as the machine keeps it
abbrev pub seen : Table → ControllerState
seen t = record { gateway = λ g. gateway_at g t.gateways; ways = t.ways; keys = t.keys; spare = t.spare; serials = t.serials }

-- the table after an act
abbrev pub did_table : Table → ControllerAct → Table
did_table s (Opened f n) = record s { gateways = change f gateway_opened s.gateways }
did_table s (Cut f n) = record s { gateways = change f gateway_cut s.gateways; ways = map (way_cut (gateway_at f s.gateways).queue) s.ways }
did_table s (Answered f n i a) = record s {
  gateways = change f (gateway_answered i) s.gateways;
  ways =
      map (way_answered f (oldest (gateway_at f s.gateways).queue) a) s.ways;
}
did_table s (Heard f n t) = record s { ways = map (way_heard (gateway_at f s.gateways).list f t) s.ways }
did_table s (Ordered f n i o) = record {
  gateways = change f (gateway_ordered o) s.gateways;
  ways = map (way_ordered o) s.ways;
  keys =
      s.keys;
  spare = keys_after o s.spare;
  serials = if is_inbound_put o then s.serials + 1 else s.serials;
}
did_table s (Accepted c) = record {
  gateways = told_gates c s.gateways;
  ways = map (way_told c) s.ways
      ++ map (fresh_way c) (new_ways (length s.ways) c);
  keys = s.keys ++ key_of c;
  spare = s.spare ++ key_of c;
  serials = s.serials;
}
did_table s (Refused w) = s

-- the act speaks of one of so many gateways
abbrev pub fits_placed : ℕ → PlacedCommand → Type 0
fits_placed p (SetPolicy g l) = g < p
fits_placed p (_) = Unit {0}

-- the act speaks of one of so many gateways, or of none
abbrev pub Fits : ℕ → ControllerAct → Type 0
Fits p (Opened g s) = g < p
Fits p (Cut g s) = g < p
Fits p (Answered g s n a) = g < p
Fits p (Heard g s t) = g < p
Fits p (Ordered g s n o) = g < p
Fits p (Accepted c) = fits_placed p c
Fits p (Refused w) = Unit {0}

-- so does each of these acts
abbrev pub AllFit : ℕ → List ControllerAct → Type 0
AllFit p [] = Unit {0}
AllFit p (a ∷ h) = Fits p a × AllFit p h

-- the event speaks of one of so many gateways
abbrev pub EventFits : ℕ → ControllerEvent → Type 0
EventFits p (Told c) = Unit {0}
EventFits p (Opens g) = g < p
EventFits p (Cuts g) = g < p
EventFits p (Answers g a) = g < p
EventFits p (Notices g t) = g < p

-- so does each of these events
abbrev pub AllEventsFit : ℕ → List ControllerEvent → Type 0
AllEventsFit p [] = Unit {0}
AllEventsFit p (e ∷ es) = EventFits p e × AllEventsFit p es

-- so many shut gateways, and nothing else
abbrev pub shut_gateways : ℕ → List KeptGateway
shut_gateways zero = []
shut_gateways (suc n) = shut ∷ shut_gateways n

-- what a controller with so many gateways keeps before its first event
abbrev pub first_table : ℕ → Table
first_table n = record { gateways = shut_gateways n; ways = []; keys = []; spare = []; serials = 0 }

-- the table after several acts
abbrev pub did_all_table : Table → List ControllerAct → Table
did_all_table t [] = t
did_all_table t (a ∷ more) = did_all_table (did_table t a) more

-- the table after an event
abbrev pub next_table : List Peer → Table → ControllerEvent → Table
next_table ps t e = did_all_table t (acts_of ps (seen t) e)
