-- What a controller keeps in place of its past, and what each act does to it.
use Rattle.std.specs.Prelude.{ℕ, ◌+◌, Bool, true, false, ◌==◌, not, ◌&&◌, ◌||◌, List, [], ◌∷◌, ◌++◌, Option, Some, map, length, if◌then◌else◌}
use Rattle.std.specs.List.{filter, list_any}
use Rattle.ikeless_tree.specs.declared.entry.SpdEntry.{SpdEntry}
use Rattle.ikeless_tree.specs.declared.order.Answer.{Answer}
use Rattle.ikeless_tree.specs.declared.order.Notice.{Notice}
use Rattle.ikeless_tree.specs.declared.order.Notice.TheVariants as notices
use Rattle.ikeless_tree.specs.Half.{in_name, out_name}
use Rattle.hist_controller.specs.Acts.{Way, Association, ControllerOrder, Read, PlacedCommand, ControllerAct, Opened, Cut, Answered, Heard, Ordered, Accepted, Refused}
use Rattle.hist_controller.specs.Past.{is_open, openings, orders, answered, rest, oldest, queue, is_first_answered, list_if, newest_list, key_of, keys, is_inbound_put, serials, keys_after, spare, new_ways, directions, is_end_of, is_over, PuttingIn, PuttingOut, RemovingIn, RemovingOut, is_kind, is_answer_to, is_out_ordered, has_answer, is_shown, is_spoiled, is_ended, inbound_put, left, last_if, newest_serial, is_start, is_renewal, has_entry, is_half_at, is_put_of, is_inbound_put_of, is_wanted}

-- a gateway as the controller sees it
pub record KeptGateway : Type 0 where
  pub up : Bool
  pub session : ℕ
  pub orders : ℕ
  pub answers : ℕ
  pub queue : List ControllerOrder
  pub read : Bool
  pub list : Option (List SpdEntry)

-- an association left
pub record KeptAssociation : Type 0 where
  pub association : Association
  pub in_done : Bool
  pub out_sent : Bool
  pub out_done : Bool
  pub out_gone : Bool
  pub ended : Bool

-- a direction: its tunnel ended, a cause stands, the serial put last or 0, and the associations left
pub record KeptWay : Type 0 where
  pub way : Way
  pub over : Bool
  pub wanted : Bool
  pub newest : ℕ
  pub associations : List KeptAssociation

-- the gateways by their numbers, the directions in the order of commands, all keys, those left, and the last serial
pub record ControllerState : Type 0 where
  pub gateway : ℕ → KeptGateway
  pub ways : List KeptWay
  pub keys : List (List ℕ)
  pub spare : List (List ℕ)
  pub serials : ℕ

-- what is to be kept of a gateway
abbrev pub gateway_of : List ControllerAct → ℕ → KeptGateway
gateway_of h g = record {
  up = is_open g h;
  session = openings g h;
  orders = orders g h;
  answers = answered g h;
  queue = queue g h;
  read =
      is_first_answered g h;
  list = newest_list g h;
}

-- what is to be kept of an association
abbrev pub association_of : List ControllerAct → Association → KeptAssociation
association_of h x = record {
  association = x;
  in_done = has_answer PuttingIn x.serial h;
  out_sent = is_out_ordered x.serial h;
  out_done =
      has_answer PuttingOut x.serial h;
  out_gone = has_answer RemovingOut x.serial h;
  ended = is_ended x h;
}

-- what is to be kept of a direction
abbrev pub way_of : List ControllerAct → Way → KeptWay
way_of h d = record {
  way = d;
  over = is_over d h;
  wanted = is_wanted d h;
  newest = newest_serial d h;
  associations =
      map (association_of h) (left d h);
}

-- what is to be kept of a past
abbrev pub state_of : List ControllerAct → ControllerState
state_of h = record { gateway = gateway_of h; ways = map (way_of h) (directions h); keys = keys h; spare = spare h; serials = serials h }

-- ## what an act does to a gateway's part

-- a session is opened: no order of it was given, and only the newest list is kept of what was
abbrev pub gateway_opened : KeptGateway → KeptGateway
gateway_opened x = record { up = true; session = x.session + 1; orders = 0; answers = 0; queue = []; read = false; list = x.list }

-- the session is cut, and the orders that wait are lost
abbrev pub gateway_cut : KeptGateway → KeptGateway
gateway_cut x = record x { up = false; queue = [] }

-- the oldest order that waits is answered, which has this number
abbrev pub gateway_answered : ℕ → KeptGateway → KeptGateway
gateway_answered n x = record x { answers = x.answers + 1; queue = rest x.queue; read = (n == 1) || x.read }

-- one order more waits
abbrev pub gateway_ordered : ControllerOrder → KeptGateway → KeptGateway
gateway_ordered o x = record x { orders = x.orders + 1; queue = x.queue ++ o ∷ [] }

-- after a command, at the gateway of this number
abbrev pub gateway_told : PlacedCommand → ℕ → KeptGateway → KeptGateway
gateway_told c g x = record x { list = list_if g c x.list }

-- ## to an association

-- an association whose inbound put was just ordered
abbrev pub fresh : Association → KeptAssociation
fresh x = record { association = x; in_done = false; out_sent = false; out_done = false; out_gone = false; ended = false }

-- after a command: the end of its tunnel ends it
abbrev pub kept_told : PlacedCommand → KeptAssociation → KeptAssociation
kept_told c k = record k { ended = is_end_of k.association.way.tunnel.reqid c || k.ended }

-- after a cut at which these orders waited: a put of it that is lost ends it
abbrev pub kept_cut : List ControllerOrder → KeptAssociation → KeptAssociation
kept_cut q k = record k {
  ended = list_any (λ o. is_kind PuttingIn k.association.serial o || is_kind PuttingOut k.association.serial o) q || k.ended;
}

-- after this answer to this order at gateway g
abbrev pub kept_answered : ℕ → Option ControllerOrder → Answer → KeptAssociation → KeptAssociation
kept_answered g o a k = record {
  association = k.association;
  in_done = is_answer_to PuttingIn k.association.serial o || k.in_done;
  out_sent = k.out_sent;
  out_done = is_answer_to PuttingOut k.association.serial o || k.out_done;
  out_gone = is_answer_to RemovingOut k.association.serial o || k.out_gone;
  ended = is_spoiled k.association g o a k.in_done k.out_sent || k.ended;
}

-- after an order: that of its outbound put is kept, and one of its inbound put begins it anew
abbrev pub kept_ordered : ControllerOrder → KeptAssociation → KeptAssociation
kept_ordered o k = record {
  association = k.association;
  in_done = not (is_kind PuttingIn k.association.serial o) && k.in_done;
  out_sent = not (is_kind PuttingIn k.association.serial o) && (is_kind PuttingOut k.association.serial o || k.out_sent);
  out_done = not (is_kind PuttingIn k.association.serial o) && k.out_done;
  out_gone = not (is_kind PuttingIn k.association.serial o) && k.out_gone;
  ended = not (is_kind PuttingIn k.association.serial o) && k.ended;
}

-- ## to a direction

-- after a command: the end or the rekey of its tunnel
abbrev pub way_told : PlacedCommand → KeptWay → KeptWay
way_told c w = record w {
  over = is_end_of w.way.tunnel.reqid c || w.over;
  wanted = is_renewal w.way c || w.wanted;
  associations = map (kept_told c) w.associations;
}

-- a direction that was just commanded
abbrev pub fresh_way : PlacedCommand → Way → KeptWay
fresh_way c d = record { way = d; over = false; wanted = is_start c; newest = 0; associations = [] }

-- after a cut at which these orders waited: a put of it that is lost is a cause
abbrev pub way_cut : List ControllerOrder → KeptWay → KeptWay
way_cut q w = record w { wanted = list_any (is_put_of w.way) q || w.wanted; associations = map (kept_cut q) w.associations }

-- a reading at gateway g doesn't show a half of an association that is not ended, whose own put was answered
abbrev pub is_unseen_of : Way → ℕ → List (List ℕ) → KeptAssociation → Bool
is_unseen_of d g names k =
    not k.ended
    && (((d.receiver == g) && k.in_done && not (is_shown names (in_name k.association.serial)))
    || ((d.sender == g) && k.out_done && not (is_shown names (out_name k.association.serial))))

-- an answer is a cause: it is to a reading, and a half of an association left isn't shown
abbrev pub is_cause_reading_of : KeptWay → ℕ → Option ControllerOrder → Answer → Bool
is_cause_reading_of w g (Some Read) a = list_any (is_unseen_of w.way g a.names) w.associations
is_cause_reading_of w g (_) a = false

-- after this answer to this order at gateway g
abbrev pub way_answered : ℕ → Option ControllerOrder → Answer → KeptWay → KeptWay
way_answered g o a w = record w {
  wanted = is_cause_reading_of w g o a || w.wanted;
  associations = filter (λ k. not (is_answer_to RemovingIn k.association.serial o)) (map (kept_answered g o a) w.associations);
}

-- the half is one of the association put last, which is not ended
abbrev pub is_newest_of : KeptWay → ℕ → List ℕ → Bool
is_newest_of w g name = is_half_at w.way g name w.newest && list_any (λ k. (k.association.serial == w.newest) && not k.ended) w.associations

-- the association is not ended, and its outbound put isn't answered
abbrev pub is_kept_in_progress : KeptAssociation → Bool
is_kept_in_progress k = not k.ended && not k.out_done

-- the notice is a cause, where this is the newest list of its gateway g
abbrev pub is_cause_notice_of : Option (List SpdEntry) → KeptWay → ℕ → Notice → Bool
is_cause_notice_of l w g (notices.Acquire p f) = (w.way.sender == g) && has_entry p w.way.tunnel.reqid l
    && not (list_any is_kept_in_progress w.associations)
is_cause_notice_of l w g (notices.Expire m b c) = is_newest_of w g m
is_cause_notice_of l w g (notices.SeqOverflow m) = is_newest_of w g m
is_cause_notice_of l w g (notices.BadSpi s) = false

-- after a notice from gateway g, where this is its newest list
abbrev pub way_heard : Option (List SpdEntry) → ℕ → Notice → KeptWay → KeptWay
way_heard l g t w = record w { wanted = is_cause_notice_of l w g t || w.wanted }

-- after an order: an inbound put of its own meets what was wanted, and begins an association
abbrev pub way_ordered : ControllerOrder → KeptWay → KeptWay
way_ordered o w = record w {
  wanted = not (is_inbound_put_of w.way o) && w.wanted;
  newest = last_if w.way o w.newest;
  associations = map (kept_ordered o) w.associations ++ map fresh (inbound_put w.way o);
}

-- the state after an act
abbrev pub did : ControllerState → ControllerAct → ControllerState
did s (Opened f n) = record s { gateway = λ g. if g == f then gateway_opened (s.gateway g) else s.gateway g }
did s (Cut f n) = record s {
  gateway = λ g. if g == f then gateway_cut (s.gateway g) else s.gateway g;
  ways = map (way_cut (s.gateway f).queue) s.ways;
}
did s (Answered f n i a) = record s {
  gateway = λ g. if g == f then gateway_answered i (s.gateway g) else s.gateway g;
  ways = map (way_answered f (oldest (s.gateway f).queue) a) s.ways;
}
did s (Heard f n t) = record s { ways = map (way_heard (s.gateway f).list f t) s.ways }
did s (Ordered f n i o) = record {
  gateway = λ g. if g == f then gateway_ordered o (s.gateway g) else s.gateway g;
  ways =
      map (way_ordered o) s.ways;
  keys = s.keys;
  spare = keys_after o s.spare;
  serials = if is_inbound_put o then s.serials + 1
      else s.serials;
}
did s (Accepted c) = record {
  gateway = λ g. gateway_told c g (s.gateway g);
  ways = map (way_told c) s.ways
      ++ map (fresh_way c) (new_ways (length s.ways) c);
  keys = s.keys ++ key_of c;
  spare = s.spare ++ key_of c;
  serials = s.serials;
}
did s (Refused w) = s

-- the state after several acts
abbrev pub did_all : ControllerState → List ControllerAct → ControllerState
did_all s [] = s
did_all s (a ∷ more) = did_all (did s a) more
