-- What is under way between a gateway and its controller, of this project: one session at a time, of which each end has
-- its own view, with whole messages on three lanes.
use Rattle.std.specs.Prelude.{ℕ, ◌+◌, ◌&&◌, Bool, true, false, List, [], ◌∷◌, ◌++◌, Option, slice_get, drop, if◌then◌else◌}
use Rattle.std.specs.List.{flat_map}
use Rattle.ikeless_tree.specs.declared.order.Lane.{Lane}
use Rattle.ikeless_tree.specs.declared.order.Lane.TheVariants as lanes

-- A session as both its ends see it. The gateway may have it still where the controller saw it end, and the other way round.
pub record UnderWay : Type 0 where
  -- how many sessions were opened; the last one has this number
  pub openings : ℕ
  -- the controller sees the last session as open
  pub is_open : Bool
  -- the gateway has the last session
  pub is_taken : Bool
  -- what the reading end of each lane has not taken yet, oldest first: requests, answers, notices
  pub down : List (List ℕ)
  pub up : List (List ℕ)
  pub note : List (List ℕ)

-- the whole messages on a lane that its reading end has not taken, oldest first
abbrev pub unread : Lane → UnderWay → List (List ℕ)
unread lanes.Down p = p.down
unread lanes.Up p = p.up
unread lanes.Note p = p.note

-- the same session, with these messages on a lane in place of its own
abbrev pub with_unread : Lane → List (List ℕ) → UnderWay → UnderWay
with_unread lanes.Down messages p = record p { down = messages }
with_unread lanes.Up messages p = record p { up = messages }
with_unread lanes.Note messages p = record p { note = messages }

-- before any session
abbrev pub no_session : UnderWay
no_session = record { openings = 0; is_open = false; is_taken = false; down = []; up = []; note = [] }

-- a new session, which the gateway takes at once, and with which all that is older is gone
abbrev pub after_open : UnderWay → UnderWay
after_open p = if p.is_open then p else record { openings = p.openings + 1; is_open = true; is_taken = true; down = []; up = []; note = [] }

-- the controller hears nothing more of a session that it sees end; the gateway goes on with its requests
abbrev pub after_cut : UnderWay → UnderWay
after_cut p = if p.is_open then record p { is_open = false; up = []; note = [] } else p

-- a gateway that restarts has no session; the controller goes on with its answers and notices
abbrev pub after_boot : UnderWay → UnderWay
after_boot p = record p { is_taken = false; down = [] }

-- a message is taken only while both ends have the session
abbrev pub after_push : Lane → List ℕ → UnderWay → UnderWay
after_push lane message p = if p.is_open && p.is_taken then with_unread lane (unread lane p ++ message ∷ []) p else p

-- the reading end takes the oldest message, if there is one
abbrev pub after_take : Lane → UnderWay → UnderWay
after_take lane p = with_unread lane (drop 1 (unread lane p)) p

-- the message that the reading end takes next
abbrev pub next_message : Lane → UnderWay → Option (List ℕ)
next_message lane p = slice_get (unread lane p) 0

-- the octets that the reading end has, one message after the other
abbrev pub unread_octets : Lane → UnderWay → List ℕ
unread_octets lane p = flat_map (λ message. message) (unread lane p)
