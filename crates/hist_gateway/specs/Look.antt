-- What the lifetimes of halves end and tell (RFC 4301 section 4.4.2.1): halves that are gone come first, then the notices, each in
-- the order of installation.
use Rattle.std.specs.Prelude.{ℕ, List, [], ◌∷◌, ◌++◌, if◌then◌else◌}
use Rattle.ikeless_tree.specs.declared.sad.SadEntry.{SadEntry}
use Rattle.ikeless_tree.specs.declared.order.Notice.{Notice}
use Rattle.ikeless_tree.specs.declared.ends.GoneWhy.TheVariants as gone
use Rattle.life_count.specs.declared.event.LifeEvent.{LifeEvent}
use Rattle.life_count.specs.Lifetime.{is_reached, event_by, expiry}
use Rattle.hist_acts.specs.declared.act.Act.{Act}
use Rattle.hist_acts.specs.declared.act.Act.TheVariants as acts
use Rattle.hist_acts.specs.Sessions as sessions
use Rattle.hist_gateway.specs.Uses.{counts}
use Rattle.hist_gateway.specs.Stands.{was_soft_given}

-- what the counts of a half tell
abbrev pub event_of : List ℕ → List Act → SadEntry → LifeEvent
event_of g h e = event_by e.hard e.soft (was_soft_given g e.name h) (counts g e.name h)

-- notices in this session, in this order
abbrev pub given_by : List ℕ → ℕ → List Notice → List Act
given_by g s [] = []
given_by g s (n ∷ ns) = acts.Notice g s n ∷ given_by g s ns

-- the notice in the session taken, or 0
abbrev pub tells : List ℕ → List Act → Notice → List Act
tells g h n = acts.Notice g (sessions.session_taken g h) n ∷ []

-- of these halves those that are gone, and the notices of them all
abbrev pub goings : List ℕ → List Act → List SadEntry → List Act
goings g h [] = []
goings g h (e ∷ es) = if is_reached e.hard (counts g e.name h) then acts.Gone g e.name gone.Hard ∷ goings g h es else goings g h es

-- the notices of these halves: the hard and the soft expiries at this look
abbrev pub expiries : List ℕ → List Act → List SadEntry → List Act
expiries g h [] = []
expiries g h (e ∷ es) = given_by g (sessions.session_taken g h) (expiry e.name (counts g e.name h) (event_of g h e)) ++ expiries g h es

-- a look at these halves
abbrev pub look : List ℕ → List Act → List SadEntry → List Act
look g h es = goings g h es ++ expiries g h es
