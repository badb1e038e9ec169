-- Pasts in which the acts of sessions stand where they may, of this project. A past has its newest act first.
use Rattle.std.specs.Prelude.{◌≡◌, ◌+◌, true, false, List, [], ◌∷◌, Some}
use Rattle.ikeless_tree.specs.declared.order.Order.{Order}
use Rattle.hist_acts.specs.declared.act.Act.{Act}
use Rattle.hist_acts.specs.declared.act.Act.TheVariants as acts
use Rattle.hist_acts.specs.Sessions.{openings, is_open, session_taken, orders, handled, answered, next_request, next_answer, next_notice}

-- A session is opened where none is open, and cut where it is open. Its orders are numbered from 1 and given while it is
-- open. The gateway handles the next request of the session that it has, and gives its notices in that session. The
-- controller hears the next answer and the next notice of its open session.
abbrev pub MayStand : Act → List Act → Type 0
MayStand (acts.Opened g s) h = (is_open g h ≡ false) × (s ≡ openings g h + 1)
MayStand (acts.Cut g s) h = (is_open g h ≡ true) × (s ≡ openings g h)
MayStand (acts.Order g s k o) h = (is_open g h ≡ true) × (s ≡ openings g h) × (k ≡ orders g s h + 1)
MayStand (acts.Handled g s k a) h = (s ≡ session_taken g h) × (k ≡ handled g s h + 1) × ((o : Order) × (next_request g h ≡ Some o))
MayStand (acts.Answered g s k a) h = (s ≡ openings g h) × (k ≡ answered g s h + 1) × (next_answer g h ≡ Some a)
MayStand (acts.Notice g s n) h = s ≡ session_taken g h
MayStand (acts.Heard g s n) h = (s ≡ openings g h) × (next_notice g h ≡ Some n)
MayStand _ h = Unit {0}

-- each act of sessions stands where it may, after those before it
abbrev pub KeepsSessions : List Act → Type 0
KeepsSessions [] = Unit {0}
KeepsSessions (a ∷ h) = MayStand a h × KeepsSessions h
