-- Which acts answer a packet or a datagram.
use Rattle.std.specs.Prelude.{ℕ, ◌&&◌, not, Bool, true, false, List, [], ◌∷◌}
use Rattle.std.specs.Str.{bytes_eq}
use Rattle.std.specs.List.{list_any}
use Rattle.hist_acts.specs.declared.act.Act.{Act}
use Rattle.hist_acts.specs.declared.act.Act.TheVariants as acts
use Rattle.hist_gateway.specs.Block.{GatewayEvent, Clock}

-- a packet from inside leaves in clear or sealed, or is dropped
abbrev pub is_let_answer : Act → Bool
is_let_answer (acts.Clear f o) = true
is_let_answer (acts.Sent f x n o) = true
is_let_answer (acts.Drop f w) = true
is_let_answer _ = false

-- a datagram from outside is given opened or passes in clear, or is dropped
abbrev pub is_arrival_answer : Act → Bool
is_arrival_answer (acts.Gave f x n o) = true
is_arrival_answer (acts.Pass f o) = true
is_arrival_answer (acts.Drop f w) = true
is_arrival_answer _ = false

-- an act that answers a packet or a datagram, from either side
abbrev pub is_answer : Act → Bool
is_answer (acts.Clear f o) = true
is_answer (acts.Pass f o) = true
is_answer (acts.Sent f x n o) = true
is_answer (acts.Gave f x n o) = true
is_answer (acts.Drop f w) = true
is_answer _ = false

-- the acts begin with such an answer, and no other follows
abbrev pub is_answered_by : (Act → Bool) → List Act → Bool
is_answered_by fits [] = false
is_answered_by fits (a ∷ more) = fits a && not (list_any is_answer more)

-- the block of an event has its own act, then such an answer, and no other
abbrev pub has_one_answer : (Act → Bool) → List Act → Bool
has_one_answer fits [] = false
has_one_answer fits (own ∷ more) = not (is_answer own) && is_answered_by fits more

-- ---- whose acts they are

-- the act is one of another gateway than this, or of none
abbrev pub is_strange : List ℕ → Act → Bool
is_strange g (acts.Policy f list) = not (bytes_eq f g)
is_strange g (acts.Put f e) = not (bytes_eq f g)
is_strange g (acts.Gone f x w) = not (bytes_eq f g)
is_strange g (acts.Let f o) = not (bytes_eq f g)
is_strange g (acts.Sent f x n o) = not (bytes_eq f g)
is_strange g (acts.Clear f o) = not (bytes_eq f g)
is_strange g (acts.Drop f w) = not (bytes_eq f g)
is_strange g (acts.Arrived f o) = not (bytes_eq f g)
is_strange g (acts.Gave f x n o) = not (bytes_eq f g)
is_strange g (acts.Pass f o) = not (bytes_eq f g)
is_strange g (acts.Opened f s) = not (bytes_eq f g)
is_strange g (acts.Handled f s k a) = not (bytes_eq f g)
is_strange g (acts.Notice f s n) = not (bytes_eq f g)
is_strange g _ = true

-- one of the acts is another gateway's, or no gateway's
abbrev pub are_strange : List ℕ → List Act → Bool
are_strange g xs = list_any (is_strange g) xs

-- the event is a reading of the clock
abbrev pub is_clock_reading : GatewayEvent → Bool
is_clock_reading (Clock t) = true
is_clock_reading _ = false
