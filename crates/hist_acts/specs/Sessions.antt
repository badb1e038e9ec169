-- The sessions of a gateway with its controller, of this project: a request stream with answers in the order of the
-- requests, and notices beside it. Each word looks back over what happened; a past has its newest act first. In each
-- test the name in the act stands first and the name asked for second.
use Rattle.std.specs.Prelude.{ℕ, ◌+◌, ◌==◌, ◌&&◌, ◌||◌, not, nat_lt, Bool, false, List, [], ◌∷◌, ◌++◌, drop, take, Option, Some, None, slice_get, if◌then◌else◌}
use Rattle.std.specs.Str.{bytes_eq}
use Rattle.ikeless_tree.specs.declared.order.Order.{Order}
use Rattle.ikeless_tree.specs.declared.order.Answer.{Answer}
use Rattle.ikeless_tree.specs.declared.order.Notice.{Notice}
use Rattle.hist_acts.specs.declared.act.Act.{Act}
use Rattle.hist_acts.specs.declared.act.Act.TheVariants as acts

-- how many sessions of the gateway were opened; the last one has this number
abbrev pub openings : List ℕ → List Act → ℕ
openings g [] = 0
openings g (acts.Opened f s ∷ h) = if bytes_eq f g then openings g h + 1 else openings g h
openings g (_ ∷ h) = openings g h

-- the controller sees the session that was opened last as open
abbrev pub is_open : List ℕ → List Act → Bool
is_open g [] = false
is_open g (acts.Opened f s ∷ h) = bytes_eq f g || is_open g h
is_open g (acts.Cut f s ∷ h) = not (bytes_eq f g) && is_open g h
is_open g (_ ∷ h) = is_open g h

-- the session taken at the gateway, or 0: the last one opened, if the gateway has not restarted since
abbrev pub session_taken : List ℕ → List Act → ℕ
session_taken g [] = 0
session_taken g (acts.Opened f s ∷ h) = if bytes_eq f g then s else session_taken g h
session_taken g (acts.Boot f ∷ h) = if bytes_eq f g then 0 else session_taken g h
session_taken g (_ ∷ h) = session_taken g h

-- this session of this gateway
abbrev pub is_session : List ℕ → ℕ → List ℕ → ℕ → Bool
is_session f t g s = bytes_eq f g && (t == s)

-- the session was cut, as the controller sees it
abbrev pub was_cut : List ℕ → ℕ → List Act → Bool
was_cut g s [] = false
was_cut g s (acts.Cut f t ∷ h) = is_session f t g s || was_cut g s h
was_cut g s (_ ∷ h) = was_cut g s h

-- how many orders of the session were given, handled, answered
abbrev pub orders : List ℕ → ℕ → List Act → ℕ
orders g s [] = 0
orders g s (acts.Order f t k o ∷ h) = if is_session f t g s then orders g s h + 1 else orders g s h
orders g s (_ ∷ h) = orders g s h

-- how many requests of the session the gateway has answered; the last one has this number
abbrev pub handled : List ℕ → ℕ → List Act → ℕ
handled g s [] = 0
handled g s (acts.Handled f t k a ∷ h) = if is_session f t g s then handled g s h + 1 else handled g s h
handled g s (_ ∷ h) = handled g s h

-- how many answers of the session the controller has heard; the last one has this number
abbrev pub answered : List ℕ → ℕ → List Act → ℕ
answered g s [] = 0
answered g s (acts.Answered f t k a ∷ h) = if is_session f t g s then answered g s h + 1 else answered g s h
answered g s (_ ∷ h) = answered g s h

-- the order with this number in the session, and the answer with which it was handled
abbrev pub order_at : List ℕ → ℕ → ℕ → List Act → Option Order
order_at g s k [] = None
order_at g s k (acts.Order f t j o ∷ h) = if is_session f t g s && (j == k) then Some o else order_at g s k h
order_at g s k (_ ∷ h) = order_at g s k h

-- the answer with which the gateway handled the request with this number, whether it was heard or not
abbrev pub answer_at : List ℕ → ℕ → ℕ → List Act → Option Answer
answer_at g s k [] = None
answer_at g s k (acts.Handled f t j a ∷ h) = if is_session f t g s && (j == k) then Some a else answer_at g s k h
answer_at g s k (_ ∷ h) = answer_at g s k h

-- the request that the gateway handles next: of the session taken, the first that isn't handled
abbrev pub next_request : List ℕ → List Act → Option Order
next_request g h = if session_taken g h == 0 then None else order_at g (session_taken g h) (handled g (session_taken g h) h + 1) h

-- the answer that the controller hears next: of the open session, the first handled that it has not heard
abbrev pub next_answer : List ℕ → List Act → Option Answer
next_answer g h = if is_open g h then answer_at g (openings g h) (answered g (openings g h) h + 1) h else None

-- the orders given in the session, oldest first
abbrev pub orders_given : List ℕ → ℕ → List Act → List Order
orders_given g s [] = []
orders_given g s (acts.Order f t k o ∷ h) = if is_session f t g s then orders_given g s h ++ o ∷ [] else orders_given g s h
orders_given g s (_ ∷ h) = orders_given g s h

-- Of the orders given in a session the oldest are answered, so many as answers were heard. The others wait while the session
-- isn't cut, and are lost once it is.
abbrev pub orders_answered : List ℕ → ℕ → List Act → List Order
orders_answered g s h = take (answered g s h) (orders_given g s h)

-- the orders of the session that still may be answered, oldest first
abbrev pub orders_waiting : List ℕ → ℕ → List Act → List Order
orders_waiting g s h = if was_cut g s h then [] else drop (answered g s h) (orders_given g s h)

-- the orders of a session that was cut before their answers were heard; the gateway may have handled them
abbrev pub orders_lost : List ℕ → ℕ → List Act → List Order
orders_lost g s h = if was_cut g s h then drop (answered g s h) (orders_given g s h) else []

-- the first order of the open session, which reads the database of associations, is answered
abbrev pub is_read : List ℕ → List Act → Bool
is_read g h = is_open g h && nat_lt 0 (answered g (openings g h) h)

-- the notices given in the session, oldest first, and how many of them were heard
abbrev pub notices : List ℕ → ℕ → List Act → List Notice
notices g s [] = []
notices g s (acts.Notice f t n ∷ h) = if is_session f t g s then notices g s h ++ n ∷ [] else notices g s h
notices g s (_ ∷ h) = notices g s h

-- how many notices of the session the controller has heard
abbrev pub notices_heard : List ℕ → ℕ → List Act → ℕ
notices_heard g s [] = 0
notices_heard g s (acts.Heard f t n ∷ h) = if is_session f t g s then notices_heard g s h + 1 else notices_heard g s h
notices_heard g s (_ ∷ h) = notices_heard g s h

-- the notice that the controller hears next
abbrev pub next_notice : List ℕ → List Act → Option Notice
next_notice g h = if is_open g h then slice_get (notices g (openings g h) h) (notices_heard g (openings g h) h) else None
