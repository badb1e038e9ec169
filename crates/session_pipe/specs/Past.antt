-- The pipe that a past stands for, of this project. Each message is a function of the act that it carries and of what
-- happened before that act; a past has its newest act first.
use Rattle.std.specs.Prelude.{ℕ, ◌==◌, Bool, false, not, List, [], ◌∷◌, ◌++◌, drop, if◌then◌else◌}
use Rattle.std.specs.Str.{bytes_eq}
use Rattle.ikeless_tree.specs.declared.order.Order.{Order}
use Rattle.ikeless_tree.specs.declared.order.Answer.{Answer}
use Rattle.ikeless_tree.specs.declared.order.Notice.{Notice}
use Rattle.ikeless_tree.specs.declared.order.Lane.TheVariants as lanes
use Rattle.hist_acts.specs.declared.act.Act.{Act}
use Rattle.hist_acts.specs.declared.act.Act.TheVariants as acts
use Rattle.hist_acts.specs.Sessions.{openings, is_open, session_taken, is_session, handled, answered, notices_heard}
use Rattle.session_pipe.specs.UnderWay.{UnderWay, after_open, after_cut, after_boot, after_push, after_take}

-- the messages of the orders of a session, of its answers and of its notices, oldest first
abbrev pub requests : (List Act → Order → List ℕ) → List ℕ → ℕ → List Act → List (List ℕ)
requests request g s [] = []
requests request g s (acts.Order f t k o ∷ h) = if is_session f t g s then requests request g s h ++ request h o
    ∷ [] else requests request g s h
requests request g s (_ ∷ h) = requests request g s h

-- the messages of the answers that the gateway gave in a session, oldest first, heard or not
abbrev pub responses : (List Act → Answer → List ℕ) → List ℕ → ℕ → List Act → List (List ℕ)
responses response g s [] = []
responses response g s (acts.Handled f t k a ∷ h) = if is_session f t g s then responses response g s h ++ response h a
    ∷ [] else responses response g s h
responses response g s (_ ∷ h) = responses response g s h

-- the messages of the notices that the gateway gave in a session, oldest first, heard or not
abbrev pub lines : (List Act → Notice → List ℕ) → List ℕ → ℕ → List Act → List (List ℕ)
lines line g s [] = []
lines line g s (acts.Notice f t n ∷ h) = if is_session f t g s then lines line g s h ++ line h n ∷ [] else lines line g s h
lines line g s (_ ∷ h) = lines line g s h

-- The gateway has the requests of the session taken there that it has not handled. The controller has the answers and
-- the notices of its open session that it has not heard.
abbrev pub pipe_of : (List Act → Order → List ℕ) → (List Act → Answer → List ℕ) → (List Act → Notice → List ℕ) → List ℕ → List Act
    → UnderWay
pipe_of request response line g h = record {
  openings = openings g h;
  is_open = is_open g h;
  is_taken = not (session_taken g h == 0);
  down = if session_taken g h == 0 then [] else drop (handled g (session_taken g h) h) (requests request g (session_taken g h) h);
  up = if is_open g h then drop (answered g (openings g h) h) (responses response g (openings g h) h) else [];
  note = if is_open g h then drop (notices_heard g (openings g h) h) (lines line g (openings g h) h) else [];
}

-- what the calls of an act at the gateway make of its pipe: a handled request is taken, and its answer pushed
abbrev pub after_act : (List Act → Order → List ℕ) → (List Act → Answer → List ℕ) → (List Act → Notice → List ℕ) → Act → List Act → UnderWay
    → UnderWay
after_act request response line (acts.Opened f s) h p = after_open p
after_act request response line (acts.Cut f s) h p = after_cut p
after_act request response line (acts.Boot f) h p = after_boot p
after_act request response line (acts.Order f s k o) h p = after_push lanes.Down (request h o) p
after_act request response line (acts.Handled f s k a) h p = after_push lanes.Up (response h a) (after_take lanes.Down p)
after_act request response line (acts.Answered f s k a) h p = after_take lanes.Up p
after_act request response line (acts.Notice f s n) h p = after_push lanes.Note (line h n) p
after_act request response line (acts.Heard f s n) h p = after_take lanes.Note p
after_act request response line a h p = p

-- whether an act of sessions is at the gateway
abbrev pub is_at : List ℕ → Act → Bool
is_at g (acts.Opened f s) = bytes_eq f g
is_at g (acts.Cut f s) = bytes_eq f g
is_at g (acts.Boot f) = bytes_eq f g
is_at g (acts.Order f s k o) = bytes_eq f g
is_at g (acts.Handled f s k a) = bytes_eq f g
is_at g (acts.Answered f s k a) = bytes_eq f g
is_at g (acts.Notice f s n) = bytes_eq f g
is_at g (acts.Heard f s n) = bytes_eq f g
is_at g _ = false
