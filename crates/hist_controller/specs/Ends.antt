-- Plain readings: which act ended an association, and which was put last in a direction.
use Rattle.std.specs.Prelude.{◌≡◌, ℕ, ◌||◌, ◌==◌, Bool, true, false, List, ◌∷◌, ◌++◌}
use Rattle.std.specs.List.{list_any}
use Rattle.hist_controller.specs.Acts.{Way, Association, PutIn, ControllerAct, Cut, Answered, Ordered, Accepted}
use Rattle.hist_controller.specs.Past.{oldest, queue, is_end_of, PuttingIn, PuttingOut, is_kind, is_out_ordered, has_answer, is_spoiled}
use Rattle.hist_controller.specs.Causes.{NoneAnew}

-- after its past the act ends the association: the end of its tunnel, a cut that loses a put of it, or an answer that does
abbrev pub is_ended_by : Association → ControllerAct → List ControllerAct → Bool
is_ended_by x (Accepted c) h = is_end_of x.way.tunnel.reqid c
is_ended_by x (Cut g s) h = list_any (λ o. is_kind PuttingIn x.serial o || is_kind PuttingOut x.serial o) (queue g h)
is_ended_by x (Answered g s n a) h = is_spoiled x g (oldest (queue g h)) a (has_answer PuttingIn x.serial h) (is_out_ordered x.serial h)
is_ended_by x _ h = false

-- the act orders its inbound put
abbrev pub is_begun_by : Association → ControllerAct → Bool
is_begun_by x (Ordered g s n o) = is_kind PuttingIn x.serial o
is_begun_by x _ = false

-- such an act stands, and since then its inbound put wasn't ordered
pub record WasEndedBy (x : Association) (h : List ControllerAct) : Type 0 where
  pub recent : List ControllerAct
  pub act : ControllerAct
  pub old : List ControllerAct
  pub all : h ≡ recent ++ act ∷ old
  pub is : is_ended_by x act old ≡ true
  pub since : list_any (is_begun_by x) recent ≡ false

-- its inbound put was ordered in the direction, and since then neither that of another one nor the direction's command
pub record WasPutLast (d : Way) (x : Association) (h : List ControllerAct) : Type 0 where
  pub recent : List ControllerAct
  pub gateway : ℕ
  pub session : ℕ
  pub number : ℕ
  pub old : List ControllerAct
  pub all : h ≡ recent ++ Ordered gateway session number (PutIn x) ∷ old
  pub own : (d.id == x.way.id) ≡ true
  pub since : NoneAnew d recent (Ordered gateway session number (PutIn x) ∷ old)
