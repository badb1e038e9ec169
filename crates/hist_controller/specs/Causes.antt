-- Each inbound put of a direction has a cause of its own, and what it means to be owed an association and to be over.
use Rattle.std.specs.Prelude.{◌≡◌, Bool, true, false, List, [], ◌∷◌, ◌++◌, length, ◌⊎◌}
use Rattle.hist_controller.specs.Acts.{Way, End, ControllerAct, Ordered, Accepted}
use Rattle.hist_controller.specs.Past.{directions, is_made_by, is_cause, is_inbound_put_of}
use Rattle.hist_controller.specs.Clauses.{Has}

-- a cause of the direction stands among these acts, the newest first, with what was before them
abbrev pub CauseAmong : Way → List ControllerAct → List ControllerAct → Type 0
CauseAmong d [] old = ⊥
CauseAmong d (a ∷ recent) old = (is_cause d a (recent ++ old) ≡ true) ⊎ CauseAmong d recent old

-- an act with which a direction begins anew: its own command, or its inbound put
abbrev pub is_anew : Way → ControllerAct → List ControllerAct → Bool
is_anew d (Accepted c) h = is_made_by c (length (directions h)) d
is_anew d (Ordered g s n o) h = is_inbound_put_of d o
is_anew d (_) h = false

-- none of these acts, the newest first, with what was before them
abbrev pub NoneAnew : Way → List ControllerAct → List ControllerAct → Type 0
NoneAnew d [] old = Unit {0}
NoneAnew d (a ∷ recent) old = (is_anew d a (recent ++ old) ≡ false) × NoneAnew d recent old

-- a cause of the direction stands, and since then neither its command nor an inbound put of it
pub record CauseStands (d : Way) (h : List ControllerAct) : Type 0 where
  pub recent : List ControllerAct
  pub cause : ControllerAct
  pub old : List ControllerAct
  pub all : h ≡ recent ++ cause ∷ old
  pub is : is_cause d cause old ≡ true
  pub since : NoneAnew d recent (cause ∷ old)

-- the end of its tunnel was accepted after its command
pub record WasEnded (d : Way) (h : List ControllerAct) : Type 0 where
  pub recent : List ControllerAct
  pub old : List ControllerAct
  pub all : h ≡ recent ++ Accepted (End d.tunnel.reqid) ∷ old
  pub made : Has d (directions old)
