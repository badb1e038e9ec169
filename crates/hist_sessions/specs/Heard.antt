-- What was answered, and what was heard, in a session. A past has its newest act first.
use Rattle.std.specs.Prelude.{◌≡◌, ℕ, List, [], ◌∷◌, ◌++◌, if◌then◌else◌}
use Rattle.ikeless_tree.specs.declared.order.Answer.{Answer}
use Rattle.ikeless_tree.specs.declared.order.Notice.{Notice}
use Rattle.hist_acts.specs.declared.act.Act.{Act}
use Rattle.hist_acts.specs.declared.act.Act.TheVariants as acts
use Rattle.hist_acts.specs.Sessions.{is_session}

-- the answers with which the gateway handled requests of the session, oldest first
abbrev pub answers_given : List ℕ → ℕ → List Act → List Answer
answers_given g s [] = []
answers_given g s (acts.Handled f t k a ∷ h) = if is_session f t g s then answers_given g s h ++ a ∷ [] else answers_given g s h
answers_given g s (_ ∷ h) = answers_given g s h

-- the answers that the controller heard, oldest first
abbrev pub answers_heard : List ℕ → ℕ → List Act → List Answer
answers_heard g s [] = []
answers_heard g s (acts.Answered f t k a ∷ h) = if is_session f t g s then answers_heard g s h ++ a ∷ [] else answers_heard g s h
answers_heard g s (_ ∷ h) = answers_heard g s h

-- the notices that the controller heard, oldest first
abbrev pub told : List ℕ → ℕ → List Act → List Notice
told g s [] = []
told g s (acts.Heard f t n ∷ h) = if is_session f t g s then told g s h ++ n ∷ [] else told g s h
told g s (_ ∷ h) = told g s h

-- the act stands in what happened, and these are the acts before it
abbrev pub Follows : List Act → Act → List Act → Type 0
Follows h a older = (newer : List Act) × (h ≡ newer ++ a ∷ older)
