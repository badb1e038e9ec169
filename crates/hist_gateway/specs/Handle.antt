-- What answers a request: the reply table of RESTCONF over the databases, and what it changes directly before it.
use Rattle.std.specs.Prelude.{ℕ, ◌+◌, List, [], ◌∷◌, ◌++◌, Some, Result, Ok, Err, if◌then◌else◌}
use Rattle.std.specs.Str.{bytes_eq}
use Rattle.ikeless_tree.specs.declared.order.Answer.{Answer}
use Rattle.ikeless_tree.specs.declared.error.Tag.{Tag}
use Rattle.ikeless_tree.specs.declared.ends.GoneWhy.TheVariants as gone
use Rattle.reply_table.specs.declared.ask.Ask.{Ask}
use Rattle.reply_table.specs.declared.ask.Change.{Change}
use Rattle.reply_table.specs.declared.ask.Change.TheVariants as changes
use Rattle.reply_table.specs.Reply.{Outcome, reply}
use Rattle.hist_acts.specs.declared.act.Act.{Act}
use Rattle.hist_acts.specs.declared.act.Act.TheVariants as acts
use Rattle.hist_gateway.specs.Rows.{tree_of}

-- a request that could not be read: the status and tag of its refusal
pub record Fault : Type 0 where
  pub status : ℕ
  pub tag : Tag

-- of a reply what a transcript has: status, tag and the names of the halves shown
abbrev pub answer_of : Outcome → Answer
answer_of r = record { status = r.status; tag = r.tag; names = r.names }

-- the answer to a request that could not be read
abbrev pub fault_answer : Fault → Answer
fault_answer f = record { status = f.status; tag = Some f.tag; names = [] }

-- what a reply changes, as an act: a list put in force, a half installed, or one removed
abbrev pub change_acts : List ℕ → Outcome → Change → List Act
change_acts g r changes.Nothing = []
change_acts g r changes.Spd = acts.Policy g r.tree.spd ∷ []
change_acts g r (changes.Put e) = acts.Put g e ∷ []
change_acts g r (changes.Gone name) = acts.Gone g name gone.Removed ∷ []

-- the acts of a reply to the request with this number in this session
abbrev pub reply_acts : List ℕ → ℕ → ℕ → Outcome → List Act
reply_acts g s k r = change_acts g r r.change ++ acts.Handled g s k (answer_of r) ∷ []

-- how many requests were answered in the session that the gateway has, or since its restart
abbrev pub requests : List ℕ → List Act → ℕ
requests g [] = 0
requests g (acts.Handled f s k a ∷ h) = if bytes_eq f g then requests g h + 1 else requests g h
requests g (acts.Opened f s ∷ h) = if bytes_eq f g then 0 else requests g h
requests g (acts.Boot f ∷ h) = if bytes_eq f g then 0 else requests g h
requests g (_ ∷ h) = requests g h

-- the acts at gateway g for the request with this number in this session
abbrev pub handle_acts : List ℕ → ℕ → ℕ → List Act → Result Ask Fault → List Act
handle_acts g s k h (Ok ask) = reply_acts g s k (reply (tree_of g h) ask)
handle_acts g s k h (Err fault) = acts.Handled g s k (fault_answer fault) ∷ []
