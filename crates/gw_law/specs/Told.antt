-- How what a gateway does is told as acts, and what it keeps of its past.
use Rattle.std.specs.Prelude.{ℕ, ◌+◌, List, [], ◌∷◌, ◌++◌, Option, Some, None}
use Rattle.ikeless_tree.specs.declared.ends.GoneWhy.TheVariants as gone
use Rattle.reply_table.specs.Reply as table
use Rattle.hist_acts.specs.declared.act.Act.{Act}
use Rattle.hist_acts.specs.declared.act.Act.TheVariants as acts
use Rattle.hist_gateway.specs.Look.{given_by}
use Rattle.hist_gateway.specs.Handle.{Fault, reply_acts, fault_answer}
use Rattle.hist_gateway.specs.State.{GatewayState}
use Rattle.gw_tables.specs.Kept.{Kept}
use Rattle.gw_packets.specs.declared.done.PacketAnswer.{PacketAnswer}
use Rattle.gw_packets.specs.declared.done.PacketAnswer.TheVariants as answers
use Rattle.gw_packets.specs.declared.done.Done.{Done}

-- What names the acts of a gateway: its name, how many sessions were opened, the one that it has or 0, and how many requests were
-- answered in it.
pub record Naming : Type 0 where
  pub name : List ℕ
  pub openings : ℕ
  pub session : ℕ
  pub requests : ℕ

-- ---- what is kept, and what names acts

-- what the code keeps, of all that the law keeps of a past
abbrev pub kept_of : GatewayState → Kept
kept_of s = record { spd = s.spd; halves = s.halves; acquires = s.acquires; bad_spis = s.bad_spis; clock = s.clock }

-- what names the acts of the gateway g, of all that the law keeps of its past
abbrev pub naming_of : List ℕ → GatewayState → Naming
naming_of g s = record { name = g; openings = s.openings; session = s.session; requests = s.requests }

-- a gateway of this name that was never started
abbrev pub begun : List ℕ → Naming
begun g = record { name = g; openings = 0; session = 0; requests = 0 }

-- after a request, a session that is taken, and a restart
abbrev pub with_request : Naming → Naming
with_request n = record n { requests = n.requests + 1 }

-- the next session is taken, and no request of it was answered
abbrev pub with_session : Naming → Naming
with_session n = record { name = n.name; openings = n.openings + 1; session = n.openings + 1; requests = 0 }

-- the gateway has no session; the number of sessions goes on
abbrev pub restarted : Naming → Naming
restarted n = record { name = n.name; openings = n.openings; session = 0; requests = 0 }

-- ---- acts

-- the answer to a packet or a datagram, with the gateway's name
abbrev pub answer_told : List ℕ → PacketAnswer → Act
answer_told g (answers.Clear o) = acts.Clear g o
answer_told g (answers.Sent x n o) = acts.Sent g x n o
answer_told g (answers.Drop w) = acts.Drop g w
answer_told g (answers.Gave x n o) = acts.Gave g x n o
answer_told g (answers.Pass o) = acts.Pass g o

-- a reading of the clock has no answer
abbrev pub if_answered : List ℕ → Option PacketAnswer → List Act
if_answered g None = []
if_answered g (Some a) = answer_told g a ∷ []

-- the halves of these names are gone at a hard limit
abbrev pub ends_told : List ℕ → List (List ℕ) → List Act
ends_told g [] = []
ends_told g (x ∷ xs) = acts.Gone g x gone.Hard ∷ ends_told g xs

-- the answer, the halves that are gone, and the notices
abbrev pub acts_told : Naming → Done → List Act
acts_told n d = if_answered n.name d.answer ++ (ends_told n.name d.gone ++ given_by n.name n.session d.notices)

-- the change of a reply, and the request that is handled with it
abbrev pub reply_told : Naming → table.Outcome → List Act
reply_told n r = reply_acts n.name n.session (n.requests + 1) r

-- the request that could not be read is answered with its refusal
abbrev pub fault_told : Naming → Fault → List Act
fault_told n fault = acts.Handled n.name n.session (n.requests + 1) (fault_answer fault) ∷ []
