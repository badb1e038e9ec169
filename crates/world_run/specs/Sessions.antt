-- A session of a gateway that is opened or cut.
use Rattle.std.specs.Prelude.{◌≡◌, ℕ, ◌+◌, not, Bool, true, false, List, ◌++◌, [], ◌∷◌, Option, None, Some}
use Rattle.hist_acts.specs.declared.act.Act.{Act}
use Rattle.hist_acts.specs.declared.act.Act.TheVariants as acts
use Rattle.ikeless_tree.specs.declared.order.Answer.{Answer}
use Rattle.ikeless_tree.specs.declared.order.Notice.{Notice}
use Rattle.world_steps.specs.Nodes.{Node, cut, heard_answer, heard_notice, opened}
use Rattle.world_steps.specs.Worlds.{World, node_at, with_node}

-- it is opened where none is open
pub record IsOpenedIn (g : List ℕ) (before after : Node) (acts_before acts_after : List Act) (given : Bool) : Type 0 where
  pub did : given ≡ not before.pipe.is_open
  pub node : before.pipe.is_open ≡ false → after ≡ opened before
  pub acts : before.pipe.is_open ≡ false → acts_after ≡ acts_before ++ acts.Opened g (before.pipe.openings + 1) ∷ []
  pub same : before.pipe.is_open ≡ true → after ≡ before
  pub none : before.pipe.is_open ≡ true → acts_after ≡ acts_before

-- it is cut where one is open
pub record IsCutIn (g : List ℕ) (before after : Node) (acts_before acts_after : List Act) (given : Bool) : Type 0 where
  pub did : given ≡ before.pipe.is_open
  pub node : before.pipe.is_open ≡ true → after ≡ cut before
  pub acts : before.pipe.is_open ≡ true → acts_after ≡ acts_before ++ acts.Cut g before.pipe.openings ∷ []
  pub same : before.pipe.is_open ≡ false → after ≡ before
  pub none : before.pipe.is_open ≡ false → acts_after ≡ acts_before

-- ---- what the controller hears

-- the world with this gateway changed, or the same where there is none
abbrev pub changed_at : (Node → Node) → Option Node → World → World
changed_at f None w = w
changed_at f (Some n) w = with_node (f n) w

-- the gateway's next answer is heard by the controller, if there was one, before what the controller does then
abbrev pub answer_heard : Option Answer → List ℕ → World → World
answer_heard None g w = w
answer_heard (Some a) g w = changed_at heard_answer (node_at g w) w

-- the gateway's next notice is heard by the controller, if there was one, before what the controller does then
abbrev pub notice_heard : Option Notice → List ℕ → World → World
notice_heard None g w = w
notice_heard (Some t) g w = changed_at heard_notice (node_at g w) w
