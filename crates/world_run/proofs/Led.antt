-- What comes to the controller, where a gateway was changed first.
use Rattle.std.proofs.Common.{◌≡◌, ℕ, ◌+◌, ◌^◌, ◌<◌, not, Bool, true, false, List, [], ◌∷◌, ◌++◌, length, get_or, set, Option, Some, None, refl, sym, ap, subst, ◌∙◌, arith}
use Rattle.std.specs.List.{All}
use Rattle.std.proofs.lemmas.Option.{get_or_from_slice_get}
use Rattle.ikeless_tree.specs.declared.order.Answer.{Answer}
use Rattle.ikeless_tree.specs.declared.order.Notice.{Notice}
use Rattle.hist_acts.specs.declared.act.Act.{Act}
use Rattle.hist_acts.specs.declared.act.Act.TheVariants as acts
use Rattle.ctl_core.specs.declared.acts.CtlEvent.{CtlEvent}
use Rattle.ctl_core.specs.declared.acts.CtlEvent.TheVariants as told
use Rattle.ctl_core.specs.Step.{stepped}
use Rattle.world_steps.specs.Nodes.{Node, cut, heard_answer, heard_notice, opened}
use Rattle.world_steps.specs.Worlds.{World, node_at, number_of, placed, with_node}
use Rattle.world_steps.specs.Steps.{Done, answer, behind, controlled, cut_at, did, note_at, notice, open_at, up_at}
use Rattle.world_steps.specs.Conditions.{AreNamed, Gives, IsGiven}
use Rattle.world_run.specs.declared.go.Go.{Go}
use Rattle.world_run.specs.declared.go.Go.TheVariants as gos
use Rattle.world_run.specs.Sessions.{answer_heard, changed_at, notice_heard}
use Rattle.world_run.specs.Taken.{AreFew, IsDone}
use Rattle.world_run.proofs.Done.{done-behind, if-false, if-true, kept_with, none-done}
use Rattle.world_run.proofs.Places.{IsAt}
use Rattle.world_run.proofs.Shapes.{AreAlike, all-given-alike, alike-back, alike-set, config_of, name_of, named-alike}

-- a world with a gateway changed: the conditions of the controller's event stay
pub record IsChanged (w v : World) : Type 0 where
  pub alike : AreAlike w.nodes v.nodes
  pub back : AreAlike v.nodes w.nodes
  pub controller : v.controller ≡ w.controller

pub gives-on : (e : CtlEvent) (w v : World) → IsChanged w v → Gives e w → Gives e v
gives-on e w v c g =
    subst (λ k. All (IsGiven v.nodes) (stepped k e).acts) (sym c.controller)
    (all-given-alike w.nodes v.nodes (stepped w.controller e).acts c.alike g)

pub named-on : (w v : World) → IsChanged w v → AreNamed w → AreNamed v
named-on w v c n = named-alike v w c.back n

-- the gateway at a place becomes this one
pub placed-is : (g : List ℕ) (i : ℕ) (w : World) (n m : Node) → IsAt g i w n → m.name ≡ n.name
    → kept_with w (set w.nodes i m) w.sent ≡ with_node m w
placed-is g i w n m at e = ap (λ z. kept_with w z w.sent) (sym (at.put m e))

-- its number
pub number-is : (g : List ℕ) (i : ℕ) (w : World) (n : Node) → IsAt g i w n → number_of n.name w ≡ i
number-is g i w n at = ap (λ z. number_of z w) at.name ∙ at.number

pub open-done : (w v1 v : World) (g : List ℕ) (i : ℕ) (n : Node) (before mid after : List Act) (go : Go) → IsAt g i w n
    → n.pipe.is_open ≡ false
    → v1 ≡ with_node (opened n) w → mid ≡ before ++ acts.Opened g (n.pipe.openings + 1) ∷ []
    → IsDone (controlled (told.Opened i) v1) mid after v go
    → IsDone (open_at w (node_at g w)) before after v go
open-done w v1 v g i n before mid after go at closed x a d =
    let e : IsDone (controlled (told.Opened (number_of n.name w)) (with_node (opened n) w)) mid after v go =
    subst (λ (z : World). IsDone (controlled (told.Opened (number_of n.name w)) z) mid after v go) x
    (subst (λ (z : ℕ). IsDone (controlled (told.Opened z) v1) mid after v go) (sym (number-is g i w n at)) d)
    in
    let b : IsDone (open_at w (Some n)) before after v go =
    if-false n.pipe.is_open (did [] w)
    (behind (acts.Opened n.name (n.pipe.openings + 1) ∷ []) (controlled (told.Opened (number_of n.name w)) (with_node (opened n) w)))
    before after v go closed
    (done-behind (controlled (told.Opened (number_of n.name w)) (with_node (opened n) w))
    (acts.Opened n.name (n.pipe.openings + 1) ∷ [])
    before mid after v go (a ∙ ap (λ z. before ++ acts.Opened z (n.pipe.openings + 1) ∷ []) (sym at.name)) e)
    in
    subst (λ (z : Option Node). IsDone (open_at w z) before after v go) (sym at.node) b

pub cut-done : (w v1 v : World) (g : List ℕ) (i : ℕ) (n : Node) (before mid after : List Act) (go : Go) → IsAt g i w n
    → n.pipe.is_open ≡ true
    → v1 ≡ with_node (cut n) w → mid ≡ before ++ acts.Cut g n.pipe.openings ∷ [] → IsDone (controlled (told.Cut i) v1) mid after v go
    → IsDone (cut_at w (node_at g w)) before after v go
cut-done w v1 v g i n before mid after go at seen x a d =
    let e : IsDone (controlled (told.Cut (number_of n.name w)) (with_node (cut n) w)) mid after v go =
    subst (λ (z : World). IsDone (controlled (told.Cut (number_of n.name w)) z) mid after v go) x
    (subst (λ (z : ℕ). IsDone (controlled (told.Cut z) v1) mid after v go) (sym (number-is g i w n at)) d)
    in
    let b : IsDone (cut_at w (Some n)) before after v go =
    if-true n.pipe.is_open
    (behind (acts.Cut n.name n.pipe.openings ∷ []) (controlled (told.Cut (number_of n.name w)) (with_node (cut n) w))) (did [] w)
    before after v go seen
    (done-behind (controlled (told.Cut (number_of n.name w)) (with_node (cut n) w)) (acts.Cut n.name n.pipe.openings ∷ [])
    before mid after v go (a ∙ ap (λ z. before ++ acts.Cut z n.pipe.openings ∷ []) (sym at.name)) e)
    in
    subst (λ (z : Option Node). IsDone (cut_at w z) before after v go) (sym at.node) b

pub up-done : (w v1 v : World) (g : List ℕ) (i : ℕ) (n : Node) (a : Answer) (before mid after : List Act) (go : Go) → IsAt g i w n
    → v1 ≡ with_node (heard_answer n) w → mid ≡ before ++ acts.Answered g n.pipe.openings (n.answered + 1) a ∷ []
    → IsDone (controlled (told.Answered i a) v1) mid after v go → IsDone (up_at (Some a) w (node_at g w)) before after v go
up-done w v1 v g i n a before mid after go at x m d =
    let e : IsDone (controlled (told.Answered (number_of n.name w) a) (with_node (heard_answer n) w)) mid after v go =
    subst (λ (z : World). IsDone (controlled (told.Answered (number_of n.name w) a) z) mid after v go) x
    (subst (λ (z : ℕ). IsDone (controlled (told.Answered z a) v1) mid after v go) (sym (number-is g i w n at)) d)
    in
    let b : IsDone (up_at (Some a) w (Some n)) before after v go =
    done-behind (controlled (told.Answered (number_of n.name w) a) (with_node (heard_answer n) w))
    (acts.Answered n.name n.pipe.openings (n.answered + 1) a ∷ [])
    before mid after v go (m ∙ ap (λ z. before ++ acts.Answered z n.pipe.openings (n.answered + 1) a ∷ []) (sym at.name)) e
    in
    subst (λ (z : Option Node). IsDone (up_at (Some a) w z) before after v go) (sym at.node) b

pub note-done : (w v1 v : World) (g : List ℕ) (i : ℕ) (n : Node) (t : Notice) (before mid after : List Act) (go : Go) → IsAt g i w n
    → v1 ≡ with_node (heard_notice n) w → mid ≡ before ++ acts.Heard g n.pipe.openings t ∷ []
    → IsDone (controlled (told.Noticed i t) v1) mid after v go → IsDone (note_at (Some t) w (node_at g w)) before after v go
note-done w v1 v g i n t before mid after go at x m d =
    let e : IsDone (controlled (told.Noticed (number_of n.name w) t) (with_node (heard_notice n) w)) mid after v go =
    subst (λ (z : World). IsDone (controlled (told.Noticed (number_of n.name w) t) z) mid after v go) x
    (subst (λ (z : ℕ). IsDone (controlled (told.Noticed z t) v1) mid after v go) (sym (number-is g i w n at)) d)
    in
    let b : IsDone (note_at (Some t) w (Some n)) before after v go =
    done-behind (controlled (told.Noticed (number_of n.name w) t) (with_node (heard_notice n) w)) (acts.Heard n.name n.pipe.openings t ∷ [])
    before mid after v go (m ∙ ap (λ z. before ++ acts.Heard z n.pipe.openings t ∷ []) (sym at.name)) e
    in
    subst (λ (z : Option Node). IsDone (note_at (Some t) w z) before after v go) (sym at.node) b

-- ---- a gateway at its place

pub same-world : (w v : World) (g : List ℕ) (i : ℕ) (n m : Node) → IsAt g i w n → m ≡ n → v ≡ kept_with w (set w.nodes i m) w.sent → v ≡ w
same-world w v g i n m here e x = x ∙ ap (λ z. kept_with w (set w.nodes i z) w.sent) e ∙ ap (λ z. kept_with w z w.sent) here.stay

pub changed-by : (w : World) (g : List ℕ) (i : ℕ) (n m : Node) → IsAt g i w n → m.name ≡ n.name → m.config ≡ n.config
    → IsChanged w (kept_with w (set w.nodes i m) w.sent)
changed-by w g i n m here e f =
    let same : get_or w.nodes i n ≡ n = get_or_from_slice_get w.nodes i n n here.get in
    let alike : AreAlike (set w.nodes i m) w.nodes = alike-set w.nodes i m n (e ∙ ap name_of (sym same)) (f ∙ ap config_of (sym same)) in
    record { alike = alike-back (set w.nodes i m) w.nodes alike; back = alike; controller = refl }

pub open-already : (w v : World) (g : List ℕ) (i : ℕ) (n : Node) (before after : List Act) (go : Go) → IsAt g i w n → n.pipe.is_open ≡ true
    → go ≡ gos.On → after ≡ before → v ≡ w → IsDone (open_at w (node_at g w)) before after v go
open-already w v g i n before after go here seen e a x =
    let b : IsDone (open_at w (Some n)) before after v go =
    if-true n.pipe.is_open (did [] w)
    (behind (acts.Opened n.name (n.pipe.openings + 1) ∷ []) (controlled (told.Opened (number_of n.name w)) (with_node (opened n) w)))
    before after v go seen (none-done w v before after go e a x)
    in
    subst (λ (z : Option Node). IsDone (open_at w z) before after v go) (sym here.node) b

pub cut-already : (w v : World) (g : List ℕ) (i : ℕ) (n : Node) (before after : List Act) (go : Go) → IsAt g i w n → n.pipe.is_open ≡ false
    → go ≡ gos.On → after ≡ before → v ≡ w → IsDone (cut_at w (node_at g w)) before after v go
cut-already w v g i n before after go here seen e a x =
    let b : IsDone (cut_at w (Some n)) before after v go =
    if-false n.pipe.is_open
    (behind (acts.Cut n.name n.pipe.openings ∷ []) (controlled (told.Cut (number_of n.name w)) (with_node (cut n) w))) (did [] w)
    before after v go seen (none-done w v before after go e a x)
    in
    subst (λ (z : Option Node). IsDone (cut_at w z) before after v go) (sym here.node) b
