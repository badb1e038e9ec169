use Rattle.std.proofs.Common.{◌≡◌, ◌+◌, ◌<◌, ◌++◌, [], ◌∷◌, length, Option, Some, None, IfOk, get_or, refl, sym, ap, subst, ◌∙◌, arith}
use Rattle.ikeless_tree.specs.declared.order.Answer.{Answer}
use Rattle.hist_acts.specs.declared.act.Act.TheVariants as acts
use Rattle.ctl_core.specs.declared.acts.CtlEvent.TheVariants as told
use Rattle.world_steps.specs.Nodes.{Node, heard_answer}
use Rattle.world_steps.specs.Worlds.{World, node_at}
use Rattle.world_steps.specs.Steps.{controlled, up_at}
use Rattle.world_steps.specs.Conditions.{Answers, at}
use Rattle.world_run.specs.declared.go.Go.TheVariants as gos
use Rattle.world_run.specs.Sessions.{answer_heard}
use Rattle.world_run.specs.Taken.{IsDone}
use Rattle.world_run.proofs.Counts.{few-room}
use Rattle.world_run.proofs.Done.{none-done, ok-map}
use Rattle.world_run.proofs.Heard.{IsAnswerHeard, answer-changed, answer-few, answer-gives, answer-heard, answer-here, answer-within}
use Rattle.world_run.proofs.Led.{named-on, up-done}
use Rattle.world_run.proofs.parts.Parts.up_at.Goals as goal

pub index-requires : goal.index-requires
index-requires c =
    let w : World = c.args.self.now in
    let v : World = c.next_answer.new.self in
    let h : IsAnswerHeard w v c.args.g c.args.i c.in-Some.answer =
    answer-heard w v c.args.g c.args.i c.in_ok-next_answer.field-0 c.in-Some.answer c.requires.place c.in_ok-next_answer.ensures
    c.in-Some.is c.requires.answers
    in
    let within : c.args.i < length v.nodes = answer-within w v c.args.g c.args.i c.in-Some.answer h in
    let here : c.args.i < length c.self.inside.nodes.items = subst (λ (z : World). c.args.i < length z.nodes) (sym c.self.view_is) within in
    omega (arith, c.self.inside.nodes.ok.0, here)

pub control-requires-clause-gives : goal.control-requires-clause-gives
control-requires-clause-gives c =
    let w : World = c.args.self.now in
    let v : World = c.next_answer.new.self in
    let h : IsAnswerHeard w v c.args.g c.args.i c.in-Some.answer =
    answer-heard w v c.args.g c.args.i c.in_ok-next_answer.field-0 c.in-Some.answer c.requires.place c.in_ok-next_answer.ensures
    c.in-Some.is c.requires.answers
    in
    answer-gives w v c.args.g c.args.i c.in-Some.answer h

pub control-requires-clause-named : goal.control-requires-clause-named
control-requires-clause-named c =
    let w : World = c.args.self.now in
    let v : World = c.next_answer.new.self in
    let h : IsAnswerHeard w v c.args.g c.args.i c.in-Some.answer =
    answer-heard w v c.args.g c.args.i c.in_ok-next_answer.field-0 c.in-Some.answer c.requires.place c.in_ok-next_answer.ensures
    c.in-Some.is c.requires.answers
    in
    named-on w v (answer-changed w v c.args.g c.args.i c.in-Some.answer h) c.requires.named

pub control-requires-clause-few : goal.control-requires-clause-few
control-requires-clause-few c =
    let w : World = c.args.self.now in
    let v : World = c.next_answer.new.self in
    let h : IsAnswerHeard w v c.args.g c.args.i c.in-Some.answer =
    answer-heard w v c.args.g c.args.i c.in_ok-next_answer.field-0 c.in-Some.answer c.requires.place c.in_ok-next_answer.ensures
    c.in-Some.is c.requires.answers
    in
    answer-few w v c.args.g c.args.i c.in-Some.answer h (few-room w c.requires.room)

pub returns-in-None : goal.returns-in-None
returns-in-None c = λ x a. by-heard x a (c.in_ok-next_answer.ensures x a) where
  by-heard : (x : Option Answer) → at (λ n. Answers n c.args.self.now x) (node_at c.args.g c.args.self.now)
      → (c.in_ok-next_answer.field-0 ≡ x) × (c.next_answer.new.self ≡ answer_heard x c.args.g c.args.self.now)
      → IsDone (up_at x c.args.self.now (node_at c.args.g c.args.self.now)) c.args.acts.now c.args.acts.now c.next_answer.new.self gos.On
  by-heard None a h = none-done c.args.self.now c.next_answer.new.self c.args.acts.now c.args.acts.now gos.On refl refl h.1
  by-heard (Some y) a h = let e = c.in-None.is in absurd (cc)

pub returns-in_ok-tell_answer-in-Some : goal.returns-in_ok-tell_answer-in-Some
returns-in_ok-tell_answer-in-Some c = λ x a.
    let w : World = c.args.self.now in
    let v : World = c.next_answer.new.self in
    let h : IsAnswerHeard w v c.args.g c.args.i c.in-Some.answer =
    answer-heard w v c.args.g c.args.i c.in_ok-next_answer.field-0 c.in-Some.answer c.requires.place c.in_ok-next_answer.ensures
    c.in-Some.is c.requires.answers
    in
    let same : x ≡ Some c.in-Some.answer = sym ((c.in_ok-next_answer.ensures x a).0) ∙ c.in-Some.is in
    let node : c.index.result.now ≡ heard_answer h.gateway =
    answer-here w v c.args.g c.args.i c.in-Some.answer c.index.result.now h
    (c.index.ensures ∙ ap (λ (z : World). get_or z.nodes c.args.i c.index.result.now) c.self.view_is)
    in
    let told-of : c.tell_answer.new.acts ≡ c.args.acts.now ++ acts.Answered c.args.g h.gateway.pipe.openings
    (h.gateway.answered + 1) c.in-Some.answer ∷ [] =
    c.in_ok-tell_answer-in-Some.ensures
    ∙ ap (λ (x : Node). c.args.acts.now ++ acts.Answered c.args.g x.pipe.openings x.answered c.in-Some.answer ∷ []) node
    in
    subst (λ (z : Option Answer). IfOk c.control.result
    (λ go. IsDone (up_at z w (node_at c.args.g w)) c.args.acts.now c.control.new.acts c.control.new.self go)) (sym same)
    (ok-map (λ go. IsDone
    (controlled (told.Answered c.args.i c.in-Some.answer) v) c.tell_answer.new.acts c.control.new.acts c.control.new.self go)
    (λ go. IsDone (up_at (Some c.in-Some.answer) w (node_at c.args.g w)) c.args.acts.now c.control.new.acts c.control.new.self go)
    c.control.result c.control.ensures
    (λ go d. up-done w v c.control.new.self c.args.g c.args.i h.gateway c.in-Some.answer c.args.acts.now c.tell_answer.new.acts
    c.control.new.acts go h.here h.world told-of d))
