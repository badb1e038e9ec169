-- What the controller hears at the place of a gateway.
use Rattle.std.proofs.Common.{◌≡◌, ℕ, List, Option, Some, None, Result, Ok, Err, IfOk, ◌+◌, ◌<◌, ◌^◌, length, get_or, set, arith, refl, sym, ap, subst, ◌∙◌}
use Rattle.std.specs.List.{All}
use Rattle.std.proofs.Math.ListN.{length-set}
use Rattle.std.proofs.lemmas.List.{get_or-set_same}
use Rattle.std.proofs.lemmas.List.Elements.{All-set}
use Rattle.std.proofs.lemmas.Option.{get_or_from_slice_get}
use Rattle.ikl_base.specs.declared.fault.NoMemory.{NoMemory}
use Rattle.ikeless_tree.specs.declared.order.Answer.{Answer}
use Rattle.ikeless_tree.specs.declared.order.Lane.TheVariants as lanes
use Rattle.ikeless_tree.specs.declared.order.Notice.{Notice}
use Rattle.ikeless_tree.specs.declared.order.Order.{Order}
use Rattle.rc_http.specs.Written.{IsWritableResponse, response_text}
use Rattle.rc_answer.specs.Answers.{answer_of}
use Rattle.rc_resource.specs.declared.reply.Reply.{Reply}
use Rattle.rc_resource.specs.Messages.{reply_message}
use Rattle.notice_lines.specs.Reading.{IsHeard}
use Rattle.session_pipe.specs.UnderWay.{next_message}
use Rattle.ctl_core.specs.Core.{expected}
use Rattle.world_steps.specs.Nodes.{Node, heard_answer, heard_notice}
use Rattle.world_steps.specs.Worlds.{World, node_at, number_of, with_node}
use Rattle.ctl_core.specs.declared.acts.CtlEvent.TheVariants as told
use Rattle.world_steps.specs.Conditions.{Answers, Gives, Notices, at}
use Rattle.world_run.specs.Sessions.{answer_heard, changed_at, notice_heard}
use Rattle.world_run.specs.Taken.{AreFew, IsPlace}
use Rattle.world_run.proofs.Done.{kept_with}
use Rattle.world_run.proofs.Led.{IsChanged, changed-by, gives-on, number-is, placed-is, same-world}
use Rattle.world_run.proofs.Places.{IsAt, placed-some}

-- where no answer is expected
pub no-answer : (w : World) (g : List ℕ) (i : ℕ) (n : Node) → IsAt g i w n → expected w.controller i ≡ None → (x : Option Answer)
    → at (λ k. Answers k w x) (node_at g w)
    → (None ≡ x) × (w ≡ answer_heard x g w)
no-answer w g i n here e None a = (refl, refl)
no-answer w g i n here e (Some y) a =
    let b : Answers n w (Some y) = subst (at (λ k. Answers k w (Some y))) here.node a in
    let f : expected w.controller i ≡ Some b.0.order = ap (expected w.controller) (sym (number-is g i w n here)) ∙ b.0.expected in
    absurd (cc)

changed-world : (f : Node → Node) → ((n : Node) → (f n).name ≡ n.name) → (w v : World) (g : List ℕ) (i : ℕ) (n m : Node) → IsAt g i w n
    → m ≡ f n
    → v ≡ kept_with w (set w.nodes i m) w.sent → v ≡ changed_at f (node_at g w) w
changed-world f keeps w v g i n m here e x =
    let done : v ≡ with_node (f n) w = x ∙ ap (λ z. kept_with w (set w.nodes i z) w.sent) e ∙ placed-is g i w n (f n) here (keeps n) in
    subst (λ (z : Option Node). v ≡ changed_at f z w) (sym here.node) done

-- the next answer, to this order
pub some-answer : (w v : World) (g : List ℕ) (i : ℕ) (n m : Node) (o : Order) (r : Result (Option Answer) NoMemory) → IsAt g i w n
    → expected w.controller i ≡ Some o
    → (next_message lanes.Up n.pipe ≡ None → IfOk r (λ y. (y ≡ None) × (m ≡ n)))
    → ((reply : Reply) (a : Answer) → next_message lanes.Up n.pipe ≡ Some (response_text (reply_message reply))
    → IsWritableResponse (reply_message reply)
    → answer_of o (reply_message reply) ≡ Ok a → IfOk r (λ y. (y ≡ Some a) × (m ≡ heard_answer n)))
    → v ≡ kept_with w (set w.nodes i m) w.sent → (x : Option Answer) → at (λ k. Answers k w x) (node_at g w)
    → IfOk r (λ y. (y ≡ x) × (v ≡ answer_heard x g w))
some-answer w v g i n m o (Err e) here f none some x y a = tt
some-answer w v g i n m o (Ok got) here f none some x None a =
    let b : Answers n w None = subst (at (λ k. Answers k w None)) here.node a in
    let c = none b in
    (c.0, same-world w v g i n m here c.1 x)
some-answer w v g i n m o (Ok got) here f none some x (Some y) a =
    let b : Answers n w (Some y) = subst (at (λ k. Answers k w (Some y))) here.node a in
    let p : expected w.controller i ≡ Some b.0.order = ap (expected w.controller) (sym (number-is g i w n here)) ∙ b.0.expected in
    let same : b.0.order ≡ o = cc in
    let c = some b.0.reply y b.0.next b.0.writable (subst (λ (z : Order). answer_of z (reply_message b.0.reply) ≡ Ok y) same b.0.says) in
    (c.0, changed-world heard_answer (λ k. refl) w v g i n m here c.1 x)

-- the next notice
pub some-notice : (w v : World) (g : List ℕ) (i : ℕ) (n m : Node) (r : Result (Option Notice) NoMemory) → IsAt g i w n
    → (next_message lanes.Note n.pipe ≡ None → IfOk r (λ y. (y ≡ None) × (m ≡ n)))
    → ((t : Notice) (line : List ℕ) → next_message lanes.Note n.pipe ≡ Some line → IsHeard t line
    → IfOk r (λ y. (y ≡ Some t) × (m ≡ heard_notice n)))
    → v ≡ kept_with w (set w.nodes i m) w.sent → (x : Option Notice) → at (λ k. Notices k w x) (node_at g w)
    → IfOk r (λ y. (y ≡ x) × (v ≡ notice_heard x g w))
some-notice w v g i n m (Err e) here none some x y a = tt
some-notice w v g i n m (Ok got) here none some x None a =
    let b : Notices n w None = subst (at (λ k. Notices k w None)) here.node a in
    let c = none b in
    (c.0, same-world w v g i n m here c.1 x)
some-notice w v g i n m (Ok got) here none some x (Some y) a =
    let b : Notices n w (Some y) = subst (at (λ k. Notices k w (Some y))) here.node a in
    let c = some y _ b.0.next b.0.heard in
    (c.0, changed-world heard_notice (λ k. refl) w v g i n m here c.1 x)

-- ---- what the controller heard of the gateway at a place

pub record IsAnswerHeard (w v : World) (g : List ℕ) (i : ℕ) (a : Answer) : Type 0 where
  pub gateway : Node
  pub here : IsAt g i w gateway
  pub heard : Answers gateway w (Some a)
  pub world : v ≡ with_node (heard_answer gateway) w

pub answer-heard : (w v : World) (g : List ℕ) (i : ℕ) (y : Option Answer) (a : Answer) → IsPlace g i w
    → ((x : Option Answer) → at (λ k. Answers k w x) (node_at g w) → (y ≡ x) × (v ≡ answer_heard x g w)) → y ≡ Some a
    → ((x : Option Answer) × at (λ k. Answers k w x) (node_at g w)) → IsAnswerHeard w v g i a
answer-heard w v g i y a p f e (None, b) = let h = f None b in absurd (cc)
answer-heard w v g i y a p f e (Some z, b) =
    let s = placed-some g i w p in
    let h = f (Some z) b in
    let same : z ≡ a = cc in
    let c : Answers s.gateway w (Some z) = subst (at (λ k. Answers k w (Some z))) s.here.node b in
    record {
      gateway = s.gateway;
      here = s.here;
      heard = subst (λ (t : Answer). Answers s.gateway w (Some t)) same c;
      world = h.1 ∙ ap (λ (t : Option Node). changed_at heard_answer t w) s.here.node;
    }

pub answer-changed : (w v : World) (g : List ℕ) (i : ℕ) (a : Answer) → IsAnswerHeard w v g i a → IsChanged w v
answer-changed w v g i a h =
    let put : v ≡ kept_with w (set w.nodes i (heard_answer h.gateway)) w.sent = h.world
    ∙ sym (placed-is g i w h.gateway (heard_answer h.gateway) h.here refl) in
    subst (λ (z : World). IsChanged w z) (sym put) (changed-by w g i h.gateway (heard_answer h.gateway) h.here refl refl)

pub answer-gives : (w v : World) (g : List ℕ) (i : ℕ) (a : Answer) → IsAnswerHeard w v g i a → Gives (told.Answered i a) v
answer-gives w v g i a h =
    gives-on (told.Answered i a) w v (answer-changed w v g i a h)
    (subst (λ (k : ℕ). Gives (told.Answered k a) w) (number-is g i w h.gateway h.here) h.heard.1)

pub answer-few : (w v : World) (g : List ℕ) (i : ℕ) (a : Answer) → IsAnswerHeard w v g i a → AreFew w → AreFew v
answer-few w v g i a h few =
    let put : v.nodes ≡ set w.nodes i (heard_answer h.gateway) = ap (λ (z : World). z.nodes) h.world
    ∙ h.here.put (heard_answer h.gateway) refl in
    let same : get_or w.nodes i h.gateway ≡ h.gateway = get_or_from_slice_get w.nodes i h.gateway h.gateway h.here.get in
    let one : h.gateway.orders < 2 ^ 62 = subst (λ (z : Node). z.orders < 2 ^ 62) same (few i h.gateway h.here.within) in
    subst (λ (z : List Node). All (λ n. n.orders < 2 ^ 62) z) (sym put)
    (All-set (λ (n : Node). n.orders < 2 ^ 62) w.nodes i (heard_answer h.gateway) one few)

pub answer-within : (w v : World) (g : List ℕ) (i : ℕ) (a : Answer) → IsAnswerHeard w v g i a → i < length v.nodes
answer-within w v g i a h =
    let put : v.nodes ≡ set w.nodes i (heard_answer h.gateway) = ap (λ (z : World). z.nodes) h.world
    ∙ h.here.put (heard_answer h.gateway) refl in
    let same : length v.nodes ≡ length w.nodes = ap length put ∙ length-set w.nodes i (heard_answer h.gateway) in
    let within = h.here.within in
    omega (arith, same, within)

pub answer-here : (w v : World) (g : List ℕ) (i : ℕ) (a : Answer) (x : Node) → (h : IsAnswerHeard w v g i a) → x ≡ get_or v.nodes i x
    → x ≡ heard_answer h.gateway
answer-here w v g i a x h e =
    let put : v.nodes ≡ set w.nodes i (heard_answer h.gateway) = ap (λ (z : World). z.nodes) h.world
    ∙ h.here.put (heard_answer h.gateway) refl in
    e ∙ ap (λ (z : List Node). get_or z i x) put ∙ get_or-set_same w.nodes i (heard_answer h.gateway) x h.here.within

-- ---- the same of a notice

pub record IsNoticeHeard (w v : World) (g : List ℕ) (i : ℕ) (a : Notice) : Type 0 where
  pub gateway : Node
  pub here : IsAt g i w gateway
  pub heard : Notices gateway w (Some a)
  pub world : v ≡ with_node (heard_notice gateway) w

pub notice-heard : (w v : World) (g : List ℕ) (i : ℕ) (y : Option Notice) (a : Notice) → IsPlace g i w
    → ((x : Option Notice) → at (λ k. Notices k w x) (node_at g w) → (y ≡ x) × (v ≡ notice_heard x g w)) → y ≡ Some a
    → ((x : Option Notice) × at (λ k. Notices k w x) (node_at g w)) → IsNoticeHeard w v g i a
notice-heard w v g i y a p f e (None, b) = let h = f None b in absurd (cc)
notice-heard w v g i y a p f e (Some z, b) =
    let s = placed-some g i w p in
    let h = f (Some z) b in
    let same : z ≡ a = cc in
    let c : Notices s.gateway w (Some z) = subst (at (λ k. Notices k w (Some z))) s.here.node b in
    record {
      gateway = s.gateway;
      here = s.here;
      heard = subst (λ (t : Notice). Notices s.gateway w (Some t)) same c;
      world = h.1 ∙ ap (λ (t : Option Node). changed_at heard_notice t w) s.here.node;
    }

pub notice-changed : (w v : World) (g : List ℕ) (i : ℕ) (a : Notice) → IsNoticeHeard w v g i a → IsChanged w v
notice-changed w v g i a h =
    let put : v ≡ kept_with w (set w.nodes i (heard_notice h.gateway)) w.sent = h.world
    ∙ sym (placed-is g i w h.gateway (heard_notice h.gateway) h.here refl) in
    subst (λ (z : World). IsChanged w z) (sym put) (changed-by w g i h.gateway (heard_notice h.gateway) h.here refl refl)

pub notice-gives : (w v : World) (g : List ℕ) (i : ℕ) (a : Notice) → IsNoticeHeard w v g i a → Gives (told.Noticed i a) v
notice-gives w v g i a h =
    gives-on (told.Noticed i a) w v (notice-changed w v g i a h)
    (subst (λ (k : ℕ). Gives (told.Noticed k a) w) (number-is g i w h.gateway h.here) h.heard.1)

pub notice-few : (w v : World) (g : List ℕ) (i : ℕ) (a : Notice) → IsNoticeHeard w v g i a → AreFew w → AreFew v
notice-few w v g i a h few =
    let put : v.nodes ≡ set w.nodes i (heard_notice h.gateway) = ap (λ (z : World). z.nodes) h.world
    ∙ h.here.put (heard_notice h.gateway) refl in
    let same : get_or w.nodes i h.gateway ≡ h.gateway = get_or_from_slice_get w.nodes i h.gateway h.gateway h.here.get in
    let one : h.gateway.orders < 2 ^ 62 = subst (λ (z : Node). z.orders < 2 ^ 62) same (few i h.gateway h.here.within) in
    subst (λ (z : List Node). All (λ n. n.orders < 2 ^ 62) z) (sym put)
    (All-set (λ (n : Node). n.orders < 2 ^ 62) w.nodes i (heard_notice h.gateway) one few)

pub notice-within : (w v : World) (g : List ℕ) (i : ℕ) (a : Notice) → IsNoticeHeard w v g i a → i < length v.nodes
notice-within w v g i a h =
    let put : v.nodes ≡ set w.nodes i (heard_notice h.gateway) = ap (λ (z : World). z.nodes) h.world
    ∙ h.here.put (heard_notice h.gateway) refl in
    let same : length v.nodes ≡ length w.nodes = ap length put ∙ length-set w.nodes i (heard_notice h.gateway) in
    let within = h.here.within in
    omega (arith, same, within)

pub notice-here : (w v : World) (g : List ℕ) (i : ℕ) (a : Notice) (x : Node) → (h : IsNoticeHeard w v g i a) → x ≡ get_or v.nodes i x
    → x ≡ heard_notice h.gateway
notice-here w v g i a x h e =
    let put : v.nodes ≡ set w.nodes i (heard_notice h.gateway) = ap (λ (z : World). z.nodes) h.world
    ∙ h.here.put (heard_notice h.gateway) refl in
    e ∙ ap (λ (z : List Node). get_or z i x) put ∙ get_or-set_same w.nodes i (heard_notice h.gateway) x h.here.within
