-- An answer that a response says has a status of its order.
use Rattle.std.proofs.Common.{◌≡◌, ℕ, true, Option, Some, Result, Ok, Err, refl, sym, subst}
use Rattle.std.specs.Prelude.{IfSome}
use Rattle.ikeless_tree.specs.declared.order.Answer.{Answer}
use Rattle.ikeless_tree.specs.declared.order.Order.{Order}
use Rattle.ikeless_tree.specs.declared.order.Order.TheVariants as orders
use Rattle.rc_http.specs.declared.message.HttpMessage.{HttpMessage}
use Rattle.rc_answer.specs.declared.answer.BadAnswer.{BadAnswer}
use Rattle.rc_answer.specs.Answers as answers
use Rattle.rc_answer.specs.Answers.{answer_of}
use Rattle.session_messages.specs.Whole.{if_good}
use Rattle.ctl_law.specs.Told.{may_answer}

-- what the law of answers says
abbrev pub HaveStatuses : Type 0
HaveStatuses = (o : Order) (m : HttpMessage) (a : Answer) → answer_of o m ≡ Ok a → (a.status ≡ m.status) ×
    (answers.is_status_of o a.status ≡ true)

same-status : (o : Order) (status : ℕ) → answers.is_status_of o status ≡ true → may_answer (Some o) status ≡ true
same-status orders.Read status is = is
same-status (orders.Policy list) status is = is
same-status (orders.Put e) status is = is
same-status (orders.Remove name) status is = is

status-by : HaveStatuses → (o : Order) (m : HttpMessage) (r : Result Answer BadAnswer) → answer_of o m ≡ r
    → IfSome (if_good r) (λ a. may_answer (Some o) a.status ≡ true)
status-by law o m (Ok a) is = same-status o a.status (law o m a is).1
status-by law o m (Err e) is = tt

pub status-good : HaveStatuses → (o : Order) (m : HttpMessage) (x : Option Answer) → x ≡ if_good (answer_of o m)
    → IfSome x (λ a. may_answer (Some o) a.status ≡ true)
status-good law o m x is =
    let P : Option Answer → Type 0 = λ z. IfSome z (λ a. may_answer (Some o) a.status ≡ true) in
    subst P (sym is) (status-by law o m (answer_of o m) refl)
