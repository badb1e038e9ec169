-- What octets are that are one message and nothing more.
use Rattle.std.specs.Prelude.{◌≡◌, ℕ, ◌+◌, ◌==◌, List, length, take, if◌then◌else◌, Option, Some, None, Result, Ok, Err}
use Rattle.ikeless_tree.specs.declared.order.Answer.{Answer}
use Rattle.ikeless_tree.specs.declared.order.Notice.{Notice}
use Rattle.ikeless_tree.specs.declared.order.Order.{Order}
use Rattle.reply_table.specs.declared.ask.Ask.{Ask}
use Rattle.rc_http.specs.declared.message.HttpFault.{HttpFault}
use Rattle.rc_http.specs.declared.message.HttpFault.TheVariants as faults
use Rattle.rc_http.specs.declared.message.HttpMessage.{HttpMessage}
use Rattle.rc_http.specs.Looks.{Looked, Waits, Fails, Gives}
use Rattle.rc_request.specs.declared.error.RcError.{RcError}
use Rattle.rc_request.specs.Requests.{no_message, request_of}
use Rattle.rc_answer.specs.declared.answer.BadAnswer.{BadAnswer}
use Rattle.rc_answer.specs.Answers.{answer_of}
use Rattle.notice_lines.specs.Reading.{Ends, HasNotice, begins}

-- the message that all of so many octets are; a message that isn't whole, or has octets behind it, is a bad one
abbrev pub whole_in : ℕ → Looked → Result HttpMessage HttpFault
whole_in size Waits = Err faults.Head
whole_in size (Fails fault) = Err fault
whole_in size (Gives m taken) = if taken == size then Ok m else Err faults.Head

-- what a request asks
abbrev pub ask_in : Result HttpMessage HttpFault → Result Ask RcError
ask_in (Ok m) = request_of m
ask_in (Err fault) = Err (no_message fault)

-- the answer, where the response is one that the order can have
abbrev pub if_good : Result Answer BadAnswer → Option Answer
if_good (Ok a) = Some a
if_good (Err e) = None

-- the answer to an order that a response says, if any
abbrev pub answer_in : Order → Result HttpMessage HttpFault → Option Answer
answer_in o (Ok m) = if_good (answer_of o m)
answer_in o (Err fault) = None

-- the octets are one line, which is heard as this notice
pub record IsLineOf (n : Notice) (octets : List ℕ) : Type 0 where
  pub size : ℕ
  pub ends : begins octets ≡ Ends size
  pub whole : size + 1 ≡ length octets
  pub has : HasNotice (take size octets) n

-- the notice of a line, where the octets are one
abbrev pub IsHeardAs : List ℕ → Option Notice → Type 0
IsHeardAs octets (Some n) = IsLineOf n octets
IsHeardAs octets None = (n : Notice) → IsLineOf n octets → ⊥
