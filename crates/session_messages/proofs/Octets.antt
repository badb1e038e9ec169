-- What octets are read as that are one message and nothing more.
use Rattle.std.proofs.Common.{◌≡◌, ◌==◌, ◌+◌, ◌++◌, ℕ, Bool, true, false, List, [], length, Option, Some, Result, Ok, Err, IfOk, if◌then◌else◌, refl, sym, ap, subst, ◌∙◌, arith, append-nil}
use Rattle.std.proofs.lemmas.Bool.{ne_eqb}
use Rattle.std.proofs.lemmas.Bool.Decides.{nat_tests}
use Rattle.ikl_base.specs.Answers.{Gives as Answers}
use Rattle.ikl_base.specs.declared.address.Addr.{Addr}
use Rattle.ikl_base.specs.declared.fault.NoMemory.{NoMemory}
use Rattle.ikl_base.specs.declared.fault.OrMemory.{OrMemory}
use Rattle.ikl_base.specs.declared.fault.OrMemory.TheVariants as failures
use Rattle.ikeless_tree.specs.declared.order.Answer.{Answer}
use Rattle.ikeless_tree.specs.declared.order.Order.{Order}
use Rattle.reply_table.specs.declared.ask.Ask.{Ask}
use Rattle.reply_table.specs.Order.{ask_of}
use Rattle.rc_http.specs.declared.feeder.Fed.TheVariants.{NoneYet, Whole}
use Rattle.rc_http.specs.declared.message.HttpFault.{HttpFault}
use Rattle.rc_http.specs.declared.message.HttpFault.TheVariants as faults
use Rattle.rc_http.specs.declared.message.HttpMessage.{HttpMessage}
use Rattle.rc_http.specs.declared.message.Kind.{Kind}
use Rattle.rc_http.specs.declared.message.Kind.TheVariants.{Request, Response}
use Rattle.rc_http.specs.Feeding.{fresh, Feeding, FeedGives, IsSince}
use Rattle.rc_http.specs.Looks.{Fails, Gives, Looked, Looks, Waits}
use Rattle.rc_http.specs.Written.{request_again, request_text, response_again, response_text, IsWritableRequest, IsWritableResponse}
use Rattle.rc_http.proofs.LookLemmas.{looks_unique}
use Rattle.rc_request.specs.declared.error.RcError.{RcError}
use Rattle.rc_request.specs.Requests.{request_of}
use Rattle.rc_answer.specs.Answers.{answer_of}
use Rattle.rc_resource.specs.declared.reply.Reply.{Reply}
use Rattle.rc_resource.specs.Messages.{order_message, reply_message}
use Rattle.world_steps.specs.Conditions.{IsSent}
use Rattle.session_messages.specs.Whole.{answer_in, ask_in, if_good, whole_in}

-- ---- a new reader

waits_first : (kind : Kind) → Looks kind [] Waits
unfolding Looks
waits_first kind = refl

-- nothing was fed to it
pub since_none : (f : Feeding) → f ≡ fresh f.kind → IsSince f []
since_none f e = let P : Feeding → Type 0 = λ g. IsSince g [] in subst P (sym e) (refl, waits_first f.kind)

-- ---- what it gives of all octets

abbrev pub Reads : Kind → List ℕ → Result HttpMessage (OrMemory HttpFault) → Type 0
Reads kind octets r = (looked : Looked) → Looks kind octets looked → Answers r (whole_in (length octets) looked)

pub fails_whole : (kind : Kind) (octets : List ℕ) (e : OrMemory HttpFault) (after : Feeding) → FeedGives kind [] octets after (Err e)
    → Reads kind octets (Err e)
fails_whole kind octets (failures.Refused fault) after gives looked looks = ap (whole_in (length octets))
    (looks_unique kind octets looked (Fails fault) looks gives.0)
fails_whole kind octets failures.NoMemory after gives looked looks = tt

pub waits_whole : (kind : Kind) (octets : List ℕ) (after : Feeding) → FeedGives kind [] octets after (Ok NoneYet)
    → Reads kind octets (Err (failures.Refused faults.Head))
waits_whole kind octets after gives looked looks = ap (whole_in (length octets)) (looks_unique kind octets looked Waits looks gives.0)

counted : (kind : Kind) (octets : List ℕ) (m : HttpMessage) (taken : ℕ) (after : Feeding)
    → FeedGives kind [] octets after (Ok (Whole m taken)) → Looks kind octets (Gives m taken)
counted kind octets m taken after gives =
    let same : 0 + taken ≡ taken = omega arith in
    let P : ℕ → Type 0 = λ n. Looks kind octets (Gives m n) in subst P same gives.1

by_test : (m : HttpMessage) (taken size : ℕ) (b : Bool) → (taken == size) ≡ b
    → whole_in size (Gives m taken) ≡ (if b then Ok m else Err faults.Head)
by_test m taken size b is = rw is refl

pub gives_whole : (kind : Kind) (octets : List ℕ) (m : HttpMessage) (taken : ℕ) (after : Feeding)
    → FeedGives kind [] octets after (Ok (Whole m taken)) → taken ≡ length octets
    → Reads kind octets (Ok m)
gives_whole kind octets m taken after gives all looked looks =
    let found = looks_unique kind octets looked (Gives m taken) looks (counted kind octets m taken after gives) in
    let is : (taken == length octets) ≡ true = grind (arith, nat_tests, all) in
    ap (whole_in (length octets)) found ∙ by_test m taken (length octets) true is

pub leaves_whole : (kind : Kind) (octets : List ℕ) (m : HttpMessage) (taken : ℕ) (after : Feeding)
    → FeedGives kind [] octets after (Ok (Whole m taken)) → (taken ≡ length octets → ⊥)
    → Reads kind octets (Err (failures.Refused faults.Head))
leaves_whole kind octets m taken after gives other looked looks =
    let found = looks_unique kind octets looked (Gives m taken) looks (counted kind octets m taken after gives) in
    let is : (taken == length octets) ≡ false = ne_eqb taken (length octets) other in
    ap (whole_in (length octets)) found ∙ by_test m taken (length octets) false is

-- ---- requests

abbrev Asked : Type 0
Asked = Result (Result Ask RcError) NoMemory

abbrev pub IsAsked : List ℕ → Asked → Type 0
IsAsked octets result = (looked : Looked) → Looks Request octets looked → IfOk result (λ r. r ≡ ask_in (whole_in (length octets) looked))

same_size : (n : ℕ) → (n == n) ≡ true
same_size n = grind (arith, nat_tests)

whole_is : (m : HttpMessage) (n : ℕ) → whole_in n (Gives m n) ≡ Ok m
whole_is m n = by_test m n n true (same_size n)

-- what the law of requests says
abbrev pub RequestsLook : Type 0
RequestsLook = (m : HttpMessage) (rest : List ℕ) → IsWritableRequest m → Looks Request (request_text m ++ rest) (Gives (request_again m)
    (length (request_text m)))

abbrev pub RequestsAskTheSame : Type 0
RequestsAskTheSame = (m : HttpMessage) → request_of (request_again m) ≡ request_of m

pub order_whole : RequestsLook → RequestsAskTheSame → (octets : List ℕ) (result : Asked) → IsAsked octets result
    → (host : Addr) (o : Order) → octets ≡ request_text (order_message host o)
    → IsSent host o → request_of (order_message host o) ≡ Ok (ask_of o) → IfOk result (λ r. r ≡ Ok (ask_of o))
order_whole look same octets result asked host o is sent asks =
    let m : HttpMessage = order_message host o in
    let text : List ℕ = request_text (order_message host o) in
    let P : List ℕ → Type 0 = λ l. Looks Request l (Gives (request_again m) (length text)) in
    let looks : Looks Request octets (Gives (request_again m) (length text)) = subst P (append-nil text ∙ sym is)
    (look m [] sent.writable) in
    let found = asked (Gives (request_again m) (length text)) looks in
    let whole : whole_in (length octets) (Gives (request_again m) (length text)) ≡ Ok (request_again m) =
    ap (λ (l : List ℕ). whole_in (length l) (Gives (request_again m) (length text))) is ∙ whole_is (request_again m) (length text) in
    let all : ask_in (whole_in (length octets) (Gives (request_again m) (length text))) ≡ Ok (ask_of o) = ap ask_in whole ∙ same m ∙ asks in
    let Q : Result Ask RcError → Type 0 = λ w. IfOk result (λ r. r ≡ w) in
    subst Q all found

-- ---- responses

abbrev Heard : Type 0
Heard = Result (Option Answer) NoMemory

abbrev pub IsAnswered : Order → List ℕ → Heard → Type 0
IsAnswered o octets result = (looked : Looked) → Looks Response octets looked → IfOk result (λ x. x ≡ answer_in o (whole_in
    (length octets) looked))

abbrev pub ResponsesLook : Type 0
ResponsesLook = (m : HttpMessage) (rest : List ℕ) → IsWritableResponse m → Looks Response (response_text m ++ rest) (Gives
    (response_again m) (length (response_text m)))

abbrev pub ResponsesAnswerTheSame : Type 0
ResponsesAnswerTheSame = (m : HttpMessage) (o : Order) → answer_of o (response_again m) ≡ answer_of o m

pub reply_whole : ResponsesLook → ResponsesAnswerTheSame → (o : Order) (octets : List ℕ) (result : Heard) → IsAnswered o octets result
    → (r : Reply) (a : Answer)
    → octets ≡ response_text (reply_message r) → IsWritableResponse (reply_message r) → answer_of o
    (reply_message r) ≡ Ok a → IfOk result (λ x. x ≡ Some a)
reply_whole look same o octets result answered r a is writable says =
    let m : HttpMessage = reply_message r in
    let text : List ℕ = response_text (reply_message r) in
    let P : List ℕ → Type 0 = λ l. Looks Response l (Gives (response_again m) (length text)) in
    let looks : Looks Response octets (Gives (response_again m) (length text)) = subst P (append-nil text ∙ sym is) (look m [] writable) in
    let found = answered (Gives (response_again m) (length text)) looks in
    let whole : whole_in (length octets) (Gives (response_again m) (length text)) ≡ Ok (response_again m) =
    ap (λ (l : List ℕ). whole_in (length l) (Gives (response_again m) (length text))) is ∙ whole_is (response_again m) (length text) in
    let all : answer_in o (whole_in (length octets) (Gives (response_again m) (length text))) ≡ Some a = ap
    (answer_in o) whole ∙ ap if_good (same m o ∙ says) in
    let Q : Option Answer → Type 0 = λ w. IfOk result (λ x. x ≡ w) in
    subst Q all found
