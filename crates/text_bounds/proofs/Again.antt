-- What is read of a message doesn't depend on the order of its fields.
use Rattle.std.proofs.Common.{◌≡◌, ◌++◌, ℕ, List, [], length, Option, Some, None, refl, subst, append-nil}
use Rattle.ikeless_tree.specs.declared.order.Order.{Order}
use Rattle.ikeless_tree.specs.declared.order.Order.TheVariants as orders
use Rattle.rc_http.specs.declared.message.HttpMessage.{HttpMessage}
use Rattle.rc_http.specs.declared.message.Kind.TheVariants.{Request, Response}
use Rattle.rc_http.specs.Looks.{Gives, Looks}
use Rattle.rc_http.specs.Written.{request_again, request_text, response_again, response_text, IsWritableRequest, IsWritableResponse}
use Rattle.rc_http.proofs.AgainLemmas.{request_read_again}
use Rattle.rc_http.proofs.AnswerLemmas.{response_read_again}
use Rattle.rc_request.specs.declared.resource.Resource.{Resource}
use Rattle.rc_request.specs.Operations.{method_of, operation_by}
use Rattle.rc_request.specs.Paths.{resource_of}
use Rattle.rc_request.specs.Queries.{before_mark}
use Rattle.rc_request.specs.Requests.{by_operation, by_resource, request_of}
use Rattle.rc_answer.specs.Answers.{answer_of}

same_resource : (r : Option Resource) (m : HttpMessage) → by_resource r (request_again m) ≡ by_resource r m
same_resource None m = refl
same_resource (Some r) m = elim (operation_by r (method_of m.method)) as (λ op. by_operation r op
    (request_again m) ≡ by_operation r op m) [ None ↦ refl | Some op ↦ refl ]

pub same_request : (m : HttpMessage) → request_of (request_again m) ≡ request_of m
unfolding request_of
same_request m = same_resource (resource_of (before_mark 63 m.target)) m

pub same_answer : (m : HttpMessage) (o : Order) → answer_of o (response_again m) ≡ answer_of o m
same_answer m orders.Read = refl
same_answer m (orders.Policy list) = refl
same_answer m (orders.Put e) = refl
same_answer m (orders.Remove name) = refl

pub request_looks : (m : HttpMessage) (rest : List ℕ) → IsWritableRequest m
    → Looks Request (request_text m ++ rest) (Gives (request_again m) (length (request_text m)))
request_looks m rest w = request_read_again m (request_text m) rest w refl

pub response_looks : (m : HttpMessage) (rest : List ℕ) → IsWritableResponse m
    → Looks Response (response_text m ++ rest) (Gives (response_again m) (length (response_text m)))
response_looks m rest w = response_read_again m (response_text m) rest w refl

-- the same with nothing behind it
pub request_whole : (m : HttpMessage) → IsWritableRequest m
    → Looks Request (request_text m) (Gives (request_again m) (length (request_text m)))
request_whole m w = subst (λ l. Looks Request l (Gives (request_again m) (length (request_text m)))) (append-nil (request_text m))
    (request_looks m [] w)

pub response_whole : (m : HttpMessage) → IsWritableResponse m
    → Looks Response (response_text m) (Gives (response_again m) (length (response_text m)))
response_whole m w = subst (λ l. Looks Response l (Gives (response_again m) (length (response_text m)))) (append-nil (response_text m))
    (response_looks m [] w)
