use Rattle.std.proofs.Common.{◌≡◌, ◌++◌, ℕ, List, length, IfOk, sym, subst}
use Rattle.std.proofs.lemmas.Result.{IfOk-weaker}
use Rattle.rc_http.specs.declared.message.HttpMessage.{HttpMessage}
use Rattle.rc_http.specs.declared.message.Kind.TheVariants.{Request}
use Rattle.rc_http.specs.Looks.{Gives, Looks}
use Rattle.rc_http.specs.Written.{request_again, request_text, IsWritableRequest}
use Rattle.rc_operations.proofs.Requests.{command_requested, command_writable}
use Rattle.rc_operations.proofs.write.write_operation.Goals as goal

pub write_request-requires : goal.write_request-requires
write_request-requires c = subst IsWritableRequest (sym c.in_ok-message.ensures.message) (command_writable c.args.c.now c.requires)

pub returns-clause-text : goal.returns-clause-text
returns-clause-text c =
    let P : HttpMessage → Type 0 = λ m. IfOk c.write_request.result (λ text. text ≡ request_text m) in
    subst P c.in_ok-message.ensures.message c.write_request.ensures.text

pub returns-clause-looks : goal.returns-clause-looks
returns-clause-looks c =
    let P : HttpMessage → Type 0 = λ m. IfOk c.write_request.result (λ text. (rest : List ℕ)
    → Looks Request (text ++ rest) (Gives (request_again m) (length text))) in
    subst P c.in_ok-message.ensures.message c.write_request.ensures.again

pub returns-clause-again : goal.returns-clause-again
returns-clause-again c =
    IfOk-weaker c.write_request.result _ _ (λ text is. command_requested c.args.c.now c.in_ok-message.ensures.reads)
    c.write_request.ensures.text
