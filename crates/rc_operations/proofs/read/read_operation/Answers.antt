use Rattle.std.proofs.Common.{◌≡◌, Result, Ok, Err, IfErr}
use Rattle.ikl_base.specs.Answers.{Gives}
use Rattle.ikl_base.specs.declared.fault.OrMemory.{OrMemory}
use Rattle.ikl_base.specs.declared.fault.OrMemory.TheVariants as failures
use Rattle.ikeless_tree.specs.declared.command.Command.{Command}
use Rattle.rc_http.specs.declared.message.HttpMessage.{HttpMessage}
use Rattle.rc_request.specs.declared.error.RcError.{RcError}
use Rattle.rc_operations.specs.Operations.{requested}
use Rattle.rc_operations.specs.Replies.{CanBeAnswered, IsAnswerable}
use Rattle.rc_operations.proofs.read.read_operation.Goals as goal

refused_answerable : (m : HttpMessage) → ((e : RcError) → requested m ≡ Err e → IsAnswerable e) → (r : Result Command (OrMemory RcError))
    → Gives r (requested m) → IfErr r CanBeAnswered
refused_answerable m can (Ok c) is = tt
refused_answerable m can (Err (failures.Refused e)) is = can e is
refused_answerable m can (Err failures.NoMemory) is = tt

pub returns-clause-answerable : goal.returns-clause-answerable
returns-clause-answerable c =
    refused_answerable c.args.m.now (c.refusals_can_be_answered.ensures.requests c.args.m.now) c.command_of_request.result
    c.command_of_request.ensures.command
