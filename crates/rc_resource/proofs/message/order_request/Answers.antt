use Rattle.std.proofs.Common.{◌∙◌, ap}
use Rattle.std.proofs.lemmas.Result.{IfOk-weaker}
use Rattle.rc_request.specs.Requests.{request_of}
use Rattle.rc_resource.proofs.message.order_request.Goals as goal

pub returns-clause-asks : goal.returns-clause-asks
returns-clause-asks c =
    IfOk-weaker c.order_with_body.result _ _ (λ m is. ap request_of is ∙ c.orders_are_read.ensures c.args.host.now c.args.o.now c.requires
    c.numbers_fit.ensures) c.order_with_body.ensures
