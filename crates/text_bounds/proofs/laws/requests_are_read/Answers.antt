use Rattle.std.proofs.Common.{◌∙◌}
use Rattle.rc_http.specs.Written.{request_again}
use Rattle.rc_resource.specs.Messages.{order_message}
use Rattle.text_bounds.proofs.Again.{request_looks, request_whole, same_request}
use Rattle.text_bounds.proofs.Orders.{order_writable}
use Rattle.text_bounds.proofs.laws.requests_are_read.Goals as goal

pub returns : goal.returns
returns c = record {
  looks = request_looks;
  same = same_request;
  orders = λ host o a is typed. (
    request_again (order_message host o),
    request_whole (order_message host o) (order_writable host o a is typed),
    same_request (order_message host o) ∙ c.orders_are_read.ensures host o is typed,
  );
}
