use Rattle.text_bounds.proofs.Orders.{order_writable}
use Rattle.text_bounds.proofs.laws.orders_can_be_written.Goals as goal

pub returns : goal.returns
returns c = order_writable
