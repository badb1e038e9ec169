use Rattle.std.proofs.Common.{[], ◌∷◌}
use Rattle.ikl_base.specs.declared.address.Addr.{Addr}
use Rattle.ikl_base.specs.declared.address.Addr.TheVariants.{V4}
use Rattle.ikeless_tree.specs.declared.order.Order.TheVariants as orders
use Rattle.session_messages_tests.proofs.tests.an_order_is_read_as_what_it_asks.Goals as goal

abbrev host : Addr
host = V4 (192 ∷ 0 ∷ 2 ∷ 1 ∷ [])

pub write_order-requires : goal.write_order-requires
write_order-requires g c = record { order = tt; writable = c.orders_can_be_written.ensures host orders.Read c.numbers_fit.ensures tt tt }
