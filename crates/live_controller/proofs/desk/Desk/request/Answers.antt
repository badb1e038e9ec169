use Rattle.live_controller.proofs.desk.Desk.request.Goals as goal

pub write_order-requires : goal.write_order-requires
write_order-requires c = record {
  order = c.requires.1;
  writable = c.orders_can_be_written.ensures c.address_of-host.result c.args.order.now c.numbers_fit.ensures c.requires.1
      c.numbers_fit-2.ensures;
}
