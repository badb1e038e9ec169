use Rattle.rc_resource.proofs.OrderLemmas.{order_again}
use Rattle.rc_resource.proofs.laws.orders_are_read.Goals as goal

pub returns : goal.returns
returns c = order_again c.policies_read_again.ensures c.one_sad_entry_reads_again.ensures
