-- The request that carries each order, of this project.
use Rattle.ikeless_tree.specs.declared.order.Order.{Order}
use Rattle.ikeless_tree.specs.declared.order.Order.TheVariants as orders
use Rattle.reply_table.specs.declared.ask.Ask.{Ask}
use Rattle.reply_table.specs.declared.ask.Ask.TheVariants as asks

-- what an order asks of the gateway's databases: a reading is a GET of all halves, a list a PUT, a put a POST, a removal a DELETE
abbrev pub ask_of : Order → Ask
ask_of orders.Read = asks.GetSad
ask_of (orders.Policy list) = asks.PutSpd list
ask_of (orders.Put e) = asks.PostSad e
ask_of (orders.Remove name) = asks.DeleteSad name
