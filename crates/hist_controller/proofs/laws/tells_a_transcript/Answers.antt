use Rattle.hist_controller.proofs.Transcript.{told-after, openings-told, open-told, orders-told, answered-told, read-told, order-told}
use Rattle.hist_controller.proofs.WaitingOrders.{waiting-told, given-told, lost-told}
use Rattle.hist_controller.proofs.laws.tells_a_transcript.Goals as goal

pub returns-clause-past : goal.returns-clause-past
returns-clause-past c = told-after

pub returns-clause-openings : goal.returns-clause-openings
returns-clause-openings c = openings-told

pub returns-clause-open : goal.returns-clause-open
returns-clause-open c = open-told

pub returns-clause-orders : goal.returns-clause-orders
returns-clause-orders c = orders-told

pub returns-clause-answered : goal.returns-clause-answered
returns-clause-answered c = answered-told

pub returns-clause-read : goal.returns-clause-read
returns-clause-read c = read-told

pub returns-clause-order : goal.returns-clause-order
returns-clause-order c = order-told

pub returns-clause-waiting : goal.returns-clause-waiting
returns-clause-waiting c = waiting-told

pub returns-clause-lost : goal.returns-clause-lost
returns-clause-lost c = lost-told

pub returns-clause-given : goal.returns-clause-given
returns-clause-given c = given-told
