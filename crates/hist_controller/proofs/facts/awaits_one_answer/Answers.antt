use Rattle.hist_controller.proofs.Own.{one-own, busy-waiting, each-owned, own-waits, waiting-left, in-order}
use Rattle.hist_controller.proofs.facts.awaits_one_answer.Goals as goal

pub returns-clause-one : goal.returns-clause-one
returns-clause-one c = one-own

pub returns-clause-busy : goal.returns-clause-busy
returns-clause-busy c = busy-waiting

pub returns-clause-owned : goal.returns-clause-owned
returns-clause-owned c = each-owned

pub returns-clause-own : goal.returns-clause-own
returns-clause-own c = own-waits

pub returns-clause-home : goal.returns-clause-home
returns-clause-home c = waiting-left

pub returns-clause-order : goal.returns-clause-order
returns-clause-order c = in-order
