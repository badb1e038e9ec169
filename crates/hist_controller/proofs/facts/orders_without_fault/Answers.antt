use Rattle.hist_controller.proofs.Entries.{in-lawful, out-lawful, list-lawful, in-removed-name, out-removed-name}
use Rattle.hist_controller.proofs.facts.orders_without_fault.Goals as goal

pub returns-clause-inbound : goal.returns-clause-inbound
returns-clause-inbound c = in-lawful

pub returns-clause-outbound : goal.returns-clause-outbound
returns-clause-outbound c = out-lawful

pub returns-clause-list : goal.returns-clause-list
returns-clause-list c = list-lawful

pub returns-clause-in_name : goal.returns-clause-in_name
returns-clause-in_name c = in-removed-name

pub returns-clause-out_name : goal.returns-clause-out_name
returns-clause-out_name c = out-removed-name
