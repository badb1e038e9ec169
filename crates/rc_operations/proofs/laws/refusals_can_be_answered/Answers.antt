use Rattle.rc_operations.proofs.Refusals.{command_answerable, fault_answerable, request_answerable}
use Rattle.rc_operations.proofs.laws.refusals_can_be_answered.Goals as goal

pub returns : goal.returns
returns c = record { requests = request_answerable; faults = fault_answerable; commands = command_answerable }
