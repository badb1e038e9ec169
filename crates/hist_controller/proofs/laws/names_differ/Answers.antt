use Rattle.hist_controller.proofs.Names.{in-names, out-names, no-both}
use Rattle.hist_controller.proofs.PeerNames.{named, numbered-name}
use Rattle.hist_controller.proofs.laws.names_differ.Goals as goal

pub returns-clause-inbound : goal.returns-clause-inbound
returns-clause-inbound c = in-names

pub returns-clause-outbound : goal.returns-clause-outbound
returns-clause-outbound c = out-names

pub returns-clause-both : goal.returns-clause-both
returns-clause-both c = no-both

pub returns-clause-peers : goal.returns-clause-peers
returns-clause-peers c = named

pub returns-clause-number : goal.returns-clause-number
returns-clause-number c = numbered-name
