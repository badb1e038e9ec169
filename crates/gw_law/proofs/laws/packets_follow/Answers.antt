use Rattle.hist_gateway.specs.Block.{Arrive, Clock, Let}
use Rattle.gw_law.proofs.Events.{step-is}
use Rattle.gw_law.proofs.Runs.{sizes-are}
use Rattle.gw_law.proofs.laws.packets_follow.Goals as goal

pub returns-clause-packet : goal.returns-clause-packet
returns-clause-packet c = λ gateway s x k. (step-is (sizes-are c.sealed.ensures c.seal_law.ensures.len) gateway s (Let x) k).acts

pub returns-clause-packet_kept : goal.returns-clause-packet_kept
returns-clause-packet_kept c = λ gateway s x k. (step-is (sizes-are c.sealed.ensures c.seal_law.ensures.len) gateway s (Let x) k).kept

pub returns-clause-datagram : goal.returns-clause-datagram
returns-clause-datagram c = λ gateway s x k. (step-is (sizes-are c.sealed.ensures c.seal_law.ensures.len) gateway s (Arrive x) k).acts

pub returns-clause-datagram_kept : goal.returns-clause-datagram_kept
returns-clause-datagram_kept c = λ gateway s x k. (step-is (sizes-are c.sealed.ensures c.seal_law.ensures.len) gateway s (Arrive x) k).kept

pub returns-clause-reading : goal.returns-clause-reading
returns-clause-reading c = λ gateway s x k. (step-is (sizes-are c.sealed.ensures c.seal_law.ensures.len) gateway s (Clock x) k).acts

pub returns-clause-reading_kept : goal.returns-clause-reading_kept
returns-clause-reading_kept c = λ gateway s x k. (step-is (sizes-are c.sealed.ensures c.seal_law.ensures.len) gateway s (Clock x) k).kept
