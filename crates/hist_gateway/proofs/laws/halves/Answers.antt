use Rattle.hist_gateway.specs.Block.{gw_block}
use Rattle.hist_gateway.proofs.LiveHalves.{halves-are, half-for, half-of-spi}
use Rattle.hist_gateway.proofs.MayAct.{may-block, installed, lawful-installed}
use Rattle.hist_gateway.proofs.laws.halves.Goals as goal

pub returns-clause-kept : goal.returns-clause-kept
returns-clause-kept c = halves-are

pub returns-clause-outbound : goal.returns-clause-outbound
returns-clause-outbound c = half-for

pub returns-clause-inbound : goal.returns-clause-inbound
returns-clause-inbound c = half-of-spi

pub returns-clause-blocks : goal.returns-clause-blocks
returns-clause-blocks c = λ gateway g h e are. installed gateway g h (gw_block gateway h e)
    (may-block c.changes_fit.ensures.before gateway h e) are

pub returns-clause-lawful : goal.returns-clause-lawful
returns-clause-lawful c = lawful-installed
