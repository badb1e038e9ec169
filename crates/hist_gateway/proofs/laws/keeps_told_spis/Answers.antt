use Rattle.std.proofs.Common.{refl}
use Rattle.hist_gateway.proofs.Since.{stands-told, told-stands}
use Rattle.hist_gateway.proofs.laws.keeps_told_spis.Goals as goal

pub returns-clause-stands : goal.returns-clause-stands
returns-clause-stands c = stands-told

pub returns-clause-told : goal.returns-clause-told
returns-clause-told c = told-stands

pub returns-clause-kept : goal.returns-clause-kept
returns-clause-kept c = λ g spi h. refl
