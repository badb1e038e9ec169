use Rattle.hist_controller.proofs.Fitting.{first-seen, table-step, fit-history}
use Rattle.hist_controller.proofs.Tables.{seen-did}
use Rattle.hist_controller.proofs.laws.fits_a_table.Goals as goal

pub returns-clause-first : goal.returns-clause-first
returns-clause-first c = first-seen

pub returns-clause-act : goal.returns-clause-act
returns-clause-act c = seen-did

pub returns-clause-step : goal.returns-clause-step
returns-clause-step c = table-step

pub returns-clause-history : goal.returns-clause-history
returns-clause-history c = fit-history
