use Rattle.hist_controller.proofs.Spent.{spent-ever, forgets-all, forgets-unspent, forgets-on, pass-forgets, forgets-tunnels, tunnel-forgets}
use Rattle.hist_controller.proofs.facts.forgets_what_is_spent.Goals as goal

pub returns-clause-ever : goal.returns-clause-ever
returns-clause-ever c = spent-ever

pub returns-clause-none : goal.returns-clause-none
returns-clause-none c = forgets-all

pub returns-clause-more : goal.returns-clause-more
returns-clause-more c = forgets-unspent

pub returns-clause-act : goal.returns-clause-act
returns-clause-act c = forgets-on

pub returns-clause-pass : goal.returns-clause-pass
returns-clause-pass c = pass-forgets

pub returns-clause-tunnels : goal.returns-clause-tunnels
returns-clause-tunnels c = forgets-tunnels

pub returns-clause-has : goal.returns-clause-has
returns-clause-has c = tunnel-forgets
