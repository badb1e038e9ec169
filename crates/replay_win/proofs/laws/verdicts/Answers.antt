use Rattle.replay_win.proofs.Windows.{judged-window_after, judged-fold, top-window_after, size-window_after}
use Rattle.replay_win.proofs.laws.verdicts.Goals as goal

pub returns-clause-verdict : goal.returns-clause-verdict
returns-clause-verdict c = λ size taken s. judged-window_after size taken s

pub returns-clause-top : goal.returns-clause-top
returns-clause-top c = λ size taken. top-window_after size taken

pub returns-clause-size : goal.returns-clause-size
returns-clause-size c = λ size taken. size-window_after size taken

pub returns-clause-in_order : goal.returns-clause-in_order
returns-clause-in_order c = λ size taken s. judged-fold size taken s
