use Rattle.hist_controller.proofs.Few.{ascend}
use Rattle.hist_controller.proofs.Left.{left-serials, newest-high, progress-newest, progress-one, older-newest, one-at-put}
use Rattle.hist_controller.proofs.facts.orders_what_is_left.Goals as goal

pub returns-clause-ascend : goal.returns-clause-ascend
returns-clause-ascend c = ascend

pub returns-clause-given : goal.returns-clause-given
returns-clause-given c = left-serials

pub returns-clause-newest : goal.returns-clause-newest
returns-clause-newest c = newest-high

pub returns-clause-progress : goal.returns-clause-progress
returns-clause-progress c = progress-newest

pub returns-clause-one : goal.returns-clause-one
returns-clause-one c = progress-one

pub returns-clause-pair : goal.returns-clause-pair
returns-clause-pair c = older-newest

pub returns-clause-room : goal.returns-clause-room
returns-clause-room c = one-at-put
