use Rattle.rc_answer.proofs.answer.halves.Goals as goal

pub returns : goal.returns
returns c = rw (c.in_ok-database.ensures, c.in_ok-list.ensures, c.in_ok-items.ensures) c.names.ensures
