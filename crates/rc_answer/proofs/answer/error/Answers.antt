use Rattle.rc_answer.proofs.answer.error.Goals as goal

pub returns : goal.returns
returns c = rw (c.in_ok-errors.ensures, c.in_ok-list.ensures, c.in_ok-items.ensures, c.in_ok-one.ensures) c.tags.ensures
