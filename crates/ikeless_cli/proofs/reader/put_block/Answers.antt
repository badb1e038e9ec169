use Rattle.std.proofs.Common.{[], ◌∷◌, ◌∙◌, refl}
use Rattle.ikeless_cli.proofs.Ends.{ends-line, ends-no_memory, breaks, line-takes}
use Rattle.ikeless_cli.proofs.reader.put_block.Goals as goal

pub returns-in-Err-NoMemory-clause-takes : goal.returns-in-Err-NoMemory-clause-takes
returns-in-Err-NoMemory-clause-takes g c = λ whole short room. (ends-no_memory _ (10 ∷ []) _, refl)

pub returns-in-Err-Refused-clause-takes : goal.returns-in-Err-Refused-clause-takes
returns-in-Err-Refused-clause-takes g c = λ whole short room. (
  ends-line _ _ _ _ c.in-Err-Refused.reason _ c.next_line-number.ensures short room
      (rw c.in-Err-Refused.field-0-is at c.in-Err-Refused.ensures.refused),
  refl,
)

pub returns-in-Err-clause-takes : goal.returns-in-Err-clause-takes
returns-in-Err-clause-takes g c = λ whole short room.
    let wrote = c.in-Err.ensures.err in (
      breaks c.args.running.now _ c.args.line.now _ wrote.0 wrote.1 _ _ _ _ c.in-Ok.ensures.ok short room
          (wrote.2 ∙ c.as_slice.ensures.value) wrote.3,
      refl,
    )

pub returns-in-Ok-write_all-clause-takes : goal.returns-in-Ok-write_all-clause-takes
returns-in-Ok-write_all-clause-takes g c = λ whole short room.
    rw c.go_on.ensures (line-takes c.args.running.now _ c.args.line.now _ _ _ _ _ _ c.in-Ok.ensures.ok c.next_line-number.ensures short room
    (rw c.as_slice.ensures.value at c.in-Ok-write_all.ensures.ok))
