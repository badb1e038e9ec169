use Rattle.std.proofs.Common.{sym, ◌∙◌}
use Rattle.std.proofs.lemmas.Bool.{both_ways}
use Rattle.ikeless_cli.proofs.Ends.{words-never}
use Rattle.ikeless_cli.proofs.Whole.{ends-whole}
use Rattle.ikeless_cli.proofs.replay.run_replay.Goals as goal

pub returns-then-are_replay-clause-complete : goal.returns-then-are_replay-clause-complete
returns-then-are_replay-clause-complete g c = λ script words is whole source sink.
    let ran = c.run.ensures.ran in
    ends-whole script ran.0 ran.1 _ _ _ whole is ran.2 ran.4 (λ e. source (c.run.ensures.source e)) (λ e. sink (c.run.ensures.sink.risen e))

pub returns-then-are_replay-clause-words : goal.returns-then-are_replay-clause-words
returns-then-are_replay-clause-words g c = (
  λ e. absurd (let ran = c.run.ensures.ran in words-never _ _ _ _ ran.4 e),
  λ no. absurd (both_ways _ no (sym c.are_replay.ensures ∙ c.if-are_replay.true)),
)
