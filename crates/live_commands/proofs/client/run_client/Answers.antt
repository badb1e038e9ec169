use Rattle.std.proofs.Common.{sym, refl, inr}
use Rattle.live_commands.proofs.ClientEnds.{completes, of-words, sink-untold}
use Rattle.live_commands.proofs.Gaining.{gains_none}
use Rattle.live_commands.proofs.Stated.{err-isnt, is-ok, not-err, not-ok, same-value}
use Rattle.live_commands.proofs.StatedCommand.{can-be-sent}
use Rattle.live_commands.proofs.client.run_client.Goals as goal

pub ask-requires-clause-command : goal.ask-requires-clause-command
ask-requires-clause-command g c = can-be-sent c.read_events_are_spelled.ensures c.args.words.now c.in-Ok.w c.in-Ok.ensures

pub returns-in-Ok-clause-words : goal.returns-in-Ok-clause-words
returns-in-Ok-clause-words g c = of-words _ c.ask.result _ _ _ c.ask.ensures.asks (is-ok _ c.in-Ok.w c.in-Ok.ensures)

pub returns-in-Ok-clause-untouched : goal.returns-in-Ok-clause-untouched
returns-in-Ok-clause-untouched g c = λ err. absurd (not-err _ c.in-Ok.w c.in-Ok.ensures err)

pub returns-in-Ok-clause-asks : goal.returns-in-Ok-clause-asks
returns-in-Ok-clause-asks g c = λ w is. rw (sym (same-value _ c.in-Ok.w w c.in-Ok.ensures is)) c.ask.ensures.asks

pub returns-in-Ok-clause-complete : goal.returns-in-Ok-clause-complete
returns-in-Ok-clause-complete g c = λ ok link sink.
    completes _ c.ask.result _ _ _ _ c.ask.ensures.asks (λ holds. holds.1.risen refl) (λ broke. c.ask.ensures.sink.risen broke) link sink

pub returns-in-Err-Refused-clause-asks : goal.returns-in-Err-Refused-clause-asks
returns-in-Err-Refused-clause-asks g c = λ w is. absurd (err-isnt _ w (rw c.in-Err-Refused.field-0-is at c.in-Err-Refused.ensures) is)

pub returns-in-Err-Refused-clause-complete : goal.returns-in-Err-Refused-clause-complete
returns-in-Err-Refused-clause-complete g c = λ ok. absurd (not-ok _ (rw c.in-Err-Refused.field-0-is at c.in-Err-Refused.ensures) ok)

pub returns-in-Err-Refused-clause-sink : goal.returns-in-Err-Refused-clause-sink
returns-in-Err-Refused-clause-sink g c = sink-untold _ _

pub returns-in-Err-NoMemory-clause-asks : goal.returns-in-Err-NoMemory-clause-asks
returns-in-Err-NoMemory-clause-asks g c = λ w is. ((tt, inr (refl, refl)), gains_none _)

pub returns-in-Err-NoMemory-clause-complete : goal.returns-in-Err-NoMemory-clause-complete
returns-in-Err-NoMemory-clause-complete g c = λ ok link sink. tt

pub returns-in-Err-NoMemory-clause-sink : goal.returns-in-Err-NoMemory-clause-sink
returns-in-Err-NoMemory-clause-sink g c = sink-untold _ _
