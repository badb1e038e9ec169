use Rattle.std.proofs.Common.{refl, inr, sym}
use Rattle.live_commands.proofs.ControllerEnds.{completes, none-called, of-words}
use Rattle.live_commands.proofs.Stated.{err-isnt, is-ok, not-err, not-ok, same-value}
use Rattle.live_commands.proofs.StatedPeers.{named-peers}
use Rattle.live_commands.proofs.controller.run_controller.Goals as goal

pub serve-requires-clause-family : goal.serve-requires-clause-family
serve-requires-clause-family g c = named-peers c.reads_headers.ensures c.args.words.now c.in-Ok.w c.in-Ok.ensures

pub serve-requires-clause-known : goal.serve-requires-clause-known
serve-requires-clause-known g c = c.requires.known c.in-Ok.w c.in-Ok.ensures

pub returns-in-Ok-clause-words : goal.returns-in-Ok-clause-words
returns-in-Ok-clause-words g c = of-words _ c.serve.result _ c.serve.ensures.tells (is-ok _ c.in-Ok.w c.in-Ok.ensures)

pub returns-in-Ok-clause-untouched : goal.returns-in-Ok-clause-untouched
returns-in-Ok-clause-untouched g c = λ err. absurd (not-err _ c.in-Ok.w c.in-Ok.ensures err)

pub returns-in-Ok-clause-tells : goal.returns-in-Ok-clause-tells
returns-in-Ok-clause-tells g c = λ ok. c.serve.ensures.tells

pub returns-in-Ok-clause-serves : goal.returns-in-Ok-clause-serves
returns-in-Ok-clause-serves g c = λ w is. rw (sym (same-value _ c.in-Ok.w w c.in-Ok.ensures is)) c.serve.ensures.serves

pub returns-in-Ok-clause-complete : goal.returns-in-Ok-clause-complete
returns-in-Ok-clause-complete g c = λ ok calm. completes c.serve.result _ _ _ _ c.serve.ensures.tells calm

pub returns-in-Err-Refused-clause-tells : goal.returns-in-Err-Refused-clause-tells
returns-in-Err-Refused-clause-tells g c = λ ok. absurd (not-ok _ (rw c.in-Err-Refused.field-0-is at c.in-Err-Refused.ensures) ok)

pub returns-in-Err-Refused-clause-serves : goal.returns-in-Err-Refused-clause-serves
returns-in-Err-Refused-clause-serves g c = λ w is. absurd (err-isnt _ w (rw c.in-Err-Refused.field-0-is at c.in-Err-Refused.ensures) is)

pub returns-in-Err-Refused-clause-complete : goal.returns-in-Err-Refused-clause-complete
returns-in-Err-Refused-clause-complete g c = λ ok. absurd (not-ok _ (rw c.in-Err-Refused.field-0-is at c.in-Err-Refused.ensures) ok)

pub returns-in-Err-NoMemory-clause-tells : goal.returns-in-Err-NoMemory-clause-tells
returns-in-Err-NoMemory-clause-tells g c = λ ok. none-called _ _

pub returns-in-Err-NoMemory-clause-complete : goal.returns-in-Err-NoMemory-clause-complete
returns-in-Err-NoMemory-clause-complete g c = λ ok calm. inr refl
