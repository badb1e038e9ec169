use Rattle.std.proofs.Common.{sym, refl, inr}
use Rattle.live_gateway.proofs.Telling.{tells_same}
use Rattle.live_commands.proofs.GatewayEnds.{of-words}
use Rattle.live_commands.proofs.Stated.{err-isnt, is-ok, not-err, not-ok, same-value, words-boot}
use Rattle.live_commands.proofs.gateway.run_gateway.Goals as goal

pub serve-requires : goal.serve-requires
serve-requires g c = words-boot c.args.words.now c.in-Ok.w c.in-Ok.ensures

pub returns-in-Ok-clause-words : goal.returns-in-Ok-clause-words
returns-in-Ok-clause-words g c = of-words _ c.serve.result _ c.serve.ensures.tells (is-ok _ c.in-Ok.w c.in-Ok.ensures)

pub returns-in-Ok-clause-untouched : goal.returns-in-Ok-clause-untouched
returns-in-Ok-clause-untouched g c = λ err. absurd (not-err _ c.in-Ok.w c.in-Ok.ensures err)

pub returns-in-Ok-clause-tells : goal.returns-in-Ok-clause-tells
returns-in-Ok-clause-tells g c = λ ok. c.serve.ensures.tells

pub returns-in-Ok-clause-serves : goal.returns-in-Ok-clause-serves
returns-in-Ok-clause-serves g c = λ w is. rw (sym (same-value _ c.in-Ok.w w c.in-Ok.ensures is)) c.serve.ensures.serves

pub returns-in-Ok-clause-complete : goal.returns-in-Ok-clause-complete
returns-in-Ok-clause-complete g c = λ ok. c.serve.ensures.complete

pub returns-in-Err-Refused-clause-tells : goal.returns-in-Err-Refused-clause-tells
returns-in-Err-Refused-clause-tells g c = λ ok. absurd (not-ok _ (rw c.in-Err-Refused.field-0-is at c.in-Err-Refused.ensures) ok)

pub returns-in-Err-Refused-clause-serves : goal.returns-in-Err-Refused-clause-serves
returns-in-Err-Refused-clause-serves g c = λ w is. absurd (err-isnt _ w (rw c.in-Err-Refused.field-0-is at c.in-Err-Refused.ensures) is)

pub returns-in-Err-Refused-clause-complete : goal.returns-in-Err-Refused-clause-complete
returns-in-Err-Refused-clause-complete g c = λ ok. absurd (not-ok _ (rw c.in-Err-Refused.field-0-is at c.in-Err-Refused.ensures) ok)

pub returns-in-Err-NoMemory-clause-tells : goal.returns-in-Err-NoMemory-clause-tells
returns-in-Err-NoMemory-clause-tells g c = λ ok. (tells_same _ _, tells_same _ _, tells_same _ _)

pub returns-in-Err-NoMemory-clause-complete : goal.returns-in-Err-NoMemory-clause-complete
returns-in-Err-NoMemory-clause-complete g c = λ ok inside outside accepts. inr refl
