use Rattle.std.proofs.Common.{arith}
use Rattle.gcm_seal.proofs.Counters.{shares_next}
use Rattle.gcm_seal.proofs.counter.advance.Goals as goal

pub returns-else-i-eq0 : goal.returns-else-i-eq0
returns-else-i-eq0 c = λ held. shares_next _ c.args.k.now c.args.nonce.now c.args.i (omega arith) (omega arith) held
