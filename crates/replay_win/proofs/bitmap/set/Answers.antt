use Rattle.replay_win.proofs.Words.{bit-set}
use Rattle.replay_win.proofs.bitmap.set.Goals as goal

pub returns-clause-bits : goal.returns-clause-bits
returns-clause-bits c = λ k. bit-set c.args.words.now c.word_of-i.result c.args.s k c.word_of-i.ensures.within c.word_of-i.ensures.place
