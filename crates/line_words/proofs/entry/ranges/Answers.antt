use Rattle.std.proofs.Common.{◌∙◌, sym}
use Rattle.line_words.specs.Entry.{range_of}
use Rattle.line_words.proofs.EachLemmas.{each-end}
use Rattle.line_words.proofs.entry.ranges.Goals as goal

pub returns : goal.returns
returns c = sym c.loop-word.invariant ∙ each-end range_of c.loop-word.list c.args.words.now c.loop-word.word-index c.loop-word-test.false
