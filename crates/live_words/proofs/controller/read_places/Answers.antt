use Rattle.std.proofs.Common.{◌∙◌, sym}
use Rattle.line_words.proofs.EachLemmas.{each-end}
use Rattle.live_words.specs.Controller.{place_of}
use Rattle.live_words.proofs.controller.read_places.Goals as goal

pub returns : goal.returns
returns c = sym c.loop-word.invariant ∙ each-end place_of c.loop-word.list c.args.words.now c.loop-word.word-index c.loop-word-test.false
