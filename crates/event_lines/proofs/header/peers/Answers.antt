use Rattle.std.proofs.Common.{◌∙◌, sym}
use Rattle.event_lines.specs.Header.{peer_of}
use Rattle.line_words.proofs.EachLemmas.{each-end}
use Rattle.event_lines.proofs.header.peers.Goals as goal

pub returns : goal.returns
returns c = sym c.loop-word.invariant ∙ each-end peer_of c.loop-word.list c.args.words.now c.loop-word.word-index c.loop-word-test.false
