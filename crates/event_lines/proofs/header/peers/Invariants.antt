use Rattle.std.proofs.Common.{◌≡◌, drop}
use Rattle.line_words.specs.Parts.{texts}
use Rattle.line_words.specs.Words.{onto, each}
use Rattle.event_lines.specs.Header.{peer_of}
use Rattle.event_lines.proofs.header.peers.Given as goal

abbrev pub invariant-loop-word : goal.invariant-loop-word
invariant-loop-word l = onto l.list (each peer_of (texts (drop l.word-index l.words))) ≡ each peer_of (texts l.words)
