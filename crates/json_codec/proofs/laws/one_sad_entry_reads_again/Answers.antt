use Rattle.std.proofs.Common.{◌≡◌, None}
use Rattle.ikeless_tree.specs.Check.{sad_fault}
use Rattle.json_tree.specs.SadEntryWritten.{one_sad_entry}
use Rattle.json_values.specs.Json.{IsOneSadEntry}
use Rattle.json_tree.specs.SadEntryRead.{one_sad_entry_in}
use Rattle.json_tree.proofs.HalfLaws.{one_sad_back}
use Rattle.json_codec.proofs.BodyLaws.{body_of}
use Rattle.json_tree.proofs.HalfAgain.{one_half_again}
use Rattle.json_codec.proofs.laws.one_sad_entry_reads_again.Goals as goal

pub returns : goal.returns
returns c = λ text e typed h utf8 reads.
    body_of one_sad_entry_in (λ d. IsOneSadEntry e d × (sad_fault e ≡ None)) e (λ d k. one_sad_back e d k.0 k.1) text
    (utf8, one_sad_entry e, reads, (one_half_again c.hex_read_again.ensures e typed h, h))
