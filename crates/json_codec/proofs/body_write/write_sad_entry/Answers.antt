use Rattle.json_tree.specs.SadEntryWritten.{one_sad_entry}
use Rattle.json_codec.proofs.WrittenBodies.{of_written}
use Rattle.json_codec.proofs.body_write.write_sad_entry.Goals as goal

pub returns-clause-again : goal.returns-clause-again
returns-clause-again c = of_written c.write_sad_entry.result (one_sad_entry c.args.e.now) _
    (λ text. c.one_sad_entry_reads_again.ensures text c.args.e.now c.numbers_fit.ensures c.requires) c.write_sad_entry.ensures.utf8
    c.write_sad_entry.ensures.reads
