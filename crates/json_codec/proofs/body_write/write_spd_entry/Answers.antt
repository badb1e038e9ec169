use Rattle.json_values.specs.Written.{one_policy}
use Rattle.json_codec.proofs.WrittenBodies.{of_written}
use Rattle.json_codec.proofs.body_write.write_spd_entry.Goals as goal

pub returns-clause-again : goal.returns-clause-again
returns-clause-again c = of_written c.write_spd_entry.result (one_policy c.args.e.now) _
    (λ text. c.one_policy_reads_again.ensures text c.args.e.now c.numbers_fit.ensures c.requires) c.write_spd_entry.ensures.utf8
    c.write_spd_entry.ensures.reads
