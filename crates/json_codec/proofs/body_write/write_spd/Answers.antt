use Rattle.json_values.specs.Written.{all_policies}
use Rattle.json_codec.proofs.WrittenBodies.{of_written}
use Rattle.json_codec.proofs.body_write.write_spd.Goals as goal

pub returns-clause-again : goal.returns-clause-again
returns-clause-again c = of_written c.write_spd.result (all_policies c.args.list.now) _
    (λ text. c.policies_read_again.ensures text c.args.list.now c.policies_fit.ensures c.requires) c.write_spd.ensures.utf8
    c.write_spd.ensures.reads
