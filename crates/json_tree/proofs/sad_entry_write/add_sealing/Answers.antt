use Rattle.std.proofs.Common.{append_assoc}
use Rattle.json_tree.proofs.TokenParts.{sealing_added}
use Rattle.json_values.proofs.TokenLemmas.{after_ok}
use Rattle.json_tree.proofs.sad_entry_write.add_sealing.Goals as goal

pub returns : goal.returns
returns c = after_ok c.add_suite.result c.add_suite.ensures (λ h. sealing_added c.args.window _ c.args.out.now c.add_suite.new.out
    (simp (h, c.in_ok-count.ensures, append_assoc)))
