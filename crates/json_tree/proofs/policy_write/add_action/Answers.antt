use Rattle.std.proofs.Common.{append_assoc}
use Rattle.json_values.proofs.TokenLemmas.{after_ok}
use Rattle.json_tree.proofs.policy_write.add_action.Goals as goal

pub returns : goal.returns
returns c = after_ok c.end_object.result c.end_object.ensures (λ h. simp
    (h, c.in_ok-word.ensures, c.in_ok-open_object.ensures, c.text.ensures, append_assoc))
