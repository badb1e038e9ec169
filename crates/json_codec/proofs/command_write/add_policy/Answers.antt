use Rattle.std.proofs.Common.{append_assoc}
use Rattle.json_codec.specs.CommandWritten.{policy_input}
use Rattle.json_values.proofs.TokenLemmas.{after_ok}
use Rattle.json_codec.proofs.command_write.add_policy.Goals as goal

pub returns : goal.returns
unfolding policy_input
returns c = after_ok c.end_object.result c.end_object.ensures (λ h. simp
    (h, c.in_ok-add_policies.ensures, c.in_ok-name.ensures, c.in_ok-add_gateway.ensures, c.in_ok-begin_object.ensures, append_assoc))
