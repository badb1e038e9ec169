use Rattle.std.proofs.Common.{append_assoc}
use Rattle.json_values.specs.Written.{policy_data}
use Rattle.json_values.proofs.TokenLemmas.{after_ok}
use Rattle.json_tree.proofs.policy_write.add_policy.Goals as goal

pub returns : goal.returns
unfolding policy_data
returns c = after_ok c.end_object.result c.end_object.ensures (λ h. simp (
  h,
  c.in_ok-add_selector.ensures,
  c.in_ok-name.ensures,
  c.in_ok-add_action.ensures,
  c.in_ok-count.ensures,
  c.in_ok-begin_object.ensures,
  append_assoc,
))
