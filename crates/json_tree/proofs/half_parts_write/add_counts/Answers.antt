use Rattle.std.proofs.Common.{append_assoc}
use Rattle.json_values.proofs.TokenLemmas.{after_ok}
use Rattle.json_tree.proofs.half_parts_write.add_counts.Goals as goal

pub returns : goal.returns
returns c = after_ok c.end_object.result c.end_object.ensures (λ h. simp (
  h,
  c.in_ok-count-3.ensures,
  c.in_ok-count-2.ensures,
  c.in_ok-count.ensures,
  c.in_ok-wide.ensures,
  c.in_ok-open_object.ensures,
  append_assoc,
))
