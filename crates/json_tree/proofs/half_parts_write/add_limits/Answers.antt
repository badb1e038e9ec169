use Rattle.std.proofs.Common.{append_assoc}
use Rattle.json_tree.proofs.TokenParts.{limits_added}
use Rattle.json_values.proofs.TokenLemmas.{after_ok}
use Rattle.json_tree.proofs.half_parts_write.add_limits.Goals as goal

pub returns : goal.returns
returns c = after_ok c.add_count_if-3.result c.add_count_if-3.ensures (λ h. limits_added c.args.limits.now c.args.out.now
    c.add_count_if-3.new.out (simp (
      h,
      c.in_ok-add_count_if-2.ensures,
      c.in_ok-add_count_if.ensures,
      c.in_ok-add_wide_if.ensures,
      append_assoc,
    )))
