use Rattle.std.proofs.Common.{append_assoc}
use Rattle.json_tree.specs.SadEntryWritten.{state_data}
use Rattle.json_values.proofs.TokenLemmas.{after_ok}
use Rattle.json_tree.proofs.sad_entry_write.add_state.Goals as goal

pub returns : goal.returns
unfolding state_data
returns c = after_ok c.end_object-2.result c.end_object-2.ensures (λ h. simp (
  h,
  c.in_ok-add_counts.ensures,
  c.in_ok-end_object.ensures,
  c.in_ok-wide.ensures,
  c.in_ok-open_object-2.ensures,
  c.in_ok-open_object.ensures,
  append_assoc,
))
