use Rattle.std.proofs.Common.{append_assoc}
use Rattle.json_tree.specs.SadEntryWritten.{tunnel_data}
use Rattle.json_values.proofs.TokenLemmas.{after_ok}
use Rattle.json_tree.proofs.half_parts_write.add_tunnel.Goals as goal

pub returns : goal.returns
unfolding tunnel_data
returns c = after_ok c.end_object.result c.end_object.ensures (λ h. simp (
  h,
  c.in_ok-add_address-2.ensures,
  c.in_ok-add_address.ensures,
  c.in_ok-word.ensures,
  c.in_ok-open_object.ensures,
  c.text.ensures,
  append_assoc,
))
