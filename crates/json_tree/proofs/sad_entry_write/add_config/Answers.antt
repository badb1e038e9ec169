use Rattle.std.proofs.Common.{append_assoc}
use Rattle.json_tree.proofs.TokenParts.{config_added}
use Rattle.json_values.proofs.TokenLemmas.{after_ok}
use Rattle.json_tree.proofs.sad_entry_write.add_config.Goals as goal

pub returns : goal.returns
returns c = after_ok c.end_object.result c.end_object.ensures (λ h. config_added c.args.entry.now _ c.args.out.now c.end_object.new.self
    (simp (
      h,
      c.in_ok-add_ends.ensures,
      c.in_ok-add_lasting.ensures,
      c.in_ok-add_sealing.ensures,
      c.in_ok-open_object.ensures,
      append_assoc,
    )))
