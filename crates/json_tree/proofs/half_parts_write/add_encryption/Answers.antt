use Rattle.std.proofs.Common.{append_assoc}
use Rattle.json_tree.proofs.TokenParts.{encryption_added}
use Rattle.json_values.proofs.TokenLemmas.{after_ok}
use Rattle.json_tree.proofs.half_parts_write.add_encryption.Goals as goal

pub returns : goal.returns
returns c = after_ok c.end_object.result c.end_object.ensures (λ h. encryption_added _ c.args.out.now c.end_object.new.self
    (simp (h, c.in_ok-add_key.ensures, c.in_ok-count.ensures, c.in_ok-open_object.ensures, append_assoc)))
