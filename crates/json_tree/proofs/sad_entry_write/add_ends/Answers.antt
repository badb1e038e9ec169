use Rattle.std.proofs.Common.{append_assoc}
use Rattle.json_tree.proofs.TokenParts.{ends_added}
use Rattle.json_values.proofs.TokenLemmas.{after_ok}
use Rattle.json_tree.proofs.sad_entry_write.add_ends.Goals as goal

pub returns : goal.returns
returns c = after_ok c.add_tunnel.result c.add_tunnel.ensures (λ h. ends_added c.args.entry.now c.args.out.now c.add_tunnel.new.out
    (simp (h, c.in_ok-add_selector.ensures, c.in_ok-name.ensures, c.in_ok-count.ensures, append_assoc)))
