use Rattle.std.proofs.Common.{append_assoc}
use Rattle.json_tree.proofs.TokenParts.{lasting_added}
use Rattle.json_values.proofs.TokenLemmas.{after_ok}
use Rattle.json_tree.proofs.sad_entry_write.add_lasting.Goals as goal

pub returns : goal.returns
returns c = after_ok c.flag-2.result c.flag-2.ensures (λ h. lasting_added c.args.entry.now.hard c.args.entry.now.soft c.args.out.now
    c.flag-2.new.self (simp (
      h,
      c.in_ok-add_soft.ensures,
      c.in_ok-add_lifetime.ensures,
      c.in_ok-word-2.ensures,
      c.in_ok-word.ensures,
      c.in_ok-flag.ensures,
      append_assoc,
    )))
