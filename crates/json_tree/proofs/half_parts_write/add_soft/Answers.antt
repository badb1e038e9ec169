use Rattle.std.proofs.Common.{◌≡◌, false, sym, ◌∙◌, append_assoc}
use Rattle.json_tree.specs.SadEntryWritten.{has_no_limits}
use Rattle.json_tree.proofs.TokenParts.{soft_added}
use Rattle.json_values.proofs.TokenLemmas.{after_ok}
use Rattle.json_tree.proofs.half_parts_write.add_soft.Goals as goal

pub returns : goal.returns
returns c =
    let some : has_no_limits c.args.lifetime.now ≡ false = sym c.is_unlimited.ensures ∙ c.if-is_unlimited.false in
    after_ok c.end_object.result c.end_object.ensures (λ h. soft_added c.args.lifetime.now c.args.out.now c.end_object.new.self some
    (simp (h, c.in_ok-add_limits.ensures, c.in_ok-word.ensures, c.in_ok-open_object.ensures, append_assoc)))
