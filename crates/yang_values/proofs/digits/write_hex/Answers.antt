use Rattle.std.proofs.Common.{ap, ◌∙◌, ◌++◌, map}
use Rattle.std.specs.List.{join_with_byte}
use Rattle.std.proofs.lemmas.List.{take_rest}
use Rattle.yang_values.specs.HexText.{pair_text}
use Rattle.yang_values.proofs.EachLemmas.{joined_end, joined_none}
use Rattle.yang_values.proofs.digits.write_hex.Goals as goal
use Rattle.yang_values.proofs.digits.write_hex.Goals.{in_default, in-len1-up+in_ok-put_digits+in_ok-put_pairs}

pub returns : goal.returns
returns c = elim c.if-o-lt1.branch [
  | in_default w ↦
      c.from_items.ensures ∙ ap (λ v. v.items) w.out-is ∙ c.new-out.ensures.items
      ∙ joined_none 58 pair_text c.args.o.now w.in_default.len_below
  | in-len1-up+in_ok-put_digits+in_ok-put_pairs w ↦
      c.from_items.ensures ∙ ap (λ v. v.items) w.out-is
      ∙ joined_end 58 pair_text c.args.o.now _ _ _ _ w.in-len1-up.len_at_least (take_rest c.args.o.now 1) w.in_ok-put_digits.ensures
      w.in_ok-put_pairs.ensures
      ∙ ap (λ start. start ++ join_with_byte 58 (map pair_text c.args.o.now)) c.new-out.ensures.items
]
