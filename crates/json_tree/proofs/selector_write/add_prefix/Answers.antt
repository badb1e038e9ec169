use Rattle.std.proofs.Common.{◌≡◌, ◌∙◌}
use Rattle.yang_values.specs.Prefixes.{prefix_text}
use Rattle.json_values.proofs.Plain.{utf8_value}
use Rattle.json_tree.proofs.selector_write.add_prefix.Goals as goal

pub text-requires : goal.text-requires
text-requires c =
    let e : c.as_slice.result.now ≡ prefix_text c.args.prefix.now = c.as_slice.ensures ∙ c.in_ok-text.ensures in
    rw e (utf8_value _ (c.plain_texts.ensures.prefix c.args.prefix.now c.numbers_fit.ensures))
