use Rattle.std.proofs.Common.{◌≡◌, ◌∙◌}
use Rattle.yang_values.specs.Addresses.{address_text}
use Rattle.json_values.proofs.Plain.{utf8_value}
use Rattle.json_tree.proofs.half_parts_write.add_address.Goals as goal

pub text-requires : goal.text-requires
text-requires c =
    let e : c.as_slice.result.now ≡ address_text c.args.address.now = c.as_slice.ensures ∙ c.in_ok-text.ensures in
    rw e (utf8_value _ (c.plain_texts.ensures.address c.args.address.now c.numbers_fit.ensures))
