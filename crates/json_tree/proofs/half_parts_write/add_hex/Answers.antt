use Rattle.std.proofs.Common.{◌≡◌, ◌∙◌}
use Rattle.yang_values.specs.HexText.{hex_colons}
use Rattle.json_values.proofs.Plain.{utf8_hex}
use Rattle.json_tree.proofs.half_parts_write.add_hex.Goals as goal

pub text-requires : goal.text-requires
text-requires c =
    let e : c.as_slice.result.now ≡ hex_colons c.args.octets.now = c.as_slice.ensures ∙ c.in_ok-text.ensures in
    rw e (utf8_hex c.args.octets.now c.are_octets.ensures)
