use Rattle.std.proofs.Common.{◌≡◌}
use Rattle.json_values.proofs.Plain.{utf8_gateway}
use Rattle.json_codec.proofs.command_write.add_gateway.Goals as goal

pub text-requires : goal.text-requires
text-requires c =
    let e : c.as_slice.result.now ≡ c.args.gateway.now = c.as_slice.ensures in
    rw e (utf8_gateway c.args.gateway.now c.requires)
