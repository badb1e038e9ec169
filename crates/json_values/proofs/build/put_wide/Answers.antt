use Rattle.std.proofs.Common.{◌≡◌, ◌∙◌, decimal}
use Rattle.json_values.proofs.Plain.{utf8_number}
use Rattle.json_values.proofs.build.put_wide.Goals as goal

pub put_text-requires : goal.put_text-requires
put_text-requires c =
    let e : c.as_slice.result.now ≡ decimal c.args.n = c.as_slice.ensures ∙ c.in_ok-digits.ensures in
    rw e (utf8_number c.args.n c.ranges.n.fits)
