use Rattle.std.proofs.Common.{◌-◌, length, arith}
use Rattle.esp_frame.proofs.Trailers.{trailer_is}
use Rattle.esp_frame.proofs.trailer.write_trailer.Goals as goal

pub returns : goal.returns
returns c = trailer_is c.octets.back (length c.args.back.now - 2) c.args.next (omega arith)
    (λ k h. c.octets.invariant k (omega (arith, c.octets.auto.i-end)))
