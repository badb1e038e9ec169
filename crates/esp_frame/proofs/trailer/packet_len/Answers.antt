use Rattle.std.proofs.Common.{arith, refl}
use Rattle.esp_frame.proofs.Trailers.{inner_found, no_room, wrong_pad}
use Rattle.esp_frame.proofs.trailer.packet_len.Goals as goal

pub returns-then-pad-end : goal.returns-then-pad-end
returns-then-pad-end c = no_room c.args.text.now (omega arith)

pub returns-then-text-end : goal.returns-then-text-end
returns-then-text-end c = wrong_pad c.args.text.now _ c.octets.i _ refl refl (omega arith) c.if-text-end.true

pub returns : goal.returns
returns c = (
  omega arith,
  inner_found c.args.text.now _ (omega arith) refl (λ i lt. c.octets.invariant i (omega (arith, c.octets.auto.i-end))),
)
