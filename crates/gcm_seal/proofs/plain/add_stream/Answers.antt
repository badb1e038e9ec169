use Rattle.std.proofs.Common.{◌≡◌, length, arith}
use Rattle.aes_block.specs.Schedule.{cipher_of}
use Rattle.gcm_seal.proofs.Texts.{sealed_is}
use Rattle.gcm_seal.proofs.plain.add_stream.Goals as goal

pub returns : goal.returns
returns c =
    let done : c.octets.i ≡ length c.args.text.now = omega (arith, c.octets.auto.i-end) in
    sealed_is (cipher_of c.args.k.now) c.args.nonce.now c.args.text.now c.octets.text c.octets.auto.text
    (λ k h. c.octets.invariant.sealed k (omega arith))
