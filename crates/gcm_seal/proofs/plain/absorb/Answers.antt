use Rattle.std.proofs.Common.{◌≡◌, ◌+◌, ◌/◌, ◌∙◌, arith, length}
use Rattle.gcm_seal.proofs.Elements.{absorbed, absorbed_none}
use Rattle.gcm_seal.proofs.plain.absorb.Goals as goal

pub chunks-init : goal.chunks-init
chunks-init c = λ zs fit e. absorbed_none c.args.h c.args.octets.now zs c.args.before e

pub chunks-preserved : goal.chunks-preserved
chunks-preserved c = λ zs fit e.
    c.multiply-y.ensures ∙ absorbed c.args.h c.args.octets.now c.chunks.i c.chunks.y c.element_at.result zs (omega arith) fit
    (c.chunks.invariant zs fit e) c.element_at.ensures

pub returns : goal.returns
returns c = λ zs fit e.
    let done : c.chunks.i ≡ (length c.args.octets.now + 15) / 16 = omega (arith, c.chunks.auto.i-end) in
    rw done at c.chunks.invariant zs fit e
