use Rattle.std.proofs.Common.{◌≡◌, ◌+◌, ◌/◌, ◌∙◌, arith, length}
use Rattle.gcm_seal.proofs.Elements.{absorbed, absorbed_none}
use Rattle.gcm_seal.proofs.field.absorb.Goals as goal

pub chunks-init : goal.chunks-init
chunks-init c = λ h zs _ _ fit e. absorbed_none h c.args.octets.now zs c.args.before e

pub chunks-preserved : goal.chunks-preserved
chunks-preserved c = λ h zs small table fit e.
    c.multiply-y.ensures h table ∙ absorbed h c.args.octets.now c.chunks.i c.chunks.y c.element_at.result zs small fit
    (c.chunks.invariant h zs small table fit e) c.element_at.ensures

pub returns : goal.returns
returns c = λ h zs small table fit e.
    let done : c.chunks.i ≡ (length c.args.octets.now + 15) / 16 = omega (arith, c.chunks.auto.i-end) in
    rw done at c.chunks.invariant h zs small table fit e
