use Rattle.std.proofs.Common.{◌≡◌, ◌+◌, ◌*◌, ◌/◌, ◌%◌, ◌^◌, ◌∙◌, arith, ap, get_or, ℕ, List}
use Rattle.gcm_seal.proofs.Elements.{all_multiplied, eight_more, none_multiplied, octet_at}
use Rattle.gcm_seal.proofs.field.multiply.Goals as goal

pub octets-init : goal.octets-init
octets-init c = λ h _. none_multiplied c.args.y h

pub octets-preserved : goal.octets-preserved
octets-preserved c = λ h table.
    let y = c.args.y in
    let i = c.octets.i in
    let o : ℕ = get_or c.to_le_bytes-octets.result i 0 in
    let is : o ≡ y / 2 ^ (8 * i) % 256 = ap (λ (l : List ℕ). get_or l i 0) c.to_le_bytes-octets.ensures ∙ octet_at y i (omega arith) in
    eight_more y h i c.octets.z o _ _ is (omega arith) (c.octets.invariant h table) (table (32 * i + o % 16) (omega arith))
    (table (32 * i + 16 + o / 16) (omega arith))

pub returns : goal.returns
returns c = λ h table. all_multiplied c.args.y h c.octets.i c.octets.z (omega arith) (omega (arith, c.octets.auto.i-end))
    (c.octets.invariant h table)
