use Rattle.std.proofs.Common.{◌≡◌, ◌/◌, ◌%◌, ◌∷◌, [], arith}
use Rattle.aes_block.proofs.octets.packed.Goals as goal

pub returns : goal.returns
returns c =
    let n = c.from_be_bytes.result in
    let first : n / 16777216 % 256 ≡ c.args.a = omega (arith, c.from_be_bytes.ensures) in
    let second : n / 65536 % 256 ≡ c.args.b = omega (arith, c.from_be_bytes.ensures) in
    let third : n / 256 % 256 ≡ c.args.c = omega (arith, c.from_be_bytes.ensures) in
    let fourth : n % 256 ≡ c.args.d = omega (arith, c.from_be_bytes.ensures) in
    (λ i. first i ∷ second i ∷ third i ∷ fourth i ∷ [])
