use Rattle.std.proofs.Common.{◌≡◌, ◌∙◌, ◌++◌, List, ℕ, ap, length}
use Rattle.gcm_seal.proofs.Elements.{joined_is}
use Rattle.gcm_seal.proofs.tag.length_block.Goals as goal

pub returns : goal.returns
returns c =
    let a = c.to_be_bytes-a.result in
    let l = c.to_be_bytes-c.result in
    let ea = c.to_be_bytes-a.ensures in
    let el = c.to_be_bytes-c.ensures in
    let la : length a ≡ 8 = ap (λ (x : List ℕ). length x) ea in
    let ll : length l ≡ 8 = ap (λ (x : List ℕ). length x) el in
    joined_is a l la ll ∙ (λ i. ea i ++ el i)
