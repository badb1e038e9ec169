use Rattle.std.proofs.Common.{◌≡◌, ◌++◌, ◌∙◌, List, ℕ, ap, sym, length, get_or, arith, map}
use Rattle.std.specs.List.{range_with_len}
use Rattle.gcm_seal.specs.Gcm.{counter}
use Rattle.gcm_seal.proofs.Elements.{exploded}
use Rattle.gcm_seal.proofs.counter.counter.Goals as goal

pub returns : goal.returns
unfolding counter
returns c =
    let n = c.args.nonce.now in
    let b = c.to_be_bytes-c.result in
    let long : length n ≡ 12 = omega arith in
    let four : length b ≡ 4 = ap (λ (l : List ℕ). length l) c.to_be_bytes-c.ensures in
    let p = exploded n 12 long in
    let q = exploded b 4 four in
    sym (ap (λ (l : List ℕ). l ++ b) p ∙ ap (λ (l : List ℕ). map (λ k. get_or n k 0) (range_with_len 0 12) ++ l) q)
    ∙ ap (λ (l : List ℕ). n ++ l) c.to_be_bytes-c.ensures
