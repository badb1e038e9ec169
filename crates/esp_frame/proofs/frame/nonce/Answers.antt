use Rattle.std.proofs.Common.{◌++◌, ◌∙◌, List, ℕ, ap, sym, get_or, map, arith}
use Rattle.std.specs.List.{range_with_len}
use Rattle.gcm_seal.proofs.Elements.{exploded}
use Rattle.esp_frame.proofs.frame.nonce.Goals as goal

pub returns : goal.returns
returns c =
    let s = c.args.salt.now in
    let v = c.args.iv.now in
    let p = exploded s 4 (omega arith) in
    let q = exploded v 8 (omega arith) in
    sym (ap (λ (l : List ℕ). l ++ v) p ∙ ap (λ (l : List ℕ). map (λ k. get_or s k 0) (range_with_len 0 4) ++ l) q)
