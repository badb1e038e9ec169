-- Pieces written one behind the other.
use Rattle.std.proofs.Common.{◌≡◌, ℕ, ◌+◌, List, ◌++◌, length, take, drop, sym, ap, ◌∙◌, append_assoc}
use Rattle.std.proofs.Math.Seq.{drop-append-add}
use Rattle.std.proofs.lemmas.List.{take_at, drop-drop}

drop-behind : (front old piece : List ℕ) (n : ℕ) → length front ≡ n → drop (n + length piece) (front ++ drop n old) ≡ drop
    (n + length piece) old
drop-behind front old piece n e =
    ap (λ k. drop (k + length piece) (front ++ drop n old)) (sym e)
    ∙ drop-append-add front (drop n old) (length piece)
    ∙ drop-drop (length piece) n old

-- a piece behind those written so far
pub piece-next : (front piece old out new : List ℕ) (n m : ℕ) → out ≡ front ++ drop n old → length front ≡ n → n + length piece ≡ m
    → new ≡ take n out ++ (piece ++ drop (n + length piece) out) → new ≡ front ++ piece ++ drop m old
piece-next front piece old out new n m e size end is =
    let place : n + length piece ≡ m = end in
    is
    ∙ ap (λ o. take n o ++ (piece ++ drop (n + length piece) o)) e
    ∙ ap (λ f. f ++ (piece ++ drop (n + length piece) (front ++ drop n old))) (take_at front (drop n old) n size)
    ∙ ap (λ r. front ++ (piece ++ r)) (drop-behind front old piece n size)
    ∙ ap (λ k. front ++ (piece ++ drop k old)) place
    ∙ sym (append_assoc front piece (drop m old))
