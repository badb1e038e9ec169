-- What stands at the front of a list stays there.
use Rattle.std.proofs.Common.{◌≡◌, List, ◌++◌, length, take, drop, Result, Ok, Err, OnErr, sym, ap, subst, ◌∙◌, append_assoc}
use Rattle.std.proofs.Math.Seq.{take-append_seam}
use Rattle.std.proofs.lemmas.List.{take-append-drop}

pub kept : {X : Type 0} → (xs ys zs : List X) → zs ≡ xs ++ ys → take (length xs) zs ≡ xs
kept xs ys zs e = ap (λ z. take (length xs) z) e ∙ take-append_seam xs ys

kept-joined : {X : Type 0} → (xs ys zs : List X) → take (length (xs ++ ys)) zs ≡ xs ++ ys → take (length xs) zs ≡ xs
kept-joined {X} xs ys zs e =
    let rest : List X = drop (length (xs ++ ys)) zs in
    let whole : zs ≡ (xs ++ ys) ++ rest = sym (take-append-drop (length (xs ++ ys)) zs) ∙ ap (λ z. z ++ rest) e in
    kept xs (ys ++ rest) zs (whole ∙ append_assoc xs ys rest)

-- a front of a front
pub kept-within : {X : Type 0} → (xs ys ws zs : List X) → ws ≡ xs ++ ys → take (length ws) zs ≡ ws → take (length xs) zs ≡ xs
kept-within {X} xs ys ws zs e h = kept-joined xs ys zs (subst (λ (w : List X). take (length w) zs ≡ w) e h)

-- ---- after a fault

pub on-err : {A E P : Type 0} → (r : Result A E) → P → OnErr r P
on-err (Ok a) p = tt
on-err (Err e) p = p

pub on-err-map : {A E P Q : Type 0} → (r : Result A E) → (P → Q) → OnErr r P → OnErr r Q
on-err-map (Ok a) f p = tt
on-err-map (Err e) f p = f p
