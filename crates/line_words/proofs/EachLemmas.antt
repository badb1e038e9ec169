-- Lists of words that are read one by one.
use Rattle.std.proofs.Common.{◌≡◌, ◌<◌, ◌≤◌, ◌+◌, ℕ, List, [], ◌∷◌, ◌++◌, length, get_or, drop, Result, Ok, Err, refl, sym, ◌∙◌, ap, append_assoc, append-nil, arith, Bor}
use Rattle.std.proofs.lemmas.Grind.{common_steps}
use Rattle.ikl_base.specs.declared.status.LineFault.{LineFault}
use Rattle.line_words.specs.Parts.{texts}
use Rattle.line_words.specs.Words.{◌>>=◌, onto, each}

-- one word read, and then the rest
onto-read : {A : Type 0} → (front : List A) (x : A) (rest : Result (List A) LineFault) → onto front (rest >>= (λ xs. Ok (x ∷ xs))) ≡ onto
    (front ++ x ∷ []) rest
onto-read front x (Ok rest) = ap Ok (sym (append_assoc front (x ∷ []) rest))
onto-read front x (Err e) = refl

onto-refused : {A : Type 0} → (front : List A) (r : Result A LineFault) (e : LineFault) (rest : Result (List A) LineFault) → r ≡ Err e
    → onto front (r >>= (λ x. rest >>= (λ xs. Ok (x ∷ xs)))) ≡ Err e
onto-refused front r e rest refused = rw refused refl

pub onto-none : {A : Type 0} → (r : Result (List A) LineFault) → onto [] r ≡ r
onto-none (Ok rest) = refl
onto-none (Err e) = refl

texts-at : (words : List (Bor (List ℕ))) (i : ℕ) (d : Bor (List ℕ)) → i < length words → texts (drop i words) ≡ (get_or words i d).now
    ∷ texts (drop (i + 1) words)
texts-at words i d inside = ap texts (let e : drop i words ≡ get_or words i d ∷ drop (i + 1) words = grind (arith, common_steps) in e)

texts-end : (words : List (Bor (List ℕ))) (i : ℕ) → length words ≤ i → texts (drop i words) ≡ []
texts-end words i past = ap texts (let e : drop i words ≡ [] = grind (arith, common_steps) in e)

pub each-read : {A : Type 0} → (f : List ℕ → Result A LineFault) (front : List A) (words : List (Bor (List ℕ))) (i : ℕ) (d : Bor (List ℕ))
    (x : A) → i < length words → f (get_or words i d).now ≡ Ok x →
    onto front (each f (texts (drop i words))) ≡ onto (front ++ x ∷ []) (each f (texts (drop (i + 1) words)))
each-read f front words i d x inside read =
    ap (λ ws. onto front (each f ws)) (texts-at words i d inside)
    ∙ (ap (λ r. onto front (r >>= (λ y. each f (texts (drop (i + 1) words)) >>= (λ ys. Ok (y ∷ ys))))) read
    ∙ onto-read front x (each f (texts (drop (i + 1) words))))

pub each-refused : {A : Type 0} → (f : List ℕ → Result A LineFault) (front : List A) (words : List (Bor (List ℕ))) (i : ℕ)
    (d : Bor (List ℕ)) (e : LineFault) → i < length words → f (get_or words i d).now ≡ Err e →
    onto front (each f (texts (drop i words))) ≡ Err e
each-refused f front words i d e inside refused =
    ap (λ ws. onto front (each f ws)) (texts-at words i d inside)
    ∙ onto-refused front (f (get_or words i d).now) e (each f (texts (drop (i + 1) words))) refused

pub each-end : {A : Type 0} → (f : List ℕ → Result A LineFault) (front : List A) (words : List (Bor (List ℕ))) (i : ℕ) → length words ≤ i
    → onto front (each f (texts (drop i words))) ≡ Ok front
each-end f front words i past = ap (λ ws. onto front (each f ws)) (texts-end words i past) ∙ ap Ok (append-nil front)
