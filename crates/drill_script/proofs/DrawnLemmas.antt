-- One more number drawn, and one more line.
use Rattle.std.proofs.Common.{◌≡◌, ◌≤◌, ℕ, suc, ◌+◌, ◌*◌, ◌%◌, ◌^◌, Bool, true, false, List, [], ◌∷◌, ◌++◌, refl, ap, ◌∙◌, append_assoc, append-nil, add-one, sym, arith}
use native.Mathlib.Nat.{mod-add-mod}
use Rattle.drill_script.specs.declared.drawing.Kind.{Kind}
use Rattle.drill_script.specs.Drawn.{next, drawn, kind_of, is_let, is_now, one_more, many}
use Rattle.drill_script.specs.Script.{key_line, keys_text, drawn_line, drawn_text}

pub next_is : (x : ℕ) → ((x * 6364136223846793005) % 2 ^ 64 + 1442695040888963407) % 2 ^ 64 ≡ next x
next_is x = mod-add-mod (x * 6364136223846793005) (2 ^ 64) 1442695040888963407

-- ---- numbers

pub number-more : (n k x : ℕ) → x ≡ drawn n k → next x ≡ drawn n (k + 1)
unfolding drawn
number-more n k x e = rw (add-one k) (ap next e)

many-step : (is_such : Kind → Bool) (n k : ℕ) → one_more (is_such (kind_of (drawn n (k + 1)))) (many is_such n k) ≡ many is_such n (k + 1)
unfolding many
many-step is_such n k = rw (add-one k) refl

pub many-more : (is_such : Kind → Bool) (n k x count : ℕ) → x ≡ drawn n (k + 1) → count ≡ many is_such n k
    → one_more (is_such (kind_of x)) count ≡ many is_such n (k + 1)
many-more is_such n k x count ex ec =
    ap (λ (v : ℕ). one_more (is_such (kind_of v)) count) ex
    ∙ ap (λ (v : ℕ). one_more (is_such (kind_of (drawn n (k + 1)))) v) ec
    ∙ many-step is_such n k

pub more-few : (b : Bool) (count k : ℕ) → count ≤ k → one_more b count ≤ k + 1
more-few true count k few = omega (arith, few)
more-few false count k few = omega (arith, few)

-- ---- lines

grown : (old front line out one two : List ℕ) → out ≡ old ++ front → one ≡ out ++ line → two ≡ one ++ 10 ∷ [] → two ≡ old
    ++ (front ++ (line ++ 10 ∷ []))
grown old front line out one two e f g =
    g ∙ ap (λ (z : List ℕ). z ++ 10 ∷ []) (f ∙ ap (λ (z : List ℕ). z ++ line) e)
    ∙ append_assoc (old ++ front) line (10 ∷ [])
    ∙ append_assoc old front (line ++ 10 ∷ [])

key-step : (k : ℕ) → keys_text k ++ (key_line (k + 1) ++ 10 ∷ []) ≡ keys_text (k + 1)
unfolding keys_text
key-step k = rw (add-one k) refl

pub key-more : (k : ℕ) (old out one two : List ℕ) → out ≡ old ++ keys_text k → one ≡ out ++ key_line (k + 1) → two ≡ one ++ 10 ∷ []
    → two ≡ old ++ keys_text (k + 1)
key-more k old out one two e f g = grown old (keys_text k) (key_line (k + 1)) out one two e f g ∙ ap (λ (z : List ℕ). old ++ z) (key-step k)

line-step : (n k : ℕ) → drawn_text n k ++ (drawn_line (drawn n (k + 1)) (many is_let n k) (many is_now n k) ++ 10 ∷ []) ≡ drawn_text n
    (k + 1)
unfolding drawn_text
line-step n k = rw (add-one k) refl

line-of : (x y lets nows lets' nows' : ℕ) → x ≡ y → lets ≡ lets' → nows ≡ nows' → drawn_line x lets nows ≡ drawn_line y lets' nows'
line-of x y lets nows lets' nows' ex el en =
    ap (λ (v : ℕ). drawn_line v lets nows) ex ∙ ap (λ (v : ℕ). drawn_line y v nows) el ∙ ap (λ (v : ℕ). drawn_line y lets' v) en

pub line-more : (n k x lets nows : ℕ) (old out one two : List ℕ) → x ≡ drawn n (k + 1) → lets ≡ many is_let n k → nows ≡ many is_now n k
    → out ≡ old ++ drawn_text n k → one ≡ out ++ drawn_line x lets nows → two ≡ one ++ 10 ∷ [] → two ≡ old ++ drawn_text n (k + 1)
line-more n k x lets nows old out one two ex el en e f g =
    grown old (drawn_text n k) (drawn_line x lets nows) out one two e f g
    ∙ ap (λ (z : List ℕ). old ++ (drawn_text n k ++ (z ++ 10 ∷ []))) (line-of x (drawn n (k + 1)) lets nows (many is_let n k)
    (many is_now n k) ex el en)
    ∙ ap (λ (z : List ℕ). old ++ z) (line-step n k)

-- ---- where loops begin

pub no-keys : (old : List ℕ) → old ≡ old ++ keys_text 0
unfolding keys_text
no-keys old = sym (append-nil old)

pub no-lines : (n : ℕ) (old : List ℕ) → old ≡ old ++ drawn_text n 0
unfolding drawn_text
no-lines n old = sym (append-nil old)

pub first-number : (n : ℕ) → n ≡ drawn n 0
unfolding drawn
first-number n = refl

pub none-before : (is_such : Kind → Bool) (n : ℕ) → 0 ≡ many is_such n 0
unfolding many
none-before is_such n = refl
