-- Lines of a script: one more, and their octets.
use Rattle.std.proofs.Common.{◌≡◌, ◌<◌, ◌≤◌, ℕ, ◌+◌, ◌==◌, List, [], ◌∷◌, ◌++◌, length, take, drop, get_or, true, not, Ok, refl, sym, ◌∙◌, ap, append_assoc, append-nil, arith, suc, ⊎_elim}
use Rattle.std.specs.List.{list_all}
use Rattle.std.proofs.lemmas.Bool.{and_from, and_parts, cases_Bool}
use Rattle.std.proofs.lemmas.Grind.{common_steps}
use Rattle.std.proofs.lemmas.List.{take-append-drop}
use Rattle.std.proofs.lemmas.List.Concat.{flat_map-append}
use Rattle.std.proofs.lemmas.List.Folds.{list_all-append}
use Rattle.hist_acts.specs.declared.event.Event.{Event}
use Rattle.hist_acts.specs.declared.event.Header.{Header}
use Rattle.event_lines.specs.Event.{event_of}
use Rattle.hist_scripts.specs.Script.{AreLinesOf}
use Rattle.ikeless_cli.specs.Script.{HasNoLf, IsLine, AreLines, is_inside, joined}

pub AreLines-push : (lines : List (List ℕ)) (line : List ℕ) → AreLines lines → IsLine line → AreLines (lines ++ line ∷ [])
AreLines-push [] line are is = (is, tt)
AreLines-push (l ∷ ls) line are is = (are.0, AreLines-push ls line are.1 is)

pub AreLinesOf-push : (h : Header) (lines : List (List ℕ)) (events : List Event) (line : List ℕ) (e : Event)
    → AreLinesOf h lines events → event_of h.gateways line ≡ Ok e → AreLinesOf h (lines ++ line ∷ []) (events ++ e ∷ [])
AreLinesOf-push h [] [] line e are is = (is, tt)
AreLinesOf-push h [] (d ∷ ds) line e are is = absurd are
AreLinesOf-push h (l ∷ ls) [] line e are is = absurd are
AreLinesOf-push h (l ∷ ls) (d ∷ ds) line e are is = (are.0, AreLinesOf-push h ls ds line e are.1 is)

pub AreLinesOf-length : (h : Header) (lines : List (List ℕ)) (events : List Event) → AreLinesOf h lines events → length lines ≡ length
    events
AreLinesOf-length h [] [] are = refl
AreLinesOf-length h [] (e ∷ es) are = absurd are
AreLinesOf-length h (l ∷ ls) [] are = absurd are
AreLinesOf-length h (l ∷ ls) (e ∷ es) are = ap (λ n. suc n) (AreLinesOf-length h ls es are.1)

-- ---- octets

pub inside-cons : (c : ℕ) (cs : List ℕ) → HasNoLf (c ∷ cs) → (is_inside c ≡ true) × HasNoLf cs
inside-cons c cs inside = (grind (arith, inside), grind (arith, inside))

pub inside-append : (xs ys : List ℕ) → HasNoLf xs → HasNoLf ys → HasNoLf (xs ++ ys)
inside-append xs ys first second = list_all-append is_inside xs ys ∙ and_from (list_all is_inside xs) (list_all is_inside ys) first second

pub inside-take : (n : ℕ) (xs : List ℕ) → HasNoLf xs → HasNoLf (take n xs)
inside-take n xs inside =
    let P : List ℕ → Type 0 = λ x. HasNoLf x in
    let parts = list_all-append is_inside (take n xs) (drop n xs) in
    (and_parts (list_all is_inside (take n xs)) (list_all is_inside (drop n xs))
    (sym parts ∙ (ap (list_all is_inside) (take-append-drop n xs) ∙ inside))).0

-- no octet is an LF
pub inside-from : (xs : List ℕ) → ((k : ℕ) → k < length xs → (get_or xs k 0 == 10) ≡ true → ⊥) → HasNoLf xs
inside-from [] none = refl
inside-from (x ∷ xs) none =
    and_from (is_inside x) (list_all is_inside xs) (⊎_elim (λ is. absurd (none 0 (omega arith) is)) (λ no. ap not no)
    (cases_Bool (x == 10)))
    (inside-from xs (λ k inside is. none (suc k) (omega (arith, inside)) is))

pub inside-before : (xs : List ℕ) (n : ℕ) → n ≤ length xs → ((k : ℕ) → k < n → (get_or xs k 0 == 10) ≡ true → ⊥) → HasNoLf (take n xs)
inside-before xs n some none = inside-from (take n xs) (λ k inside is.
    let size : length (take n xs) ≡ n = grind (arith, common_steps) in
    let before : k < n = omega (arith, inside, size) in
    let same : get_or (take n xs) k 0 ≡ get_or xs k 0 = grind (arith, common_steps) in
    none k before (ap (λ x. x == 10) (sym same) ∙ is))

-- the octets are those before an LF, it, and those after it
pub cut-lf : (xs : List ℕ) (n : ℕ) → n < length xs → (get_or xs n 0 == 10) ≡ true → xs ≡ take n xs ++ 10 ∷ drop (n + 1) xs
cut-lf xs n inside is =
    let lf : get_or xs n 0 ≡ 10 = grind (arith, is) in
    let cut : take n xs ++ get_or xs n 0 ∷ drop (n + 1) xs ≡ xs = grind (arith, common_steps) in
    sym cut ∙ ap (λ x. take n xs ++ x ∷ drop (n + 1) xs) lf

-- one more line of a piece
pub cut-on : (front rest line after piece : List ℕ) → front ++ rest ≡ piece → rest ≡ line ++ 10 ∷ after → (front ++ (line ++ 10 ∷ [])) ++
    after ≡ piece
cut-on front rest line after piece e cut = append_assoc front (line ++ 10 ∷ []) after ∙
    (ap (λ x. front ++ x) (append_assoc line (10 ∷ []) after ∙ sym cut) ∙ e)

pub joined-push : (lines : List (List ℕ)) (line : List ℕ) → joined (lines ++ line ∷ []) ≡ joined lines ++ (line ++ 10 ∷ [])
joined-push lines line = flat_map-append (λ l. l ++ 10 ∷ []) lines (line ∷ []) ∙ ap (λ x. joined lines ++ x) (append-nil (line ++ 10 ∷ []))

-- an LF makes a line of the octets after the lines
pub line-joined : (i : List ℕ) (lines : List (List ℕ)) (line after : List ℕ) → i ≡ joined lines ++ line → i ++ (10 ∷ after) ≡ joined
    (lines ++ line ∷ []) ++ after
line-joined i lines line after e =
    ap (λ x. x ++ (10 ∷ after)) e
    ∙ (append_assoc (joined lines) line (10 ∷ after)
    ∙ (ap (λ x. joined lines ++ x) (sym (append_assoc line (10 ∷ []) after))
    ∙ (sym (append_assoc (joined lines) (line ++ 10 ∷ []) after)
    ∙ ap (λ x. x ++ after) (sym (joined-push lines line)))))
