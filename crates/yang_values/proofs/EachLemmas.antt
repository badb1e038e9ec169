-- The values of texts one after another, and texts joined by a mark.
use Rattle.std.proofs.Common.{◌≡◌, ℕ, ◌<◌, ◌≤◌, List, [], ◌∷◌, ◌++◌, Bool, length, map, Option, Some, None, refl, sym, ap, ◌∙◌, arith, append_assoc, append-nil, get_or, take, drop, suc, length-append, subst}
use Rattle.std.proofs.Math.Seq.{drop-cons}
use Rattle.std.proofs.lemmas.List.{take-append-drop}
use Rattle.std.proofs.lemmas.Grind.{flat_map-append}
use Rattle.std.specs.Prelude.{IfSome, option_and_then}
use Rattle.std.specs.Option.{option_map}
use Rattle.std.specs.List.{flat_map, join_with_byte, slice_split}
use Rattle.yang_values.specs.Parts.{each, parts_in}

-- what is read, behind these values
abbrev pub with_front : List ℕ → Option (List ℕ) → Option (List ℕ)
with_front front read = option_map (λ values. front ++ values) read

-- no values in front change nothing
pub with_front-nil : (read : Option (List ℕ)) → with_front [] read ≡ read
with_front-nil None = refl
with_front-nil (Some values) = refl

-- the front of one more value
pub with_front_more : (value_of : List ℕ → Option ℕ) (front : List ℕ) (t : List ℕ) (ts : List (List ℕ)) (value : ℕ)
    → value_of t ≡ Some value → with_front front (each value_of (t ∷ ts)) ≡ with_front (front ++ value ∷ []) (each value_of ts)
unfolding each
with_front_more value_of front t ts value e = rw e (behind front value (each value_of ts))
  where
    behind : (front : List ℕ) (value : ℕ) (read : Option (List ℕ))
        → with_front front (option_map (λ values. value ∷ values) read) ≡ with_front (front ++ value ∷ []) read
    behind front value None = refl
    behind front value (Some values) = ap Some (sym (append_assoc front (value ∷ []) values))

-- a text without a value
pub with_front_none : (value_of : List ℕ → Option ℕ) (front : List ℕ) (t : List ℕ) (ts : List (List ℕ))
    → value_of t ≡ None → with_front front (each value_of (t ∷ ts)) ≡ None
unfolding each
with_front_none value_of front t ts e = rw e refl

-- no text is left
pub with_front_end : (value_of : List ℕ → Option ℕ) (front : List ℕ) → with_front front (each value_of []) ≡ Some front
unfolding each
with_front_end value_of front = ap Some (append-nil front)

longer : (front : List ℕ) (n : ℕ) → length front ≡ n → (first : Option ℕ) (others : Option (List ℕ))
    → IfSome (with_front front (option_and_then (λ value. option_and_then (λ values. Some (value ∷ values)) others) first))
    (λ values. n < length values)
longer front n size None others = tt
longer front n size (Some value) None = tt
longer front n size (Some value) (Some values) = rw length-append (omega arith)

-- the next part of what is left has a value
pub next_value : (is_mark : ℕ → Bool) (value_of : List ℕ → Option ℕ) (front : List ℕ) (all : Option (List ℕ)) (rest : Option (List ℕ))
    (text part : List ℕ) (more : Option (List ℕ)) (value : ℕ)
    → with_front front (each value_of (parts_in is_mark rest)) ≡ all → rest ≡ Some text
    → slice_split is_mark text ≡ part ∷ parts_in is_mark more → value_of part ≡ Some value
    → with_front (front ++ value ∷ []) (each value_of (parts_in is_mark more)) ≡ all
next_value is_mark value_of front all rest text part more value so_far some split found =
    sym (with_front_more value_of front part (parts_in is_mark more) value found)
    ∙ ap (λ parts. with_front front (each value_of parts)) (sym split)
    ∙ ap (λ left. with_front front (each value_of (parts_in is_mark left))) (sym some)
    ∙ so_far

-- the next part of what is left has none
pub next_none : (is_mark : ℕ → Bool) (value_of : List ℕ → Option ℕ) (front : List ℕ) (all : Option (List ℕ)) (rest : Option (List ℕ))
    (text part : List ℕ) (more : Option (List ℕ))
    → with_front front (each value_of (parts_in is_mark rest)) ≡ all → rest ≡ Some text
    → slice_split is_mark text ≡ part ∷ parts_in is_mark more → value_of part ≡ None → all ≡ None
next_none is_mark value_of front all rest text part more so_far some split none =
    sym so_far
    ∙ ap (λ left. with_front front (each value_of (parts_in is_mark left))) some
    ∙ ap (λ parts. with_front front (each value_of parts)) split
    ∙ with_front_none value_of front part (parts_in is_mark more) none

-- there is a next part, so there are more values than so far
pub more_left : (is_mark : ℕ → Bool) (value_of : List ℕ → Option ℕ) (front : List ℕ) (all : Option (List ℕ)) (rest : Option (List ℕ))
    (text part : List ℕ) (more : Option (List ℕ)) (n : ℕ) → length front ≡ n
    → with_front front (each value_of (parts_in is_mark rest)) ≡ all → rest ≡ Some text
    → slice_split is_mark text ≡ part ∷ parts_in is_mark more → IfSome all (λ values. n < length values)
unfolding each
more_left is_mark value_of front all rest text part more n size so_far some split =
    let whole : with_front front (each value_of (part ∷ parts_in is_mark more)) ≡ all =
    ap (λ parts. with_front front (each value_of parts)) (sym split)
    ∙ ap (λ left. with_front front (each value_of (parts_in is_mark left))) (sym some) ∙ so_far in
    let P : Option (List ℕ) → Type 0 = λ o. IfSome o (λ values. n < length values) in
    subst P whole (longer front n size (value_of part) (each value_of (parts_in is_mark more)))

-- nothing is left
pub none_left : (is_mark : ℕ → Bool) (value_of : List ℕ → Option ℕ) (front : List ℕ) (all : Option (List ℕ)) (rest : Option (List ℕ))
    → with_front front (each value_of (parts_in is_mark rest)) ≡ all → rest ≡ None → all ≡ Some front
none_left is_mark value_of front all rest so_far none =
    sym so_far
    ∙ ap (λ left. with_front front (each value_of (parts_in is_mark left))) none
    ∙ with_front_end value_of front

-- texts joined by a mark: the first, and each other one behind a mark
pub joined_is : (mark : ℕ) (text : ℕ → List ℕ) (x : ℕ) (xs : List ℕ)
    → join_with_byte mark (map text (x ∷ xs)) ≡ text x ++ flat_map (λ y. mark ∷ text y) xs
joined_is mark text x [] = sym (append-nil (text x))
joined_is mark text x (y ∷ ys) = let ih = joined_is mark text y ys in ap (λ rest. text x ++ mark ∷ rest) ih

-- the same of a list that isn't empty
pub joined_first : (mark : ℕ) (text : ℕ → List ℕ) (xs : List ℕ) → 0 < length xs
    → join_with_byte mark (map text xs) ≡ text (get_or xs 0 0) ++ flat_map (λ y. mark ∷ text y) (drop 1 xs)
joined_first mark text [] some = absurd (omega arith)
joined_first mark text (x ∷ xs) some = joined_is mark text x xs

-- what is written one after another
pub joined_end : (mark : ℕ) (text : ℕ → List ℕ) (xs rest : List ℕ) (start middle end : List ℕ) → 1 ≤ length xs → rest ≡ drop 1 xs
    → middle ≡ start ++ text (get_or xs 0 0) → end ≡ middle ++ flat_map (λ y. mark ∷ text y) rest
    → end ≡ start ++ join_with_byte mark (map text xs)
joined_end mark text xs rest start middle end some tail first others =
    others ∙ ap (λ r. middle ++ flat_map (λ y. mark ∷ text y) r) tail
    ∙ ap (λ m. m ++ flat_map (λ y. mark ∷ text y) (drop 1 xs)) first
    ∙ append_assoc start (text (get_or xs 0 0)) (flat_map (λ y. mark ∷ text y) (drop 1 xs))
    ∙ ap (λ t. start ++ t) (sym (joined_first mark text xs some))

-- nothing is joined
pub joined_none : (mark : ℕ) (text : ℕ → List ℕ) (xs : List ℕ) → length xs < 1 → [] ≡ join_with_byte mark (map text xs)
joined_none mark text [] none = refl
joined_none mark text (x ∷ xs) none = absurd (omega arith)

-- each value behind a mark: those before one, the mark, the one, and those after it
pub each_behind : (mark : ℕ) (text : ℕ → List ℕ) (xs : List ℕ) (i : ℕ) → i < length xs
    → flat_map (λ y. mark ∷ text y) xs
    ≡ (flat_map (λ y. mark ∷ text y) (take i xs) ++ mark ∷ []) ++ (text (get_or xs i 0) ++ flat_map (λ y. mark ∷ text y) (drop (suc i) xs))
each_behind mark text xs i inside =
    let f : ℕ → List ℕ = λ y. mark ∷ text y in
    let front = flat_map f (take i xs) in
    let tail = text (get_or xs i 0) ++ flat_map f (drop (suc i) xs) in
    ap (λ ys. flat_map f ys) (sym (take-append-drop i xs))
    ∙ flat_map-append f (take i xs) (drop i xs)
    ∙ ap (λ ys. front ++ flat_map f ys) (drop-cons xs i 0 inside)
    ∙ sym (append_assoc front (mark ∷ []) tail)

-- those before one, and what follows
pub each_before : (f : ℕ → List ℕ) (xs : List ℕ) (i : ℕ) → flat_map f xs ≡ flat_map f (take i xs) ++ flat_map f (drop i xs)
each_before f xs i = ap (λ ys. flat_map f ys) (sym (take-append-drop i xs)) ∙ flat_map-append f (take i xs) (drop i xs)
