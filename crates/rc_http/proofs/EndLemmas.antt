-- The place by place reading of a head ends where the head does.
use Rattle.std.proofs.Common.{◌≡◌, ℕ, ◌+◌, ◌<◌, ◌≤◌, List, [], ◌∷◌, ◌++◌, length, take, Some, None, refl, sym, ◌∙◌, arith, option_map}
use Rattle.std.specs.Option.{option_or}
use Rattle.rc_http.specs.declared.place.Place.{Place}
use Rattle.rc_http.specs.declared.place.Place.TheVariants.{Before, Text, Line, Return}
use Rattle.rc_http.specs.HeadEnd.{feed_len, empty_line_len, text_len, head_len}
use Rattle.rc_http.specs.Places.{place_after, len_from}
use Rattle.rc_http.proofs.PlaceLemmas.{len_later, len_kept, len_front, len_late, len_open}

pub record IsSame (xs : List ℕ) : Type 0 where
  pub before : len_from (Some Before) xs ≡ head_len xs
  pub text : len_from (Some Text) xs ≡ text_len xs
  pub line : len_from (Some Line) xs ≡ option_or (empty_line_len xs) (text_len xs)
  pub return : len_from (Some Return) xs ≡ option_or (feed_len xs) (text_len xs)

pub same : (xs : List ℕ) → IsSame xs
unfolding len_from
same [] = record { before = refl; text = refl; line = refl; return = refl }
same (x ∷ xs) = let ih = same xs in record {
  before = grind (arith, ih);
  text = grind (arith, ih);
  line = grind (arith, ih);
  return = grind (arith, ih);
}

-- what follows a whole head changes nothing
pub head_kept : (n : ℕ) (xs ys : List ℕ) → head_len xs ≡ Some n → (head_len (xs ++ ys) ≡ Some n) × (n ≤ length xs)
head_kept n xs ys e =
    let r = len_kept (Some Before) n xs ys ((same xs).before ∙ e) in
    (sym (same (xs ++ ys)).before ∙ r.0, r.1)

-- a head that isn't whole goes on at its place
pub head_later : (q : Place) (xs ys : List ℕ) → place_after (Some Before) xs ≡ Some q
    → head_len (xs ++ ys) ≡ option_map (λ k. length xs + k) (len_from (Some q) ys)
head_later q xs ys e = sym (same (xs ++ ys)).before ∙ len_later (Some Before) q xs ys e

-- the head's own octets alone are a whole head
pub head_front : (n : ℕ) (xs : List ℕ) → head_len xs ≡ Some n → head_len (take n xs) ≡ Some n
head_front n xs e = sym (same (take n xs)).before ∙ len_front (Some Before) n xs ((same xs).before ∙ e)

-- a head that isn't whole yet gets so later
pub head_late : (n : ℕ) (xs ys : List ℕ) → head_len xs ≡ None → head_len (xs ++ ys) ≡ Some n → length xs < n
head_late n xs ys none some =
    len_late (Some Before) n xs ys ((same xs).before ∙ none) ((same (xs ++ ys)).before ∙ some)

-- no head is whole on the way to a place
pub head_open : (q : Place) (xs : List ℕ) → place_after (Some Before) xs ≡ Some q → head_len xs ≡ None
head_open q xs e = sym (same xs).before ∙ len_open (Some Before) q xs e
