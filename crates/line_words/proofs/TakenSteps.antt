-- Steps that were taken, and what follows from what they gave.
use Rattle.std.proofs.Common.{◌≡◌, ℕ, ◌≤◌, nat_lt, not, Bool, true, false, List, [], ◌∷◌, Option, Some, None, Result, Ok, Err, cond, refl, sym, ap, ◌∙◌, subst}
use Rattle.std.specs.List.{AllByRecursion, slice_split}
use Rattle.std.specs.Str.Parse.{digits_value}
use Rattle.std.proofs.lemmas.Bool.{ltb-false}
use Rattle.std.proofs.lemmas.List.Elements.{All-from_recursion}
use Rattle.ikl_base.specs.declared.status.LineFault.{LineFault}
use Rattle.ikl_base.specs.declared.status.LineFault.TheVariants as faults
use Rattle.ikeless_tree.specs.Check.{spd_fault}
use Rattle.ikeless_tree.specs.declared.command.Peer.{Peer}
use Rattle.ikeless_tree.specs.declared.entry.SpdEntry.{SpdEntry}
use Rattle.ikeless_tree.specs.declared.fault.TreeFault.{TreeFault}
use Rattle.hist_acts.specs.Gateways.{is_named}
use Rattle.yang_values.specs.declared.value.BadValue.TheVariants as bad
use Rattle.yang_values.specs.Numbers.{is_number, number_of}
use Rattle.line_words.specs.Words.{◌>>=◌, or_fault, each, known_of, number_in}
use Rattle.line_words.specs.Entry.{is_comma, use_of, selector_in, entry_in, entry_of, entries_of, unless_fault}
use Rattle.line_words.specs.Spelling.{HasWindow, IsListed}

-- ---- steps that were taken

-- what follows where the first step gave a value
pub after : {A B : Type 0} → (P : Type 0) (r : Result A LineFault) (f : A → Result B LineFault) (y : B) → (r >>= f) ≡ Ok y
    → ((x : A) → r ≡ Ok x → f x ≡ Ok y → P) → P
after P (Ok x) f y is k = k x refl is
after P (Err e) f y is k = cc

-- what follows where a test didn't refuse
pub passed : {B : Type 0} → (P : Type 0) (t : Bool) (r : Result B LineFault) (e : LineFault) (y : B) → cond t r (Err e) ≡ Ok y
    → (t ≡ true → r ≡ Ok y → P) → P
passed P true r e y is k = k refl is
passed P false r e y is k = cc

-- the first step or the other one
pub either : {B : Type 0} → (P : Type 0) (t : Bool) (r s : Result B LineFault) (y : B) → cond t r s ≡ Ok y → (r ≡ Ok y → P) → (s ≡ Ok y → P)
    → P
either P true r s y is f g = f is
either P false r s y is f g = g is

pub inside : {A : Type 0} → (x y : A) → ◌≡◌ {A = Result A LineFault} (Ok x) (Ok y) → x ≡ y
inside x y same = cc

-- what holds of each value that is read
pub each_has : {A : Type 0} → (P : A → Type 0) (f : List ℕ → Result A LineFault) → ((w : List ℕ) (x : A) → f w ≡ Ok x → P x)
    → (ws : List (List ℕ)) (xs : List A) → each f ws ≡ Ok xs → AllByRecursion P xs
each_has P f has [] [] is = tt
each_has P f has [] (x ∷ xs) is = cc
each_has P f has (w ∷ ws) xs is =
    after (AllByRecursion P xs) (f w) (λ y. each f ws >>= (λ ys. Ok (y ∷ ys))) xs is
    (λ y read more. after (AllByRecursion P xs) (each f ws) (λ ys. Ok (y ∷ ys)) xs more
    (λ ys rest same. let e : y ∷ ys ≡ xs = cc in subst (AllByRecursion P) e (has w y read, each_has P f has ws ys rest)))

-- ---- lists

entry_window : (w : List ℕ) (e : SpdEntry) → entry_of w ≡ Ok e → HasWindow e
unfolding entry_in
entry_window w e read = parts (slice_split is_comma w) e read
  where
    parts : (ps : List (List ℕ)) (e : SpdEntry) → entry_in ps ≡ Ok e → HasWindow e
    parts [] e is = cc
    parts (a ∷ []) e is = cc
    parts (a ∷ b ∷ []) e is = cc
    parts (a ∷ b ∷ c ∷ []) e is = cc
    parts (name ∷ direction ∷ reqid ∷ action ∷ selector) e is =
        after (HasWindow e) (use_of direction reqid action) _ e is
        (λ u _ more. after (HasWindow e) (selector_in selector) _ e more
        (λ s _ same. ap SpdEntry.window (sym (inside _ e same))))

pub listed : (ws : List (List ℕ)) (list good : List SpdEntry) → entries_of ws ≡ Ok list → unless_fault (spd_fault list) list ≡ Ok good
    → IsListed good
listed ws list good read fits = by_fault (spd_fault list) refl fits
  where
    by_fault : (o : Option TreeFault) → spd_fault list ≡ o → unless_fault o list ≡ Ok good → IsListed good
    by_fault None none is =
        let e : list ≡ good = cc in
        subst IsListed e (record {
          fits = none;
          windows =
              All-from_recursion HasWindow list (each_has HasWindow entry_of entry_window ws list read);
        })
    by_fault (Some fault) some is = cc

-- ---- words

pub known_named : (gateways : List Peer) (w g : List ℕ) → known_of gateways w ≡ Ok g → is_named gateways g ≡ true
known_named gateways w g is =
    passed (is_named gateways g ≡ true) (is_named gateways w) (Ok w) faults.Gateway g is
    (λ named same. let e : w ≡ g = cc in ap (is_named gateways) (sym e) ∙ named)

-- a number that was read is at most what it may be
pub number_most : (fault : LineFault) (most : ℕ) (w : List ℕ) (n : ℕ) → number_in fault most w ≡ Ok n → n ≤ most
unfolding number_of
number_most fault most w n is = by_form (is_number w) refl is
  where
    by_range : (above : Bool) → nat_lt most (digits_value 10 w) ≡ above
        → or_fault fault (cond above (Err bad.Range) (Ok (digits_value 10 w))) ≡ Ok n → n ≤ most
    by_range true high h = cc
    by_range false fits h =
        let e : digits_value 10 w ≡ n = cc in
        subst (λ m. m ≤ most) e (ltb-false most (digits_value 10 w) fits)

    by_form : (b : Bool) → is_number w ≡ b
        → or_fault fault (cond (not b) (Err bad.Form) (cond (nat_lt most (digits_value 10 w)) (Err bad.Range) (Ok (digits_value 10 w)))) ≡
        Ok n → n ≤ most
    by_form true form h = by_range (nat_lt most (digits_value 10 w)) refl h
    by_form false form h = cc
