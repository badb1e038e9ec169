-- The values of a field, and the value of digits.
use Rattle.std.proofs.Common.{◌≡◌, ◌≢◌, ◌==◌, Ok, Err, codes, ℕ, ◌+◌, ◌-◌, ◌*◌, ◌^◌, ◌<◌, ◌≤◌, Bool, true, false, List, [], ◌∷◌, ◌++◌, map, length, take, get_or, length-append, refl, sym, ap, ◌∙◌, arith, rules, bytes_eq, IsTrue, ◌↔◌}
use Rattle.std.specs.List.{list_all}
use Rattle.std.specs.Char.{is_ascii_digit, digit_value}
use Rattle.std.specs.Str.Parse.{digits_value}
use Rattle.std.proofs.lemmas.List.{take_more, map-append, append-nil}
use Rattle.std.proofs.lemmas.Slice.Eq.{bytes_eq-Decides}
use Rattle.std.proofs.lemmas.Int.Digits.{digits_value_more}
use Rattle.std.proofs.lemmas.Str.Parse.{IsDigitsTest, IsNumeralModel, numerals_by_value, digit_at, digits_value-take-le, digits_value_short}
use Rattle.http_header.specs.Token.{lowercase}
use Rattle.rc_http.specs.declared.message.HttpFault.TheVariants as faults
use Rattle.rc_http.specs.declared.message.Kind.{Kind}
use Rattle.rc_http.specs.declared.message.Kind.TheVariants.{Request, Response}
use Rattle.rc_http.specs.Heads.{values_of, len_of, len_without, len_by, stated_len}

-- every octet is a decimal digit
abbrev pub AreDigits : List ℕ → Type 0
AreDigits ds = list_all is_ascii_digit ds ≡ true

tells_are_digits : IsDigitsTest AreDigits
tells_are_digits = search rules

pub decimal_model : IsNumeralModel AreDigits (digits_value 10)
decimal_model = numerals_by_value AreDigits tells_are_digits

-- a digit is from 48 to 57
pub digit_in : (ds : List ℕ) (i : ℕ) → AreDigits ds → i < length ds → (48 ≤ get_or ds i 0) × (get_or ds i 0 ≤ 57)
digit_in ds i are lt = let r = digit_at ds i (decimal_model.to ds are) lt in (r.0, r.1)

digit_value_is : (c : ℕ) → 48 ≤ c → c ≤ 57 → digit_value c ≡ c - 48
digit_value_is c low high = grind arith

-- a front of the digits with one more
pub front_more : (ds : List ℕ) (i : ℕ) → AreDigits ds → i < length ds
    → digits_value 10 (take (i + 1) ds) ≡ 10 * digits_value 10 (take i ds) + (get_or ds i 0 - 48)
front_more ds i are lt = let e = digits_value_more 10 ds i lt in let r = digit_in ds i are lt in
    let v = digit_value_is (get_or ds i 0) r.0 r.1 in
    omega (arith, e, v)

-- a front of at most ten digits is small
pub front_small : (ds : List ℕ) (i : ℕ) → AreDigits ds → length ds ≤ 10 → digits_value 10 (take i ds) < 10 ^ 10
front_small ds i are few =
    let le = digits_value-take-le 10 ds i (omega arith) in
    let lt = digits_value_short decimal_model ds 10 are few in
    omega (arith, le, lt)

-- the values over two lists of fields
pub values_append : (name : List ℕ) (xs ys : List (List ℕ × List ℕ))
    → values_of name (xs ++ ys) ≡ values_of name xs ++ values_of name ys
values_append name [] ys = refl
values_append name (x ∷ xs) ys = let ih = values_append name xs ys in grind (arith, ih)

module _ {S : Type 0} (f : S → List ℕ × List ℕ) (name : List ℕ) where
  -- one field more
  pub values_more : (xs : List S) (i : ℕ) (d : S) → i < length xs
      → values_of name (map f (take (i + 1) xs))
      ≡ values_of name (map f (take i xs)) ++ values_of name (f (get_or xs i d) ∷ [])
  values_more xs i d lt =
      ap (λ l. values_of name (map f l)) (take_more xs i d lt)
      ∙ ap (values_of name) (map-append f (take i xs) (get_or xs i d ∷ []))
      ∙ values_append name (map f (take i xs)) (f (get_or xs i d) ∷ [])

  pub values_named : (xs : List S) (i : ℕ) (d : S) → i < length xs
      → bytes_eq (lowercase (f (get_or xs i d)).0) (lowercase name) ≡ true
      → values_of name (map f (take (i + 1) xs)) ≡ values_of name (map f (take i xs)) ++ (f (get_or xs i d)).1 ∷ []
  values_named xs i d lt e = values_more xs i d lt ∙ rw e refl

  pub values_other : (xs : List S) (i : ℕ) (d : S) → i < length xs
      → bytes_eq (lowercase (f (get_or xs i d)).0) (lowercase name) ≡ false
      → values_of name (map f (take (i + 1) xs)) ≡ values_of name (map f (take i xs))
  values_other xs i d lt e = values_more xs i d lt ∙ rw e (append-nil (values_of name (map f (take i xs))))

pub named_by : (a b name : List ℕ) (r t : Bool) → a ≡ b → r ≡ bytes_eq (lowercase a) (lowercase name) → r ≡ t
    → bytes_eq (lowercase b) (lowercase name) ≡ t
named_by a b name r t e n is = ap (λ x. bytes_eq (lowercase x) (lowercase name)) (sym e) ∙ sym n ∙ is

-- one value more
pub count_more : (vs ws : List (List ℕ)) (v : List ℕ) (n m : ℕ) → ws ≡ vs ++ v ∷ [] → n ≡ length vs → m ≡ n + 1 → m ≡ length ws
count_more vs ws v n m e count more = omega (arith, count, more, ap length e, length-append vs (v ∷ []))

pub lone_more : (vs ws : List (List ℕ)) (v : List ℕ) (n m : ℕ) → ws ≡ vs ++ v ∷ [] → n ≡ length vs → m ≡ n + 1 → m ≡ 1
    → ws ≡ v ∷ []
lone_more [] ws v n m e count more one = e
lone_more (x ∷ vs) ws v n m e count more one = absurd (omega (arith, count, more, one))

-- two names are one
pub named : (a b : List ℕ) (r : Bool) → IsTrue r ↔ (a ≡ b) → r ≡ bytes_eq a b
named a b r e = grind (arith, e, bytes_eq-Decides a b)

-- the length of the body by how many values there are
pub len_unknown : (kind : Kind) (minor : ℕ) (fields : List (List ℕ × List ℕ)) → minor ≢ 1 → len_of kind minor fields ≡ Err faults.Version
unfolding len_of
len_unknown kind minor fields n = grind (arith, n)

pub len_known : (kind : Kind) (minor : ℕ) (fields : List (List ℕ × List ℕ)) → minor ≡ 1
    → len_of kind minor fields
    ≡ len_without kind (values_of (codes "Transfer-Encoding") fields) (values_of (codes "Content-Length") fields)
unfolding len_of
len_known kind minor fields e = grind (arith, e)

pub len_chunked : (kind : Kind) (vs ls : List (List ℕ)) → 0 < length vs → len_without kind vs ls ≡ Err faults.Chunked
len_chunked kind [] ls some = absurd (omega (arith, some))
len_chunked kind (v ∷ vs) ls some = refl

pub len_plain : (kind : Kind) (vs ls : List (List ℕ)) → length vs ≡ 0 → len_without kind vs ls ≡ len_by kind ls
len_plain kind [] ls none = refl
len_plain kind (v ∷ vs) ls none = absurd (omega (arith, none))

pub len_none : (kind : Kind) (ls : List (List ℕ)) → length ls ≡ 0 → len_by kind ls ≡ Ok 0
len_none kind [] none = refl
len_none kind (v ∷ ls) none = absurd (omega (arith, none))

pub len_repeated : (kind : Kind) (ls : List (List ℕ)) → 2 ≤ length ls → len_by kind ls ≡ Err faults.Head
len_repeated kind [] more = absurd (omega (arith, more))
len_repeated kind (v ∷ []) more = absurd (omega (arith, more))
len_repeated kind (v ∷ w ∷ ls) more = refl

module _ (kind : Kind) (minor : ℕ) (fields : List (List ℕ × List ℕ)) (n m : ℕ) (is : minor ≡ 1)
    (n-is : n ≡ length (values_of (codes "Transfer-Encoding") fields))
    (m-is : m ≡ length (values_of (codes "Content-Length") fields)) where
  plain : n ≤ 0 → len_of kind minor fields ≡ len_by kind (values_of (codes "Content-Length") fields)
  plain none = len_known kind minor fields is
      ∙ len_plain kind (values_of (codes "Transfer-Encoding") fields) (values_of (codes "Content-Length") fields)
      (omega (arith, n-is, none))

  pub announced_none : n ≤ 0 → m ≡ 0 → Ok 0 ≡ len_of kind minor fields
  announced_none none zero-is = sym (plain none ∙ len_none kind (values_of (codes "Content-Length") fields) (omega (arith, m-is, zero-is)))

  pub announced_one : n ≤ 0 → (v : List ℕ) → values_of (codes "Content-Length") fields ≡ v ∷ []
      → stated_len kind v ≡ len_of kind minor fields
  announced_one none v e = sym (plain none ∙ ap (len_by kind) e)

  pub announced_more : n ≤ 0 → 2 ≤ m → Err faults.Head ≡ len_of kind minor fields
  announced_more none more =
      sym (plain none ∙ len_repeated kind (values_of (codes "Content-Length") fields) (omega (arith, m-is, more)))

pub announced_chunked : (kind : Kind) (minor : ℕ) (fields : List (List ℕ × List ℕ)) (n : ℕ) → minor ≡ 1
    → n ≡ length (values_of (codes "Transfer-Encoding") fields) → 0 < n → Err faults.Chunked ≡ len_of kind minor fields
announced_chunked kind minor fields n is n-is some =
    sym (len_known kind minor fields is
    ∙ len_chunked kind (values_of (codes "Transfer-Encoding") fields) (values_of (codes "Content-Length") fields)
    (omega (arith, n-is, some)))

-- no length passes 16 MiB
stated_small : (kind : Kind) (v : List ℕ) (n : ℕ) → stated_len kind v ≡ Ok n → n ≤ 16777216
stated_small Request v n e = grind (arith, e)
stated_small Response v n e = grind (arith, e)

by_small : (kind : Kind) (ls : List (List ℕ)) (n : ℕ) → len_by kind ls ≡ Ok n → n ≤ 16777216
by_small kind [] n e = let z : 0 ≡ n = cc in omega (arith, z)
by_small kind (v ∷ []) n e = stated_small kind v n e
by_small kind (v ∷ w ∷ ls) n e = cc

without_small : (kind : Kind) (vs ls : List (List ℕ)) (n : ℕ) → len_without kind vs ls ≡ Ok n → n ≤ 16777216
without_small kind [] ls n e = by_small kind ls n e
without_small kind (v ∷ vs) ls n e = cc

known_small : (kind : Kind) (minor : ℕ) (fields : List (List ℕ × List ℕ)) (n : ℕ) (b : Bool) → (minor == 1) ≡ b
    → len_of kind minor fields ≡ Ok n → n ≤ 16777216
unfolding len_of
known_small kind minor fields n true t e =
    without_small kind (values_of (codes "Transfer-Encoding") fields) (values_of (codes "Content-Length") fields) n (rw t at e)
known_small kind minor fields n false t e = let no : Err faults.Version ≡ Ok n = rw t at e in cc

pub len_small : (kind : Kind) (minor : ℕ) (fields : List (List ℕ × List ℕ)) (n : ℕ) → len_of kind minor fields ≡ Ok n → n ≤ 16777216
len_small kind minor fields n e = known_small kind minor fields n (minor == 1) refl e
