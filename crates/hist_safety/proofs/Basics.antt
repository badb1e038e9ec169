-- Tests on names and numbers, and choices by them.
use Rattle.std.proofs.Common.{◌≡◌, ℕ, ◌+◌, ◌≤◌, Bool, true, false, ◌==◌, ◌&&◌, ◌||◌, List, Option, Some, ◌⊎◌, inl, inr, refl, sym, arith, if◌then◌else◌}
use Rattle.std.proofs.lemmas.Bool.{false_from_ne_true, and_from}
use Rattle.std.specs.Str.{bytes_eq}
use Rattle.std.proofs.lemmas.Slice.Eq.{bytes_eq-Decides}
use Rattle.hist_acts.specs.Sessions.{is_session}
use Rattle.hist_halves.specs.Halves.{is_half}

pub no : false ≡ true → ⊥
no e = grind arith

pub or-false : (b c : Bool) → b ≡ false → (b || c) ≡ true → c ≡ true
or-false b c e f = grind arith

pub or-split : {A : Type 0} (b c : Bool) → (b ≡ true → A) → (c ≡ true → A) → (b || c) ≡ true → A
or-split true c f g e = f refl
or-split false c f g e = g e

pub both-left : (b c : Bool) → (b && c) ≡ true → b ≡ true
both-left true c e = refl
both-left false c e = absurd (no e)

pub both-right : (b c : Bool) → (b && c) ≡ true → c ≡ true
both-right true c e = e
both-right false c e = absurd (no e)

pub eq-nat : (n m : ℕ) → (n == m) ≡ true → n ≡ m
eq-nat n m e = grind arith

pub self : (n : ℕ) → (n == n) ≡ true
self n = grind arith

pub some-is : {A : Type 0} (a b : A) → Some a ≡ Some b → a ≡ b
some-is a b e = grind arith

-- the name in the act is the one asked for
pub name-is : (y x : List ℕ) → bytes_eq y x ≡ true → y ≡ x
name-is y x e = (bytes_eq-Decides y x).0 e

pub name-self : (x : List ℕ) → bytes_eq x x ≡ true
name-self x = (bytes_eq-Decides x x).1 refl

pub name-true : (y x : List ℕ) → y ≡ x → bytes_eq y x ≡ true
name-true y x e = (bytes_eq-Decides y x).1 e

pub name-not : (y x : List ℕ) → (y ≡ x → ⊥) → bytes_eq y x ≡ false
name-not y x q = false_from_ne_true (bytes_eq y x) (λ e. q (name-is y x e))

pub half-is : (f y g x : List ℕ) → is_half f y g x ≡ true → (f ≡ g) × (y ≡ x)
half-is f y g x e = (name-is f g (both-left (bytes_eq f g) (bytes_eq y x) e), name-is y x (both-right (bytes_eq f g) (bytes_eq y x) e))

pub half-true : (f y g x : List ℕ) → f ≡ g → y ≡ x → is_half f y g x ≡ true
half-true f y g x p q = and_from (bytes_eq f g) (bytes_eq y x) (name-true f g p) (name-true y x q)

pub session-self : (g : List ℕ) (s : ℕ) → is_session g s g s ≡ true
session-self g s = and_from (bytes_eq g g) (s == s) (name-self g) (self s)

pub session-is : (f : List ℕ) (t : ℕ) (g : List ℕ) (s : ℕ) → is_session f t g s ≡ true → (f ≡ g) × (t ≡ s)
session-is f t g s e = (name-is f g (both-left (bytes_eq f g) (t == s) e), eq-nat t s (both-right (bytes_eq f g) (t == s) e))

-- this request is the one asked for
pub spot-is : (f : List ℕ) (t j : ℕ) (g : List ℕ) (s k : ℕ) → (is_session f t g s && (j == k)) ≡ true → (f ≡ g) × (t ≡ s) × (j ≡ k)
spot-is f t j g s k e =
    let p = session-is f t g s (both-left (is_session f t g s) (j == k) e) in
    (p.0, p.1, eq-nat j k (both-right (is_session f t g s) (j == k) e))

pub more : (b : Bool) (m n : ℕ) → m ≤ n → m ≤ (if b then n + 1 else n)
more b m n p = grind arith

pub if-old : {A : Type 0} (b : Bool) (x y : A) → b ≡ false → (if b then x else y) ≡ y
if-old true x y e = absurd (no (sym e))
if-old false x y e = refl

pub if-new : {A : Type 0} (b : Bool) (x y : A) → b ≡ true → (if b then x else y) ≡ x
if-new true x y e = refl
if-new false x y e = absurd (no e)

-- what a choice gives is what was there first, or what was there before
pub if-cases : {A : Type 0} (b : Bool) (t u : A) (o : Option A) → (if b then Some t else o) ≡ Some u → ((b ≡ true) × (t ≡ u)) ⊎ (o ≡ Some u)
if-cases true t u o e = inl (refl, some-is t u e)
if-cases false t u o e = inr e
