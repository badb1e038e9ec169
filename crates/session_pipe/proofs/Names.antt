-- Names of gateways and of their sessions.
use Rattle.std.proofs.Common.{◌≡◌, ◌==◌, ◌&&◌, ℕ, ◌<◌, Bool, true, false, List, refl, arith, if◌then◌else◌}
use Rattle.std.specs.Str.{bytes_eq}
use Rattle.std.proofs.lemmas.Slice.Eq.{bytes_eq-Decides}
use Rattle.hist_acts.specs.Sessions.{is_session}

pub same_name : (f g : List ℕ) → bytes_eq f g ≡ true → f ≡ g
same_name f g e = (bytes_eq-Decides f g).0 e

pub own_name : (g : List ℕ) → bytes_eq g g ≡ true
own_name g = (bytes_eq-Decides g g).1 refl

pub both_left : (a b : Bool) → (a && b) ≡ true → a ≡ true
both_left true b e = refl
both_left false b e = e

pub both_right : (a b : Bool) → (a && b) ≡ true → b ≡ true
both_right true b e = e
both_right false true e = refl
both_right false false e = e

pub not_true : (b : Bool) → (b ≡ true → ⊥) → b ≡ false
not_true true q = absurd (q refl)
not_true false q = refl

pub same_number : (t s : ℕ) → (t == s) ≡ true → t ≡ s
same_number t s e = grind arith

-- a session with a lower number is another one
pub other_session : (f : List ℕ) (t : ℕ) (g : List ℕ) (s : ℕ) → (f ≡ g → t < s) → is_session f t g s ≡ false
other_session f t g s less = not_true (bytes_eq f g && (t == s)) (λ e.
    let n = less (same_name f g (both_left (bytes_eq f g) (t == s) e)) in
    let m = same_number t s (both_right (bytes_eq f g) (t == s) e) in
    omega arith)

pub if_not : {A : Type 0} (b : Bool) (x y : A) → b ≡ false → (if b then x else y) ≡ y
if_not true x y e = absurd (grind arith)
if_not false x y e = refl
