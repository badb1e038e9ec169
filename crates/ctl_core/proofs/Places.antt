-- Lists by their places, and what loops have left of them.
use Rattle.std.proofs.Common.{◌≡◌, ℕ, zero, suc, ◌+◌, ◌-◌, ◌<◌, ◌≤◌, ◌==◌, Bool, false, List, [], ◌∷◌, ◌++◌, length, drop, get_or, refl, sym, ap, ◌∙◌, arith, add-one, drop-cons, if◌then◌else◌}
use Rattle.std.proofs.Math.ListN.{set}
use Rattle.ctl_core.specs.declared.peer.Station.{Station}
use Rattle.ctl_core.specs.declared.peer.Waiting.{Waiting}
use Rattle.ctl_core.specs.Core.{at}
use Rattle.ctl_core.specs.Drafts.{queued}
use Rattle.ctl_core.specs.Step.{set_ready}

pub drop-item : {A : Type 0} (xs : List A) (i : ℕ) (x : A) → i < length xs → x ≡ get_or xs i x → drop i xs ≡ x ∷ drop (i + 1) xs
drop-item xs i x l e = rw add-one (drop-cons xs i x l ∙ ap (λ y. y ∷ drop (suc i) xs) (sym e))

-- what stands at a place, whatever would be there instead
pub stands : {A : Type 0} (xs : List A) (i : ℕ) (d e : A) → i < length xs → get_or xs i d ≡ get_or xs i e
stands [] i d e l = absurd (omega arith)
stands (x ∷ xs) zero d e l = refl
stands (x ∷ xs) (suc i) d e l = stands xs i d e (omega arith)

pub drop-all : {A : Type 0} (xs : List A) (i : ℕ) → length xs ≤ i → drop i xs ≡ []
drop-all [] zero l = refl
drop-all [] (suc i) l = refl
drop-all (x ∷ xs) zero l = absurd (omega arith)
drop-all (x ∷ xs) (suc i) l = drop-all xs i (omega arith)

pub at-set : (f : Station → Station) (g : ℕ) (ss : List Station) (x : Station) → g < length ss → x ≡ get_or ss g x
    → set ss g (f x) ≡ at g f ss
at-set f g [] x l e = absurd (omega arith)
at-set f zero (s ∷ ss) x l e = ap (λ y. f y ∷ ss) e
at-set f (suc k) (s ∷ ss) x l e =
    let ih : set ss k (f x) ≡ at k f ss = at-set f k ss x (omega arith) e in
    let n : suc k - 1 ≡ k = omega arith in
    let z : (suc k == 0) ≡ false = grind arith in
    ap (λ y. s ∷ y) (ih ∙ ap (λ m. at m f ss) (sym n)) ∙ ap (λ b. if b then f s ∷ ss else s ∷ at (suc k - 1) f ss) (sym z)

pub at-none : (f : Station → Station) (g : ℕ) (ss : List Station) → length ss ≤ g → ss ≡ at g f ss
at-none f g [] l = refl
at-none f g (s ∷ ss) l =
    let z : (g == 0) ≡ false = grind arith in
    ap (λ y. s ∷ y) (at-none f (g - 1) ss (omega arith)) ∙ ap (λ b. if b then f s ∷ ss else s ∷ at (g - 1) f ss) (sym z)

pub queued-set : (g : ℕ) (w : Waiting) (qs : List (List Waiting)) (x : List Waiting) → g < length qs → x ≡ get_or qs g x
    → set qs g (x ++ w ∷ []) ≡ queued g w qs
queued-set g w [] x l e = absurd (omega arith)
queued-set zero w (q ∷ qs) x l e = ap (λ y. (y ++ w ∷ []) ∷ qs) e
queued-set (suc k) w (q ∷ qs) x l e =
    let ih : set qs k (x ++ w ∷ []) ≡ queued k w qs = queued-set k w qs x (omega arith) e in
    let n : suc k - 1 ≡ k = omega arith in
    let z : (suc k == 0) ≡ false = grind arith in
    ap (λ y. q ∷ y) (ih ∙ ap (λ m. queued m w qs) (sym n)) ∙ ap (λ b. if b then (q ++ w ∷ []) ∷ qs else q ∷ queued (suc k - 1) w qs) (sym z)

pub queued-none : (g : ℕ) (w : Waiting) (qs : List (List Waiting)) → length qs ≤ g → qs ≡ queued g w qs
queued-none g w [] l = refl
queued-none g w (q ∷ qs) l =
    let z : (g == 0) ≡ false = grind arith in
    ap (λ y. q ∷ y) (queued-none (g - 1) w qs (omega arith)) ∙ ap (λ b. if b then (q ++ w ∷ []) ∷ qs else q ∷ queued (g - 1) w qs) (sym z)

pub ready-set : (g : ℕ) (b : Bool) (xs : List Bool) → g < length xs → set xs g b ≡ set_ready g b xs
ready-set g b [] l = absurd (omega arith)
ready-set zero b (x ∷ xs) l = refl
ready-set (suc k) b (x ∷ xs) l =
    let ih : set xs k b ≡ set_ready k b xs = ready-set k b xs (omega arith) in
    let n : suc k - 1 ≡ k = omega arith in
    let z : (suc k == 0) ≡ false = grind arith in
    ap (λ y. x ∷ y) (ih ∙ ap (λ m. set_ready m b xs) (sym n)) ∙ ap (λ q. if q then b ∷ xs else x ∷ set_ready (suc k - 1) b xs) (sym z)

pub ready-none : (g : ℕ) (b : Bool) (xs : List Bool) → length xs ≤ g → xs ≡ set_ready g b xs
ready-none g b [] l = refl
ready-none g b (x ∷ xs) l =
    let z : (g == 0) ≡ false = grind arith in
    ap (λ y. x ∷ y) (ready-none (g - 1) b xs (omega arith)) ∙ ap (λ q. if q then b ∷ xs else x ∷ set_ready (g - 1) b xs) (sym z)
