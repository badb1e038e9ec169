-- Where no two peers have one name, a name tells the number.
use Rattle.std.proofs.Common.{◌≡◌, ℕ, ◌+◌, ◌-◌, ◌<◌, Bool, true, false, ◌==◌, not, List, [], ◌∷◌, length, refl, sym, ◌∙◌, arith, if◌then◌else◌}
use Rattle.std.proofs.lemmas.Bool.{and_parts, not-true}
use Rattle.std.proofs.lemmas.Slice.Eq.{bytes_eq-Decides}
use Rattle.std.specs.List.{list_all}
use Rattle.std.specs.Str.{bytes_eq}
use Rattle.ikeless_tree.specs.declared.command.Peer.{Peer}
use Rattle.hist_controller.specs.Law.{peer_number}
use Rattle.hist_controller.specs.Told.{peer_name, Named, are_names_apart}

same-bytes : (xs : List ℕ) → bytes_eq xs xs ≡ true
same-bytes xs = (bytes_eq-Decides xs xs).1 refl

turned : (xs ys : List ℕ) (b : Bool) → bytes_eq ys xs ≡ b → bytes_eq xs ys ≡ false → b ≡ false
turned xs ys true e f =
    let q : ys ≡ xs = (bytes_eq-Decides ys xs).0 e in
    let r : bytes_eq xs ys ≡ true = (bytes_eq-Decides xs ys).1 (sym q) in
    absurd (let u : true ≡ false = sym r ∙ f in cc)
turned xs ys false e f = refl

-- the first name is none of the others
apart-at : (n : List ℕ) (ps : List Peer) (i : ℕ) → list_all (λ q. not (bytes_eq n q.name)) ps ≡ true → i < length ps
    → bytes_eq n (peer_name ps i) ≡ false
apart-at n [] i e l = absurd (omega arith)
apart-at n (p ∷ ps) i e l = case (i == 0) refl (and_parts (not (bytes_eq n p.name)) (list_all (λ q. not (bytes_eq n q.name)) ps) e)
    (apart-at n ps (i - 1))
  where
    case : (b : Bool) → (i == 0) ≡ b → (not (bytes_eq n p.name) ≡ true) × (list_all (λ q. not (bytes_eq n q.name)) ps ≡ true)
        → (list_all (λ q. not (bytes_eq n q.name)) ps ≡ true → i - 1 < length ps → bytes_eq n (peer_name ps (i - 1)) ≡ false)
        → bytes_eq n (if b then p.name else peer_name ps (i - 1)) ≡ false
    case true t q f = not-true (bytes_eq n p.name) q.0
    case false t q f = f q.1 (grind arith)

pub named : (ps : List Peer) → are_names_apart ps ≡ true → Named ps
named [] e f g i j = absurd (omega arith)
named (p ∷ ps) e f g i j =
    case (f == 0) (g == 0) refl refl (and_parts (list_all (λ q. not (bytes_eq p.name q.name)) ps) (are_names_apart ps) e)
    (λ a b c. named ps a (f - 1) (g - 1) b c)
  where
    case : (b c : Bool) → (f == 0) ≡ b → (g == 0) ≡ c → (list_all (λ q. not (bytes_eq p.name q.name)) ps ≡ true)
        × (are_names_apart ps ≡ true) → (are_names_apart ps ≡ true → f - 1 < length ps → g - 1 < length ps
        → bytes_eq (peer_name ps (f - 1)) (peer_name ps (g - 1)) ≡ (g - 1 == f - 1)) → bytes_eq (if b then p.name else peer_name ps (f - 1))
        (if c then p.name else peer_name ps (g - 1)) ≡ (g == f)
    case true true t u q r = let w : (g == f) ≡ true = grind arith in same-bytes p.name ∙ sym w
    case true false t u q r = let w : (g == f) ≡ false = grind arith in apart-at p.name ps (g - 1) q.0 (grind arith) ∙ sym w
    case false true t u q r = let w : (g == f) ≡ false = grind arith in
        turned p.name (peer_name ps (f - 1)) (bytes_eq (peer_name ps (f - 1)) p.name) refl (apart-at p.name ps (f - 1) q.0 (grind arith))
        ∙ sym w
    case false false t u q r = let w : (g - 1 == f - 1) ≡ (g == f) = same (g == f) refl in r q.1 (grind arith) (grind arith) ∙ w
      where
        same : (b : Bool) → (g == f) ≡ b → (g - 1 == f - 1) ≡ b
        same true v = grind arith
        same false v = grind arith

-- and the number tells the name
pub numbered-name : (ps : List Peer) → are_names_apart ps ≡ true → (g : ℕ) → g < length ps → peer_number (peer_name ps g) ps ≡ g
numbered-name [] e g i = absurd (omega arith)
numbered-name (p ∷ ps) e g i = case (g == 0) refl (and_parts (list_all (λ q. not (bytes_eq p.name q.name)) ps) (are_names_apart ps) e)
    (λ a b. numbered-name ps a (g - 1) b)
  where
    case : (b : Bool) → (g == 0) ≡ b → (list_all (λ q. not (bytes_eq p.name q.name)) ps ≡ true) × (are_names_apart ps ≡ true)
        → (are_names_apart ps ≡ true → g - 1 < length ps → peer_number (peer_name ps (g - 1)) ps ≡ g - 1)
        → (if bytes_eq p.name (if b then p.name else peer_name ps (g - 1)) then 0
        else peer_number (if b then p.name else peer_name ps (g - 1)) ps + 1) ≡ g
    case true t q r = let s = same-bytes p.name in rw s (grind arith)
    case false t q r =
        let s = apart-at p.name ps (g - 1) q.0 (grind arith) in
        let v : peer_number (peer_name ps (g - 1)) ps ≡ g - 1 = r q.1 (grind arith) in
        rw s (grind arith)
