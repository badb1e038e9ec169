-- Keys by their parts.
use Rattle.std.proofs.Common.{◌≡◌, ℕ, ◌-◌, ◌≤◌, Bool, true, false, cond, ◌||◌, List, [], ◌∷◌, ◌++◌, Option, Some, None, is_some, map, length, take, drop, refl, sym, ap, ◌∙◌, not, nat_le, if◌then◌else◌, arith, length-append}
use Rattle.std.proofs.lemmas.List.{map-append}
use Rattle.std.proofs.Math.Seq.{take-append_seam}
use Rattle.std.proofs.lemmas.Grind.{common_steps}
use Rattle.std.proofs.lemmas.Slice.Eq.{bytes_eq-Decides}
use Rattle.std.specs.Map.{lookup}
use Rattle.std.specs.Str.{bytes_eq}
use Rattle.ikeless_tree.specs.Check.{is_key_length}
use Rattle.ikeless_tree.specs.declared.command.Refusal.TheVariants as refusals
use Rattle.ikeless_tree.specs.Half.{aes_part}
use Rattle.hist_controller.specs.Law.{is_seen}
use Rattle.ctl_tunnels.specs.Rings.{key_refusal}

flip : (xs ys : List ℕ) → bytes_eq xs ys ≡ bytes_eq ys xs
flip xs ys = case (bytes_eq xs ys) (bytes_eq ys xs) refl refl
  where
    case : (a b : Bool) → bytes_eq xs ys ≡ a → bytes_eq ys xs ≡ b → a ≡ b
    case true true e f = refl
    case false false e f = refl
    case true false e f = sym ((bytes_eq-Decides ys xs).1 (sym ((bytes_eq-Decides xs ys).0 e))) ∙ f
    case false true e f = sym e ∙ (bytes_eq-Decides xs ys).1 (sym ((bytes_eq-Decides ys xs).0 f))

-- the AES key of an AES key and a salt
pub aes-of-whole : (aes salt : List ℕ) → length salt ≡ 4 → aes_part (aes ++ salt) ≡ aes
aes-of-whole aes salt four =
    let n : length (aes ++ salt) - 4 ≡ length aes = grind (arith, length-append aes salt) in
    ap (λ k. take k (aes ++ salt)) n ∙ take-append_seam aes salt

-- a key that a map of AES keys has is one that was seen
pub seen-lookup : {K V : Type 0} (part : K → List ℕ) (salt : V → List ℕ) → ((v : V) → length (salt v) ≡ 4) → (k q : List ℕ) → q ≡ aes_part k
    → (es : List (K × V)) → is_some (lookup (λ x. bytes_eq q (part x)) es) ≡ is_seen k (map (λ e. part e.0 ++ salt e.1) es)
seen-lookup part salt four k q e [] = refl
seen-lookup part salt four k q e (x ∷ xs) =
    let ih = seen-lookup part salt four k q e xs in
    let a : bytes_eq q (part x.0) ≡ bytes_eq (aes_part (part x.0 ++ salt x.1)) (aes_part k) =
    flip q (part x.0) ∙ ap (bytes_eq (part x.0)) e ∙ ap (λ y. bytes_eq y (aes_part k)) (sym (aes-of-whole (part x.0) (salt x.1) (four x.1)))
    in
    case (bytes_eq q (part x.0)) (bytes_eq (aes_part (part x.0 ++ salt x.1)) (aes_part k)) a ih
  where
    case : (b c : Bool) → b ≡ c → is_some (lookup (λ y. bytes_eq q (part y)) xs) ≡ is_seen k (map (λ z. part z.0 ++ salt z.1) xs)
        → is_some (cond b (Some x.1) (lookup (λ y. bytes_eq q (part y)) xs)) ≡ (c || is_seen k (map (λ z. part z.0 ++ salt z.1) xs))
    case true true f g = refl
    case false false f g = g
    case true false f g = cc
    case false true f g = cc

none-of : {A : Type 0} (o : Option A) → is_some o ≡ false → o ≡ None
none-of None e = refl
none-of (Some x) e = cc

-- keying material that is not refused has a length and was not seen, and there is room for it
pub not-refused : (k : List ℕ) (keys : List (List ℕ)) → key_refusal k keys ≡ None → (is_key_length (length k) ≡ true)
    × (is_seen k keys ≡ false) × (nat_le 1048576 (length keys) ≡ false)
not-refused k keys e = case (is_key_length (length k)) (is_seen k keys) (nat_le 1048576 (length keys)) e
  where
    case : (a b c : Bool) → (if not a then Some refusals.KeyLength else if b then Some refusals.KeySeen else if c
        then Some refusals.KeyLimit else None) ≡ None → (a ≡ true) × (b ≡ false) × (c ≡ false)
    case true false false f = (refl, refl, refl)
    case true false true f = cc
    case true true c f = cc
    case false b c f = cc

pub absent : {K V : Type 0} (part : K → List ℕ) (salt : V → List ℕ) → ((v : V) → length (salt v) ≡ 4) → (k q : List ℕ) → q ≡ aes_part k
    → (es : List (K × V)) (keys : List (List ℕ)) → map (λ e. part e.0 ++ salt e.1) es ≡ keys → key_refusal k keys ≡ None
    → lookup (λ x. bytes_eq q (part x)) es ≡ None
absent part salt four k q e es keys v free =
    none-of (lookup (λ x. bytes_eq q (part x)) es) (seen-lookup part salt four k q e es ∙ ap (is_seen k) v ∙ (not-refused k keys free).1)

pub one-more : {K V : Type 0} (part : K → List ℕ) (salt : V → List ℕ) (es new : List (K × V)) (k : K) (v : V) (key : List ℕ)
    (keys : List (List ℕ)) → map (λ e. part e.0 ++ salt e.1) es ≡ keys → new ≡ es ++ (k, v) ∷ [] → part k ++ salt v ≡ key
    → map (λ e. part e.0 ++ salt e.1) new ≡ keys ++ key ∷ []
one-more part salt es new k v key keys m n e =
    ap (map (λ z. part z.0 ++ salt z.1)) n ∙ map-append (λ z. part z.0 ++ salt z.1) es ((k, v) ∷ [])
    ∙ ap (λ z. map (λ w. part w.0 ++ salt w.1) es ++ z ∷ []) e ∙ ap (λ z. z ++ key ∷ []) m
