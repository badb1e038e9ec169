-- An address that a text is, is whole: of four octets or of sixteen.
use Rattle.std.proofs.Common.{◌≡◌, ℕ, ◌+◌, ◌-◌, ◌<◌, ◌==◌, Bool, true, false, not, nat_lt, List, [], ◌∷◌, ◌++◌, length, map, replicate, drop, take, Option, Some, None, option_and_then, Result, Ok, Err, cond, refl, sym, ◌∙◌, ap, subst, arith, if◌then◌else◌}
use Rattle.std.proofs.lemmas.Grind.{common_steps}
use Rattle.std.proofs.lemmas.Bool.{and_parts}
use Rattle.std.proofs.lemmas.List.{length-replicate, length-map, length-append}
use Rattle.std.specs.List.{list_all, list_any, slice_split}
use Rattle.std.specs.Str.Parse.{digits_value}
use Rattle.ikl_base.specs.declared.address.Addr.{Addr}
use Rattle.ikl_base.specs.declared.address.Addr.TheVariants.{V4, V6}
use Rattle.yang_values.specs.HexText.{is_colon}
use Rattle.yang_values.specs.declared.value.BadValue.{BadValue}
use Rattle.yang_values.specs.declared.value.BadValue.TheVariants.{Form, Range}
use Rattle.yang_values.specs.Addresses.{is_dot, is_quad, fits_octet, quad_of, octets_of, groups_in, double_colon, eight, eight_between, eight_from, v4_of, v6_of, address_of}

abbrev pub IsWhole : Addr → Type 0
IsWhole (V4 octets) = length octets ≡ 4
IsWhole (V6 octets) = length octets ≡ 16

octets-length : (groups : List ℕ) → length (octets_of groups) ≡ length groups + length groups
octets-length [] = refl
octets-length (g ∷ gs) = let q = octets-length gs in grind (arith, q)

quad-whole : (parts : List (List ℕ)) (octets : List ℕ) → quad_of parts ≡ Ok octets → length octets ≡ 4
unfolding quad_of
quad-whole parts octets is = by-form (is_quad parts) refl is
  where
    by-range : is_quad parts ≡ true → (b : Bool) → cond (not b) (Err Range) (Ok (map (digits_value 10) parts)) ≡ Ok octets
        → length octets ≡ 4
    by-range f false t = cc
    by-range f true t =
        let e : map (digits_value 10) parts ≡ octets = cc in
        let n : (length parts == 4) ≡ true = (and_parts (length parts == 4) _ f).0 in
        let m : length parts ≡ 4 = grind arith in
        sym (ap length e) ∙ (length-map parts (digits_value 10) ∙ m)

    by-form : (b : Bool) → is_quad parts ≡ b
        → cond (not b) (Err Form) (cond (not (list_all fits_octet parts)) (Err Range) (Ok (map (digits_value 10) parts))) ≡ Ok octets
        → length octets ≡ 4
    by-form false f t = cc
    by-form true f t = by-range f (list_all fits_octet parts) t

eight-is : (groups out : List ℕ) (b : Bool) → (length groups == 8) ≡ b → (if b then Some groups else None) ≡ Some out → length out ≡ 8
eight-is groups out true e t = let q : groups ≡ out = cc in let n : length groups ≡ 8 = grind arith in sym (ap length q) ∙ n
eight-is groups out false e t = cc

eight-some : (o : Option (List ℕ)) (out : List ℕ) → option_and_then eight o ≡ Some out → length out ≡ 8
eight-some None out t = cc
eight-some (Some groups) out t = eight-is groups out (length groups == 8) refl t

filled-is : (front back out : List ℕ) (b : Bool) → nat_lt (length front + length back) 8 ≡ b
    → (if b then Some (front ++ replicate (8 - (length front + length back)) 0 ++ back) else None) ≡ Some out → length out ≡ 8
filled-is front back out true e t =
    let q : front ++ replicate (8 - (length front + length back)) 0 ++ back ≡ out = cc in
    let a = length-append (front ++ replicate (8 - (length front + length back)) 0) back in
    let b = length-append front (replicate (8 - (length front + length back)) 0) in
    let c = length-replicate {A = ℕ} (8 - (length front + length back)) 0 in
    let l : length front + length back < 8 = grind (arith, common_steps) in
    let m : length front + length (replicate (8 - (length front + length back)) 0) + length back ≡ 8 = omega (arith, c, l) in
    sym (ap length q) ∙ (a ∙ (ap (λ z. z + length back) b ∙ m))
filled-is front back out false e t = cc

between-some : (front back : Option (List ℕ)) (out : List ℕ) → eight_between front back ≡ Some out → length out ≡ 8
between-some None back out t = cc
between-some (Some f) None out t = cc
between-some (Some f) (Some b) out t = filled-is f b out (nat_lt (length f + length b) 8) refl t

eight-whole : (t : List ℕ) (k : Option ℕ) (out : List ℕ) → eight_from t k ≡ Some out → length out ≡ 8
unfolding eight_from
eight-whole t None out is = eight-some (groups_in t) out is
eight-whole t (Some k) out is = between-some (groups_in (take k t)) (groups_in (drop (k + 2) t)) out is

v4-whole : (r : Result (List ℕ) BadValue) (a : Addr) → ((octets : List ℕ) → r ≡ Ok octets → length octets ≡ 4) → v4_of r ≡ Ok a → IsWhole a
v4-whole (Ok octets) a f t = let q : V4 octets ≡ a = cc in subst IsWhole q (f octets refl)
v4-whole (Err e) a f t = cc

v6-whole : (r : Option (List ℕ)) (a : Addr) → ((groups : List ℕ) → r ≡ Some groups → length groups ≡ 8) → v6_of r ≡ Ok a → IsWhole a
v6-whole (Some groups) a f t = let q : V6 (octets_of groups) ≡ a = cc in let n = f groups refl in let m = octets-length groups in
    subst IsWhole q (let w : length (octets_of groups) ≡ 16 = omega (arith, n, m) in w)
v6-whole None a f t = cc

pub address-whole : (t : List ℕ) (a : Addr) → address_of t ≡ Ok a → IsWhole a
unfolding address_of
address-whole t a is = by-colon (list_any is_colon t) is
  where
    by-colon : (b : Bool) → cond b (v6_of (eight_from t (double_colon t))) (v4_of (quad_of (slice_split is_dot t))) ≡ Ok a → IsWhole a
    by-colon true e = v6-whole (eight_from t (double_colon t)) a (λ groups q. eight-whole t (double_colon t) groups q) e
    by-colon false e = v4-whole (quad_of (slice_split is_dot t)) a (λ octets q. quad-whole (slice_split is_dot t) octets q) e
