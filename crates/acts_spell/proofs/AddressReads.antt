-- Octets, addresses and prefixes that are read fit their types.
use Rattle.std.proofs.Common.{◌≡◌, ℕ, zero, suc, ◌+◌, ◌-◌, ◌*◌, ◌%◌, ◌^◌, ◌<◌, ◌≤◌, ◌==◌, ◌&&◌, nat_le, nat_lt, not, cond, Bool, true, false, List, [], ◌∷◌, ◌++◌, length, take, drop, map, replicate, option_and_then, Option, Some, None, Result, Ok, Err, ◌⊎◌, inl, inr, refl, ap, ◌∙◌, subst, arith, if◌then◌else◌}
use Rattle.std.specs.Prelude.{codes}
use Rattle.std.specs.List.{AllByRecursion, list_all, list_any, slice_split}
use Rattle.std.specs.Str.{bytes_eq}
use Rattle.std.specs.Str.Parse.{digits_value}
use Rattle.std.specs.Char.{is_ascii_hexdigit}
use Rattle.std.proofs.lemmas.Bool.{and_parts, cases_lt}
use Rattle.std.proofs.lemmas.Bool.Decides.{nat_tests}
use Rattle.std.proofs.lemmas.Int.Digits.{digits_value-lt}
use Rattle.hex.specs.Hex.{decode_of, decode_pairs, digit_or_error, hex_digit_value, pair_value, value_at, ◌>>=◌}
use Rattle.hex.specs.declared.error.FromHexError.{FromHexError}
use Rattle.ikl_base.specs.declared.address.Addr.{Addr}
use Rattle.ikl_base.specs.declared.address.Addr.TheVariants.{V4, V6}
use Rattle.ikl_base.specs.declared.address.Prefix.{Prefix}
use Rattle.ikl_base.specs.declared.status.LineFault.{LineFault}
use Rattle.ikl_base.specs.declared.status.LineFault.TheVariants as faults
use Rattle.ikl_base.specs.Address.{IsAddress, bits_of}
use Rattle.ikeless_tree.specs.Typed.{AreOctets}
use Rattle.yang_values.specs.declared.value.BadValue.{BadValue}
use Rattle.yang_values.specs.declared.value.BadValue.TheVariants.{Form, Range}
use Rattle.yang_values.specs.Addresses.{address_of, double_colon, eight, eight_between, eight_from, fits_octet, group_of, groups_in, is_dot, is_quad, octets_of, quad_of, v4_of, v6_of}
use Rattle.yang_values.specs.HexText.{digits_of, hex_number, is_colon, or_form}
use Rattle.yang_values.specs.Numbers.{is_number}
use Rattle.yang_values.specs.Parts.{each}
use Rattle.yang_values.specs.Prefixes.{is_slash, prefix_from, prefix_made, prefix_of, prefix_of_cut, prefix_where, with_length}
use Rattle.yang_values.specs.Parts.{cut_at}
use Rattle.yang_values.proofs.HexNumberLemmas.{all_hex_digits}
use Rattle.line_words.specs.Words as line
use Rattle.line_words.specs.Words.{or_fault, prefix_in}
use Rattle.line_words.proofs.TakenSteps.{either}
use Rattle.hist_scripts.proofs.Addresses.{IsWhole, address-whole}
use Rattle.acts_spell.proofs.Each.{each-append, some-is}
use Rattle.acts_spell.proofs.Octets.{IsOctet, none, of-each}
use Rattle.acts_spell.proofs.Packets.{cleared-address}

-- ---- hex digits

bound : {A B : Type 0} → (P : Type 0) (r : Result A FromHexError) (f : A → Result B FromHexError) (y : B) → (r >>= f) ≡ Ok y
    → ((x : A) → r ≡ Ok x → f x ≡ Ok y → P) → P
bound P (Ok x) f y is k = k x refl is
bound P (Err e) f y is k = cc

by-range : (c v : ℕ) (x y z : Bool) → (nat_le 65 c && nat_le c 70) ≡ x → (nat_le 97 c && nat_le c 102) ≡ y
    → (nat_le 48 c && nat_le c 57) ≡ z
    → (if x then Some (c - 55) else if y then Some (c - 87) else if z then Some (c - 48) else None) ≡ Some v → v < 16
by-range c v true y z p q r e = let s = some-is (c - 55) v e in grind (arith, nat_tests, p, s)
by-range c v false true z p q r e = let s = some-is (c - 87) v e in grind (arith, nat_tests, q, s)
by-range c v false false true p q r e = let s = some-is (c - 48) v e in grind (arith, nat_tests, r, s)
by-range c v false false false p q r e = cc

digit-small : (c v : ℕ) → hex_digit_value c ≡ Some v → v < 16
digit-small c v e = by-range c v (nat_le 65 c && nat_le c 70) (nat_le 97 c && nat_le c 102) (nat_le 48 c && nat_le c 57) refl refl refl e

value-small : (c i v : ℕ) → value_at c i ≡ Ok v → v < 16
value-small c i v e = by-digit (hex_digit_value c) refl e where
  by-digit : (o : Option ℕ) → hex_digit_value c ≡ o → digit_or_error c i o ≡ Ok v → v < 16
  by-digit (Some d) q t = let s : d ≡ v = cc in digit-small c v (q ∙ ap Some s)
  by-digit None q t = cc

pair-small : (high low i b : ℕ) → pair_value high low i ≡ Ok b → b < 256
pair-small high low i b e =
    bound (b < 256) (value_at high i) (λ h. value_at low (i + 1) >>= (λ l. Ok (h * 16 + l))) b e
    (λ h first more. bound (b < 256) (value_at low (i + 1)) (λ l. Ok (h * 16 + l)) b more
    (λ l second same. let s : h * 16 + l ≡ b = cc in let p = value-small high i h first in let q = value-small low (i + 1) l second in
    omega (arith, s, p, q)))

pairs-each : (i : ℕ) (text octets : List ℕ) → decode_pairs i text ≡ Ok octets → AllByRecursion IsOctet octets
unfolding decode_pairs
pairs-each i [] octets e = let s : [] ≡ octets = cc in subst (AllByRecursion IsOctet) s tt
pairs-each i (c ∷ []) octets e = cc
pairs-each i (high ∷ low ∷ rest) octets e =
    let P : Type 0 = AllByRecursion IsOctet octets in
    bound P (pair_value high low i) (λ b. decode_pairs (i + 2) rest >>= (λ bs. Ok (b ∷ bs))) octets e
    (λ b first more. bound P (decode_pairs (i + 2) rest) (λ bs. Ok (b ∷ bs)) octets more
    (λ bs later same. let s : b ∷ bs ≡ octets = cc in
    subst (AllByRecursion IsOctet) s (pair-small high low i b first, pairs-each (i + 2) rest bs later)))

formed : (r : Result (List ℕ) FromHexError) (octets : List ℕ) → or_form r ≡ Ok octets → r ≡ Ok octets
formed (Ok x) octets e = let s : x ≡ octets = cc in ap Ok s
formed (Err f) octets e = cc

not-odd : (b : Bool) (f : FromHexError) (r : Result (List ℕ) FromHexError) (octets : List ℕ) → (if b then Err f else r) ≡ Ok octets
    → r ≡ Ok octets
not-odd true f r octets e = cc
not-odd false f r octets e = e

digits-each : (text octets : List ℕ) → digits_of text ≡ Ok octets → AllByRecursion IsOctet octets
digits-each [] octets e = cc
digits-each (c ∷ cs) octets e =
    pairs-each 0 (c ∷ cs) octets
    (not-odd (length (c ∷ cs) % 2 == 1) _ (decode_pairs 0 (c ∷ cs)) octets (formed (decode_of (c ∷ cs)) octets e))

unfaulted : {A : Type 0} (f : LineFault) (r : Result A BadValue) (x : A) → or_fault f r ≡ Ok x → r ≡ Ok x
unfaulted f (Ok y) x e = let s : y ≡ x = cc in ap Ok s
unfaulted f (Err b) x e = cc

pub octets-read : (w octets : List ℕ) → line.octets_of w ≡ Ok octets → AreOctets octets
octets-read w octets e =
    either (AreOctets octets) (bytes_eq w (codes "-")) (Ok []) (or_fault faults.Hex (digits_of w)) octets e
    (λ q. let s : [] ≡ octets = cc in subst AreOctets s none)
    (λ q. of-each octets (digits-each w octets (unfaulted faults.Hex (digits_of w) octets q)))

-- ---- IPv4

fits-octet : (t : List ℕ) → fits_octet t ≡ true → digits_value 10 t < 256
fits-octet t e = grind (arith, nat_tests, e)

quad-each : (parts : List (List ℕ)) → list_all fits_octet parts ≡ true → AllByRecursion IsOctet (map (digits_value 10) parts)
quad-each [] e = tt
quad-each (t ∷ ts) e = let p = and_parts (fits_octet t) (list_all fits_octet ts) e in (fits-octet t p.0, quad-each ts p.1)

quad-octets : (parts : List (List ℕ)) (octets : List ℕ) → quad_of parts ≡ Ok octets → AllByRecursion IsOctet octets
unfolding quad_of
quad-octets parts octets is = by-form (is_quad parts) is
  where
    by-fit : (b : Bool) → list_all fits_octet parts ≡ b → cond (not b) (Err Range) (Ok (map (digits_value 10) parts)) ≡ Ok octets
        → AllByRecursion IsOctet octets
    by-fit true f t = let e : map (digits_value 10) parts ≡ octets = cc in subst (AllByRecursion IsOctet) e (quad-each parts f)
    by-fit false f t = cc

    by-form : (b : Bool)
        → cond (not b) (Err Form) (cond (not (list_all fits_octet parts)) (Err Range) (Ok (map (digits_value 10) parts))) ≡ Ok octets
        → AllByRecursion IsOctet octets
    by-form true t = by-fit (list_all fits_octet parts) refl t
    by-form false t = cc

-- ---- IPv6

abbrev IsGroup : ℕ → Type 0
IsGroup n = n < 65536

power-small : (n : ℕ) → n ≤ 4 → 16 ^ n ≤ 65536
power-small zero l = omega arith
power-small (suc zero) l = omega arith
power-small (suc (suc zero)) l = omega arith
power-small (suc (suc (suc zero))) l = omega arith
power-small (suc (suc (suc (suc zero)))) l = omega arith
power-small (suc (suc (suc (suc (suc n))))) l = absurd (omega (arith, l))

some-if : (b : Bool) (v n : ℕ) → (if b then Some v else None) ≡ Some n → (b ≡ true) × (v ≡ n)
some-if true v n e = (refl, some-is v n e)
some-if false v n e = cc

at-most : (n m : ℕ) → nat_le n m ≡ true → n ≤ m
at-most n m e = grind (arith, nat_tests, e)

group-small : (t : List ℕ) (n : ℕ) → group_of t ≡ Some n → n < 65536
unfolding hex_number
group-small t n e =
    let found = some-if (nat_le 1 (length t) && nat_le (length t) 4 && list_all is_ascii_hexdigit t) (digits_value 16 t) n e in
    let parts = and_parts (nat_le 1 (length t) && nat_le (length t) 4) (list_all is_ascii_hexdigit t) found.0 in
    let sizes = and_parts (nat_le 1 (length t)) (nat_le (length t) 4) parts.0 in
    let small = digits_value-lt 16 t (all_hex_digits t parts.1) in
    let most = power-small (length t) (at-most (length t) 4 sizes.1) in
    let same = found.1 in
    omega (arith, small, most, same)

step-some : {A B : Type 0} → (P : Type 0) (o : Option A) (f : A → Option B) (y : B) → option_and_then f o ≡ Some y
    → ((x : A) → o ≡ Some x → f x ≡ Some y → P) → P
step-some P (Some x) f y is k = k x refl is
step-some P None f y is k = cc

each-group : (ts : List (List ℕ)) (groups : List ℕ) → each group_of ts ≡ Some groups → AllByRecursion IsGroup groups
unfolding each
each-group [] groups e = subst (AllByRecursion IsGroup) (some-is [] groups e) tt
each-group (t ∷ ts) groups e =
    let P : Type 0 = AllByRecursion IsGroup groups in
    step-some P (group_of t) (λ n. option_and_then (λ ns. Some (n ∷ ns)) (each group_of ts)) groups e
    (λ n first more. step-some P (each group_of ts) (λ ns. Some (n ∷ ns)) groups more
    (λ ns later same. subst (AllByRecursion IsGroup) (some-is (n ∷ ns) groups same) (group-small t n first, each-group ts ns later)))

groups-small : (t groups : List ℕ) → groups_in t ≡ Some groups → AllByRecursion IsGroup groups
groups-small t groups e = by-length (length t == 0) e where
  by-length : (b : Bool) → (if b then Some [] else each group_of (slice_split is_colon t)) ≡ Some groups → AllByRecursion IsGroup groups
  by-length true q = subst (AllByRecursion IsGroup) (some-is [] groups q) tt
  by-length false q = each-group (slice_split is_colon t) groups q

kept-if : (b : Bool) (xs ys : List ℕ) → AllByRecursion IsGroup xs → (if b then Some xs else None) ≡ Some ys → AllByRecursion IsGroup ys
kept-if true xs ys h e = subst (AllByRecursion IsGroup) (some-is xs ys e) h
kept-if false xs ys h e = cc

zeros : (n : ℕ) → AllByRecursion IsGroup (replicate n 0)
zeros zero = tt
zeros (suc n) = (omega arith, zeros n)

eight-some : (o : Option (List ℕ)) (out : List ℕ) → ((g : List ℕ) → o ≡ Some g → AllByRecursion IsGroup g)
    → option_and_then eight o ≡ Some out → AllByRecursion IsGroup out
eight-some None out h t = cc
eight-some (Some g) out h t = kept-if (length g == 8) g out (h g refl) t

between-some : (front back : Option (List ℕ)) (out : List ℕ) → ((g : List ℕ) → front ≡ Some g → AllByRecursion IsGroup g)
    → ((g : List ℕ) → back ≡ Some g → AllByRecursion IsGroup g)
    → eight_between front back ≡ Some out → AllByRecursion IsGroup out
between-some None back out f b t = cc
between-some (Some x) None out f b t = cc
between-some (Some x) (Some y) out f b t =
    kept-if (nat_lt (length x + length y) 8) (x ++ replicate (8 - (length x + length y)) 0 ++ y) out
    (each-append IsGroup (x ++ replicate (8 - (length x + length y)) 0) y (each-append IsGroup x (replicate (8 - (length x + length y)) 0)
    (f x refl) (zeros (8 - (length x + length y)))) (b y refl)) t

eight-small : (t : List ℕ) (k : Option ℕ) (out : List ℕ) → eight_from t k ≡ Some out → AllByRecursion IsGroup out
unfolding eight_from
eight-small t None out is = eight-some (groups_in t) out (λ g q. groups-small t g q) is
eight-small t (Some k) out is =
    between-some (groups_in (take k t)) (groups_in (drop (k + 2) t)) out (λ g q. groups-small (take k t) g q)
    (λ g q. groups-small (drop (k + 2) t) g q) is

octets-each : (groups : List ℕ) → AllByRecursion IsGroup groups → AllByRecursion IsOctet (octets_of groups)
octets-each [] h = tt
octets-each (g ∷ gs) h = let l = h.0 in (omega (arith, l), (omega arith, octets-each gs h.1))

-- ---- both

abbrev HasOctets : Addr → Type 0
HasOctets (V4 octets) = AllByRecursion IsOctet octets
HasOctets (V6 octets) = AllByRecursion IsOctet octets

from-v4 : (r : Result (List ℕ) BadValue) (a : Addr) → ((octets : List ℕ) → r ≡ Ok octets → AllByRecursion IsOctet octets) → v4_of r ≡ Ok a
    → HasOctets a
from-v4 (Ok octets) a f t = let q : V4 octets ≡ a = cc in subst HasOctets q (f octets refl)
from-v4 (Err e) a f t = cc

from-v6 : (r : Option (List ℕ)) (a : Addr) → ((groups : List ℕ) → r ≡ Some groups → AllByRecursion IsGroup groups) → v6_of r ≡ Ok a
    → HasOctets a
from-v6 (Some groups) a f t = let q : V6 (octets_of groups) ≡ a = cc in subst HasOctets q (octets-each groups (f groups refl))
from-v6 None a f t = cc

address-octets : (t : List ℕ) (a : Addr) → address_of t ≡ Ok a → HasOctets a
unfolding address_of
address-octets t a is = by-colon (list_any is_colon t) is
  where
    by-colon : (b : Bool) → cond b (v6_of (eight_from t (double_colon t))) (v4_of (quad_of (slice_split is_dot t))) ≡ Ok a → HasOctets a
    by-colon true e = from-v6 (eight_from t (double_colon t)) a (λ groups q. eight-small t (double_colon t) groups q) e
    by-colon false e = from-v4 (quad_of (slice_split is_dot t)) a (λ octets q. quad-octets (slice_split is_dot t) octets q) e

joined : (a : Addr) → IsWhole a → HasOctets a → IsAddress a
joined (V4 octets) w h = (w, of-each octets h)
joined (V6 octets) w h = (w, of-each octets h)

pub address-read : (t : List ℕ) (a : Addr) → address_of t ≡ Ok a → IsAddress a
address-read t a e = joined a (address-whole t a e) (address-octets t a e)

pub address-word : (f : LineFault) (t : List ℕ) (a : Addr) → or_fault f (address_of t) ≡ Ok a → IsAddress a
address-word f t a e = address-read t a (unfaulted f (address_of t) a e)

-- ---- prefixes

made-address : (a : Addr) (n : ℕ) (fits : n ≤ bits_of a) → IsAddress a → IsAddress (prefix_made a n fits).addr
unfolding prefix_made
made-address a n fits h = cleared-address n a h

where-address : (a : Addr) (n : ℕ) (c : (bits_of a < n) ⊎ (n ≤ bits_of a)) (p : Prefix) → IsAddress a → prefix_where a n c ≡ Ok p
    → IsAddress p.addr
where-address a n (inl above) p h e = cc
where-address a n (inr fits) p h e =
    let s : prefix_made a n fits ≡ p = cc in subst (λ (q : Prefix). IsAddress q.addr) s (made-address a n fits h)

length-address : (a : Addr) (t : List ℕ) (p : Prefix) → IsAddress a → with_length a t ≡ Ok p → IsAddress p.addr
length-address a t p h e = by-number (is_number t) e where
  by-number : (b : Bool) → (if b then prefix_where a (digits_value 10 t) (cases_lt (bits_of a) (digits_value 10 t)) else Err Form) ≡ Ok p
      → IsAddress p.addr
  by-number true q = where-address a (digits_value 10 t) (cases_lt (bits_of a) (digits_value 10 t)) p h q
  by-number false q = cc

refused : (b : Bool) (p : Prefix) → (if b then Err Range else Err Form) ≡ Ok p → ⊥
refused true p e = cc
refused false p e = cc

from-address : (r : Result Addr BadValue) (t : List ℕ) (p : Prefix) → ((a : Addr) → r ≡ Ok a → IsAddress a) → prefix_from r t ≡ Ok p
    → IsAddress p.addr
from-address (Ok a) t p h e = length-address a t p (h a refl) e
from-address (Err Form) t p h e = cc
from-address (Err Range) t p h e = absurd (refused (is_number t) p e)

cut-address : (o : Option (List ℕ × List ℕ)) (p : Prefix) → prefix_of_cut o ≡ Ok p → IsAddress p.addr
cut-address None p e = cc
cut-address (Some x) p e = from-address (address_of x.0) x.1 p (λ a q. address-read x.0 a q) e

prefix-read : (t : List ℕ) (p : Prefix) → prefix_of t ≡ Ok p → IsAddress p.addr
unfolding prefix_of
prefix-read t p e = cut-address (cut_at is_slash t) p e

pub prefix-word : (f : LineFault) (t : List ℕ) (p : Prefix) → prefix_in f t ≡ Ok p → IsAddress p.addr
prefix-word f t p e = prefix-read t p (unfaulted f (prefix_of t) p e)
