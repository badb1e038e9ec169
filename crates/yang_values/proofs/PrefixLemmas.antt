-- Prefixes made of an address and a length.
use Rattle.std.proofs.Common.{◌≡◌, ℕ, ◌<◌, ◌≤◌, Bool, true, false, List, Ok, Err, inl, inr, ◌⊎◌, refl, ap, ◌∙◌, arith, nat_lt, not, cond, ltb-true}
use Rattle.std.specs.Str.Parse.{digits_value}
use Rattle.std.proofs.lemmas.Bool.{cases_lt}
use Rattle.ikl_base.specs.declared.address.Addr.{Addr}
use Rattle.ikl_base.specs.declared.address.Prefix.{Prefix}
use Rattle.ikl_base.specs.Address.{bits_of, address_cleared}
use Rattle.ikl_base.proofs.PrefixLemmas.{same_prefix}
use Rattle.yang_values.specs.Numbers.{is_number, number_of}
use Rattle.yang_values.specs.Prefixes.{prefix_made, prefix_where, with_length}
use Rattle.yang_values.specs.declared.value.BadValue.{BadValue}
use Rattle.yang_values.specs.declared.value.BadValue.TheVariants.{Form, Range}

-- a number and its place among those that fit
pub where_ok : (a : Addr) (m n : ℕ) (p : Prefix) (s : (bits_of a < m) ⊎ (m ≤ bits_of a)) → n ≡ m → n ≤ bits_of a → p.len ≡ n
    → p.addr ≡ address_cleared n a → Ok p ≡ prefix_where a m s
unfolding prefix_made
where_ok a m n p (inl above) e fits len addr = absurd (omega arith)
where_ok a m n p (inr fits') e fits len addr =
    ap Ok (same_prefix p (prefix_made a m fits') (addr ∙ ap (λ k. address_cleared k a) e) (len ∙ e))

where_above : (a : Addr) (m : ℕ) (s : (bits_of a < m) ⊎ (m ≤ bits_of a)) → bits_of a < m → Err Range ≡ prefix_where a m s
where_above a m (inl above) h = refl
where_above a m (inr fits) h = absurd (omega arith)

-- the prefix of a length that was read
pub with_length-ok : (a : Addr) (t : List ℕ) (n : ℕ) (p : Prefix) → Ok n ≡ number_of (bits_of a) t → n ≤ bits_of a → p.len ≡ n
    → p.addr ≡ address_cleared n a → Ok p ≡ with_length a t
unfolding number_of
with_length-ok a t n p read fits len addr = by_test (is_number t) (nat_lt (bits_of a) (digits_value 10 t)) refl read
  where
    by_test : (b above : Bool) → is_number t ≡ b
        → Ok n ≡ cond (not b) (Err Form) (cond above (Err Range) (Ok (digits_value 10 t))) → Ok p ≡ with_length a t
    by_test true false e found =
        let same : n ≡ digits_value 10 t = cc in
        rw e (where_ok a (digits_value 10 t) n p (cases_lt (bits_of a) (digits_value 10 t)) same fits len addr)
    by_test true true e found = cc
    by_test false above e found = cc

-- the fault of a length that wasn't
pub with_length-err : (a : Addr) (t : List ℕ) (fault : BadValue) → Err fault ≡ number_of (bits_of a) t → Err fault ≡ with_length a t
unfolding number_of
with_length-err a t fault read = by_test (is_number t) (nat_lt (bits_of a) (digits_value 10 t)) refl refl read
  where
    by_test : (b above : Bool) → is_number t ≡ b → nat_lt (bits_of a) (digits_value 10 t) ≡ above
        → Err fault ≡ cond (not b) (Err Form) (cond above (Err Range) (Ok (digits_value 10 t))) → Err fault ≡ with_length a t
    by_test true false e f found = cc
    by_test true true e f found =
        let same : fault ≡ Range = cc in
        rw (e, same) (where_above a (digits_value 10 t) (cases_lt (bits_of a) (digits_value 10 t))
        (ltb-true (bits_of a) (digits_value 10 t) f))
    by_test false above e f found = let same : fault ≡ Form = cc in rw (e, same) refl
