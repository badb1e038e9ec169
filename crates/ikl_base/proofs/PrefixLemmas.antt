-- When two prefixes are the same.
use Rattle.std.proofs.Common.{◌≡◌, ◌≤◌, ℕ, IsTrue, ap, subst, ◌∙◌}
use Rattle.std.proofs.Props.{props}
use Rattle.ikl_base.specs.declared.address.Addr.{Addr}
use Rattle.ikl_base.specs.declared.address.Prefix.{Prefix}
use Rattle.ikl_base.specs.Address.{bits_of, is_clear_from}

made : (a : Addr) (n : ℕ) → n ≤ bits_of a → IsTrue (is_clear_from n a) → Prefix
made a n fits clear = record { addr = a; len = n; in_range = fits; cleared = clear }

fits_once : (a : Addr) (n : ℕ) → IsProp (n ≤ bits_of a)
fits_once a n = hlevel props

clear_once : (a : Addr) (n : ℕ) → IsProp (IsTrue (is_clear_from n a))
clear_once a n = hlevel props

same_made : (a : Addr) (n : ℕ) (fits : n ≤ bits_of a) (clear : IsTrue (is_clear_from n a)) (b : Addr) (e : a ≡ b) (m : ℕ) (f : n ≡ m)
    (fits' : m ≤ bits_of b) (clear' : IsTrue (is_clear_from m b)) → made a n fits clear ≡ made b m fits' clear'
same_made a n fits clear b e m f =
    let P : Addr → Type 0 = λ b. (fits' : m ≤ bits_of b) (clear' : IsTrue (is_clear_from m b)) → made a n fits clear ≡ made b m fits' clear'
    in
    let Q : ℕ → Type 0 = λ m. (fits' : m ≤ bits_of a) (clear' : IsTrue (is_clear_from m a)) → made a n fits clear ≡ made a m fits' clear' in
    subst P e (subst Q f (λ fits' clear'. ap (λ x. made a n x clear) (fits_once a n fits fits')
    ∙ ap (λ x. made a n fits' x) (clear_once a n clear clear')))

-- a prefix is its address and its length
pub same_prefix : (p q : Prefix) → p.addr ≡ q.addr → p.len ≡ q.len → p ≡ q
unfolding made
same_prefix p q e f = same_made p.addr p.len p.in_range p.cleared q.addr e q.len f q.in_range q.cleared
