-- The walk over extension headers, one header at a time.
use Rattle.std.proofs.Common.{◌≡◌, ◌≤◌, ◌<◌, ℕ, zero, suc, List, [], ◌∷◌, length, drop, slice_index, Ok, Err, true, false, refl, ap, arith, length-drop, ◌≢◌}
use Rattle.std.proofs.lemmas.Bool.Decides.{nat_tests}
use Rattle.ip_packet.specs.declared.packet.NotPacket.TheVariants as faults
use Rattle.ip_packet.specs.Ipv6.{is_extension, extension_length, upper_step, upper_within, upper_of}

upper_within-same : (n m next : ℕ) (o : List ℕ) → length o ≤ n → length o ≤ m → upper_within n next o ≡ upper_within m next o
upper_within-same zero zero next o hn hm = refl
upper_within-same zero (suc m) next [] hn hm = refl
upper_within-same zero (suc m) next (x ∷ o) hn hm = absurd (omega arith)
upper_within-same (suc n) zero next [] hn hm = refl
upper_within-same (suc n) zero next (x ∷ o) hn hm = absurd (omega arith)
upper_within-same (suc n) (suc m) next o hn hm =
    let rest = drop (extension_length o) o in
    let shorter = length-drop (extension_length o) o in
    ap (upper_step next o) (upper_within-same n m (slice_index o 0) rest (omega arith) (omega arith))

-- one header, and then what follows it
pub upper_of-step : (next : ℕ) (o : List ℕ) → upper_of next o ≡ upper_step next o (upper_of (slice_index o 0) (drop (extension_length o) o))
unfolding upper_of
upper_of-step next [] = refl
upper_of-step next (x ∷ o) =
    let all : List ℕ = x ∷ o in
    let rest : List ℕ = drop (extension_length all) all in
    let shorter = length-drop (extension_length all) all in
    ap (upper_step next all) (upper_within-same (length o) (length rest) (slice_index all 0) rest (omega arith) (omega arith))

pub upper_of-more : (next : ℕ) (o : List ℕ) → is_extension next ≡ true → 8 ≤ length o → extension_length o ≤ length o
    → upper_of next o ≡ upper_of (slice_index o 0) (drop (extension_length o) o)
upper_of-more next o is all whole = rw (upper_of-step next o) (grind (arith, nat_tests))

pub upper_of-short : (next : ℕ) (o : List ℕ) → is_extension next ≡ true → length o < 8 → upper_of next o ≡ Err faults.Length
upper_of-short next o is short = rw (upper_of-step next o) (grind (arith, nat_tests))

pub upper_of-long : (next : ℕ) (o : List ℕ) → is_extension next ≡ true → length o < extension_length o → upper_of next o ≡ Err faults.Length
upper_of-long next o is long = rw (upper_of-step next o) (grind (arith, nat_tests))

pub upper_of-fragment : (next : ℕ) (o : List ℕ) → next ≡ 44 → upper_of next o ≡ Err faults.Fragment
upper_of-fragment next o e = rw (upper_of-step next o) (grind (arith, nat_tests))

pub upper_of-end : (next : ℕ) (o : List ℕ) → is_extension next ≡ false → next ≢ 44 → upper_of next o ≡ Ok (next, o)
upper_of-end next o is e = rw (upper_of-step next o) (grind (arith, nat_tests))
