-- Lists of numbers below 256.
use Rattle.std.proofs.Common.{ℕ, zero, suc, ◌+◌, ◌<◌, ◌≤◌, ◌^◌, List, [], ◌∷◌, map, slice_index, bit_xor, arith}
use Rattle.std.specs.Prelude.{slice_index_or}
use Rattle.std.specs.List.{AllByRecursion, range_with_len}
use Rattle.std.specs.Int.{bytes_high_first, byte_at, from_be_bytes, to_be_bytes, w32, w64}
use Rattle.std.proofs.lemmas.List.Elements.{All-from_get_or, All-from_recursion, All-map, All-nil, recursion_from_All}
use Rattle.std.proofs.lemmas.List.FromFn.{get_or-range_with_len, length-range_with_len}
use Rattle.std.proofs.lemmas.Nat.{xor_of_8}
use Rattle.gf_poly.specs.Poly.{from_bits}
use Rattle.ikeless_tree.specs.Typed.{AreOctets}

abbrev pub IsOctet : ℕ → Type 0
IsOctet n = n < 256

pub none : AreOctets []
none = All-nil IsOctet

pub of-each : (o : List ℕ) → AllByRecursion IsOctet o → AreOctets o
of-each o h = All-from_recursion IsOctet o h

pub each-of : (o : List ℕ) → AreOctets o → AllByRecursion IsOctet o
each-of o h = recursion_from_All IsOctet o h

index-of : (o : List ℕ) (i : ℕ) → AllByRecursion IsOctet o → slice_index o i < 256
index-of [] i h = omega arith
index-of (x ∷ xs) zero h = h.0
index-of (x ∷ xs) (suc i) h = index-of xs i h.1

pub octet-at : (o : List ℕ) (i : ℕ) → AreOctets o → slice_index o i < 256
octet-at o i h = index-of o i (each-of o h)

-- octets that are found one by one
pub mapped : (f : ℕ → ℕ) (ys : List ℕ) → ((y : ℕ) → f y < 256) → AreOctets (map f ys)
mapped f ys h = All-map IsOctet f ys (λ k d l. h (slice_index_or ys k d))

pub ranged : (a n : ℕ) → a + n ≤ 256 → AreOctets (range_with_len a n)
ranged a n h = All-from_get_or IsOctet (range_with_len a n) 0 (λ i l. let len = length-range_with_len a n in
    let small : i < n = omega (arith, len, l) in let is = get_or-range_with_len a n i 0 small in omega (arith, is, small, h))

pub xor-octet : (a b : ℕ) → a < 256 → b < 256 → bit_xor a b < 256
xor-octet a b p q = xor_of_8 a b p q

-- eight bits
pub bits-octet : (f : ℕ → ℕ) → ((i : ℕ) → f i < 2) → from_bits f 8 < 256
unfolding from_bits
bits-octet f h = omega (arith, h 0, h 1, h 2, h 3, h 4, h 5, h 6, h 7)

-- the octets of a number
byte-octet : (i n : ℕ) → byte_at i n < 256
byte-octet zero n = omega arith
byte-octet (suc i) n = omega arith

pub written : (k n : ℕ) → AllByRecursion IsOctet (bytes_high_first k n)
written zero n = tt
written (suc k) n = (byte-octet k n, written k n)

pub word-octets : (n : ℕ) → AreOctets (to_be_bytes w32 n)
word-octets n = of-each (to_be_bytes w32 n) (written 4 n)

pub long-octets : (n : ℕ) → AreOctets (to_be_bytes w64 n)
long-octets n = of-each (to_be_bytes w64 n) (written 8 n)

-- the number that four octets write
pub word-small : (o : List ℕ) → AreOctets o → from_be_bytes w32 o < 2 ^ 32
word-small o h = omega (arith, octet-at o 0 h, octet-at o 1 h, octet-at o 2 h, octet-at o 3 h)
