use Rattle.std.proofs.Common.{◌≡◌, ℕ, ◌<◌, ◌∷◌, [], List, false, Ok, Some, refl}
use Rattle.std.specs.List.{All, AllByRecursion}
use Rattle.std.specs.Char.{is_ascii_hexdigit}
use Rattle.std.proofs.lemmas.List.Elements.{recursion_from_All}
use Rattle.yang_values.specs.HexText.{hex_of, hex_colons, pair_of, pair_text, is_colon}
use Rattle.yang_values.proofs.JoinedText.{lacks_mark, each_also, split_texts, each_read, some_joined}
use Rattle.yang_values.proofs.ValueText.{apart, pair_of-text, pair_digits, some_pair}
use Rattle.yang_values.proofs.laws.hex_read_again.Goals as goal

-- a pair has no colon
no_colon : (octet : ℕ) → octet < 256 → All (λ c. is_colon c ≡ false) (pair_text octet)
no_colon octet small = lacks_mark is_ascii_hexdigit is_colon (λ c. apart is_ascii_hexdigit c 58 refl) (pair_text octet)
    (pair_digits octet small)

again : (octets : List ℕ) → AllByRecursion (λ o. o < 256) octets → hex_of (hex_colons octets) ≡ Ok octets
unfolding hex_of
again [] all = refl
again (x ∷ xs) all =
    let split = split_texts is_colon 58 pair_text refl x xs
    (each_also (λ o. o < 256) (λ o. All (λ c. is_colon c ≡ false) (pair_text o)) no_colon (x ∷ xs) all) in
    let read = each_read pair_of pair_text (x ∷ xs)
    (each_also (λ o. o < 256) (λ o. pair_of (pair_text o) ≡ Some o) pair_of-text (x ∷ xs) all) in
    rw (some_joined 58 pair_text x xs (some_pair x), split, read) refl

pub returns : goal.returns
returns c octets all = again octets (recursion_from_All (λ o. o < 256) octets all)
