-- The set of the code escapes what the definition escapes.
use Rattle.std.proofs.Common.{◌≡◌, ℕ, ◌<◌, true, false, not, List, [], ◌∷◌, ◌++◌, refl, ap, rules, cond, Bool, All}
use Rattle.std.proofs.lemmas.Bool.{agree_below, agree_below_at}
use Rattle.percent_encoding.specs.AsciiSet.{should_percent_encode}
use Rattle.percent_encoding.specs.Percent.{percent_encode, percent_decode, encode_byte, percent_encode_byte}
use Rattle.percent_encoding.proofs.PercentLemmas.{IsByte, round_trip as crate_round_trip}
use Rattle.std.proofs.lemmas.List.Elements.{All-head, All-tail}
use Rattle.rc_request.specs.declared.path.TheConstants.{KEY}
use Rattle.rc_request.specs.Paths.{is_unreserved, escape_octet, escaped}

below : agree_below (should_percent_encode KEY) (λ b. not (is_unreserved b)) 256 ≡ true
unfolding should_percent_encode
below = refl

flip : (a b : Bool) (x y : List ℕ) → a ≡ not b → cond a x y ≡ cond b y x
flip true true x y e = grind rules
flip true false x y e = refl
flip false true x y e = refl
flip false false x y e = grind rules

pub octet_same : (b : ℕ) → b < 256 → encode_byte KEY b ≡ escape_octet b
unfolding percent_encode_byte
octet_same b l = flip (should_percent_encode KEY b) (is_unreserved b) (percent_encode_byte b) (b ∷ [])
    (agree_below_at (should_percent_encode KEY) (λ x. not (is_unreserved x)) 256 b below l)

-- of octets, the escaped text is that of the definition
pub text_same : (bs : List ℕ) → All IsByte bs → percent_encode KEY bs ≡ escaped bs
unfolding percent_encode escaped
text_same [] small = refl
text_same (b ∷ bs) small =
    rw (octet_same b (All-head IsByte b bs small)) (ap (λ t. escape_octet b ++ t) (text_same bs (All-tail IsByte b bs small)))

pub back_again : (bs : List ℕ) → All IsByte bs → percent_decode (escaped bs) ≡ bs
back_again bs small = rw (← text_same bs small) (crate_round_trip KEY bs refl small)
