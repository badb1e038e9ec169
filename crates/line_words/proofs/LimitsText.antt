-- The word of limits is read as those limits.
use Rattle.std.proofs.Common.{◌≡◌, ℕ, ◌-◌, ◌^◌, ◌<◌, true, false, List, [], ◌∷◌, ◌++◌, Ok, refl, ap, ◌∙◌, arith, append-nil, append_assoc}
use Rattle.std.specs.Char.{is_ascii_digit}
use Rattle.std.specs.List.{All, list_all, slice_split, flat_map}
use Rattle.std.specs.Fmt.{decimal}
use Rattle.std.proofs.lemmas.Bool.{and_parts, and_from}
use Rattle.std.proofs.lemmas.List.Folds.{list_all-append}
use Rattle.ikl_base.specs.declared.status.LineFault.{LineFault}
use Rattle.ikeless_tree.specs.declared.sad.Limits.{Limits}
use Rattle.yang_values.specs.Prefixes.{is_slash}
use Rattle.yang_values.proofs.JoinedText.{lacks_mark}
use Rattle.yang_values.proofs.ValueText.{apart, is_number-decimal}
use Rattle.line_words.specs.Limits.{counts_of, limits_in, limits_of}
use Rattle.line_words.specs.Text.{limits_text}
use Rattle.line_words.proofs.PartText.{is_part, all_behind, split_behind}
use Rattle.line_words.proofs.EntryText.{number_again, number_is_part}
use Rattle.ikeless_tree.specs.Typed.{IsTypedLimits}

number_rest : Limits → List (List ℕ)
number_rest l = decimal l.bytes ∷ decimal l.packets ∷ decimal l.idle ∷ []

four : (a b c d : List ℕ) → a ++ 47 ∷ (b ++ 47 ∷ (c ++ 47 ∷ d)) ≡ a ++ flat_map (λ u. 47 ∷ u) (b ∷ c ∷ d ∷ [])
four a b c d = simp (append_assoc, append-nil)

limits_from : (l : Limits) → limits_text l ≡ decimal l.time ++ flat_map (λ u. 47 ∷ u) (number_rest l)
unfolding number_rest
limits_from l = four (decimal l.time) (decimal l.bytes) (decimal l.packets) (decimal l.idle)

no_slash : (n : ℕ) → n < 2 ^ 64 → All (λ c. is_slash c ≡ false) (decimal n)
no_slash n small =
    lacks_mark is_ascii_digit is_slash (λ c. apart is_ascii_digit c 47 refl) (decimal n)
    (and_parts _ _ (is_number-decimal n small)).1

limits_split : (l : Limits) → IsTypedLimits l → slice_split is_slash (limits_text l) ≡ decimal l.time ∷ number_rest l
unfolding number_rest
limits_split l are =
    let t = are.time in
    let b = are.bytes in
    let p = are.packets in
    let i = are.idle in
    ap (slice_split is_slash) (limits_from l)
    ∙ split_behind is_slash 47 refl (decimal l.time) (decimal l.bytes ∷ decimal l.packets ∷ decimal l.idle ∷ []) (
      no_slash l.time (omega (arith, t)),
      (no_slash l.bytes b, (no_slash l.packets (omega (arith, p)), (no_slash l.idle (omega (arith, i)), tt))),
    )

pub limits_read : (fault : LineFault) (l : Limits) → IsTypedLimits l → limits_of fault (limits_text l) ≡ Ok l
unfolding limits_in counts_of number_rest
limits_read fault l are =
    let time = are.time in
    let bytes = are.bytes in
    let packets = are.packets in
    let idle = are.idle in
    let s = limits_split l are in
    let t = number_again fault l.time (2 ^ 32 - 1) (omega (arith, time)) (omega (arith, time)) in
    let b = number_again fault l.bytes (2 ^ 64 - 1) bytes (omega (arith, bytes)) in
    let p = number_again fault l.packets (2 ^ 32 - 1) (omega (arith, packets)) (omega (arith, packets)) in
    let i = number_again fault l.idle (2 ^ 32 - 1) (omega (arith, idle)) (omega (arith, idle)) in
    rw (s, t, b, p, i) refl

-- limits have neither a space nor a comma
pub limits_part : (l : Limits) → IsTypedLimits l → list_all is_part (limits_text l) ≡ true
unfolding number_rest
limits_part l are =
    let t = are.time in
    let b = are.bytes in
    let p = are.packets in
    let i = are.idle in
    ap (list_all is_part) (limits_from l)
    ∙ list_all-append is_part (decimal l.time) (flat_map (λ u. 47 ∷ u) (number_rest l))
    ∙ and_from _ _ (number_is_part l.time (omega (arith, t)))
    (all_behind is_part 47 refl (decimal l.bytes ∷ decimal l.packets ∷ decimal l.idle ∷ [])
    (number_is_part l.bytes b, (number_is_part l.packets (omega (arith, p)), (number_is_part l.idle (omega (arith, i)), tt))))
