-- The lines of a transcript are those of its acts, and each begins with the word of its act.
use Rattle.std.proofs.Common.{◌≡◌, ℕ, ◌==◌, Bool, true, false, List, [], ◌∷◌, ◌++◌, map, Result, Ok, Err, cond, refl, ap, ◌∙◌, append_assoc}
use Rattle.std.specs.Prelude.{codes}
use Rattle.std.specs.List.{All, AllByRecursion, count_by, list_all, slice_split}
use Rattle.std.proofs.lemmas.List.Elements.{recursion_from_All}
use Rattle.std.proofs.lemmas.List.Splits.{slice_split_at}
use Rattle.ikl_base.specs.declared.status.LineFault.{LineFault}
use Rattle.ikl_base.specs.declared.status.LineFault.TheVariants as faults
use Rattle.ikeless_tree.specs.declared.command.Peer.{Peer}
use Rattle.hist_acts.specs.declared.act.Act.{Act}
use Rattle.hist_acts.specs.declared.act.Act.TheVariants as acts
use Rattle.yang_values.proofs.JoinedText.{lacks_mark}
use Rattle.yang_values.proofs.ValueText.{apart}
use Rattle.line_words.specs.Spelling.{are_spelled}
use Rattle.line_words.specs.Words.{◌>>=◌, words, is_printable}
use Rattle.line_words.proofs.LineText.{ReadsDigits}
use Rattle.line_words.proofs.PartText.{each_holds}
use Rattle.script_lines.specs.Act.{act_in, as_spelled, act_of}
use Rattle.script_lines.specs.Spelling.{IsActUnder, IsAct}
use Rattle.script_lines.specs.Text.{act_text, text_of}
use Rattle.script_lines.proofs.ActText.{act_again}
use Rattle.drill_script.specs.declared.tallying.Tally.{Tally}
use Rattle.drill_script.specs.Tallies.{begins, is_line_end, is_sent, is_gave, is_clear, is_drop, is_order, lines_with, tally_in, tally_of, tally_of_text}
use Rattle.drill_script.proofs.Counts.{count-mapped}

-- ---- the lines

abbrev IsReadAgain : List Peer → Act → Type 0
IsReadAgain gateways a = act_of gateways (act_text a) ≡ Ok a

printable : (gateways : List Peer) (line : List ℕ) (a : Act) → act_of gateways line ≡ Ok a → list_all is_printable line ≡ true
unfolding act_of
printable gateways line a is = by_test (list_all is_printable line) is
  where
    by_test : (b : Bool) → cond b (act_in gateways (words line) >>= as_spelled line) (Err faults.Octet) ≡ Ok a → b ≡ true
    by_test true h = refl
    by_test false h = cc

in-one-line : (gateways : List Peer) (a : Act) → IsReadAgain gateways a → All (λ c. is_line_end c ≡ false) (act_text a)
in-one-line gateways a read =
    lacks_mark is_printable is_line_end (λ c. apart is_printable c 10 refl) (act_text a) (printable gateways (act_text a) a read)

lines-of : (gateways : List Peer) (xs : List Act) → AllByRecursion (IsReadAgain gateways) xs
    → slice_split is_line_end (text_of xs) ≡ map act_text xs ++ [] ∷ []
lines-of gateways [] all = refl
lines-of gateways (x ∷ xs) all =
    ap (slice_split is_line_end) (append_assoc (act_text x) (10 ∷ []) (text_of xs))
    ∙ slice_split_at is_line_end (act_text x) 10 (text_of xs) (in-one-line gateways x all.0) refl
    ∙ ap (λ parts. act_text x ∷ parts) (lines-of gateways xs all.1)

-- ---- their words

sent-word : (a : Act) → begins (codes "sent ") (act_text a) ≡ is_sent a
unfolding act_text
sent-word (acts.Sent g name k o) = refl
sent-word _ = refl

gave-word : (a : Act) → begins (codes "gave ") (act_text a) ≡ is_gave a
unfolding act_text
gave-word (acts.Gave g name k o) = refl
gave-word _ = refl

clear-word : (a : Act) → begins (codes "clear ") (act_text a) ≡ is_clear a
unfolding act_text
clear-word (acts.Clear g o) = refl
clear-word _ = refl

drop-word : (a : Act) → begins (codes "drop ") (act_text a) ≡ is_drop a
unfolding act_text
drop-word (acts.Drop g w) = refl
drop-word _ = refl

order-word : (a : Act) → begins (codes "order ") (act_text a) ≡ is_order a
unfolding act_text
order-word (acts.Order g s n o) = refl
order-word _ = refl

-- ---- the counts

abbrev many : (List ℕ) → List Act → ℕ
many front xs = lines_with front (map act_text xs ++ [] ∷ [])

tallied : (xs : List Act) → tally_in (map act_text xs ++ [] ∷ []) ≡ tally_of xs
tallied xs =
    let sent : many (codes "sent ") xs ≡ count_by is_sent xs = count-mapped (begins (codes "sent ")) is_sent act_text sent-word xs ([] ∷ [])
    refl in
    let gave : many (codes "gave ") xs ≡ count_by is_gave xs = count-mapped (begins (codes "gave ")) is_gave act_text gave-word xs ([] ∷ [])
    refl in
    let clear : many (codes "clear ") xs ≡ count_by is_clear xs = count-mapped (begins (codes "clear ")) is_clear act_text clear-word xs ([]
    ∷ []) refl in
    let dropped : many (codes "drop ") xs ≡ count_by is_drop xs = count-mapped (begins (codes "drop ")) is_drop act_text drop-word xs ([]
    ∷ []) refl in
    let orders : many (codes "order ") xs ≡ count_by is_order xs = count-mapped (begins (codes "order ")) is_order act_text order-word xs
    ([] ∷ []) refl in
    same-tally _ _ _ _ _ _ _ _ _ _ sent gave clear dropped orders
  where
    same-tally : (a b c d e a' b' c' d' e' : ℕ) → a ≡ a' → b ≡ b' → c ≡ c' → d ≡ d' → e ≡ e'
        → ◌≡◌ {A = Tally} (record { sent = a; gave = b; clear = c; dropped = d; orders = e })
        (record { sent = a'; gave = b'; clear = c'; dropped = d'; orders = e' })
    same-tally a b c d e a' b' c' d' e' p q r s t = rw (p, q, r, s, t) refl

pub transcript-counts : ReadsDigits → (gateways : List Peer) (happened : List Act) → are_spelled gateways ≡ true
    → All (λ a. IsActUnder gateways a × IsAct a) happened
    → tally_of_text (text_of happened) ≡ tally_of happened
transcript-counts digits gateways happened spelled all =
    let read : AllByRecursion (IsReadAgain gateways) happened =
    each_holds (λ a. IsActUnder gateways a × IsAct a) (IsReadAgain gateways) (λ a is. act_again digits gateways a spelled is.0 is.1)
    happened
    (recursion_from_All (λ a. IsActUnder gateways a × IsAct a) happened all) in
    ap tally_in (lines-of gateways happened read) ∙ tallied happened
