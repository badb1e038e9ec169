-- No two lists of acts have one text.
use Rattle.std.proofs.Common.{◌≡◌, ℕ, ◌+◌, ◌==◌, Bool, true, false, List, [], ◌∷◌, ◌++◌, length, map, Result, Ok, Err, cond, refl, sym, ap, ◌∙◌, arith, append_assoc, length-append}
use Rattle.std.specs.List.{All, AllByRecursion, list_all, slice_split}
use Rattle.std.proofs.lemmas.List.Elements.{recursion_from_All}
use Rattle.std.proofs.lemmas.List.Splits.{slice_split_at}
use Rattle.ikl_base.specs.declared.status.LineFault.{LineFault}
use Rattle.ikl_base.specs.declared.status.LineFault.TheVariants as faults
use Rattle.ikeless_tree.specs.declared.command.Peer.{Peer}
use Rattle.hist_acts.specs.declared.act.Act.{Act}
use Rattle.yang_values.proofs.JoinedText.{lacks_mark}
use Rattle.yang_values.proofs.ValueText.{apart}
use Rattle.line_words.specs.Words.{◌>>=◌, words, is_printable}
use Rattle.script_lines.specs.Act.{act_in, as_spelled, act_of}
use Rattle.line_words.specs.Spelling.{are_spelled}
use Rattle.script_lines.specs.Spelling.{IsActUnder, IsAct}
use Rattle.script_lines.specs.Text.{act_text, text_of}
use Rattle.line_words.proofs.PartText.{each_holds}
use Rattle.line_words.proofs.LineText.{ReadsDigits}
use Rattle.script_lines.proofs.ActText.{act_again}

abbrev is_line_end : ℕ → Bool
is_line_end c = c == 10

abbrev IsReadAgain : List Peer → Act → Type 0
IsReadAgain gateways a = act_of gateways (act_text a) ≡ Ok a

-- what is read as an act is printable
read_printable : (gateways : List Peer) (line : List ℕ) (a : Act) → act_of gateways line ≡ Ok a → list_all is_printable line ≡ true
unfolding act_of
read_printable gateways line a is = by_test (list_all is_printable line) is
  where
    by_test : (b : Bool) → cond b (act_in gateways (words line) >>= as_spelled line) (Err faults.Octet) ≡ Ok a → b ≡ true
    by_test true h = refl
    by_test false h = cc

no_line_end : (gateways : List Peer) (a : Act) → IsReadAgain gateways a → All (λ c. is_line_end c ≡ false) (act_text a)
no_line_end gateways a read =
    lacks_mark is_printable is_line_end (λ c. apart is_printable c 10 refl) (act_text a) (read_printable gateways (act_text a) a read)

text_split : (gateways : List Peer) (xs : List Act) → AllByRecursion (IsReadAgain gateways) xs
    → slice_split is_line_end (text_of xs) ≡ map act_text xs ++ [] ∷ []
text_split gateways [] all = refl
text_split gateways (x ∷ xs) all =
    ap (slice_split is_line_end) (append_assoc (act_text x) (10 ∷ []) (text_of xs))
    ∙ slice_split_at is_line_end (act_text x) 10 (text_of xs) (no_line_end gateways x all.0) refl
    ∙ ap (λ parts. act_text x ∷ parts) (text_split gateways xs all.1)

same_act : (gateways : List Peer) (x y : Act) → IsReadAgain gateways x → IsReadAgain gateways y → act_text x ≡ act_text y → x ≡ y
same_act gateways x y readx ready same =
    let e = sym readx ∙ ap (act_of gateways) same ∙ ready in
    inside x y e
  where
    inside : (x y : Act) → ◌≡◌ {A = Result Act LineFault} (Ok x) (Ok y) → x ≡ y
    inside x y e = cc

longer : (ts : List (List ℕ)) (t : List ℕ) → [] ∷ [] ≡ t ∷ (ts ++ [] ∷ []) → ⊥
longer ts t e = let n = ap length e in let m = length-append ts ([] ∷ []) in omega (arith, n, m)

same_acts : (gateways : List Peer) (xs ys : List Act) → AllByRecursion (IsReadAgain gateways) xs → AllByRecursion (IsReadAgain gateways) ys
    → map act_text xs ++ [] ∷ [] ≡ map act_text ys ++ [] ∷ [] → xs ≡ ys
same_acts gateways [] [] readx ready e = refl
same_acts gateways [] (y ∷ ys) readx ready e = absurd (longer (map act_text ys) (act_text y) e)
same_acts gateways (x ∷ xs) [] readx ready e = absurd (longer (map act_text xs) (act_text x) (sym e))
same_acts gateways (x ∷ xs) (y ∷ ys) readx ready e =
    let front : act_text x ≡ act_text y = cc in
    let rest : map act_text xs ++ [] ∷ [] ≡ map act_text ys ++ [] ∷ [] = cc in
    let one = same_act gateways x y readx.0 ready.0 front in
    let others = same_acts gateways xs ys readx.1 ready.1 rest in
    cc

pub texts_are_of_one : ReadsDigits → (gateways : List Peer) (xs ys : List Act) → are_spelled gateways ≡ true
    → All (λ a. IsActUnder gateways a × IsAct a) xs → All (λ a. IsActUnder gateways a × IsAct a) ys → text_of xs ≡ text_of ys → xs ≡ ys
texts_are_of_one digits gateways xs ys spelled allx ally same =
    let readx = again xs allx in
    let ready = again ys ally in
    same_acts gateways xs ys readx ready (sym (text_split gateways xs readx) ∙ ap (slice_split is_line_end) same
    ∙ text_split gateways ys ready)
  where
    again : (list : List Act) → All (λ a. IsActUnder gateways a × IsAct a) list → AllByRecursion (IsReadAgain gateways) list
    again list all =
        each_holds (λ a. IsActUnder gateways a × IsAct a) (IsReadAgain gateways) (λ a is. act_again digits gateways a spelled is.0 is.1)
        list
        (recursion_from_All (λ a. IsActUnder gateways a × IsAct a) list all)
