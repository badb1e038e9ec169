-- A line whose words are read as an act is read as that act.
use Rattle.std.proofs.Common.{◌≡◌, ℕ, true, List, ◌∷◌, Ok, refl, ap, ◌∙◌}
use Rattle.std.specs.List.{list_all}
use Rattle.std.specs.Str.{bytes_eq}
use Rattle.std.proofs.lemmas.Slice.Eq.{bytes_eq-Decides}
use Rattle.ikeless_tree.specs.declared.command.Peer.{Peer}
use Rattle.hist_acts.specs.declared.act.Act.{Act}
use Rattle.line_words.specs.Words.{words, is_printable}
use Rattle.line_words.specs.Text.{line_text}
use Rattle.script_lines.specs.Text.{act_words, act_text}
use Rattle.script_lines.specs.Act.{act_in, as_spelled, act_of}
use Rattle.line_words.proofs.LineText.{AreWords, line_words, line_printable}

pub act_line : (gateways : List Peer) (a : Act) (w : List ℕ) (ws : List (List ℕ)) → act_words a ≡ w ∷ ws → AreWords (w ∷ ws)
    → act_in gateways (w ∷ ws) ≡ Ok a → act_of gateways (act_text a) ≡ Ok a
unfolding act_of as_spelled act_text
act_line gateways a w ws e are read =
    let p : list_all is_printable (line_text (act_words a)) ≡ true = ap (λ us. list_all is_printable (line_text us)) e
    ∙ line_printable w ws are in
    let s : words (line_text (act_words a)) ≡ w ∷ ws = ap (λ us. words (line_text us)) e ∙ line_words w ws are in
    let same : bytes_eq (line_text (act_words a)) (line_text (act_words a)) ≡ true =
    (bytes_eq-Decides (line_text (act_words a)) (line_text (act_words a))).1 refl in
    rw (p, s, read, same) refl
