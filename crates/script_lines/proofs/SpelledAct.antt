-- An act that is read has the line as its text.
use Rattle.std.proofs.Common.{◌≡◌, ℕ, Bool, true, false, List, Result, Ok, Err, cond, refl, ap, ◌∙◌}
use Rattle.std.specs.List.{list_all}
use Rattle.std.specs.Str.{bytes_eq}
use Rattle.std.proofs.lemmas.Slice.Eq.{bytes_eq-Decides}
use Rattle.ikl_base.specs.declared.status.LineFault.{LineFault}
use Rattle.ikl_base.specs.declared.status.LineFault.TheVariants as faults
use Rattle.ikeless_tree.specs.declared.command.Peer.{Peer}
use Rattle.hist_acts.specs.declared.act.Act.{Act}
use Rattle.line_words.specs.Words.{◌>>=◌, words, is_printable}
use Rattle.script_lines.specs.Text.{act_text}
use Rattle.script_lines.specs.Act.{act_in, spelling_fault, as_spelled, act_of}

spelled : (line : List ℕ) (x a : Act) → as_spelled line x ≡ Ok a → act_text a ≡ line
unfolding as_spelled
spelled line x a read = by_test (bytes_eq (act_text x) line) refl read
  where
    by_test : (b : Bool) → bytes_eq (act_text x) line ≡ b → cond b (Ok x) (Err (spelling_fault x)) ≡ Ok a → act_text a ≡ line
    by_test true same is =
        let e : a ≡ x = cc in
        ap act_text e ∙ (bytes_eq-Decides (act_text x) line).0 same
    by_test false other is = cc

from_words : (line : List ℕ) (a : Act) (r : Result Act LineFault) → (r >>= as_spelled line) ≡ Ok a → act_text a ≡ line
from_words line a (Ok x) read = spelled line x a read
from_words line a (Err e) read = cc

pub read_is_spelled : (gateways : List Peer) (line : List ℕ) (a : Act) → act_of gateways line ≡ Ok a → act_text a ≡ line
unfolding act_of
read_is_spelled gateways line a read = by_octets (list_all is_printable line) read
  where
    by_octets : (b : Bool) → cond b (act_in gateways (words line) >>= as_spelled line) (Err faults.Octet) ≡ Ok a → act_text a ≡ line
    by_octets true is = from_words line a (act_in gateways (words line)) is
    by_octets false is = cc
