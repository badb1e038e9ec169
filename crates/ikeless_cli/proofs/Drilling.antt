-- What is counted of the transcript of a script, and the run of the drill's.
use Rattle.std.proofs.Common.{◌≡◌, ◌<◌, ◌≤◌, ℕ, ◌^◌, true, false, List, [], ◌∷◌, ◌++◌, length, Option, Some, None, Ok, refl, sym, ap, ◌∙◌, subst, arith, length-append}
use Rattle.std.specs.List.{All}
use Rattle.ikl_base.specs.declared.status.Status.{Status}
use Rattle.ikl_base.specs.declared.status.Status.TheVariants as statuses
use Rattle.ikeless_tree.specs.declared.command.Peer.{Peer}
use Rattle.hist_acts.specs.declared.act.Act.{Act}
use Rattle.hist_acts.specs.declared.event.Event.{Event}
use Rattle.hist_acts.specs.declared.event.Header.{Header}
use Rattle.hist_world.specs.Block.{history, nothing}
use Rattle.hist_scripts.specs.Script.{AreLinesOf}
use Rattle.hist_wire.specs.Wire.{under_way}
use Rattle.hist_wire.proofs.Histories.{only-history}
use Rattle.event_lines.specs.Header.{header_of}
use Rattle.line_words.specs.Spelling.{are_spelled}
use Rattle.script_lines.specs.Spelling.{IsActUnder, IsAct}
use Rattle.script_lines.specs.Text.{text_of}
use Rattle.acts_spell.specs.Spelled.{IsSpelled, IsSpelledHeader}
use Rattle.drill_script.specs.declared.tallying.Tally.{Tally}
use Rattle.drill_script.specs.Script.{script_of}
use Rattle.drill_script.specs.Tallies.{summary_text, tally_of, tally_of_text}
use Rattle.ikeless_cli.specs.Drill.{IsDrilled, wants_memory}
use Rattle.ikeless_cli.specs.Exit.{number_of}
use Rattle.ikeless_cli.specs.Run.{IsHistoryOf, IsWritten, Ran, is_read_fault}
use Rattle.ikeless_cli.specs.Script.{IsScript, Taken, joined}
use Rattle.ikeless_cli.proofs.Lines.{AreLinesOf-length}

-- each line has an octet at least, its LF
few-lines : (lines : List (List ℕ)) → length lines ≤ length (joined lines)
few-lines [] = omega arith
few-lines (l ∷ ls) =
    let ih = few-lines ls in
    let all = length-append (l ++ 10 ∷ []) (joined ls) in
    let one = length-append l (10 ∷ []) in
    omega (arith, ih, all, one)

-- what is said of histories and transcripts by laws below
abbrev pub SpellsHeader : Type 0
SpellsHeader = (line : List ℕ) (header : Header) → header_of line ≡ Ok header → IsSpelledHeader header

abbrev pub SpellsHistory : Type 0
SpellsHistory = (line : List ℕ) (header : Header) (lines : List (List ℕ)) (events : List Event) → header_of line ≡ Ok header → AreLinesOf
    header lines events
    → length events < 2 ^ 32 → All (IsSpelled header.gateways) (history (under_way header) header nothing events)

abbrev pub CountsActs : Type 0
CountsActs = (gateways : List Peer) (happened : List Act) → are_spelled gateways ≡ true → All (λ a. IsActUnder gateways a × IsAct a)
    happened
    → tally_of_text (text_of happened) ≡ tally_of happened

counts : SpellsHeader → SpellsHistory → CountsActs → (header : Option Header) (lines : List (List ℕ)) (events : List Event)
    (happened : List Act)
    → IsScript header lines events → length (joined lines) ≤ 67108864 → IsHistoryOf header events happened → tally_of_text
    (text_of happened) ≡ tally_of happened
counts one all acts None lines events happened script within history = rw history refl
counts one all acts (Some h) lines events happened script within is =
    let few : length events < 2 ^ 32 =
    (let size = few-lines lines in
    let cut = ap length script.2 in
    let same = AreLinesOf-length h script.1 events script.4 in
    omega (arith, size, cut, same, within)) in
    let only : happened ≡ history (under_way h) h nothing events = only-history h events happened is in
    let P : List Act → Type 0 = λ x. tally_of_text (text_of x) ≡ tally_of x in
    subst P (sym only) (acts h.gateways (history (under_way h) h nothing events) (one script.0 h script.3).names
    (all script.0 h script.1 events script.3 script.4 few))

pub taken-counts : SpellsHeader → SpellsHistory → CountsActs → (input : List ℕ) (t : Taken input) (happened : List Act) → IsHistoryOf
    t.header t.events happened
    → tally_of_text (text_of happened) ≡ tally_of happened
taken-counts one all acts input t happened is = counts one all acts t.header t.lines t.events happened t.script t.within is

-- all was written in a run that memory lasted for
pub written-whole : (status : Status) (written text : List ℕ) → wants_memory status ≡ false → IsWritten status written text → written ≡ text
written-whole statuses.WriteFault written text lasted is = cc
written-whole _ written text lasted is = is

-- the line says what is counted of the run
pub is-drilled : SpellsHeader → SpellsHistory → CountsActs → (n : ℕ) (script octets rest text written line : List ℕ) (status : Status)
    (exit : ℕ) (tally : Tally)
    → script ≡ script_of n → script ≡ octets ++ rest → text ≡ written → Ran status (Some rest) octets written → wants_memory status ≡ false
    → is_read_fault status ≡ false
    → exit ≡ number_of status → tally ≡ tally_of_text text → line ≡ summary_text n tally exit → IsDrilled n line
is-drilled one all acts n script octets rest text written line status exit tally drawn cut grew ran lasted read number counted says =
    let whole = written-whole status written (text_of ran.1) lasted ran.4 in
    record {
      octets = octets;
      left = rest;
      script = sym drawn ∙ cut;
      taken = ran.0;
      happened = ran.1;
      history = ran.2;
      safe = ran.3;
      status = status;
      lasted = lasted;
      read = read;
      cause = ran.5;
      says = says
          ∙ ap (λ (x : ℕ). summary_text n tally x) number
          ∙ ap (λ (x : Tally). summary_text n x (number_of status)) (counted ∙ ap tally_of_text (grew ∙ whole) ∙ taken-counts one all acts
          octets ran.0 ran.1 ran.2);
    }
