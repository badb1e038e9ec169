-- A header that is read, and each event under it, have lines.
use Rattle.std.proofs.Common.{◌≡◌, ℕ, ◌-◌, ◌^◌, ◌≤◌, ◌&&◌, nat_le, true, List, [], ◌∷◌, All, length, Ok, subst, arith}
use Rattle.std.specs.Prelude.{codes}
use Rattle.std.specs.List.{AllByRecursion, list_all, slice_split}
use Rattle.std.specs.Str.{bytes_eq}
use Rattle.std.proofs.lemmas.Bool.Decides.{nat_tests}
use Rattle.std.proofs.lemmas.List.Elements.{All-from_recursion}
use Rattle.ikl_base.specs.Address.{IsAddress}
use Rattle.ikl_base.specs.declared.status.LineFault.TheVariants as faults
use Rattle.ikeless_tree.specs.Check.{is_gateway}
use Rattle.ikeless_tree.specs.declared.command.Peer.{Peer}
use Rattle.yang_values.specs.Addresses.{address_of}
use Rattle.yang_values.specs.Numbers.{number_of}
use Rattle.line_words.specs.Words.{is_printable, or_fault, words}
use Rattle.line_words.proofs.TakenSteps.{after, each_has, inside, passed}
use Rattle.event_lines.specs.Event.{event_of}
use Rattle.event_lines.specs.Header.{all_go_together, gateway_in, gateways_of, header_in, header_of, is_equals, peer_of, peers_of, seq_last_of}
use Rattle.event_lines.proofs.SpelledEvent.{event_under, header_spelled}
use Rattle.hist_acts.specs.declared.event.Event.{Event}
use Rattle.hist_acts.specs.declared.event.Header.{Header}
use Rattle.hist_scripts.proofs.HeaderRead.{header-read}
use Rattle.hist_scripts.specs.Script.{AreLinesOf}
use Rattle.acts_spell.specs.Spelled.{IsSpelledEvent, IsSpelledHeader}
use Rattle.acts_spell.proofs.AddressReads.{address-word}
use Rattle.acts_spell.proofs.EventReads.{event-typed}

HasAddress : Peer → Type 0
HasAddress p = IsAddress p.address

peer-read : (w : List ℕ) (p : Peer) → peer_of w ≡ Ok p → HasAddress p
unfolding gateway_in HasAddress
peer-read w p read = parts (slice_split is_equals w) read
  where
    parts : (ps : List (List ℕ)) → gateway_in ps ≡ Ok p → HasAddress p
    parts [] is = cc
    parts (a ∷ []) is = cc
    parts (name ∷ address ∷ []) is =
        let P : Type 0 = IsAddress p.address in
        passed P (is_gateway name) _ faults.Header p is
        (λ spelled more. after P (or_fault faults.Header (address_of address)) _ p more
        (λ a found same. subst (λ (q : Peer). IsAddress q.address) (inside _ p same) (address-word faults.Header address a found)))
    parts (a ∷ b ∷ c ∷ ps) is = cc

gateways-read : (ws : List (List ℕ)) (ps : List Peer) → gateways_of ws ≡ Ok ps → AllByRecursion HasAddress ps
unfolding gateways_of
gateways-read ws ps is =
    let P : Type 0 = AllByRecursion HasAddress ps in
    passed P (nat_le 1 (length ws) && nat_le (length ws) 16) _ faults.Header ps is
    (λ _ more. after P (peers_of ws) _ ps more
    (λ qs read more2. passed P (all_go_together qs) (Ok qs) faults.Header ps more2
    (λ together same. let e : qs ≡ ps = cc in subst (AllByRecursion HasAddress) e (each_has HasAddress peer_of peer-read ws qs read))))

at-least : (m n : ℕ) → nat_le m n ≡ true → m ≤ n
at-least m n e = grind (arith, nat_tests, e)

last-read : (w : List ℕ) (n : ℕ) → seq_last_of w ≡ Ok n → 1 ≤ n
unfolding seq_last_of
last-read w n is =
    let P : Type 0 = 1 ≤ n in
    after P (or_fault faults.Header (number_of (2 ^ 32 - 1) w)) _ n is
    (λ m read more. passed P (nat_le 1 m) (Ok m) faults.Header n more
    (λ least same. let e : m ≡ n = cc in subst (λ (z : ℕ). 1 ≤ z) e (at-least 1 m least)))

-- what more a header has than the law asks
record HasMore (h : Header) : Type 0 where
  pub least : 1 ≤ h.seq_last
  pub addresses : AllByRecursion HasAddress h.gateways

words-read : (ws : List (List ℕ)) (h : Header) → header_in ws ≡ Ok h → HasMore h
unfolding header_in
words-read [] h is = cc
words-read (a ∷ []) h is = cc
words-read (a ∷ b ∷ []) h is = cc
words-read (world ∷ last ∷ number ∷ gateways) h is =
    let P : Type 0 = HasMore h in
    passed P (bytes_eq world (codes "world") && bytes_eq last (codes "seq-last")) _ faults.Header h is
    (λ _ more. after P (seq_last_of number) _ h more
    (λ n least more2. after P (gateways_of gateways) _ h more2
    (λ ps read same. subst HasMore (inside (record { seq_last = n; gateways = ps }) h same)
    (record { least = last-read number n least; addresses = gateways-read gateways ps read }))))

more-read : (line : List ℕ) (h : Header) → header_of line ≡ Ok h → HasMore h
unfolding header_of
more-read line h is = passed (HasMore h) (list_all is_printable line) _ faults.Octet h is (λ _ read. words-read (words line) h read)

each-address : (ps : List Peer) → AllByRecursion HasAddress ps → AllByRecursion (λ p. IsAddress p.address) ps
unfolding HasAddress
each-address ps h = h

pub header-typed : (line : List ℕ) (h : Header) → header_of line ≡ Ok h → IsSpelledHeader h
header-typed line h is =
    let more = more-read line h is in
    record {
      sound = header-read line h is;
      least = more.least;
      names = header_spelled line h is;
      addresses = All-from_recursion (λ p. IsAddress p.address) h.gateways (each-address h.gateways more.addresses);
    }

pub event-spelled : (gateways : List Peer) (line : List ℕ) (e : Event) → event_of gateways line ≡ Ok e → IsSpelledEvent gateways e
event-spelled gateways line e is = (event_under gateways line e is, event-typed gateways line e is)

lines-each : (header : Header) (lines : List (List ℕ)) (es : List Event) → AreLinesOf header lines es
    → AllByRecursion (IsSpelledEvent header.gateways) es
lines-each header [] [] i = tt
lines-each header [] (e ∷ es) i = absurd i
lines-each header (line ∷ lines) [] i = absurd i
lines-each header (line ∷ lines) (e ∷ es) i = (event-spelled header.gateways line e i.0, lines-each header lines es i.1)

pub lines-spelled : (header : Header) (lines : List (List ℕ)) (es : List Event) → AreLinesOf header lines es
    → All (IsSpelledEvent header.gateways) es
lines-spelled header lines es i = All-from_recursion (IsSpelledEvent header.gateways) es (lines-each header lines es i)
