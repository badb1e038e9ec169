-- The gateways that the words of `controller` name have addresses of one family.
use Rattle.std.proofs.Common.{◌≡◌, ℕ, true, List, Ok, refl, subst}
use Rattle.std.specs.Prelude.{codes}
use Rattle.std.specs.declared.string.String.{String}
use Rattle.std.specs.declared.alloc.Global.{Global}
use Rattle.ikl_base.specs.Address.{AreOneFamily, is_one_family}
use Rattle.ikl_base.specs.declared.address.Addr.{Addr}
use Rattle.ikl_base.specs.declared.address.Addr.TheVariants.{V4, V6}
use Rattle.ikeless_tree.specs.declared.command.Peer.{Peer}
use Rattle.hist_acts.specs.declared.event.Header.{Header}
use Rattle.hist_controller.specs.Entries.{OneFamily}
use Rattle.hist_controller.specs.Told.{peer_address}
use Rattle.hist_world.specs.Headers.{IsHeader}
use Rattle.line_words.specs.Words.{each}
use Rattle.line_words.proofs.TakenSteps.{after, inside}
use Rattle.event_lines.specs.Header.{header_of}
use Rattle.clap.specs.Words.{Row}
use Rattle.live_words.specs.declared.controller.ControllerWords.{ControllerWords}
use Rattle.live_words.specs.declared.controller.Peering.{Peering}
use Rattle.live_words.specs.declared.controller.Place.{Place}
use Rattle.live_words.specs.Apps.{controller_app}
use Rattle.live_words.specs.Values.{count_at, matched_by, port_at, values_at}
use Rattle.live_words.specs.Controller.{controller_in, controller_words_of, named_peers, naming_line, peering_at, peering_in, peering_of, place_of}

-- what is read as a header can be one, as a law below says
abbrev pub ReadsHeaders : Type 0
ReadsHeaders = (line : List ℕ) (header : Header) → header_of line ≡ Ok header → IsHeader header

one-family : (a b : Addr) → AreOneFamily a b → is_one_family a b ≡ true
one-family (V4 a) (V4 b) are = refl
one-family (V4 a) (V6 b) are = absurd are
one-family (V6 a) (V4 b) are = absurd are
one-family (V6 a) (V6 b) are = refl

header-family : (h : Header) → IsHeader h → OneFamily h.gateways
header-family h is = λ f g within within2. one-family (peer_address h.gateways f) (peer_address h.gateways g) (is.family f g within within2)

named-family : ReadsHeaders → (places : List Place) (ps : List Peer) → named_peers places ≡ Ok ps → OneFamily ps
named-family reads places ps is =
    after (OneFamily ps) (header_of (naming_line places)) (λ h. Ok h.gateways) ps is
    (λ h read same. subst OneFamily (inside h.gateways ps same) (header-family h (reads (naming_line places) h read)))

peering-family : ReadsHeaders → (places : List Place) (p : Peering) → peering_of places ≡ Ok p → OneFamily p.peers
unfolding peering_of
peering-family reads places p is =
    after (OneFamily p.peers) (named_peers places) _ p is
    (λ ps read same. subst (λ (q : Peering). OneFamily q.peers) (inside _ p same) (named-family reads places ps read))

words-family : ReadsHeaders → (words : List (List ℕ)) (p : Peering) → peering_in words ≡ Ok p → OneFamily p.peers
unfolding peering_in
words-family reads words p is =
    after (OneFamily p.peers) (each place_of words) peering_of p is (λ places _ more. peering-family reads places p more)

rows-family : ReadsHeaders → (rows : List Row) (w : ControllerWords) → controller_in rows ≡ Ok w → OneFamily w.peers
unfolding controller_in
rows-family reads rows w is =
    let P : Type 0 = OneFamily w.peers in
    after P (port_at (codes "commands") rows) _ w is
    (λ _ _ more. after P (count_at (codes "turns") rows) _ w more
    (λ _ _ more2. after P (peering_at rows) _ w more2
    (λ p read same. subst (λ (v : ControllerWords). OneFamily v.peers) (inside _ w same)
    (after (OneFamily p.peers) (values_at (codes "peers") rows) peering_in p read (λ words _ more3. words-family reads words p more3)))))

pub named-peers : ReadsHeaders → (words : List (String Global)) (w : ControllerWords) → controller_words_of words ≡ Ok w → OneFamily w.peers
named-peers reads words w is =
    after (OneFamily w.peers) (matched_by (codes "controller") controller_app words) controller_in w is
    (λ rows _ more. rows-family reads rows w more)
