-- An event or a header that is read is one that a line can spell.
use Rattle.std.proofs.Common.{◌≡◌, ℕ, ◌-◌, ◌^◌, ◌==◌, ◌&&◌, nat_le, true, List, [], ◌∷◌, length, Ok, refl, sym, ap, ◌∙◌, subst}
use Rattle.std.specs.Prelude.{codes}
use Rattle.std.specs.List.{AllByRecursion, list_all, slice_split}
use Rattle.std.specs.Str.{bytes_eq}
use Rattle.std.proofs.lemmas.Bool.{and_from, le-leb}
use Rattle.ikl_base.specs.declared.status.LineFault.TheVariants as faults
use Rattle.ikeless_tree.specs.Check.{spd_fault, is_gateway, is_window}
use Rattle.ikeless_tree.specs.declared.command.Peer.{Peer}
use Rattle.hist_acts.specs.declared.event.Event.{Event}
use Rattle.hist_acts.specs.declared.event.Event.TheVariants as events
use Rattle.hist_acts.specs.declared.event.Header.{Header}
use Rattle.hist_acts.specs.Gateways.{is_named}
use Rattle.yang_values.specs.Addresses.{address_of}
use Rattle.event_lines.specs.declared.tunnel.Ends.{Ends}
use Rattle.event_lines.specs.declared.tunnel.Flow.{Flow}
use Rattle.line_words.specs.Words.{◌>>=◌, or_fault, words, is_printable, gateway_of, known_of, octets_of, lane_of, number_in, prefix_in}
use Rattle.line_words.specs.Entry.{entries_of, unless_fault}
use Rattle.line_words.specs.Limits.{lifetimes_of}
use Rattle.event_lines.specs.Header.{is_equals, seq_last_of, gateway_in as peer_in, peer_of, peers_of, all_go_together, gateways_of, header_in, header_of}
use Rattle.event_lines.specs.Event.{policy_in, let_in, is_numbered, from_one, sent_of, arrive_of, ttl_of, flip_of, arrive_in, time_in, gateway_in, wire_in, reqid_in, keys_in, mode_of, window_of, ends_of, flow_of, flow_in, tunnel_made, tunnel_of, tunnel_from, tunnel_in, command_in, session_in, event_in, event_of}
use Rattle.line_words.specs.Spelling.{are_spelled}
use Rattle.event_lines.specs.Spelling.{IsEventUnder}
use Rattle.line_words.proofs.TakenSteps.{after, passed, either, inside, each_has, listed, known_named, number_most}

-- ---- events

pub gateway_named : (gateways : List Peer) (ws : List (List ℕ)) (g : List ℕ) → gateway_in gateways ws ≡ Ok g → is_named gateways g ≡ true
unfolding gateway_in
gateway_named gateways [] g is = cc
gateway_named gateways (w ∷ []) g is = known_named gateways w g is
gateway_named gateways (w ∷ x ∷ ws) g is = cc

gateway_spelled : (w g : List ℕ) → gateway_of w ≡ Ok g → is_gateway g ≡ true
gateway_spelled w g is =
    passed (is_gateway g ≡ true) (is_gateway w) (Ok w) faults.Gateway g is
    (λ named same. let e : w ≡ g = cc in ap is_gateway (sym e) ∙ named)

policy_under : (gateways : List Peer) (ws : List (List ℕ)) (e : Event) → policy_in ws ≡ Ok e → IsEventUnder gateways e
unfolding policy_in
policy_under gateways [] e is = cc
policy_under gateways (w ∷ ws) e is =
    let P : Type 0 = IsEventUnder gateways e in
    passed P (nat_le (length ws) 256) _ faults.Count e is
    (λ _ more. after P (gateway_of w) _ e more
    (λ g known more2. after P (entries_of ws) _ e more2
    (λ list read more3. after P (unless_fault (spd_fault list) list) _ e more3
    (λ good fits same. let q : events.Policy g good ≡ e = cc in
    subst (IsEventUnder gateways) q (gateway_spelled w g known, listed ws list good read fits)))))

let_under : (gateways : List Peer) (ws : List (List ℕ)) (e : Event) → let_in gateways ws ≡ Ok e → IsEventUnder gateways e
unfolding let_in
let_under gateways [] e is = cc
let_under gateways (w ∷ []) e is = cc
let_under gateways (w ∷ o ∷ []) e is =
    let P : Type 0 = IsEventUnder gateways e in
    after P (known_of gateways w) _ e is
    (λ g known more. after P (octets_of o) _ e more
    (λ octets _ same. let q : events.Let g octets ≡ e = cc in subst (IsEventUnder gateways) q (known_named gateways w g known)))
let_under gateways (w ∷ o ∷ x ∷ ws) e is = cc

from_one_is : (w : List ℕ) (k : ℕ) → from_one w ≡ Ok k → nat_le 1 k ≡ true
from_one_is w k is =
    let P : Type 0 = nat_le 1 k ≡ true in
    after P (number_in faults.Number (2 ^ 64 - 1) w) _ k is
    (λ n _ more. passed P (nat_le 1 n) (Ok n) faults.Number k more
    (λ one same. let e : n ≡ k = cc in ap (nat_le 1) (sym e) ∙ one))

sent_from_one : (w : List ℕ) (k : ℕ) → sent_of w ≡ Ok k → nat_le 1 k ≡ true
sent_from_one [] k is = cc
sent_from_one (c ∷ cs) k is = passed (nat_le 1 k ≡ true) (c == 35) (from_one cs) faults.Word k is (λ _ read. from_one_is cs k read)

arrive_of_under : (gateways : List Peer) (gateway w : List ℕ) (e : Event) → arrive_of gateways gateway w ≡ Ok e → IsEventUnder gateways e
unfolding arrive_of
arrive_of_under gateways gateway w e is =
    let P : Type 0 = IsEventUnder gateways e in
    after P (known_of gateways gateway) _ e is
    (λ g known more. either P (is_numbered w) _ _ e more
    (λ read. after P (sent_of w) _ e read
    (λ k sent same. let q : events.ArriveSent g k ≡ e = cc in
    subst (IsEventUnder gateways) q (known_named gateways gateway g known, sent_from_one w k sent)))
    (λ read. after P (octets_of w) _ e read
    (λ o _ same. let q : events.Arrive g o ≡ e = cc in subst (IsEventUnder gateways) q (known_named gateways gateway g known))))

ttl_under : (gateways : List Peer) (gateway sent how ttl : List ℕ) (e : Event) → ttl_of gateways gateway sent how ttl ≡ Ok e
    → IsEventUnder gateways e
unfolding ttl_of
ttl_under gateways gateway sent how ttl e is =
    let P : Type 0 = IsEventUnder gateways e in
    after P (known_of gateways gateway) _ e is
    (λ g known more. after P (sent_of sent) _ e more
    (λ k counted more2. passed P (bytes_eq how (codes "ttl")) _ faults.Word e more2
    (λ _ more3. after P (number_in faults.Number 255 ttl) _ e more3
    (λ t _ same. let q : events.ArriveTtl g k t ≡ e = cc in
    subst (IsEventUnder gateways) q (known_named gateways gateway g known, sent_from_one sent k counted)))))

flip_under : (gateways : List Peer) (gateway sent how offset bit : List ℕ) (e : Event) → flip_of gateways gateway sent how offset bit ≡ Ok e
    → IsEventUnder gateways e
unfolding flip_of
flip_under gateways gateway sent how offset bit e is =
    let P : Type 0 = IsEventUnder gateways e in
    after P (known_of gateways gateway) _ e is
    (λ g known more. after P (sent_of sent) _ e more
    (λ k counted more2. passed P (bytes_eq how (codes "flip")) _ faults.Word e more2
    (λ _ more3. after P (number_in faults.Number (2 ^ 64 - 1) offset) _ e more3
    (λ n _ more4. after P (number_in faults.Number 7 bit) _ e more4
    (λ b few same. let q : events.ArriveFlip g k n b ≡ e = cc in
    subst (IsEventUnder gateways) q (
      known_named gateways gateway g known,
      sent_from_one sent k counted,
      number_most faults.Number 7 bit b
          few,
    ))))))

arrive_under : (gateways : List Peer) (ws : List (List ℕ)) (e : Event) → arrive_in gateways ws ≡ Ok e → IsEventUnder gateways e
unfolding arrive_in
arrive_under gateways [] e is = cc
arrive_under gateways (w ∷ []) e is = cc
arrive_under gateways (w ∷ o ∷ []) e is = arrive_of_under gateways w o e is
arrive_under gateways (w ∷ k ∷ how ∷ []) e is = cc
arrive_under gateways (w ∷ k ∷ how ∷ t ∷ []) e is = ttl_under gateways w k how t e is
arrive_under gateways (w ∷ k ∷ how ∷ n ∷ b ∷ []) e is = flip_under gateways w k how n b e is
arrive_under gateways (w ∷ k ∷ how ∷ n ∷ b ∷ x ∷ ws) e is = cc

wire_under : (gateways : List Peer) (ws : List (List ℕ)) (e : Event) → wire_in gateways ws ≡ Ok e → IsEventUnder gateways e
unfolding wire_in
wire_under gateways [] e is = cc
wire_under gateways (w ∷ []) e is = cc
wire_under gateways (w ∷ l ∷ []) e is =
    let P : Type 0 = IsEventUnder gateways e in
    after P (known_of gateways w) _ e is
    (λ g known more. after P (lane_of l) _ e more
    (λ lane _ same. let q : events.Wire g lane ≡ e = cc in subst (IsEventUnder gateways) q (known_named gateways w g known)))
wire_under gateways (w ∷ l ∷ x ∷ ws) e is = cc

keys_under : (gateways : List Peer) (ws : List (List ℕ)) (e : Event) → keys_in ws ≡ Ok e → IsEventUnder gateways e
unfolding keys_in
keys_under gateways [] e is = cc
keys_under gateways (w ∷ []) e is =
    after (IsEventUnder gateways e) (octets_of w) _ e is (λ o _ same. let q : events.Keys o ≡ e = cc in subst (IsEventUnder gateways) q tt)
keys_under gateways (w ∷ x ∷ ws) e is = cc

window_is : (w : List ℕ) (n : ℕ) → window_of w ≡ Ok n → is_window n ≡ true
window_is w n is =
    let P : Type 0 = is_window n ≡ true in
    after P (number_in faults.Number 4096 w) _ n is
    (λ m few more. passed P (nat_le 32 m) (Ok m) faults.Number n more
    (λ least same. let e : m ≡ n = cc in
    ap is_window (sym e) ∙ and_from _ _ least (le-leb m 4096 (number_most faults.Number 4096 w m few))))

ends_spelled : (reqid mode a b : List ℕ) (x : Ends) → ends_of reqid mode a b ≡ Ok x → (is_gateway x.first ≡ true)
    × (is_gateway x.second ≡ true)
unfolding ends_of
ends_spelled reqid mode a b x is =
    let P : Type 0 = (is_gateway x.first ≡ true) × (is_gateway x.second ≡ true) in
    after P (number_in faults.Number (2 ^ 64 - 1) reqid) _ x is
    (λ n _ more. after P (mode_of mode) _ x more
    (λ m _ more2. after P (gateway_of a) _ x more2
    (λ f first more3. after P (gateway_of b) _ x more3
    (λ s second same. (
      ap (λ (q : Ends). is_gateway q.first) (sym (inside _ x same)) ∙ gateway_spelled a f first,
      ap (λ (q : Ends). is_gateway q.second) (sym (inside _ x same)) ∙ gateway_spelled b s second,
    )))))

flow_window : (p q window hard soft : List ℕ) (x : Flow) → flow_of p q window hard soft ≡ Ok x → is_window x.window ≡ true
unfolding flow_of
flow_window p q window hard soft x is =
    let P : Type 0 = is_window x.window ≡ true in
    after P (prefix_in faults.Prefix p) _ x is
    (λ f _ more. after P (prefix_in faults.Prefix q) _ x more
    (λ s _ more2. after P (window_of window) _ x more2
    (λ w fits more3. after P (lifetimes_of faults.Limits hard soft) _ x more3
    (λ l _ same. ap (λ (y : Flow). is_window y.window) (sym (inside _ x same)) ∙ window_is window w fits))))

flow_in_window : (ws : List (List ℕ)) (x : Flow) → flow_in ws ≡ Ok x → is_window x.window ≡ true
unfolding flow_in
flow_in_window [] x is = cc
flow_in_window (p ∷ []) x is = cc
flow_in_window (p ∷ q ∷ []) x is = cc
flow_in_window (p ∷ q ∷ window ∷ []) x is = cc
flow_in_window (p ∷ q ∷ window ∷ hard ∷ []) x is = cc
flow_in_window (p ∷ q ∷ window ∷ hard ∷ soft ∷ []) x is = flow_window p q window hard soft x is
flow_in_window (p ∷ q ∷ window ∷ hard ∷ soft ∷ y ∷ ws) x is = cc

tunnel_from_under : (gateways : List Peer) (ws : List (List ℕ)) (e : Event) → tunnel_from ws ≡ Ok e → IsEventUnder gateways e
unfolding tunnel_from tunnel_of
tunnel_from_under gateways [] e is = cc
tunnel_from_under gateways (reqid ∷ []) e is = cc
tunnel_from_under gateways (reqid ∷ mode ∷ []) e is = cc
tunnel_from_under gateways (reqid ∷ mode ∷ a ∷ []) e is = cc
tunnel_from_under gateways (reqid ∷ mode ∷ a ∷ b ∷ more) e is =
    let P : Type 0 = IsEventUnder gateways e in
    after P (ends_of reqid mode a b) _ e is
    (λ x ends rest. after P (flow_in more) _ e rest
    (λ y flow same. let r : events.Tunnel (tunnel_made x y) ≡ e = cc in
    let spelled = ends_spelled reqid mode a b x ends in
    subst (IsEventUnder gateways) r (spelled.0, spelled.1, flow_in_window more y flow)))

tunnel_under : (gateways : List Peer) (ws : List (List ℕ)) (e : Event) → tunnel_in ws ≡ Ok e → IsEventUnder gateways e
unfolding tunnel_in
tunnel_under gateways ws e is = passed (IsEventUnder gateways e) (length ws == 9) (tunnel_from ws) faults.Count e is
    (λ _ more. tunnel_from_under gateways ws e more)

command_under : (gateways : List Peer) (w : List ℕ) (ws : List (List ℕ)) (e : Event) → command_in w ws ≡ Ok e → IsEventUnder gateways e
unfolding command_in
command_under gateways w ws e is =
    let P : Type 0 = IsEventUnder gateways e in
    either P (bytes_eq w (codes "policy")) _ _ e is (policy_under gateways ws e)
    (λ is2. either P (bytes_eq w (codes "tunnel")) _ _ e is2 (tunnel_under gateways ws e)
    (λ is3. either P (bytes_eq w (codes "end")) _ _ e is3
    (λ read. after P (reqid_in ws) _ e read (λ n _ same. let q : events.End n ≡ e = cc in subst (IsEventUnder gateways) q tt))
    (λ is4. either P (bytes_eq w (codes "rekey")) _ _ e is4
    (λ read. after P (reqid_in ws) _ e read (λ n _ same. let q : events.Rekey n ≡ e = cc in subst (IsEventUnder gateways) q tt))
    (λ is5. passed P (bytes_eq w (codes "keys")) _ faults.Word e is5 (λ _ read. keys_under gateways ws e read)))))

-- an event of a gateway alone
alone_under : (gateways : List Peer) (ws : List (List ℕ)) (f : List ℕ → Event) (e : Event)
    → ((g : List ℕ) → is_named gateways g ≡ true → IsEventUnder gateways (f g))
    → (gateway_in gateways ws >>= (λ g. Ok (f g))) ≡ Ok e → IsEventUnder gateways e
alone_under gateways ws f e of_named is =
    after (IsEventUnder gateways e) (gateway_in gateways ws) (λ g. Ok (f g)) e is
    (λ g named same. subst (IsEventUnder gateways) (inside (f g) e same) (of_named g (gateway_named gateways ws g named)))

session_under : (gateways : List Peer) (w : List ℕ) (ws : List (List ℕ)) (e : Event) → session_in gateways w ws ≡ Ok e
    → IsEventUnder gateways e
unfolding session_in
session_under gateways w ws e is =
    let P : Type 0 = IsEventUnder gateways e in
    either P (bytes_eq w (codes "open")) _ _ e is (alone_under gateways ws (λ g. events.Open g) e (λ g named. named))
    (λ is2. either P (bytes_eq w (codes "cut")) _ _ e is2 (alone_under gateways ws (λ g. events.Cut g) e (λ g named. named))
    (λ is3. either P (bytes_eq w (codes "down")) _ _ e is3 (alone_under gateways ws (λ g. events.Down g) e (λ g named. named))
    (λ is4. either P (bytes_eq w (codes "up")) _ _ e is4 (alone_under gateways ws (λ g. events.Up g) e (λ g named. named))
    (λ is5. either P (bytes_eq w (codes "note")) _ _ e is5 (alone_under gateways ws (λ g. events.Note g) e (λ g named. named))
    (command_under gateways w ws e)))))

event_words_under : (gateways : List Peer) (ws : List (List ℕ)) (e : Event) → event_in gateways ws ≡ Ok e → IsEventUnder gateways e
unfolding event_in
event_words_under gateways [] e is = cc
event_words_under gateways (w ∷ ws) e is =
    let P : Type 0 = IsEventUnder gateways e in
    either P (bytes_eq w (codes "let")) _ _ e is (let_under gateways ws e)
    (λ is2. either P (bytes_eq w (codes "arrive")) _ _ e is2 (arrive_under gateways ws e)
    (λ is3. either P (bytes_eq w (codes "now")) _ _ e is3
    (λ read. after P (time_in ws) _ e read (λ t _ same. let q : events.Now t ≡ e = cc in subst (IsEventUnder gateways) q tt))
    (λ is4. either P (bytes_eq w (codes "boot")) _ _ e is4 (alone_under gateways ws (λ g. events.Boot g) e (λ g named. named))
    (λ is5. either P (bytes_eq w (codes "wire")) _ _ e is5 (wire_under gateways ws e) (session_under gateways w ws e)))))

pub event_under : (gateways : List Peer) (line : List ℕ) (e : Event) → event_of gateways line ≡ Ok e → IsEventUnder gateways e
unfolding event_of
event_under gateways line e is =
    passed (IsEventUnder gateways e) (list_all is_printable line) _ faults.Octet e is (λ _ read. event_words_under gateways (words line) e
    read)

-- ---- headers

IsSpelledPeer : Peer → Type 0
IsSpelledPeer p = is_gateway p.name ≡ true

peer_spelled : (w : List ℕ) (p : Peer) → peer_of w ≡ Ok p → IsSpelledPeer p
unfolding peer_in IsSpelledPeer
peer_spelled w p read = parts (slice_split is_equals w) read
  where
    parts : (ps : List (List ℕ)) → peer_in ps ≡ Ok p → IsSpelledPeer p
    parts [] is = cc
    parts (a ∷ []) is = cc
    parts (name ∷ address ∷ []) is =
        let P : Type 0 = is_gateway p.name ≡ true in
        passed P (is_gateway name) _ faults.Header p is
        (λ spelled more. after P (or_fault faults.Header (address_of address)) _ p more
        (λ a _ same. ap (λ (q : Peer). is_gateway q.name) (sym (inside _ p same)) ∙ spelled))
    parts (a ∷ b ∷ c ∷ ps) is = cc

all_spelled : (ps : List Peer) → AllByRecursion IsSpelledPeer ps → are_spelled ps ≡ true
unfolding IsSpelledPeer
all_spelled [] all = refl
all_spelled (p ∷ ps) all = and_from _ _ all.0 (all_spelled ps all.1)

gateways_spelled : (ws : List (List ℕ)) (ps : List Peer) → gateways_of ws ≡ Ok ps → are_spelled ps ≡ true
unfolding gateways_of
gateways_spelled ws ps is =
    let P : Type 0 = are_spelled ps ≡ true in
    passed P (nat_le 1 (length ws) && nat_le (length ws) 16) _ faults.Header ps is
    (λ _ more. after P (peers_of ws) _ ps more
    (λ qs read more2. passed P (all_go_together qs) (Ok qs) faults.Header ps more2
    (λ _ same. let e : qs ≡ ps = cc in ap are_spelled (sym e) ∙ all_spelled qs (each_has IsSpelledPeer peer_of peer_spelled ws qs read))))

words_spelled : (ws : List (List ℕ)) (h : Header) → header_in ws ≡ Ok h → are_spelled h.gateways ≡ true
unfolding header_in
words_spelled [] h is = cc
words_spelled (a ∷ []) h is = cc
words_spelled (a ∷ b ∷ []) h is = cc
words_spelled (world ∷ last ∷ number ∷ gateways) h is =
    let P : Type 0 = are_spelled h.gateways ≡ true in
    passed P (bytes_eq world (codes "world") && bytes_eq last (codes "seq-last")) _ faults.Header h is
    (λ _ more. after P (seq_last_of number) _ h more
    (λ n _ more2. after P (gateways_of gateways) _ h more2
    (λ ps read same. ap (λ (x : Header). are_spelled x.gateways) (sym (inside _ h same)) ∙ gateways_spelled gateways ps read)))

pub header_spelled : (line : List ℕ) (h : Header) → header_of line ≡ Ok h → are_spelled h.gateways ≡ true
unfolding header_of
header_spelled line h is =
    passed (are_spelled h.gateways ≡ true) (list_all is_printable line) _ faults.Octet h is (λ _ read. words_spelled (words line) h read)
