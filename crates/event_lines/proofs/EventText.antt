-- The line of an event in its canonical spelling is read as that event.
use Rattle.std.proofs.Common.{◌≡◌, ℕ, ◌-◌, ◌^◌, ◌<◌, ◌≤◌, nat_le, Bool, true, false, List, [], ◌∷◌, map, Ok, refl, ap, ◌∙◌, arith}
use Rattle.std.specs.Prelude.{codes}
use Rattle.std.specs.List.{All, list_all}
use Rattle.std.specs.Fmt.{decimal}
use Rattle.std.proofs.lemmas.Bool.{and_parts, leb-true}
use Rattle.ikl_base.specs.declared.status.LineFault.{LineFault}
use Rattle.ikl_base.specs.declared.status.LineFault.TheVariants as faults
use Rattle.ikeless_tree.proofs.WordLemmas.{mode_again}
use Rattle.ikeless_tree.specs.Check.{is_gateway, is_window}
use Rattle.ikeless_tree.specs.declared.sad.Limits.{Limits}
use Rattle.ikeless_tree.specs.declared.command.Peer.{Peer}
use Rattle.ikeless_tree.specs.declared.command.TunnelSpec.{TunnelSpec}
use Rattle.ikeless_tree.specs.declared.entry.SpdEntry.{SpdEntry}
use Rattle.ikeless_tree.specs.declared.order.Lane.{Lane}
use Rattle.hist_acts.specs.declared.event.Event.{Event}
use Rattle.hist_acts.specs.declared.event.Event.TheVariants as events
use Rattle.hist_acts.specs.Gateways.{is_named as is_gateway_of}
use Rattle.yang_values.specs.Prefixes.{prefix_text}
use Rattle.yang_values.proofs.ValueText.{apart}
use Rattle.std.specs.Char.{is_ascii_hexdigit}
use Rattle.line_words.specs.Words.{one_of, words, is_printable}
use Rattle.line_words.specs.Limits.{lifetimes_of}
use Rattle.event_lines.specs.Event.{policy_in, let_in, is_numbered, sent_of, arrive_of, ttl_of, flip_of, arrive_in, time_in, gateway_in, wire_in, reqid_in, keys_in, mode_of, window_of, ends_of, flow_of, flow_in, tunnel_of, tunnel_from, tunnel_in, command_in, session_in, event_in, event_of}
use Rattle.line_words.specs.Text.{hex_text, limits_text, entry_text, line_text}
use Rattle.event_lines.specs.Text.{event_words, tunnel_words, event_text}
use Rattle.line_words.specs.Spelling.{are_spelled, IsListed}
use Rattle.event_lines.specs.Spelling.{IsEventUnder, IsEvent}
use Rattle.line_words.proofs.PartText.{is_graph, as_graph}
use Rattle.line_words.proofs.EntryText.{number_again, prefix_reads}
use Rattle.line_words.proofs.LineText.{AreWords, ReadsDigits, line_words, line_printable, number_word, prefix_word, lane_read, lane_word, named_spelled, name_word, hex_word, hex_read, list_read, list_words, few_words, hex_digits}
use Rattle.line_words.proofs.LimitsText.{limits_read, limits_part}
use Rattle.ikeless_tree.specs.Typed.{AreOctets, IsTypedLimits, IsTypedPolicy, IsTypedTunnel}
use Rattle.ikeless_tree.specs.Words.{lane_text, mode_text}

event_line : (gateways : List Peer) (e : Event) (w : List ℕ) (ws : List (List ℕ)) → event_words e ≡ w ∷ ws → AreWords (w ∷ ws)
    → event_in gateways (w ∷ ws) ≡ Ok e → event_of gateways (event_text e) ≡ Ok e
unfolding event_of event_text
event_line gateways e w ws is are read =
    let p : list_all is_printable (line_text (event_words e)) ≡ true = ap (λ us. list_all is_printable (line_text us)) is
    ∙ line_printable w ws are in
    let s : words (line_text (event_words e)) ≡ w ∷ ws = ap (λ us. words (line_text us)) is ∙ line_words w ws are in
    rw (p, s, read) refl

-- ---- packets and datagrams

let_event : ReadsDigits → (gateways : List Peer) (g octets : List ℕ) → is_gateway g ≡ true → is_gateway_of gateways g ≡ true
    → AreOctets octets
    → event_of gateways (event_text (events.Let g octets)) ≡ Ok (events.Let g octets)
unfolding event_in let_in AreWords
let_event digits gateways g octets spelled named are =
    event_line gateways (events.Let g octets) (codes "let") (g ∷ hex_text octets ∷ []) refl
    (refl, (name_word g spelled, (hex_word octets are, tt))) (rw (named, hex_read digits octets are) refl)

-- octets aren't taken for a number
unnumbered : (t : List ℕ) → list_all is_ascii_hexdigit t ≡ true → is_numbered t ≡ false
unnumbered [] all = refl
unnumbered (c ∷ cs) all = apart is_ascii_hexdigit c 35 refl (and_parts _ _ all).0

hex_unnumbered : (octets : List ℕ) → AreOctets octets → is_numbered (hex_text octets) ≡ false
hex_unnumbered [] are = refl
hex_unnumbered (o ∷ os) are = unnumbered (hex_text (o ∷ os)) (hex_digits o os are)

arrive_event : ReadsDigits → (gateways : List Peer) (g octets : List ℕ) → is_gateway g ≡ true → is_gateway_of gateways g ≡ true
    → AreOctets octets
    → event_of gateways (event_text (events.Arrive g octets)) ≡ Ok (events.Arrive g octets)
unfolding event_in arrive_in arrive_of AreWords
arrive_event digits gateways g octets spelled named are =
    event_line gateways (events.Arrive g octets) (codes "arrive") (g ∷ hex_text octets ∷ []) refl
    (refl, (name_word g spelled, (hex_word octets are, tt))) (rw (named, hex_unnumbered octets are, hex_read digits octets are) refl)

sent_read : (k : ℕ) → k < 2 ^ 64 → nat_le 1 k ≡ true → sent_of (35 ∷ decimal k) ≡ Ok k
sent_read k small one = rw (number_again faults.Number k (2 ^ 64 - 1) small (omega arith), one) refl

sent_word : (k : ℕ) → k < 2 ^ 64 → list_all is_graph (35 ∷ decimal k) ≡ true
sent_word k small = number_word k small

arrive_sent_event : (gateways : List Peer) (g : List ℕ) (k : ℕ) → is_gateway g ≡ true → is_gateway_of gateways g ≡ true → nat_le 1 k ≡ true
    → k < 2 ^ 64
    → event_of gateways (event_text (events.ArriveSent g k)) ≡ Ok (events.ArriveSent g k)
unfolding event_in arrive_in arrive_of AreWords
arrive_sent_event gateways g k spelled named one small =
    event_line gateways (events.ArriveSent g k) (codes "arrive") (g ∷ (35 ∷ decimal k) ∷ []) refl
    (refl, (name_word g spelled, (sent_word k small, tt))) (rw (named, sent_read k small one) refl)

arrive_ttl_event : (gateways : List Peer) (g : List ℕ) (k t : ℕ) → is_gateway g ≡ true → is_gateway_of gateways g ≡ true → nat_le 1 k ≡ true
    → k < 2 ^ 64 → t < 256
    → event_of gateways (event_text (events.ArriveTtl g k t)) ≡ Ok (events.ArriveTtl g k t)
unfolding event_in arrive_in ttl_of AreWords
arrive_ttl_event gateways g k t spelled named one small octet =
    event_line gateways (events.ArriveTtl g k t) (codes "arrive") (g ∷ (35 ∷ decimal k) ∷ codes "ttl" ∷ decimal t ∷ []) refl
    (refl, (name_word g spelled, (sent_word k small, (refl, (number_word t (omega arith), tt)))))
    (rw (named, sent_read k small one, number_again faults.Number t 255 (omega arith) (omega arith)) refl)

arrive_flip_event : (gateways : List Peer) (g : List ℕ) (k n b : ℕ) → is_gateway g ≡ true → is_gateway_of gateways g ≡ true
    → nat_le 1 k ≡ true → k < 2 ^ 64 → n < 2 ^ 64 → b ≤ 7
    → event_of gateways (event_text (events.ArriveFlip g k n b)) ≡ Ok (events.ArriveFlip g k n b)
unfolding event_in arrive_in flip_of AreWords
arrive_flip_event gateways g k n b spelled named one small place bit =
    event_line gateways (events.ArriveFlip g k n b) (codes "arrive") (g ∷ (35 ∷ decimal k) ∷ codes "flip" ∷ decimal n ∷ decimal b ∷ []) refl
    (refl, (name_word g spelled, (sent_word k small, (refl, (number_word n place, (number_word b (omega arith), tt))))))
    (rw (
      named,
      sent_read k small one,
      number_again faults.Number n (2 ^ 64 - 1) place (omega arith),
      number_again faults.Number b 7
          (omega arith) bit,
    ) refl)

-- ---- clocks, gateways and sessions

now_event : (gateways : List Peer) (t : ℕ) → t < 2 ^ 32 → event_of gateways (event_text (events.Now t)) ≡ Ok (events.Now t)
unfolding event_in time_in AreWords
now_event gateways t small =
    event_line gateways (events.Now t) (codes "now") (decimal t ∷ []) refl (refl, (number_word t (omega arith), tt))
    (rw (number_again faults.Number t (2 ^ 32 - 1) (omega arith) (omega arith)) refl)

gateway_words : (what g : List ℕ) → list_all is_graph what ≡ true → is_gateway g ≡ true → AreWords (what ∷ g ∷ [])
unfolding AreWords
gateway_words what g word spelled = (word, (name_word g spelled, tt))

boot_event : (gateways : List Peer) (g : List ℕ) → is_gateway g ≡ true → is_gateway_of gateways g ≡ true
    → event_of gateways (event_text (events.Boot g)) ≡ Ok (events.Boot g)
unfolding event_in gateway_in
boot_event gateways g spelled named =
    event_line gateways (events.Boot g) (codes "boot") (g ∷ []) refl (gateway_words (codes "boot") g refl spelled) (rw named refl)

open_event : (gateways : List Peer) (g : List ℕ) → is_gateway g ≡ true → is_gateway_of gateways g ≡ true
    → event_of gateways (event_text (events.Open g)) ≡ Ok (events.Open g)
unfolding event_in session_in gateway_in
open_event gateways g spelled named =
    event_line gateways (events.Open g) (codes "open") (g ∷ []) refl (gateway_words (codes "open") g refl spelled) (rw named refl)

cut_event : (gateways : List Peer) (g : List ℕ) → is_gateway g ≡ true → is_gateway_of gateways g ≡ true
    → event_of gateways (event_text (events.Cut g)) ≡ Ok (events.Cut g)
unfolding event_in session_in gateway_in
cut_event gateways g spelled named =
    event_line gateways (events.Cut g) (codes "cut") (g ∷ []) refl (gateway_words (codes "cut") g refl spelled) (rw named refl)

down_event : (gateways : List Peer) (g : List ℕ) → is_gateway g ≡ true → is_gateway_of gateways g ≡ true
    → event_of gateways (event_text (events.Down g)) ≡ Ok (events.Down g)
unfolding event_in session_in gateway_in
down_event gateways g spelled named =
    event_line gateways (events.Down g) (codes "down") (g ∷ []) refl (gateway_words (codes "down") g refl spelled) (rw named refl)

up_event : (gateways : List Peer) (g : List ℕ) → is_gateway g ≡ true → is_gateway_of gateways g ≡ true
    → event_of gateways (event_text (events.Up g)) ≡ Ok (events.Up g)
unfolding event_in session_in gateway_in
up_event gateways g spelled named =
    event_line gateways (events.Up g) (codes "up") (g ∷ []) refl (gateway_words (codes "up") g refl spelled) (rw named refl)

note_event : (gateways : List Peer) (g : List ℕ) → is_gateway g ≡ true → is_gateway_of gateways g ≡ true
    → event_of gateways (event_text (events.Note g)) ≡ Ok (events.Note g)
unfolding event_in session_in gateway_in
note_event gateways g spelled named =
    event_line gateways (events.Note g) (codes "note") (g ∷ []) refl (gateway_words (codes "note") g refl spelled) (rw named refl)

wire_event : (gateways : List Peer) (g : List ℕ) (l : Lane) → is_gateway g ≡ true → is_gateway_of gateways g ≡ true
    → event_of gateways (event_text (events.Wire g l)) ≡ Ok (events.Wire g l)
unfolding event_in wire_in AreWords
wire_event gateways g l spelled named =
    event_line gateways (events.Wire g l) (codes "wire") (g ∷ lane_text l ∷ []) refl (refl, (name_word g spelled, (lane_word l, tt)))
    (rw (named, lane_read l) refl)

-- ---- commands

policy_event : (gateways : List Peer) (g : List ℕ) (list : List SpdEntry) → is_gateway g ≡ true → IsListed list → All IsTypedPolicy list
    → event_of gateways (event_text (events.Policy g list)) ≡ Ok (events.Policy g list)
unfolding event_in session_in command_in policy_in AreWords
policy_event gateways g list spelled is are =
    let few = few_words list is in
    let read = list_read list is are in
    let fits = is.fits in
    event_line gateways (events.Policy g list) (codes "policy") (g ∷ map entry_text list) refl
    (refl, (name_word g spelled, list_words list is are)) (rw (few, spelled, read, fits) refl)

end_event : (gateways : List Peer) (n : ℕ) → n < 2 ^ 64 → event_of gateways (event_text (events.End n)) ≡ Ok (events.End n)
unfolding event_in session_in command_in reqid_in AreWords
end_event gateways n small =
    event_line gateways (events.End n) (codes "end") (decimal n ∷ []) refl (refl, (number_word n small, tt))
    (rw (number_again faults.Number n (2 ^ 64 - 1) small (omega arith)) refl)

rekey_event : (gateways : List Peer) (n : ℕ) → n < 2 ^ 64 → event_of gateways (event_text (events.Rekey n)) ≡ Ok (events.Rekey n)
unfolding event_in session_in command_in reqid_in AreWords
rekey_event gateways n small =
    event_line gateways (events.Rekey n) (codes "rekey") (decimal n ∷ []) refl (refl, (number_word n small, tt))
    (rw (number_again faults.Number n (2 ^ 64 - 1) small (omega arith)) refl)

keys_event : ReadsDigits → (gateways : List Peer) (octets : List ℕ) → AreOctets octets → event_of gateways (event_text (events.Keys octets))
    ≡ Ok (events.Keys octets)
unfolding event_in session_in command_in keys_in AreWords
keys_event digits gateways octets are =
    event_line gateways (events.Keys octets) (codes "keys") (hex_text octets ∷ []) refl (refl, (hex_word octets are, tt))
    (rw (hex_read digits octets are) refl)

mode_read : (m : Bool) → mode_of (mode_text m) ≡ Ok m
mode_read m = ap (one_of faults.Mode) (mode_again m)

mode_word : (m : Bool) → list_all is_graph (mode_text m) ≡ true
mode_word true = refl
mode_word false = refl

window_read : (n : ℕ) → is_window n ≡ true → window_of (decimal n) ≡ Ok n
window_read n is =
    let p = and_parts (nat_le 32 n) (nat_le n 4096) is in
    let most : n ≤ 4096 = leb-true n 4096 p.1 in
    rw (number_again faults.Number n 4096 (omega arith) most, p.0) refl

window_word : (n : ℕ) → is_window n ≡ true → list_all is_graph (decimal n) ≡ true
window_word n is =
    let p = and_parts (nat_le 32 n) (nat_le n 4096) is in
    let most : n ≤ 4096 = leb-true n 4096 p.1 in
    number_word n (omega arith)

ends_read : (s : TunnelSpec) → IsTypedTunnel s → is_gateway s.first ≡ true → is_gateway s.second ≡ true
    → ends_of (decimal s.reqid) (mode_text s.now) s.first s.second ≡ Ok (record {
      reqid = s.reqid;
      now = s.now;
      first = s.first;
      second =
          s.second;
    })
unfolding ends_of
ends_read s is first second =
    let small = is.reqid in
    rw (number_again faults.Number s.reqid (2 ^ 64 - 1) small (omega arith), mode_read s.now, first, second) refl

lifetimes_read : (fault : LineFault) (hard soft : Limits) → IsTypedLimits hard → IsTypedLimits soft
    → lifetimes_of fault (limits_text hard) (limits_text soft) ≡ Ok (record { hard = hard; soft = soft })
unfolding lifetimes_of
lifetimes_read fault hard soft h s = rw (limits_read fault hard h, limits_read fault soft s) refl

flow_read : (s : TunnelSpec) → IsTypedTunnel s → is_window s.window ≡ true
    → flow_of (prefix_text s.first_prefix) (prefix_text s.second_prefix) (decimal s.window) (limits_text s.hard) (limits_text s.soft)
    ≡ Ok (record {
      first = s.first_prefix;
      second = s.second_prefix;
      window = s.window;
      lifetimes =
          record { hard = s.hard; soft = s.soft };
    })
unfolding flow_of
flow_read s is window =
    rw (
      prefix_reads faults.Prefix s.first_prefix is.first_prefix,
      prefix_reads faults.Prefix s.second_prefix is.second_prefix,
      window_read s.window window,
      lifetimes_read faults.Limits s.hard s.soft is.hard is.soft,
    ) refl

limits_word : (l : Limits) → IsTypedLimits l → list_all is_graph (limits_text l) ≡ true
limits_word l are = as_graph (limits_text l) (limits_part l are)

tunnel_event : (gateways : List Peer) (s : TunnelSpec) → IsTypedTunnel s → is_gateway s.first ≡ true → is_gateway s.second ≡ true
    → is_window s.window ≡ true
    → event_of gateways (event_text (events.Tunnel s)) ≡ Ok (events.Tunnel s)
unfolding event_in session_in command_in tunnel_in tunnel_from tunnel_of flow_in AreWords
tunnel_event gateways s is first second window =
    event_line gateways (events.Tunnel s) (codes "tunnel") (tunnel_words s) refl (
      refl,
      (
        number_word s.reqid is.reqid,
        (
          mode_word s.now,
          (
            name_word s.first first,
            (
              name_word s.second second,
              (
                prefix_word s.first_prefix is.first_prefix,
                (
                  prefix_word s.second_prefix is.second_prefix,
                  (
                    window_word s.window window,
                    (limits_word s.hard is.hard, (limits_word s.soft is.soft, tt)),
                  ),
                ),
              ),
            ),
          ),
        ),
      ),
    )
    (rw (ends_read s is first second, flow_read s is window) refl)

pub event_again : ReadsDigits → (gateways : List Peer) (e : Event) → are_spelled gateways ≡ true → IsEventUnder gateways e → IsEvent e
    → event_of gateways (event_text e) ≡ Ok e
event_again digits gateways (events.Let g o) all under is = let_event digits gateways g o (named_spelled gateways g all under) under is
event_again digits gateways (events.Arrive g o) all under is = arrive_event digits gateways g o (named_spelled gateways g all under) under
    is
event_again digits gateways (events.ArriveSent g k) all under is = arrive_sent_event gateways g k (named_spelled gateways g all under.0)
    under.0 under.1 is
event_again digits gateways (events.ArriveFlip g k n b) all under is =
    arrive_flip_event gateways g k n b (named_spelled gateways g all under.0) under.0 under.1 is.0 is.1 under.2
event_again digits gateways (events.ArriveTtl g k t) all under is = arrive_ttl_event gateways g k t (named_spelled gateways g all under.0)
    under.0 under.1 is.0 is.1
event_again digits gateways (events.Now t) all under is = now_event gateways t is
event_again digits gateways (events.Boot g) all under is = boot_event gateways g (named_spelled gateways g all under) under
event_again digits gateways (events.Open g) all under is = open_event gateways g (named_spelled gateways g all under) under
event_again digits gateways (events.Cut g) all under is = cut_event gateways g (named_spelled gateways g all under) under
event_again digits gateways (events.Down g) all under is = down_event gateways g (named_spelled gateways g all under) under
event_again digits gateways (events.Up g) all under is = up_event gateways g (named_spelled gateways g all under) under
event_again digits gateways (events.Note g) all under is = note_event gateways g (named_spelled gateways g all under) under
event_again digits gateways (events.Wire g l) all under is = wire_event gateways g l (named_spelled gateways g all under) under
event_again digits gateways (events.Policy g list) all under is = policy_event gateways g list under.0 under.1 is
event_again digits gateways (events.Tunnel s) all under is = tunnel_event gateways s is under.0 under.1 under.2
event_again digits gateways (events.End n) all under is = end_event gateways n is
event_again digits gateways (events.Rekey n) all under is = rekey_event gateways n is
event_again digits gateways (events.Keys o) all under is = keys_event digits gateways o is
