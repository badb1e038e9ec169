-- The line of an act is read as that act.
use Rattle.std.proofs.Common.{◌≡◌, ℕ, ◌-◌, ◌^◌, ◌<◌, nat_le, true, List, [], ◌∷◌, length, drop, map, Ok, refl, ap, arith}
use Rattle.std.specs.Prelude.{codes}
use Rattle.std.specs.List.{All, list_all}
use Rattle.std.specs.Fmt.{decimal}
use Rattle.ikl_base.specs.declared.status.LineFault.TheVariants as faults
use Rattle.ikeless_tree.proofs.WordLemmas.{drop_again, gone_again, refusal_again}
use Rattle.ikeless_tree.specs.Check.{is_gateway, is_sad_name}
use Rattle.ikeless_tree.specs.Words.{refusal_text, drop_text, gone_text, lane_text}
use Rattle.ikeless_tree.specs.declared.command.Peer.{Peer}
use Rattle.ikeless_tree.specs.declared.command.Refusal.{Refusal}
use Rattle.ikeless_tree.specs.declared.command.Refusal.TheVariants as refusals
use Rattle.ikeless_tree.specs.declared.entry.SpdEntry.{SpdEntry}
use Rattle.ikeless_tree.specs.declared.order.Lane.{Lane}
use Rattle.ikeless_tree.specs.declared.drops.DropWhy.{DropWhy}
use Rattle.ikeless_tree.specs.declared.drops.DropWhy.TheVariants as why
use Rattle.ikeless_tree.specs.declared.ends.GoneWhy.{GoneWhy}
use Rattle.ikeless_tree.specs.declared.ends.GoneWhy.TheVariants as ends
use Rattle.hist_acts.specs.declared.act.Act.{Act}
use Rattle.hist_acts.specs.declared.act.Act.TheVariants as acts
use Rattle.hist_acts.specs.Gateways.{is_named as is_gateway_of}
use Rattle.line_words.specs.Words.{one_of}
use Rattle.event_lines.specs.Event.{time_in, reqid_in, gateway_in}
use Rattle.line_words.specs.Text.{hex_text, entry_text}
use Rattle.script_lines.specs.Text.{act_text}
use Rattle.script_lines.specs.Act.{why_of, gone_of, refusal_of, force_in, packet_in, sealed_of, sealed_in, drop_in, gone_at, gone_in, opening_in, under_way_at, under_way_in, refused_in, base_act_in, packet_act_in, act_in, act_of}
use Rattle.line_words.specs.Spelling.{are_spelled, IsListed}
use Rattle.script_lines.specs.Spelling.{IsActUnder, IsAct}
use Rattle.line_words.proofs.PartText.{is_graph}
use Rattle.line_words.proofs.HalfNames.{half_name_word}
use Rattle.script_lines.proofs.ActLine.{act_line}
use Rattle.script_lines.proofs.SessionActs.{put_line, order_line, handled_line, answered_line, notice_line, heard_line}
use Rattle.line_words.proofs.EntryText.{number_again}
use Rattle.line_words.proofs.LineText.{AreWords, ReadsDigits, number_word, lane_read, lane_word, named_spelled, name_word, hex_word, hex_read, list_read, list_words, few_words}
use Rattle.ikeless_tree.specs.Typed.{AreOctets, IsTypedPolicy}

-- ---- why a packet is dropped

why_read : (w : DropWhy) → why_of (drop_text w) ≡ Ok w
why_read w = ap (one_of faults.Word) (drop_again w)

why_word : (w : DropWhy) → list_all is_graph (drop_text w) ≡ true
why_word why.Malformed = refl
why_word why.Fragment = refl
why_word why.TooLong = refl
why_word why.NoPolicy = refl
why_word why.Discard = refl
why_word why.ClearRefused = refl
why_word why.NoSa = refl
why_word why.SeqLimit = refl
why_word why.Short = refl
why_word why.BadSpi = refl
why_word why.Zero = refl
why_word why.Old = refl
why_word why.Seen = refl
why_word why.Auth = refl
why_word why.Padding = refl
why_word why.Dummy = refl
why_word why.Inner = refl
why_word why.Selector = refl

end_read : (w : GoneWhy) → gone_of (gone_text w) ≡ Ok w
end_read w = ap (one_of faults.Word) (gone_again w)

end_word : (w : GoneWhy) → list_all is_graph (gone_text w) ≡ true
end_word ends.Removed = refl
end_word ends.Hard = refl

refusal_read : (w : Refusal) → refusal_of (refusal_text w) ≡ Ok w
refusal_read w = ap (one_of faults.Word) (refusal_again w)

refusal_word : (w : Refusal) → list_all is_graph (refusal_text w) ≡ true
refusal_word refusals.UnknownGateway = refl
refusal_word refusals.SameGateway = refl
refusal_word refusals.TunnelExists = refl
refusal_word refusals.NoTunnel = refl
refusal_word refusals.TunnelLimit = refl
refusal_word refusals.KeySeen = refl
refusal_word refusals.KeyLength = refl
refusal_word refusals.KeyLimit = refl

-- ---- acts of packets

packet_read : ReadsDigits → (gateways : List Peer) (g octets : List ℕ) → is_gateway_of gateways g ≡ true → AreOctets octets
    → packet_in gateways (g ∷ hex_text octets ∷ []) ≡ Ok (record { gateway = g; octets = octets })
unfolding packet_in
packet_read digits gateways g octets named are = rw (named, hex_read digits octets are) refl

packet_words : (what g octets : List ℕ) → list_all is_graph what ≡ true → is_gateway g ≡ true → AreOctets octets
    → AreWords (what ∷ g ∷ hex_text octets ∷ [])
unfolding AreWords
packet_words what g octets word spelled are = (word, (name_word g spelled, (hex_word octets are, tt)))

let_line : ReadsDigits → (gateways : List Peer) (g octets : List ℕ) → is_gateway g ≡ true → is_gateway_of gateways g ≡ true
    → AreOctets octets
    → act_of gateways (act_text (acts.Let g octets)) ≡ Ok (acts.Let g octets)
unfolding act_in packet_act_in
let_line digits gateways g octets spelled named are =
    act_line gateways (acts.Let g octets) (codes "let") (g ∷ hex_text octets ∷ []) refl
    (packet_words (codes "let") g octets refl spelled are)
    (rw (packet_read digits gateways g octets named are) refl)

clear_line : ReadsDigits → (gateways : List Peer) (g octets : List ℕ) → is_gateway g ≡ true → is_gateway_of gateways g ≡ true
    → AreOctets octets
    → act_of gateways (act_text (acts.Clear g octets)) ≡ Ok (acts.Clear g octets)
unfolding act_in packet_act_in
clear_line digits gateways g octets spelled named are =
    act_line gateways (acts.Clear g octets) (codes "clear") (g ∷ hex_text octets ∷ []) refl
    (packet_words (codes "clear") g octets refl spelled are)
    (rw (packet_read digits gateways g octets named are) refl)

arrived_line : ReadsDigits → (gateways : List Peer) (g octets : List ℕ) → is_gateway g ≡ true → is_gateway_of gateways g ≡ true
    → AreOctets octets
    → act_of gateways (act_text (acts.Arrived g octets)) ≡ Ok (acts.Arrived g octets)
unfolding act_in packet_act_in
arrived_line digits gateways g octets spelled named are =
    act_line gateways (acts.Arrived g octets) (codes "arrived") (g ∷ hex_text octets ∷ []) refl
    (packet_words (codes "arrived") g octets refl spelled are)
    (rw (packet_read digits gateways g octets named are) refl)

pass_line : ReadsDigits → (gateways : List Peer) (g octets : List ℕ) → is_gateway g ≡ true → is_gateway_of gateways g ≡ true
    → AreOctets octets
    → act_of gateways (act_text (acts.Pass g octets)) ≡ Ok (acts.Pass g octets)
unfolding act_in packet_act_in
pass_line digits gateways g octets spelled named are =
    act_line gateways (acts.Pass g octets) (codes "pass") (g ∷ hex_text octets ∷ []) refl (packet_words (codes "pass") g octets refl spelled
    are)
    (rw (packet_read digits gateways g octets named are) refl)

sealed_read : ReadsDigits → (gateways : List Peer) (g name : List ℕ) (k : ℕ) (octets : List ℕ) → is_gateway_of gateways g ≡ true
    → is_sad_name name ≡ true → k < 2 ^ 64 → AreOctets octets
    → sealed_in gateways (g ∷ name ∷ decimal k ∷ hex_text octets ∷ []) ≡ Ok (record {
      gateway = g;
      half = name;
      number = k;
      octets =
          octets;
    })
unfolding sealed_in sealed_of
sealed_read digits gateways g name k octets named half small are =
    rw (named, half, number_again faults.Number k (2 ^ 64 - 1) small (omega arith), hex_read digits octets are) refl

sealed_words : (what g name : List ℕ) (k : ℕ) (octets : List ℕ) → list_all is_graph what ≡ true → is_gateway g ≡ true
    → is_sad_name name ≡ true → k < 2 ^ 64 → AreOctets octets
    → AreWords (what ∷ g ∷ name ∷ decimal k ∷ hex_text octets ∷ [])
unfolding AreWords
sealed_words what g name k octets word spelled half small are =
    (word, (name_word g spelled, (half_name_word name half, (number_word k small, (hex_word octets are, tt)))))

sent_line : ReadsDigits → (gateways : List Peer) (g name : List ℕ) (k : ℕ) (octets : List ℕ) → is_gateway g ≡ true
    → is_gateway_of gateways g ≡ true → is_sad_name name ≡ true
    → k < 2 ^ 64 → AreOctets octets → act_of gateways (act_text (acts.Sent g name k octets)) ≡ Ok (acts.Sent g name k octets)
unfolding act_in
sent_line digits gateways g name k octets spelled named half small are =
    act_line gateways (acts.Sent g name k octets) (codes "sent") (g ∷ name ∷ decimal k ∷ hex_text octets ∷ []) refl
    (sealed_words (codes "sent") g name k octets refl spelled half small are)
    (rw (sealed_read digits gateways g name k octets named half small are) refl)

gave_line : ReadsDigits → (gateways : List Peer) (g name : List ℕ) (k : ℕ) (octets : List ℕ) → is_gateway g ≡ true
    → is_gateway_of gateways g ≡ true → is_sad_name name ≡ true
    → k < 2 ^ 64 → AreOctets octets → act_of gateways (act_text (acts.Gave g name k octets)) ≡ Ok (acts.Gave g name k octets)
unfolding act_in
gave_line digits gateways g name k octets spelled named half small are =
    act_line gateways (acts.Gave g name k octets) (codes "gave") (g ∷ name ∷ decimal k ∷ hex_text octets ∷ []) refl
    (sealed_words (codes "gave") g name k octets refl spelled half small are)
    (rw (sealed_read digits gateways g name k octets named half small are) refl)

drop_line : (gateways : List Peer) (g : List ℕ) (w : DropWhy) → is_gateway g ≡ true → is_gateway_of gateways g ≡ true
    → act_of gateways (act_text (acts.Drop g w)) ≡ Ok (acts.Drop g w)
unfolding act_in drop_in AreWords
drop_line gateways g w spelled named =
    act_line gateways (acts.Drop g w) (codes "drop") (g ∷ drop_text w ∷ []) refl (refl, (name_word g spelled, (why_word w, tt)))
    (rw (named, why_read w) refl)

-- ---- the other acts

took_line : (gateways : List Peer) (k : ℕ) → k < 2 ^ 64 → act_of gateways (act_text (acts.Took k)) ≡ Ok (acts.Took k)
unfolding act_in reqid_in AreWords
took_line gateways k small =
    act_line gateways (acts.Took k) (codes "@") (decimal k ∷ []) refl (refl, (number_word k small, tt))
    (rw (number_again faults.Number k (2 ^ 64 - 1) small (omega arith)) refl)

now_line : (gateways : List Peer) (t : ℕ) → t < 2 ^ 32 → act_of gateways (act_text (acts.Now t)) ≡ Ok (acts.Now t)
unfolding act_in time_in AreWords
now_line gateways t small =
    act_line gateways (acts.Now t) (codes "now") (decimal t ∷ []) refl (refl, (number_word t (omega arith), tt))
    (rw (number_again faults.Number t (2 ^ 32 - 1) (omega arith) (omega arith)) refl)

boot_line : (gateways : List Peer) (g : List ℕ) → is_gateway g ≡ true → is_gateway_of gateways g ≡ true
    → act_of gateways (act_text (acts.Boot g)) ≡ Ok (acts.Boot g)
unfolding act_in gateway_in AreWords
boot_line gateways g spelled named =
    act_line gateways (acts.Boot g) (codes "boot") (g ∷ []) refl (refl, (name_word g spelled, tt)) (rw named refl)

force_read : (gateways : List Peer) (g : List ℕ) (list : List SpdEntry) → is_gateway_of gateways g ≡ true → IsListed list
    → All IsTypedPolicy list
    → force_in gateways (g ∷ map entry_text list) ≡ Ok (acts.Policy g list)
unfolding force_in
force_read gateways g list named is are =
    let few = few_words list is in
    let read = list_read list is are in
    let fits = is.fits in
    rw (few, named, read, fits) refl

policy_line : (gateways : List Peer) (g : List ℕ) (list : List SpdEntry) → is_gateway g ≡ true → is_gateway_of gateways g ≡ true
    → IsListed list → All IsTypedPolicy list
    → act_of gateways (act_text (acts.Policy g list)) ≡ Ok (acts.Policy g list)
unfolding act_in packet_act_in base_act_in AreWords
policy_line gateways g list spelled named is are =
    act_line gateways (acts.Policy g list) (codes "policy") (g ∷ map entry_text list) refl
    (refl, (name_word g spelled, list_words list is are)) (force_read gateways g list named is are)

gone_line : (gateways : List Peer) (g name : List ℕ) (w : GoneWhy) → is_gateway g ≡ true → is_gateway_of gateways g ≡ true
    → is_sad_name name ≡ true
    → act_of gateways (act_text (acts.Gone g name w)) ≡ Ok (acts.Gone g name w)
unfolding act_in packet_act_in base_act_in gone_in gone_at AreWords
gone_line gateways g name w spelled named half =
    act_line gateways (acts.Gone g name w) (codes "gone") (g ∷ name ∷ gone_text w ∷ []) refl
    (refl, (name_word g spelled, (half_name_word name half, (end_word w, tt)))) (rw (named, half, end_read w) refl)

opening_read : (gateways : List Peer) (g : List ℕ) (s : ℕ) → is_gateway_of gateways g ≡ true → s < 2 ^ 32
    → opening_in gateways (g ∷ decimal s ∷ []) ≡ Ok (record { gateway = g; session = s })
unfolding opening_in
opening_read gateways g s named small = rw (named, number_again faults.Number s (2 ^ 32 - 1) (omega arith) (omega arith)) refl

opened_line : (gateways : List Peer) (g : List ℕ) (s : ℕ) → is_gateway g ≡ true → is_gateway_of gateways g ≡ true → s < 2 ^ 32
    → act_of gateways (act_text (acts.Opened g s)) ≡ Ok (acts.Opened g s)
unfolding act_in packet_act_in base_act_in AreWords
opened_line gateways g s spelled named small =
    act_line gateways (acts.Opened g s) (codes "opened") (g ∷ decimal s ∷ []) refl
    (refl, (name_word g spelled, (number_word s (omega arith), tt)))
    (rw (opening_read gateways g s named small) refl)

cut_line : (gateways : List Peer) (g : List ℕ) (s : ℕ) → is_gateway g ≡ true → is_gateway_of gateways g ≡ true → s < 2 ^ 32
    → act_of gateways (act_text (acts.Cut g s)) ≡ Ok (acts.Cut g s)
unfolding act_in packet_act_in base_act_in AreWords
cut_line gateways g s spelled named small =
    act_line gateways (acts.Cut g s) (codes "cut") (g ∷ decimal s ∷ []) refl
    (refl, (name_word g spelled, (number_word s (omega arith), tt)))
    (rw (opening_read gateways g s named small) refl)

wire_line : ReadsDigits → (gateways : List Peer) (g : List ℕ) (l : Lane) (octets : List ℕ) → is_gateway g ≡ true
    → is_gateway_of gateways g ≡ true
    → nat_le (length octets) 4096 ≡ true → AreOctets octets → act_of gateways (act_text (acts.Wire g l octets)) ≡ Ok (acts.Wire g l octets)
unfolding act_in packet_act_in base_act_in under_way_in under_way_at AreWords
wire_line digits gateways g l octets spelled named few are =
    act_line gateways (acts.Wire g l octets) (codes "wire") (g ∷ lane_text l ∷ hex_text octets ∷ []) refl
    (refl, (name_word g spelled, (lane_word l, (hex_word octets are, tt)))) (rw (named, lane_read l, hex_read digits octets are, few) refl)

refused_line : (gateways : List Peer) (w : Refusal) → act_of gateways (act_text (acts.Refused w)) ≡ Ok (acts.Refused w)
unfolding act_in packet_act_in base_act_in refused_in AreWords
refused_line gateways w =
    act_line gateways (acts.Refused w) (codes "refused") (refusal_text w ∷ []) refl (refl, (refusal_word w, tt)) (rw (refusal_read w) refl)

pub act_again : ReadsDigits → (gateways : List Peer) (a : Act) → are_spelled gateways ≡ true → IsActUnder gateways a → IsAct a
    → act_of gateways (act_text a) ≡ Ok a
act_again digits gateways (acts.Took k) all under is = took_line gateways k is
act_again digits gateways (acts.Now t) all under is = now_line gateways t is
act_again digits gateways (acts.Boot g) all under is = boot_line gateways g (named_spelled gateways g all under) under
act_again digits gateways (acts.Policy g list) all under is = policy_line gateways g list (named_spelled gateways g all under.0) under.0
    under.1 is
act_again digits gateways (acts.Put g e) all under is = put_line digits gateways g e (named_spelled gateways g all under.0) under.0 under.1
    is
act_again digits gateways (acts.Gone g name w) all under is = gone_line gateways g name w (named_spelled gateways g all under.0) under.0
    under.1
act_again digits gateways (acts.Let g o) all under is = let_line digits gateways g o (named_spelled gateways g all under) under is
act_again digits gateways (acts.Sent g name k o) all under is = sent_line digits gateways g name k o (named_spelled gateways g all under.0)
    under.0 under.1 is.0 is.1
act_again digits gateways (acts.Clear g o) all under is = clear_line digits gateways g o (named_spelled gateways g all under) under is
act_again digits gateways (acts.Drop g w) all under is = drop_line gateways g w (named_spelled gateways g all under) under
act_again digits gateways (acts.Arrived g o) all under is = arrived_line digits gateways g o (named_spelled gateways g all under) under is
act_again digits gateways (acts.Gave g name k o) all under is = gave_line digits gateways g name k o (named_spelled gateways g all under.0)
    under.0 under.1 is.0 is.1
act_again digits gateways (acts.Pass g o) all under is = pass_line digits gateways g o (named_spelled gateways g all under) under is
act_again digits gateways (acts.Opened g s) all under is = opened_line gateways g s (named_spelled gateways g all under) under is
act_again digits gateways (acts.Cut g s) all under is = cut_line gateways g s (named_spelled gateways g all under) under is
act_again digits gateways (acts.Order g s n o) all under is = order_line digits gateways g s n o (named_spelled gateways g all under.0)
    under.0 under.1 is.0 is.1 is.2
act_again digits gateways (acts.Handled g s n a) all under is = handled_line digits gateways g s n a (named_spelled gateways g all under.0)
    under.0 under.1 is.0 is.1 is.2
act_again digits gateways (acts.Answered g s n a) all under is =
    answered_line digits gateways g s n a (named_spelled gateways g all under.0) under.0 under.1 is.0 is.1 is.2
act_again digits gateways (acts.Notice g s n) all under is = notice_line digits gateways g s n (named_spelled gateways g all under.0)
    under.0 under.1 is.0 is.1
act_again digits gateways (acts.Heard g s n) all under is = heard_line digits gateways g s n (named_spelled gateways g all under.0) under.0
    under.1 is.0 is.1
act_again digits gateways (acts.Wire g l o) all under is = wire_line digits gateways g l o (named_spelled gateways g all under.0) under.0
    under.1 is
act_again digits gateways (acts.Refused w) all under is = refused_line gateways w
