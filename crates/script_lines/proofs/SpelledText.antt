-- An act that is read is one that a line can spell.
use Rattle.std.proofs.Common.{◌≡◌, ℕ, ◌-◌, ◌^◌, nat_le, true, List, [], ◌∷◌, length, Ok, sym, ap, ◌∙◌, subst}
use Rattle.std.specs.Prelude.{codes}
use Rattle.std.specs.List.{list_all}
use Rattle.std.specs.Str.{bytes_eq}
use Rattle.ikl_base.specs.declared.status.LineFault.TheVariants as faults
use Rattle.ikeless_tree.specs.Check.{spd_fault, is_sad_name}
use Rattle.ikeless_tree.specs.declared.command.Peer.{Peer}
use Rattle.hist_acts.specs.declared.act.Act.{Act}
use Rattle.hist_acts.specs.declared.act.Act.TheVariants as acts
use Rattle.hist_acts.specs.Gateways.{is_named}
use Rattle.script_lines.specs.declared.act.Packet.{Packet}
use Rattle.script_lines.specs.declared.act.Sealed.{Sealed}
use Rattle.script_lines.specs.declared.act.Opening.{Opening}
use Rattle.line_words.specs.Words.{words, is_printable, known_of, half_name_of, octets_of, lane_of, number_in}
use Rattle.line_words.specs.Entry.{entries_of, unless_fault}
use Rattle.event_lines.specs.Event.{time_in, reqid_in, gateway_in}
use Rattle.script_lines.specs.Act.{why_of, gone_of, refusal_of, force_in, packet_in, sealed_of, sealed_in, drop_in, gone_at, gone_in, opening_in, shown_of, under_way_at, under_way_in, refused_in, base_act_in, packet_act_in, act_in, act_of, as_spelled, spelling_fault}
use Rattle.script_lines.specs.Spelling.{IsActUnder}
use Rattle.script_lines.specs.Text.{act_text}
use Rattle.event_lines.proofs.SpelledEvent.{gateway_named}
use Rattle.line_words.proofs.TakenSteps.{after, passed, either, inside, listed, known_named}
use Rattle.script_lines.proofs.SpelledSession.{half_named, put_under, session_act_under}

force_under : (gateways : List Peer) (ws : List (List ℕ)) (a : Act) → force_in gateways ws ≡ Ok a → IsActUnder gateways a
unfolding force_in
force_under gateways [] a is = cc
force_under gateways (w ∷ ws) a is =
    let P : Type 0 = IsActUnder gateways a in
    passed P (nat_le (length ws) 256) _ faults.Count a is
    (λ _ more. after P (known_of gateways w) _ a more
    (λ g known more2. after P (entries_of ws) _ a more2
    (λ list read more3. after P (unless_fault (spd_fault list) list) _ a more3
    (λ good fits same. let e : acts.Policy g good ≡ a = cc in
    subst (IsActUnder gateways) e (known_named gateways w g known, listed ws list good read fits)))))

packet_under : (gateways : List Peer) (ws : List (List ℕ)) (p : Packet) → packet_in gateways ws ≡ Ok p → is_named gateways p.gateway ≡ true
unfolding packet_in
packet_under gateways [] p is = cc
packet_under gateways (w ∷ []) p is = cc
packet_under gateways (w ∷ o ∷ []) p is =
    let P : Type 0 = is_named gateways p.gateway ≡ true in
    after P (known_of gateways w) _ p is
    (λ g known more. after P (octets_of o) _ p more
    (λ octets _ same. ap (λ (q : Packet). is_named gateways q.gateway) (sym (inside _ p same)) ∙ known_named gateways w g known))
packet_under gateways (w ∷ o ∷ x ∷ ws) p is = cc

sealed_under : (gateways : List Peer) (ws : List (List ℕ)) (s : Sealed) → sealed_in gateways ws ≡ Ok s
    → (is_named gateways s.gateway ≡ true) × (is_sad_name s.half ≡ true)
unfolding sealed_in sealed_of
sealed_under gateways [] s is = cc
sealed_under gateways (w ∷ []) s is = cc
sealed_under gateways (w ∷ h ∷ []) s is = cc
sealed_under gateways (w ∷ h ∷ k ∷ []) s is = cc
sealed_under gateways (w ∷ h ∷ k ∷ o ∷ []) s is =
    let P : Type 0 = (is_named gateways s.gateway ≡ true) × (is_sad_name s.half ≡ true) in
    after P (known_of gateways w) _ s is
    (λ g known more. after P (half_name_of h) _ s more
    (λ n named more2. after P (number_in faults.Number (2 ^ 64 - 1) k) _ s more2
    (λ m _ more3. after P (octets_of o) _ s more3
    (λ octets _ same. (
      ap (λ (q : Sealed). is_named gateways q.gateway) (sym (inside _ s same)) ∙ known_named gateways w g known,
      ap (λ (q : Sealed). is_sad_name q.half) (sym (inside _ s same)) ∙ half_named h n named,
    )))))
sealed_under gateways (w ∷ h ∷ k ∷ o ∷ x ∷ ws) s is = cc

drop_under : (gateways : List Peer) (ws : List (List ℕ)) (a : Act) → drop_in gateways ws ≡ Ok a → IsActUnder gateways a
unfolding drop_in
drop_under gateways [] a is = cc
drop_under gateways (w ∷ []) a is = cc
drop_under gateways (w ∷ y ∷ []) a is =
    let P : Type 0 = IsActUnder gateways a in
    after P (known_of gateways w) _ a is
    (λ g known more. after P (why_of y) _ a more
    (λ why _ same. let e : acts.Drop g why ≡ a = cc in subst (IsActUnder gateways) e (known_named gateways w g known)))
drop_under gateways (w ∷ y ∷ x ∷ ws) a is = cc

gone_under : (gateways : List Peer) (ws : List (List ℕ)) (a : Act) → gone_in gateways ws ≡ Ok a → IsActUnder gateways a
unfolding gone_in gone_at
gone_under gateways [] a is = cc
gone_under gateways (w ∷ []) a is = cc
gone_under gateways (w ∷ h ∷ []) a is = cc
gone_under gateways (w ∷ h ∷ y ∷ []) a is =
    let P : Type 0 = IsActUnder gateways a in
    after P (known_of gateways w) _ a is
    (λ g known more. after P (half_name_of h) _ a more
    (λ n named more2. after P (gone_of y) _ a more2
    (λ why _ same. let e : acts.Gone g n why ≡ a = cc in
    subst (IsActUnder gateways) e (known_named gateways w g known, half_named h n named))))
gone_under gateways (w ∷ h ∷ y ∷ x ∷ ws) a is = cc

opening_under : (gateways : List Peer) (ws : List (List ℕ)) (s : Opening) → opening_in gateways ws ≡ Ok s
    → is_named gateways s.gateway ≡ true
unfolding opening_in
opening_under gateways [] s is = cc
opening_under gateways (w ∷ []) s is = cc
opening_under gateways (w ∷ n ∷ []) s is =
    let P : Type 0 = is_named gateways s.gateway ≡ true in
    after P (known_of gateways w) _ s is
    (λ g known more. after P (number_in faults.Number (2 ^ 32 - 1) n) _ s more
    (λ m _ same. ap (λ (q : Opening). is_named gateways q.gateway) (sym (inside _ s same)) ∙ known_named gateways w g known))
opening_under gateways (w ∷ n ∷ x ∷ ws) s is = cc

shown_few : (w o : List ℕ) → shown_of w ≡ Ok o → nat_le (length o) 4096 ≡ true
shown_few w o is =
    let P : Type 0 = nat_le (length o) 4096 ≡ true in
    after P (octets_of w) _ o is
    (λ x _ more. passed P (nat_le (length x) 4096) (Ok x) faults.Hex o more
    (λ few same. let e : x ≡ o = cc in ap (λ t. nat_le (length t) 4096) (sym e) ∙ few))

under_way_under : (gateways : List Peer) (ws : List (List ℕ)) (a : Act) → under_way_in gateways ws ≡ Ok a → IsActUnder gateways a
unfolding under_way_in under_way_at
under_way_under gateways [] a is = cc
under_way_under gateways (w ∷ []) a is = cc
under_way_under gateways (w ∷ l ∷ []) a is = cc
under_way_under gateways (w ∷ l ∷ o ∷ []) a is =
    let P : Type 0 = IsActUnder gateways a in
    after P (known_of gateways w) _ a is
    (λ g known more. after P (lane_of l) _ a more
    (λ lane _ more2. after P (shown_of o) _ a more2
    (λ octets few same. let e : acts.Wire g lane octets ≡ a = cc in
    subst (IsActUnder gateways) e (known_named gateways w g known, shown_few o octets few))))
under_way_under gateways (w ∷ l ∷ o ∷ x ∷ ws) a is = cc

refused_under : (gateways : List Peer) (ws : List (List ℕ)) (a : Act) → refused_in ws ≡ Ok a → IsActUnder gateways a
unfolding refused_in
refused_under gateways [] a is = cc
refused_under gateways (w ∷ []) a is =
    after (IsActUnder gateways a) (refusal_of w) _ a is (λ why _ same. let e : acts.Refused why ≡ a = cc in
    subst (IsActUnder gateways) e tt)
refused_under gateways (w ∷ x ∷ ws) a is = cc

base_under : (gateways : List Peer) (w : List ℕ) (ws : List (List ℕ)) (a : Act) → base_act_in gateways w ws ≡ Ok a → IsActUnder gateways a
unfolding base_act_in
base_under gateways w ws a is =
    let P : Type 0 = IsActUnder gateways a in
    either P (bytes_eq w (codes "policy")) _ _ a is (force_under gateways ws a)
    (λ is0. either P (bytes_eq w (codes "put")) _ _ a is0 (put_under gateways ws a)
    (λ is2. either P (bytes_eq w (codes "gone")) _ _ a is2 (gone_under gateways ws a)
    (λ is3. either P (bytes_eq w (codes "opened")) _ _ a is3
    (λ read. after P (opening_in gateways ws) _ a read
    (λ s opened same. let e : acts.Opened s.gateway s.session ≡ a = cc in
    subst (IsActUnder gateways) e (opening_under gateways ws s opened)))
    (λ is4. either P (bytes_eq w (codes "cut")) _ _ a is4
    (λ read. after P (opening_in gateways ws) _ a read
    (λ s opened same. let e : acts.Cut s.gateway s.session ≡ a = cc in subst (IsActUnder gateways) e (opening_under gateways ws s opened)))
    (λ is5. either P (bytes_eq w (codes "wire")) _ _ a is5 (under_way_under gateways ws a)
    (λ is6. either P (bytes_eq w (codes "refused")) _ _ a is6 (refused_under gateways ws a) (session_act_under gateways w ws a)))))))

packet_act_under : (gateways : List Peer) (w : List ℕ) (ws : List (List ℕ)) (a : Act) → packet_act_in gateways w ws ≡ Ok a
    → IsActUnder gateways a
unfolding packet_act_in
packet_act_under gateways w ws a is =
    let P : Type 0 = IsActUnder gateways a in
    either P (bytes_eq w (codes "let")) _ _ a is
    (λ read. after P (packet_in gateways ws) _ a read
    (λ p packet same. let e : acts.Let p.gateway p.octets ≡ a = cc in subst (IsActUnder gateways) e (packet_under gateways ws p packet)))
    (λ is2. either P (bytes_eq w (codes "clear")) _ _ a is2
    (λ read. after P (packet_in gateways ws) _ a read
    (λ p packet same. let e : acts.Clear p.gateway p.octets ≡ a = cc in subst (IsActUnder gateways) e (packet_under gateways ws p packet)))
    (λ is3. either P (bytes_eq w (codes "arrived")) _ _ a is3
    (λ read. after P (packet_in gateways ws) _ a read
    (λ p packet same. let e : acts.Arrived p.gateway p.octets ≡ a = cc in
    subst (IsActUnder gateways) e (packet_under gateways ws p packet)))
    (λ is4. either P (bytes_eq w (codes "pass")) _ _ a is4
    (λ read. after P (packet_in gateways ws) _ a read
    (λ p packet same. let e : acts.Pass p.gateway p.octets ≡ a = cc in subst (IsActUnder gateways) e (packet_under gateways ws p packet)))
    (base_under gateways w ws a))))

words_under : (gateways : List Peer) (ws : List (List ℕ)) (a : Act) → act_in gateways ws ≡ Ok a → IsActUnder gateways a
unfolding act_in
words_under gateways [] a is = cc
words_under gateways (w ∷ ws) a is =
    let P : Type 0 = IsActUnder gateways a in
    either P (bytes_eq w (codes "@")) _ _ a is
    (λ read. after P (reqid_in ws) _ a read (λ k _ same. let e : acts.Took k ≡ a = cc in subst (IsActUnder gateways) e tt))
    (λ is2. either P (bytes_eq w (codes "now")) _ _ a is2
    (λ read. after P (time_in ws) _ a read (λ t _ same. let e : acts.Now t ≡ a = cc in subst (IsActUnder gateways) e tt))
    (λ is3. either P (bytes_eq w (codes "boot")) _ _ a is3
    (λ read. after P (gateway_in gateways ws) _ a read
    (λ g named same. let e : acts.Boot g ≡ a = cc in subst (IsActUnder gateways) e (gateway_named gateways ws g named)))
    (λ is4. either P (bytes_eq w (codes "sent")) _ _ a is4
    (λ read. after P (sealed_in gateways ws) _ a read
    (λ s sealed same. let e : acts.Sent s.gateway s.half s.number s.octets ≡ a = cc in
    subst (IsActUnder gateways) e (sealed_under gateways ws s sealed)))
    (λ is5. either P (bytes_eq w (codes "gave")) _ _ a is5
    (λ read. after P (sealed_in gateways ws) _ a read
    (λ s sealed same. let e : acts.Gave s.gateway s.half s.number s.octets ≡ a = cc in
    subst (IsActUnder gateways) e (sealed_under gateways ws s sealed)))
    (λ is6. either P (bytes_eq w (codes "drop")) _ _ a is6 (drop_under gateways ws a) (packet_act_under gateways w ws a))))))

spelled_same : (line : List ℕ) (x a : Act) → as_spelled line x ≡ Ok a → x ≡ a
unfolding as_spelled
spelled_same line x a is = passed (x ≡ a) (bytes_eq (act_text x) line) (Ok x) (spelling_fault x) a is (λ _ same. cc)

pub act_under : (gateways : List Peer) (line : List ℕ) (a : Act) → act_of gateways line ≡ Ok a → IsActUnder gateways a
unfolding act_of
act_under gateways line a is =
    let P : Type 0 = IsActUnder gateways a in
    passed P (list_all is_printable line) _ faults.Octet a is
    (λ _ more. after P (act_in gateways (words line)) (as_spelled line) a more
    (λ x read same. subst (IsActUnder gateways) (spelled_same line x a same) (words_under gateways (words line) x read)))
