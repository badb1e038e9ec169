-- What is done with a packet from inside is what the law of a gateway does.
use Rattle.std.proofs.Common.{◌≡◌, ℕ, ◌+◌, Bool, true, false, nat_le, nat_lt, List, ◌∷◌, length, Option, Some, None, Result, Ok, Err, map, refl, ap, ◌∙◌, subst, option_and_then, slice_get, if◌then◌else◌}
use Rattle.std.specs.List.{list_any}
use Rattle.std.specs.Str.{bytes_eq}
use Rattle.ikl_base.specs.Address.{AreOneFamily}
use Rattle.ip_packet.specs.declared.packet.NotPacket.{NotPacket}
use Rattle.ip_packet.specs.declared.packet.NotPacket.TheVariants as not_packets
use Rattle.ip_packet.specs.View.{Packet, view_of}
use Rattle.ikeless_tree.specs.declared.sad.SadEntry.{SadEntry}
use Rattle.ikeless_tree.specs.declared.entry.SpdEntry.{SpdEntry}
use Rattle.ikeless_tree.specs.declared.entry.Action.{Action}
use Rattle.ikeless_tree.specs.declared.entry.Action.TheVariants as actions
use Rattle.ikeless_tree.specs.declared.entry.Direction.TheVariants.{Out}
use Rattle.ikeless_tree.specs.declared.order.Notice.TheVariants as notices
use Rattle.ikeless_tree.specs.declared.drops.DropWhy.TheVariants as why
use Rattle.esp_frame.specs.Esp.{esp_len}
use Rattle.spd_match.specs.Match.{first_entry}
use Rattle.sad_store.specs.declared.half.Half.{Half}
use Rattle.sad_store.specs.Halves.{changed, newest_place, send, with_overflow}
use Rattle.sad_store.proofs.PlaceLemmas.{newest-there}
use Rattle.hist_acts.specs.declared.act.Act.TheVariants as acts
use Rattle.hist_halves.specs.Sealed.{is_opened}
use Rattle.hist_gateway.specs.Datagram.{datagram, fault_why, flow_of}
use Rattle.hist_gateway.specs.Uses.{octets_in}
use Rattle.hist_gateway.specs.State.{GatewayState, did, quiet, sent_under, with_halves}
use Rattle.hist_gateway.specs.Machine.{out_by_action, out_by_entry, out_by_half, out_by_view, sends_of, tells_of}
use Rattle.hist_gateway.specs.Let.{unless}
use Rattle.hist_gateway.proofs.KeepsLemmas.{same-refl}
use Rattle.hist_gateway.proofs.PlacesLemmas.{acquire-at, overflow-at, sent-at}
use Rattle.gw_packets.specs.declared.done.PacketAnswer.TheVariants as answers
use Rattle.gw_packets.specs.Looks.{used}
use Rattle.gw_packets.specs.Outbound.{let_by_action, let_by_entry, let_by_view, let_in, protected_by, sealed_at, sent_under as sends, spent, without_half}
use Rattle.gw_law.specs.Told.{kept_of}
use Rattle.gw_law.specs.Orderly.{HasTunnel, IsOrderly}
use Rattle.gw_law.proofs.Used.{IsTold, half-at, told-answer, told-drop, told-if, told-notice, told-unless, told-use}

-- the ESP octets of a datagram that is sealed are so many
abbrev pub AreSized : Type 0
AreSized = (e : SadEntry) (n : ℕ) (v : Packet) (o : List ℕ) → AreOneFamily e.local e.remote
    → octets_in (Some (datagram e n v o)) ≡ esp_len (length o)

-- ---- a half

if-true : (b : Bool) (x y : GatewayState) → b ≡ true → (if b then x else y) ≡ x
if-true b x y p = rw p refl

sent : (g : List ℕ) (s : GatewayState) (o : List ℕ) (v : Packet) (i : ℕ) (x : Half) → AreSized → IsOrderly s → slice_get s.halves i ≡ Some x
    →
    IsTold g s (quiet s) (sends_of g s x (x.sent + 1) (datagram x.entry (x.sent + 1) v o)) (sends o v i x (kept_of s))
sent g s o v i x sized k at =
    let n : ℕ = x.sent + 1 in
    let d : List ℕ = datagram x.entry n v o in
    let size : ℕ = octets_in (Some d) in
    let did-it : did g (quiet s) (acts.Sent g x.entry.name n d) ≡ with_halves (changed (send s.clock size) i s.halves) s =
    if-true (bytes_eq g g) (with_halves (map (sent_under x.entry.name s.clock size) s.halves) s) (quiet s) (same-refl g)
    ∙ ap (λ hs. with_halves hs s) (sent-at s.clock size i x s.halves k.apart at) in
    let told = told-use g s (quiet s) (answers.Sent x.entry.name n d) i (send s.clock size) x k at (λ z. refl) did-it in
    let same : size ≡ esp_len (length o) = sized x.entry n v o (half-at HasTunnel s.halves i x k.tunnels at) in
    subst (λ l. IsTold g s (quiet s) (sends_of g s x n d) (used (answers.Sent x.entry.name n d) i (send s.clock l) (send s.clock l x)
    (kept_of s))) same told

over : (g : List ℕ) (s : GatewayState) (i : ℕ) (x : Half) → IsOrderly s → slice_get s.halves i ≡ Some x →
    IsTold g s (quiet s) (acts.Drop g why.SeqLimit ∷ unless x.overflow (tells_of g s (notices.SeqOverflow x.entry.name)))
    (spent i x (kept_of s))
over g s i x k at =
    told-unless g s (quiet s) why.SeqLimit (tells_of g s (notices.SeqOverflow x.entry.name)) _ x.overflow
    (told-drop g s (quiet s) why.SeqLimit refl refl)
    (told-notice g s (quiet s) why.SeqLimit (notices.SeqOverflow x.entry.name) (changed (with_overflow true) i s.halves) s.bad_spis refl
    refl (overflow-at i x s.halves k.apart at) k.few_spis)

no-half : (g : List ℕ) (s : GatewayState) (v : Packet) (p : SpdEntry) → IsOrderly s →
    IsTold g s (quiet s) (acts.Drop g why.NoSa ∷ unless (list_any (λ q. bytes_eq q p.name) s.acquires)
    (tells_of g s (notices.Acquire p.name (flow_of v)))) (without_half v p (kept_of s))
no-half g s v p k =
    told-unless g s (quiet s) why.NoSa (tells_of g s (notices.Acquire p.name (flow_of v))) _ (list_any (λ q. bytes_eq q p.name) s.acquires)
    (told-drop g s (quiet s) why.NoSa refl refl)
    (told-notice g s (quiet s) why.NoSa (notices.Acquire p.name (flow_of v)) s.halves s.bad_spis refl refl
    (acquire-at p.name (flow_of v) s.halves) k.few_spis)

out-half : (g : List ℕ) (q : ℕ) (s : GatewayState) (o : List ℕ) (v : Packet) (p : SpdEntry) (i : ℕ) (found : Option Half) → AreSized
    → IsOrderly s → slice_get s.halves i ≡ found →
    IsTold g s (quiet s) (out_by_half g q s o v p found) (sealed_at q o v p i found (kept_of s))
out-half g q s o v p i None sized k at = no-half g s v p k
out-half g q s o v p i (Some x) sized k at =
    told-if g s (quiet s) _ _ _ _ (nat_le q x.sent) (over g s i x k at) (sent g s o v i x sized k at)

out-place : (g : List ℕ) (q : ℕ) (s : GatewayState) (o : List ℕ) (v : Packet) (p : SpdEntry) (place : Option ℕ) → AreSized → IsOrderly s →
    IsTold g s (quiet s) (out_by_half g q s o v p (option_and_then (slice_get s.halves) place)) (protected_by q o v p place (kept_of s))
out-place g q s o v p None sized k = no-half g s v p k
out-place g q s o v p (Some i) sized k = out-half g q s o v p i (slice_get s.halves i) sized k refl

-- ---- a policy

out-action : (g : List ℕ) (q : ℕ) (s : GatewayState) (o : List ℕ) (v : Packet) (p : SpdEntry) (a : Action) → AreSized → IsOrderly s →
    IsTold g s (quiet s) (out_by_action g q s o v p a) (let_by_action q o v p a (kept_of s))
out-action g q s o v p actions.Protect sized k =
    let told = out-place g q s o v p (newest_place p.reqid v s.halves) sized k in
    subst (λ found. IsTold g s (quiet s) (out_by_half g q s o v p found) (protected_by q o v p (newest_place p.reqid v s.halves)
    (kept_of s)))
    (newest-there p.reqid v s.halves) told
out-action g q s o v p actions.Bypass sized k = told-answer g s (quiet s) (answers.Clear o) refl
out-action g q s o v p actions.Discard sized k = told-drop g s (quiet s) why.Discard refl refl

out-entry : (g : List ℕ) (q : ℕ) (s : GatewayState) (o : List ℕ) (v : Packet) (p : Option SpdEntry) → AreSized → IsOrderly s →
    IsTold g s (quiet s) (out_by_entry g q s o v p) (let_by_entry q o v p (kept_of s))
out-entry g q s o v None sized k = told-drop g s (quiet s) why.NoPolicy refl refl
out-entry g q s o v (Some p) sized k = out-action g q s o v p p.action sized k

pub fault-quiet : (f : NotPacket) → is_opened (fault_why f) ≡ false
fault-quiet not_packets.Short = refl
fault-quiet not_packets.Version = refl
fault-quiet not_packets.Length = refl
fault-quiet not_packets.HeaderSum = refl
fault-quiet not_packets.Fragment = refl

out-view : (g : List ℕ) (q : ℕ) (s : GatewayState) (o : List ℕ) (r : Result Packet NotPacket) → AreSized → IsOrderly s →
    IsTold g s (quiet s) (out_by_view g q s o r) (let_by_view q o r (kept_of s))
out-view g q s o (Err fault) sized k = told-drop g s (quiet s) (fault_why fault) (fault-quiet fault) refl
out-view g q s o (Ok v) sized k =
    told-if g s (quiet s) _ _ _ _ (nat_lt 65000 (length o)) (told-drop g s (quiet s) why.TooLong refl refl)
    (out-entry g q s o v (first_entry s.spd Out v) sized k)

pub let-told : (g : List ℕ) (q : ℕ) (s : GatewayState) (o : List ℕ) → AreSized → IsOrderly s →
    IsTold g s (quiet s) (out_by_view g q s o (view_of o)) (let_in q o (kept_of s))
let-told g q s o sized k = out-view g q s o (view_of o) sized k
