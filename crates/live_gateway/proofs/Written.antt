-- What a gateway does can be written: each of its notices has a line, and each of its replies a response.
use Rattle.std.proofs.Common.{◌≡◌, ℕ, zero, suc, ◌+◌, ◌++◌, ◌||◌, not, nat_le, nat_lt, ◌==◌, Bool, true, false, All, List, [], ◌∷◌, length, map, take, position, Option, Some, None, Result, Ok, Err, refl, subst, arith, slice_get, if◌then◌else◌}
use Rattle.std.specs.Prelude.{find}
use Rattle.std.specs.List.{list_any}
use Rattle.std.specs.Str.{bytes_eq}
use Rattle.std.proofs.lemmas.List.Elements.{All-append, All-cons, All-map, All-nil}
use Rattle.ip_packet.specs.declared.packet.NotPacket.{NotPacket}
use Rattle.ip_packet.specs.View.{Packet, view_of}
use Rattle.ikl_base.specs.declared.address.Addr.{Addr}
use Rattle.ikeless_tree.specs.Check.{entry_fault, first_of, is_empty_range, is_sad_name, is_spd_name, sad_fault, spd_fault}
use Rattle.ikeless_tree.specs.declared.entry.Action.{Action}
use Rattle.ikeless_tree.specs.declared.entry.Action.TheVariants as actions
use Rattle.ikeless_tree.specs.declared.entry.Direction.TheVariants.{In, Out}
use Rattle.ikeless_tree.specs.declared.entry.SpdEntry.{SpdEntry}
use Rattle.ikeless_tree.specs.declared.order.Notice.{Notice}
use Rattle.ikeless_tree.specs.declared.order.Notice.TheVariants as notices
use Rattle.ikeless_tree.specs.declared.drops.DropWhy.TheVariants as why
use Rattle.ikeless_tree.specs.declared.fault.TreeFault.{TreeFault}
use Rattle.ikeless_tree.specs.declared.fault.TreeFault.TheVariants as faults
use Rattle.ikeless_tree.specs.declared.sad.Limits.{Limits}
use Rattle.ikeless_tree.specs.declared.sad.SadEntry.{SadEntry}
use Rattle.ikeless_tree.specs.declared.sad.Tree.{Tree}
use Rattle.ikeless_tree.specs.Typed.{IsTypedTree}
use Rattle.replay_win.specs.declared.verdict.Verdict.{Verdict}
use Rattle.replay_win.specs.declared.verdict.Verdict.TheVariants as verdicts
use Rattle.replay_win.specs.Marks.{judged}
use Rattle.life_count.specs.declared.event.LifeEvent.{LifeEvent}
use Rattle.life_count.specs.declared.event.LifeEvent.TheVariants as told
use Rattle.life_count.specs.Lifetime.{counts_of, event_at, expiry}
use Rattle.esp_frame.specs.Esp.{esp_len, keying, spi_of}
use Rattle.esp_frame.specs.Open as esp
use Rattle.spd_match.specs.Match.{decides, first_entry, local_port, remote_port}
use Rattle.sad_store.specs.declared.half.Half.{Half}
use Rattle.sad_store.specs.Halves.{is_half_of_spi, newest_place, send, take_number}
use Rattle.hist_halves.specs.Sealed.{number_from}
use Rattle.hist_gateway.specs.Arrive.{is_sealed_for}
use Rattle.hist_gateway.specs.Datagram.{datagram, flow_of, one_port}
use Rattle.rc_http.specs.Written.{IsWritableResponse}
use Rattle.rc_request.specs.Asks.{IsAsk}
use Rattle.rc_resource.specs.Lists.{IsTree}
use Rattle.rc_resource.specs.Messages.{reply_message}
use Rattle.rc_resource.specs.Replies.{refusal, reply_of}
use Rattle.rc_resource.proofs.NameLemmas.{policy_found}
use Rattle.reply_table.specs.declared.ask.Ask.{Ask}
use Rattle.reply_table.specs.declared.ask.Change.{Change}
use Rattle.reply_table.specs.declared.ask.Change.TheVariants as changes
use Rattle.reply_table.specs.Reply as table
use Rattle.notice_lines.specs.Envelope.{IsNotice, IsWhole}
use Rattle.gw_tables.specs.Kept.{Kept, tree_of, with_clock}
use Rattle.gw_tables.specs.Sound.{AreHalves, IsSound}
use Rattle.gw_packets.specs.declared.done.Config.{Config}
use Rattle.gw_packets.specs.declared.done.Done.{Done}
use Rattle.gw_packets.specs.declared.done.PacketAnswer.{PacketAnswer}
use Rattle.gw_packets.specs.declared.done.PacketAnswer.TheVariants as answers
use Rattle.gw_packets.specs.Inbound as inbound
use Rattle.gw_packets.specs.Looks as looks
use Rattle.gw_packets.specs.Outbound as outbound
use Rattle.gw_packets.specs.Outcome.{Outcome, dropped, dropped_and_told, outcome}
use Rattle.gw_requests.specs.declared.act.GwAct.TheVariants as done
use Rattle.gw_requests.specs.Requests.{CanTell, acts_of_change}
use Rattle.gw_core.specs.Machine.{Arrive, Clock, Event, Handle, IsEvent, Let, Session_taken, act_of_gone, act_of_notice, acts_of_answer, acts_of_done, stepped}
use Rattle.world_steps.specs.Conditions.{IsWritten}
use Rattle.live_gateway.specs.Causes.{CanRefuse}

-- ---- names of policies and halves

unfaulted : (b : Bool) (f : TreeFault) (r : Option TreeFault) → (if b then Some f else r) ≡ None → r ≡ None
unfaulted true f r e = cc
unfaulted false f r e = e

named-if : (b : Bool) (f : TreeFault) (r : Option TreeFault) → (if not b then Some f else r) ≡ None → b ≡ true
named-if true f r e = refl
named-if false f r e = cc

first-none : (a b : Option TreeFault) → first_of a b ≡ None → a ≡ None
first-none None b e = refl
first-none (Some f) b e = e

entry-named : (e : SpdEntry) → spd_fault (e ∷ []) ≡ None → is_spd_name e.name ≡ true
unfolding spd_fault entry_fault
entry-named e h =
    let one : first_of (entry_fault [] e) None ≡ None = unfaulted false faults.TooMany (first_of (entry_fault [] e) None) h in
    let two = unfaulted false faults.DuplicateName _ (first-none (entry_fault [] e) None one) in
    named-if (is_spd_name e.name) faults.BadName _ two

policy-named : (p : SpdEntry → Bool) (list : List SpdEntry) (e : SpdEntry) → spd_fault list ≡ None → find p list ≡ Some e
    → is_spd_name e.name ≡ true
policy-named p list e h f = entry-named e (policy_found p list e h f)

half-named : (e : SadEntry) → sad_fault e ≡ None → is_sad_name e.name ≡ true
unfolding sad_fault
half-named e h = named-if (is_sad_name e.name) _ _ h

-- the half at a place
abbrev IsNamed : Half → Type 0
IsNamed x = is_sad_name x.entry.name ≡ true

some-is : {X : Type 0} (x y : X) → Some x ≡ Some y → x ≡ y
some-is x y e = cc

halves-named : (xs : List Half) (i : ℕ) (x : Half) → AreHalves xs → slice_get xs i ≡ Some x → IsNamed x
halves-named [] i x are e = absurd (let no : ⊥ = cc in no)
halves-named (y ∷ ys) zero x are e = subst IsNamed (some-is y x e) (half-named y.entry are.0.entry)
halves-named (y ∷ ys) (suc i) x are e = halves-named ys i x are.1 e

-- ---- what is told

abbrev IsTold : Outcome → Type 0
IsTold o = All IsNotice o.done.notices

if-told : (b : Bool) (o p : Outcome) → IsTold o → IsTold p → IsTold (if b then o else p)
if-told true o p a b = a
if-told false o p a b = b

one-told : (n : Notice) → IsNotice n → All IsNotice (n ∷ [])
one-told n w = All-cons IsNotice n [] w (All-nil IsNotice)

expiry-told : (name : List ℕ) (c : Limits) (e : LifeEvent) → is_sad_name name ≡ true → All IsNotice (expiry name c e)
expiry-told name c told.Nothing n = All-nil IsNotice
expiry-told name c told.Soft n = one-told (notices.Expire name true c) n
expiry-told name c told.Hard n = one-told (notices.Expire name false c) n

used-told : (a : PacketAnswer) (i : ℕ) (f : Half → Half) (x : Half) (k : Kept) → IsNamed x → IsTold (looks.used a i f x k)
used-told a i f x k n = expiry-told x.entry.name (counts_of k.clock x.life) (event_at k.clock x.life) n

expiries-told : (now : ℕ) (xs : List Half) → AreHalves xs → All IsNotice (looks.expiries now xs)
expiries-told now [] are = All-nil IsNotice
expiries-told now (x ∷ xs) are =
    All-append IsNotice (expiry x.entry.name (counts_of now x.life) (event_at now x.life)) (looks.expiries now xs)
    (expiry-told x.entry.name (counts_of now x.life) (event_at now x.life) (half-named x.entry are.0.entry)) (expiries-told now xs are.1)

clock-told : (t : ℕ) (k : Kept) → IsSound k → IsTold (looks.clock_read t k)
clock-told t k s =
    if-told (nat_lt k.clock t) (looks.looked (with_clock t k)) (outcome None [] [] k) (expiries-told t k.halves s.halves) (All-nil IsNotice)

-- ---- packets from inside

one-empty : (o : Option ℕ) → list_any is_empty_range (one_port o) ≡ false
one-empty None = refl
one-empty (Some p) = grind arith

one-many : (o : Option ℕ) → nat_lt 8 (length (one_port o)) ≡ false
one-many None = refl
one-many (Some p) = refl

neither : (a b : Bool) → a ≡ false → b ≡ false → (a || b) ≡ false
neither a b e f = grind (arith, e, f)

flow-whole : (v : Packet) → IsWhole (flow_of v)
flow-whole v = (
  neither (list_any is_empty_range (one_port (local_port Out v.ports))) (list_any is_empty_range (one_port (remote_port Out v.ports)))
      (one-empty (local_port Out v.ports)) (one-empty (remote_port Out v.ports)),
  neither (nat_lt 8 (length (one_port (local_port Out v.ports)))) (nat_lt 8 (length (one_port (remote_port Out v.ports))))
      (one-many (local_port Out v.ports)) (one-many (remote_port Out v.ports)),
)

no-half-told : (v : Packet) (p : SpdEntry) (k : Kept) → is_spd_name p.name ≡ true → IsTold (outbound.without_half v p k)
no-half-told v p k n =
    if-told (list_any (λ q. bytes_eq q p.name) k.acquires) (dropped why.NoSa k)
    (dropped_and_told why.NoSa (notices.Acquire p.name (flow_of v)) (record k { acquires = k.acquires ++ p.name ∷ [] }))
    (All-nil IsNotice) (one-told (notices.Acquire p.name (flow_of v)) (n, flow-whole v))

spent-told : (i : ℕ) (x : Half) (k : Kept) → IsNamed x → IsTold (outbound.spent i x k)
spent-told i x k n = spent-by x.overflow (dropped why.SeqLimit k) _ (All-nil IsNotice) (one-told (notices.SeqOverflow x.entry.name) n)
  where
    spent-by : (b : Bool) (o p : Outcome) → IsTold o → IsTold p → IsTold (if b then o else p)
    spent-by = if-told

sealed-told : (seq_last : ℕ) (o : List ℕ) (v : Packet) (i : ℕ) (x : Half) (k : Kept) → IsNamed x
    → IsTold (outbound.sealed_under seq_last o v i x k)
sealed-told seq_last o v i x k n =
    if-told (nat_le seq_last x.sent) (outbound.spent i x k) (outbound.sent_under o v i x k) (spent-told i x k n)
    (used-told (answers.Sent x.entry.name (x.sent + 1) (datagram x.entry (x.sent + 1) v o)) i (send k.clock (esp_len (length o)))
    (send k.clock (esp_len (length o)) x) k n)

sealed-at-told : (seq_last : ℕ) (o : List ℕ) (v : Packet) (p : SpdEntry) (i : ℕ) (h : Option Half) (k : Kept) → is_spd_name p.name ≡ true
    → ((x : Half) → h ≡ Some x → IsNamed x) → IsTold (outbound.sealed_at seq_last o v p i h k)
sealed-at-told seq_last o v p i None k n m = no-half-told v p k n
sealed-at-told seq_last o v p i (Some x) k n m = sealed-told seq_last o v i x k (m x refl)

protected-told : (seq_last : ℕ) (o : List ℕ) (v : Packet) (p : SpdEntry) (i : Option ℕ) (k : Kept) → is_spd_name p.name ≡ true → IsSound k
    → IsTold (outbound.protected_by seq_last o v p i k)
protected-told seq_last o v p None k n s = no-half-told v p k n
protected-told seq_last o v p (Some i) k n s =
    sealed-at-told seq_last o v p i (slice_get k.halves i) k n (λ x e. halves-named k.halves i x s.halves e)

let-action-told : (seq_last : ℕ) (o : List ℕ) (v : Packet) (p : SpdEntry) (a : Action) (k : Kept) → is_spd_name p.name ≡ true → IsSound k
    → IsTold (outbound.let_by_action seq_last o v p a k)
let-action-told seq_last o v p actions.Protect k n s = protected-told seq_last o v p (newest_place p.reqid v k.halves) k n s
let-action-told seq_last o v p actions.Bypass k n s = All-nil IsNotice
let-action-told seq_last o v p actions.Discard k n s = All-nil IsNotice

let-entry-told : (seq_last : ℕ) (o : List ℕ) (v : Packet) (e : Option SpdEntry) (k : Kept)
    → ((p : SpdEntry) → e ≡ Some p → is_spd_name p.name ≡ true)
    → IsSound k → IsTold (outbound.let_by_entry seq_last o v e k)
let-entry-told seq_last o v None k n s = All-nil IsNotice
let-entry-told seq_last o v (Some p) k n s = let-action-told seq_last o v p p.action k (n p refl) s

let-view-told : (seq_last : ℕ) (o : List ℕ) (r : Result Packet NotPacket) (k : Kept) → IsSound k
    → IsTold (outbound.let_by_view seq_last o r k)
let-view-told seq_last o (Err f) k s = All-nil IsNotice
let-view-told seq_last o (Ok v) k s =
    if-told (nat_lt 65000 (length o)) (dropped why.TooLong k) (outbound.let_by_entry seq_last o v (first_entry k.spd Out v) k)
    (All-nil IsNotice)
    (let-entry-told seq_last o v (first_entry k.spd Out v) k (λ p e. policy-named (decides Out v) k.spd p s.policies e) s)

-- ---- datagrams from outside

no-spi-told : (spi : ℕ) (k : Kept) → IsTold (inbound.without_half spi k)
no-spi-told spi k = no-spi (list_any (λ s. s == spi) k.bad_spis)
  where
    no-spi : (b : Bool) → IsTold (if b then dropped why.BadSpi k else dropped_and_told why.BadSpi (notices.BadSpi spi)
        (record k { bad_spis = take 64 (spi ∷ k.bad_spis) }))
    no-spi true = All-nil IsNotice
    no-spi false = one-told (notices.BadSpi spi) tt

opened-text-told : (b : List ℕ) (i : ℕ) (x : Half) (n : ℕ) (t : Option (List ℕ)) (k : Kept) → IsNamed x
    → IsTold (inbound.opened_by_text b i x n t k)
opened-text-told b i x n None k m = All-nil IsNotice
opened-text-told b i x n (Some t) k m =
    used-told (inbound.answer_by_packet x.entry n (esp.inner_packet t)) i (take_number k.clock (length b) n)
    (take_number k.clock (length b) n x) k m

opened-verdict-told : (b : List ℕ) (i : ℕ) (x : Half) (n : ℕ) (v : Verdict) (k : Kept) → IsNamed x
    → IsTold (inbound.opened_by_verdict b i x n v k)
opened-verdict-told b i x n verdicts.Zero k m = All-nil IsNotice
opened-verdict-told b i x n verdicts.Old k m = All-nil IsNotice
opened-verdict-told b i x n verdicts.Seen k m = All-nil IsNotice
opened-verdict-told b i x n verdicts.Fresh k m = opened-text-told b i x n (esp.opened (keying x.entry.spi x.entry.key) b) k m

opened-at-told : (b : List ℕ) (i : ℕ) (h : Option Half) (k : Kept) → ((x : Half) → h ≡ Some x → IsNamed x)
    → IsTold (inbound.opened_at b i h k)
opened-at-told b i None k m = no-spi-told (spi_of b) k
opened-at-told b i (Some x) k m =
    opened-verdict-told b i x (number_from x.entry x.window.top b) (judged x.window (number_from x.entry x.window.top b)) k (m x refl)

opened-place-told : (b : List ℕ) (i : Option ℕ) (k : Kept) → IsSound k → IsTold (inbound.opened_by_place b i k)
opened-place-told b None k s = no-spi-told (spi_of b) k
opened-place-told b (Some i) k s = opened-at-told b i (slice_get k.halves i) k (λ x e. halves-named k.halves i x s.halves e)

clear-action-told : (o : List ℕ) (a : Action) (k : Kept) → IsTold (inbound.clear_by_action o a k)
clear-action-told o actions.Protect k = All-nil IsNotice
clear-action-told o actions.Bypass k = All-nil IsNotice
clear-action-told o actions.Discard k = All-nil IsNotice

clear-told : (o : List ℕ) (e : Option SpdEntry) (k : Kept) → IsTold (inbound.clear_by_entry o e k)
clear-told o None k = All-nil IsNotice
clear-told o (Some p) k = clear-action-told o p.action k

esp-told : (b : List ℕ) (k : Kept) → IsSound k → IsTold (inbound.opened_esp b k)
esp-told b k s =
    if-told (nat_lt (length b) 34) (dropped why.Short k) (inbound.opened_by_place b (position (is_half_of_spi (spi_of b)) k.halves) k)
    (All-nil IsNotice) (opened-place-told b (position (is_half_of_spi (spi_of b)) k.halves) k s)

arrive-view-told : (own : Addr) (o : List ℕ) (r : Result Packet NotPacket) (k : Kept) → IsSound k
    → IsTold (inbound.arrive_by_view own o r k)
arrive-view-told own o (Err f) k s = All-nil IsNotice
arrive-view-told own o (Ok v) k s =
    if-told (is_sealed_for own v) (inbound.opened_esp v.payload k) (inbound.clear_by_entry o (first_entry k.spd In v) k)
    (esp-told v.payload k s)
    (clear-told o (first_entry k.spd In v) k)

-- ---- acts

answer-written : (a : Option PacketAnswer) → All IsWritten (acts_of_answer a)
answer-written None = All-nil IsWritten
answer-written (Some (answers.Clear o)) = All-cons IsWritten (done.Clear o) [] tt (All-nil IsWritten)
answer-written (Some (answers.Sent x m o)) = All-cons IsWritten (done.Sent x m o) [] tt (All-nil IsWritten)
answer-written (Some (answers.Drop w)) = All-cons IsWritten (done.Drop w) [] tt (All-nil IsWritten)
answer-written (Some (answers.Gave x m o)) = All-cons IsWritten (done.Gave x m o) [] tt (All-nil IsWritten)
answer-written (Some (answers.Pass o)) = All-cons IsWritten (done.Pass o) [] tt (All-nil IsWritten)

gone-written : (names : List (List ℕ)) → All IsWritten (map act_of_gone names)
gone-written [] = All-nil IsWritten
gone-written (x ∷ xs) = All-cons IsWritten (act_of_gone x) (map act_of_gone xs) tt (gone-written xs)

done-written : (d : Done) → All IsNotice d.notices → All IsWritten (acts_of_done d)
done-written d ns =
    All-append IsWritten (acts_of_answer d.answer ++ map act_of_gone d.gone) (map act_of_notice d.notices)
    (All-append IsWritten (acts_of_answer d.answer) (map act_of_gone d.gone) (answer-written d.answer) (gone-written d.gone))
    (All-map IsWritten act_of_notice d.notices ns)

change-written : (list : List SpdEntry) (c : Change) → All IsWritten (acts_of_change list c)
change-written list changes.Nothing = All-nil IsWritten
change-written list changes.Spd = All-cons IsWritten (done.Spd list) [] tt (All-nil IsWritten)
change-written list (changes.Put e) = All-cons IsWritten (done.Put e) [] tt (All-nil IsWritten)
change-written list (changes.Gone x) = All-cons IsWritten (done.Gone x false) [] tt (All-nil IsWritten)

-- every reply about databases without a fault can be written
abbrev pub RepliesAreWritten : Type 0
RepliesAreWritten = (t : Tree) (a : Ask) → IsTree t → IsTypedTree t → IsAsk a
    → IsWritableResponse (reply_message (reply_of (table.reply t a)))

pub step-written : RepliesAreWritten → (c : Config) (e : Event) (k : Kept) → IsSound k → IsEvent e → CanRefuse e
    → ((ask : Ask) → e ≡ Handle (Ok ask) → CanTell (tree_of k)) → All IsWritten (stepped c e k).acts
step-written law c (Let o) k s is can tells = done-written (outbound.let_in c.seq_last o k).done
    (let-view-told c.seq_last o (view_of o) k s)
step-written law c (Arrive o) k s is can tells =
    done-written (inbound.arrive c.address o k).done (arrive-view-told c.address o (view_of o) k s)
step-written law c (Clock t) k s is can tells = done-written (looks.clock_read t k).done (clock-told t k s)
step-written law c (Handle (Ok ask)) k s is can tells =
    let r : table.Outcome = table.reply (tree_of k) ask in
    let t = tells ask refl in
    All-append IsWritten (acts_of_change r.tree.spd r.change) (done.Reply (reply_of r) ∷ []) (change-written r.tree.spd r.change)
    (All-cons IsWritten (done.Reply (reply_of r)) [] (law (tree_of k) ask t.sound t.typed is) (All-nil IsWritten))
step-written law c (Handle (Err e)) k s is can tells = All-cons IsWritten (done.Reply (refusal e)) [] can (All-nil IsWritten)
step-written law c Session_taken k s is can tells = All-nil IsWritten
