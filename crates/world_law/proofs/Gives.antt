-- Each order that the controller gives at an event has its request.
use Rattle.std.proofs.Common.{◌≡◌, ℕ, zero, suc, ◌^◌, ◌<◌, List, [], ◌∷◌, length, Some, None, slice_get, sym, subst}
use Rattle.std.specs.Prelude.{All}
use Rattle.std.proofs.lemmas.List.Elements.{All-cons, All-head, All-nil, All-tail}
use Rattle.ikl_base.specs.Address.{IsAddress}
use Rattle.ikl_base.specs.declared.address.Addr.{Addr}
use Rattle.ikeless_tree.specs.Typed.{AreTypedPolicies, AreTypedRows, IsTypedNotice, IsTypedOrder}
use Rattle.ikeless_tree.specs.declared.command.Peer.{Peer}
use Rattle.ikeless_tree.specs.declared.order.Notice.{Notice}
use Rattle.ikeless_tree.specs.declared.order.Order.{Order}
use Rattle.ikeless_tree.specs.declared.sad.Tree.{Tree}
use Rattle.reply_table.specs.Order.{ask_of}
use Rattle.reply_table.specs.Reply.{reply}
use Rattle.rc_http.specs.Written.{IsWritableRequest, IsWritableResponse}
use Rattle.rc_resource.specs.Lists.{IsTree}
use Rattle.rc_resource.specs.Messages.{IsOrder, order_message, reply_message}
use Rattle.rc_resource.specs.Replies.{reply_of}
use Rattle.notice_lines.specs.Envelope.{IsNotice}
use Rattle.notice_lines.specs.Reading.{IsHeard}
use Rattle.hist_acts.specs.declared.act.Act.{Act}
use Rattle.hist_acts.specs.declared.act.Act.TheVariants as acts
use Rattle.hist_acts.specs.declared.event.Header.{Header}
use Rattle.hist_acts.specs.Past.{after}
use Rattle.hist_controller.specs.Acts.{ControllerAct, Opened, Cut, Answered, Heard, Ordered, Accepted, Refused}
use Rattle.hist_controller.specs.Clauses.{IsControllerPast}
use Rattle.hist_controller.specs.Halves.{PlainAnswers}
use Rattle.hist_controller.specs.Law.{block}
use Rattle.hist_controller.specs.Table.{AllFit}
use Rattle.hist_controller.specs.Told.{all_told, order_told, peer_name}
use Rattle.hist_wire.specs.Dates.{line_text}
use Rattle.acts_spell.specs.Spelled.{IsSpelled}
use Rattle.ctl_core.specs.declared.acts.CtlAct.TheVariants as done
use Rattle.ctl_core.specs.declared.acts.CtlEvent.{CtlEvent}
use Rattle.ctl_law.specs.Stands.{StandsFor}
use Rattle.ctl_law.specs.Told.{MayBeTold, all_done, event_of}
use Rattle.ctl_law.proofs.Steps.{step-follows}
use Rattle.world_steps.specs.Worlds.{World}
use Rattle.world_steps.specs.Conditions.{Gives, IsGiven, IsSent}
use Rattle.world_law.specs.Stands.{node_of}
use Rattle.world_law.proofs.Peers.{peer-at}
use Rattle.world_law.proofs.Rests.{Rests}
use Rattle.world_law.proofs.Giving.{AreFit, fit-parts, node-there}
use Rattle.world_law.proofs.Replies.{order-good}
use Rattle.world_law.proofs.Typed.{AreSpelled, spelled-head, spelled-tail}

-- what can be written, and read again
pub record Texts : Type 0 where
  pub orders : (host : Addr) (o : Order) → IsAddress host → IsOrder o → IsTypedOrder o → IsWritableRequest (order_message host o)
  pub replies : (t : Tree) (o : Order) → IsTree t → AreTypedRows t.sad → AreTypedPolicies t.spd → IsOrder o → IsTypedOrder o
      → IsWritableResponse (reply_message (reply_of (reply t (ask_of o))))
  pub heard : (n : Notice) (seconds : ℕ) → IsNotice n → IsTypedNotice n → seconds < 2 ^ 32 → IsHeard n (line_text n seconds)

-- ---- addresses

abbrev pub HaveAddresses : List Peer → Type 0
HaveAddresses ps = All (λ p. IsAddress p.address) ps

pub address-there : (ps : List Peer) (i : ℕ) (p : Peer) → HaveAddresses ps → slice_get ps i ≡ Some p → IsAddress p.address
address-there [] i p all e = absurd (none-is p e) where
  none-is : (a : Peer) → None ≡ Some a → ⊥
  none-is a e = cc
address-there (q ∷ ps) zero p all e = subst (λ z. IsAddress z.address) (some-is q p e) (All-head (λ z. IsAddress z.address) q ps all) where
  some-is : (a b : Peer) → Some a ≡ Some b → a ≡ b
  some-is a b e = cc
address-there (q ∷ ps) (suc i) p all e = address-there ps i p (All-tail (λ z. IsAddress z.address) q ps all) e

-- ---- acts that lines can spell

pub spelled-parts : (gs : List Peer) (h xs : List Act) → AreSpelled gs (after h xs) → AreSpelled gs xs × AreSpelled gs h
spelled-parts gs h [] s = (All-nil (IsSpelled gs), s)
spelled-parts gs h (a ∷ xs) s =
    let r = spelled-parts gs (a ∷ h) xs s in
    (All-cons (IsSpelled gs) a xs (spelled-head gs a h r.1) r.0, spelled-tail gs a h r.1)

-- ---- each order

order-sent : Texts → (host : Addr) (o : Order) → IsAddress host → IsOrder o → IsTypedOrder o → IsSent host o
order-sent t host o a i y = record { order = i; writable = t.orders host o a i y }

given-at : (header : Header) (h : List Act) (w : World) (i : ℕ) (p : Peer) (o : Order) → Rests header h w
    → slice_get header.gateways i ≡ Some p → IsSent p.address o → IsGiven w.nodes (done.Order i o)
given-at header h w i p o r e sent = (node_of header h p, node-there header h w i p r e, sent)

all-given : Texts → (header : Header) (h : List Act) (w : World) (xs : List ControllerAct) → HaveAddresses header.gateways
    → Rests header h w → AreFit (length header.gateways) xs
    → AreSpelled header.gateways (all_told header.gateways xs) → All (IsGiven w.nodes) (all_done header.gateways xs)
all-given t header h w [] all r f s = All-nil (IsGiven w.nodes)
all-given t header h w (Opened g k ∷ xs) all r f s = all-given t header h w xs all r f.1
    (spelled-tail header.gateways (acts.Opened (peer_name header.gateways g) k) (all_told header.gateways xs) s)
all-given t header h w (Cut g k ∷ xs) all r f s = all-given t header h w xs all r f.1
    (spelled-tail header.gateways (acts.Cut (peer_name header.gateways g) k) (all_told header.gateways xs) s)
all-given t header h w (Answered g k n a ∷ xs) all r f s =
    all-given t header h w xs all r f.1 (spelled-tail header.gateways (acts.Answered (peer_name header.gateways g) k n a)
    (all_told header.gateways xs) s)
all-given t header h w (Heard g k n ∷ xs) all r f s = all-given t header h w xs all r f.1
    (spelled-tail header.gateways (acts.Heard (peer_name header.gateways g) k n) (all_told header.gateways xs) s)
all-given t header h w (Accepted c ∷ xs) all r f s = all-given t header h w xs all r f.1 s
all-given t header h w (Refused why ∷ xs) all r f s =
    All-cons (IsGiven w.nodes) (done.Refused why) (all_done header.gateways xs) tt
    (all-given t header h w xs all r f.1 (spelled-tail header.gateways (acts.Refused why) (all_told header.gateways xs) s))
all-given t header h w (Ordered g k n o ∷ xs) all r f s =
    let ps : List Peer = header.gateways in
    let order : Order = order_told ps o in
    let act : Act = acts.Order (peer_name ps g) k n order in
    let one = spelled-head ps act (all_told ps xs) s in
    let good = order-good order one.0.1 one.1.2 in
    let q = peer-at ps g f.0 in
    let p : Peer = q.0 in
    All-cons (IsGiven w.nodes) (done.Order g order) (all_done ps xs)
    (given-at header h w g p order r q.1 (order-sent t p.address order (address-there ps g p all q.1) good.0 good.1))
    (all-given t header h w xs all r f.1 (spelled-tail ps act (all_told ps xs) s))

pub gives : Texts → (header : Header) (h k : List Act) (c : List ControllerAct) (w : World) (e : CtlEvent) → HaveAddresses header.gateways
    → Rests header h w
    → StandsFor header.gateways c w.controller → IsControllerPast (length header.gateways) c → PlainAnswers c → MayBeTold w.controller e
    → AllFit (length header.gateways) (after c (block header.gateways c (event_of e)))
    → AreSpelled header.gateways (after k (all_told header.gateways (block header.gateways c (event_of e)))) → Gives e w
gives t header h k c w e all rests stands past plain may fit spelled =
    let ps : List Peer = header.gateways in
    let xs : List ControllerAct = block ps c (event_of e) in
    let follows = step-follows ps c w.controller e past plain stands may in
    subst (λ z. All (IsGiven w.nodes) z) (sym follows.acts)
    (all-given t header h w xs all rests (fit-parts (length ps) c xs fit).0 (spelled-parts ps k (all_told ps xs) spelled).0)
