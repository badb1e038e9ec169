-- The acts of the gateways at an event have lines.
use Rattle.std.proofs.Common.{◌≡◌, ℕ, ◌+◌, ◌<◌, ◌^◌, ◌||◌, nat_lt, max, Bool, true, false, List, [], ◌∷◌, Option, Some, None, refl, sym, subst, arith, if◌then◌else◌}
use Rattle.std.specs.List.{AllByRecursion}
use Rattle.std.specs.Str.{bytes_eq}
use Rattle.ikl_base.specs.Address.{IsAddress}
use Rattle.ip_packet.specs.Ttl.{with_ttl}
use Rattle.ikeless_tree.specs.Typed.{AreOctets}
use Rattle.ikeless_tree.specs.declared.command.Peer.{Peer}
use Rattle.ikeless_tree.specs.declared.order.Order.{Order}
use Rattle.esp_frame.specs.Laws.{SealedLength}
use Rattle.event_lines.specs.Spelling.{IsEvent, IsEventUnder}
use Rattle.line_words.specs.Spelling.{IsKnown}
use Rattle.hist_acts.specs.declared.act.Act.{Act}
use Rattle.hist_acts.specs.declared.act.Act.TheVariants as acts
use Rattle.hist_acts.specs.declared.event.Event.{Event}
use Rattle.hist_acts.specs.declared.event.Event.TheVariants as events
use Rattle.hist_acts.specs.declared.event.Header.{Header}
use Rattle.hist_acts.specs.Gateways.{is_named}
use Rattle.hist_acts.specs.Past.{after, clock}
use Rattle.hist_acts.specs.Sessions.{next_request}
use Rattle.hist_halves.specs.Halves.{live}
use Rattle.hist_gateway.specs.Block as node
use Rattle.hist_gateway.specs.Handle.{requests}
use Rattle.hist_gateway.specs.Look.{look}
use Rattle.hist_safety.specs.Law.{IsLawful}
use Rattle.hist_safety.proofs.Basics.{name-self}
use Rattle.hist_world.specs.Arrivals.{flipped, is_forged, sent_at}
use Rattle.hist_world.specs.Block.{arrives_at, at_gateway, boots, clock_block, gateway_acts, gateway_at, handles_at, looks, raised}
use Rattle.hist_wire.specs.Wire.{under_way}
use Rattle.acts_spell.specs.Spelled.{IsSpelled}
use Rattle.acts_spell.proofs.Arrivals.{arrive-spelled}
use Rattle.acts_spell.proofs.Each.{each-after, each-append}
use Rattle.acts_spell.proofs.Found.{AreSpelled, clock-small, live-good, request-good}
use Rattle.acts_spell.proofs.Handles.{request-spelled}
use Rattle.acts_spell.proofs.Lets.{let-spelled}
use Rattle.acts_spell.proofs.Notices.{look-spelled}
use Rattle.acts_spell.proofs.Packets.{ttl-octets}
use Rattle.acts_spell.proofs.Sent.{flipped-octets, sent-octets}
use Rattle.acts_spell.proofs.Wires.{gateway-of, wire-few, wire-octets}

-- what is known of a header and of what happened
pub record IsReady (header : Header) (h : List Act) : Type 0 where
  pub sizes : SealedLength
  pub addresses : AllByRecursion (λ p. IsAddress p.address) header.gateways
  pub last : header.seq_last < 2 ^ 32
  pub lawful : IsLawful header.gateways h
  pub past : AreSpelled header.gateways h
  pub requests : (g : List ℕ) → requests g h < 2 ^ 32

known-as : (gs : List Peer) (f g : List ℕ) → f ≡ g → IsKnown gs g → IsKnown gs f
known-as gs f g e k = subst (IsKnown gs) (sym e) k

-- ---- packets and datagrams

lets-spelled : (header : Header) (g o : List ℕ) (h : List Act) → IsReady header h → IsKnown header.gateways g → AreOctets o
    → (c : Option node.Gateway) → gateway_at header g ≡ c
    → AreSpelled header.gateways (at_gateway h (node.Let o) c)
lets-spelled header g o h r k a None e = tt
lets-spelled header g o h r k a (Some c) e =
    let is = gateway-of header g c r.addresses e in
    let known = known-as header.gateways c.name g is.name k in
    let one : IsSpelled header.gateways (acts.Let c.name o) = (known, a) in
    let low : c.seq_last < 2 ^ 32 = subst (λ (z : ℕ). z < 2 ^ 32) (sym is.last) r.last in
    (one, let-spelled r.sizes header.gateways c.name o c.seq_last (acts.Let c.name o ∷ h) known a low (one, r.past))

arrives-spelled : (header : Header) (g o : List ℕ) (h : List Act) → IsReady header h → IsKnown header.gateways g → AreOctets o
    → (c : Option node.Gateway) → gateway_at header g ≡ c
    → AreSpelled header.gateways (arrives_at h o c)
arrives-spelled header g o h r k a None e = tt
arrives-spelled header g o h r k a (Some c) e = by-forgery (is_forged c.name c.address h o) where
  by-forgery : (b : Bool) → AreSpelled header.gateways (if b then acts.Arrived c.name o ∷ [] else node.gw_block c h (node.Arrive o))
  by-forgery true = ((known-as header.gateways c.name g (gateway-of header g c r.addresses e).name k, a), tt)
  by-forgery false =
      let known = known-as header.gateways c.name g (gateway-of header g c r.addresses e).name k in
      let one : IsSpelled header.gateways (acts.Arrived c.name o) = (known, a) in
      (one, arrive-spelled header.gateways c.name o c.address (acts.Arrived c.name o ∷ h) known a (one, r.past))

-- ---- the clock

or-right : (b c : Bool) → c ≡ true → (b || c) ≡ true
or-right true c e = refl
or-right false c e = e

or-left : (b c : Bool) → b ≡ true → (b || c) ≡ true
or-left true c e = refl
or-left false c e = cc

abbrev AreKnown : List Peer → List Peer → Type 0
AreKnown gs ps = AllByRecursion (λ p. is_named gs p.name ≡ true) ps

known-more : (q : Peer) (gs ps : List Peer) → AreKnown gs ps → AreKnown (q ∷ gs) ps
known-more q gs [] k = tt
known-more q gs (p ∷ ps) k = (or-right (bytes_eq q.name p.name) (is_named gs p.name) k.0, known-more q gs ps k.1)

all-known : (gs : List Peer) → AreKnown gs gs
all-known [] = tt
all-known (p ∷ ps) = (or-left (bytes_eq p.name p.name) (is_named ps p.name) (name-self p.name), known-more p ps ps (all-known ps))

looks-spelled : (gs : List Peer) (h : List Act) (ps : List Peer) → AreKnown gs ps → AreSpelled gs h → AreSpelled gs (looks h ps)
looks-spelled gs h [] k s = tt
looks-spelled gs h (p ∷ ps) k s =
    let xs : List Act = look p.name h (live p.name h) in
    let one = look-spelled gs p.name h (live p.name h) k.0 s (live-good gs p.name h s) in
    each-append (IsSpelled gs) xs (looks (after h xs) ps) one (looks-spelled gs (after h xs) ps k.1 (each-after (IsSpelled gs) h xs s one))

raised-spelled : (header : Header) (h : List Act) (b : Bool) → AreSpelled header.gateways h → AreSpelled header.gateways (raised header h b)
raised-spelled header h true s = looks-spelled header.gateways h header.gateways (all-known header.gateways) s
raised-spelled header h false s = tt

greater : (m n : ℕ) → m < 2 ^ 32 → n < 2 ^ 32 → max m n < 2 ^ 32
greater m n p q = grind (arith, p, q)

clock-spelled : (header : Header) (h : List Act) (t : ℕ) → t < 2 ^ 32 → AreSpelled header.gateways h
    → AreSpelled header.gateways (clock_block header h t)
clock-spelled header h t l s =
    let a : Act = acts.Now (max t (clock h)) in
    let one : IsSpelled header.gateways a = (tt, greater t (clock h) l (clock-small header.gateways h s)) in
    (one, raised-spelled header (a ∷ h) (nat_lt (clock h) t) (one, s))

-- ---- restarts and requests

boots-spelled : (header : Header) (g : List ℕ) (c : Option node.Gateway) → IsKnown header.gateways g
    → AreSpelled header.gateways (boots g c)
boots-spelled header g None k = tt
boots-spelled header g (Some c) k = ((k, tt), tt)

next-wide : (n : ℕ) → n < 2 ^ 32 → n + 1 < 2 ^ 64
next-wide n l = omega (arith, l)

down-spelled : (header : Header) (g : List ℕ) (h : List Act) → IsReady header h → IsKnown header.gateways g → (c : Option node.Gateway)
    → gateway_at header g ≡ c → (o : Option Order) → next_request g h ≡ o
    → AreSpelled header.gateways (handles_at h c o)
down-spelled header g h r k c e None n = tt
down-spelled header g h r k None e (Some o) n = tt
down-spelled header g h r k (Some c) e (Some o) n =
    let is = gateway-of header g c r.addresses e in
    request-spelled header.gateways c.name h o (known-as header.gateways c.name g is.name k) r.past
    (request-good header.gateways g o h r.past n) (next-wide (requests c.name h) (r.requests c.name))

-- ---- each event

pub gateways-spelled : (header : Header) (h : List Act) (e : Event) → IsReady header h → IsEventUnder header.gateways e → IsEvent e
    → AreSpelled header.gateways (gateway_acts (under_way header) header h e)
gateways-spelled header h (events.Let g o) r u t = lets-spelled header g o h r u t (gateway_at header g) refl
gateways-spelled header h (events.Arrive g o) r u t = arrives-spelled header g o h r u t (gateway_at header g) refl
gateways-spelled header h (events.ArriveSent g k) r u t =
    arrives-spelled header g (sent_at k h) h r u.0 (sent-octets header.gateways k h r.past) (gateway_at header g) refl
gateways-spelled header h (events.ArriveFlip g k n b) r u t =
    arrives-spelled header g (flipped n b (sent_at k h)) h r u.0
    (flipped-octets n b (sent_at k h) u.2 (sent-octets header.gateways k h r.past)) (gateway_at header g) refl
gateways-spelled header h (events.ArriveTtl g k ttl) r u t =
    arrives-spelled header g (with_ttl ttl (sent_at k h)) h r u.0
    (ttl-octets ttl (sent_at k h) t.1 (sent-octets header.gateways k h r.past)) (gateway_at header g) refl
gateways-spelled header h (events.Now t) r u l = clock-spelled header h t l r.past
gateways-spelled header h (events.Boot g) r u t = boots-spelled header g (gateway_at header g) u
gateways-spelled header h (events.Down g) r u t = down-spelled header g h r u (gateway_at header g) refl (next_request g h) refl
gateways-spelled header h (events.Wire g lane) r u t =
    (((u, wire-few header g lane h), wire-octets header g lane h r.addresses r.lawful r.past), tt)
gateways-spelled header h e r u t = tt
