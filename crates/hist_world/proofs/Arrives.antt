-- The answer of a gateway to a datagram from outside may happen in the world, where the datagram isn't forged.
use Rattle.std.proofs.Common.{◌≡◌, ℕ, ◌≤◌, Bool, true, false, ◌==◌, not, ◌&&◌, ◌||◌, nat_lt, List, [], ◌∷◌, length, Option, Some, None, Result, Ok, Err, refl, sym, ◌∙◌, ap, subst, MatchOption, arith, if◌then◌else◌}
use Rattle.std.proofs.lemmas.Bool.{and_from}
use Rattle.ikl_base.specs.declared.address.Addr.{Addr}
use Rattle.ikl_base.specs.declared.address.Addr.TheVariants.{V4, V6}
use Rattle.ikl_base.specs.Address.{is_same_address}
use Rattle.ip_packet.specs.declared.packet.NotPacket.{NotPacket}
use Rattle.ip_packet.specs.declared.packet.NotPacket.TheVariants as faults
use Rattle.ip_packet.specs.Field.{version, next_header}
use Rattle.ip_packet.specs.View.{Packet, is_short, view_of, view_of_4, view_of_6}
use Rattle.ikeless_tree.specs.declared.sad.SadEntry.{SadEntry}
use Rattle.ikeless_tree.specs.declared.command.Peer.{Peer}
use Rattle.ikeless_tree.specs.declared.entry.SpdEntry.{SpdEntry}
use Rattle.ikeless_tree.specs.declared.entry.Action.{Action}
use Rattle.ikeless_tree.specs.declared.entry.Action.TheVariants as actions
use Rattle.ikeless_tree.specs.declared.entry.Direction.TheVariants.{In}
use Rattle.ikeless_tree.specs.declared.order.Notice.TheVariants as notices
use Rattle.ikeless_tree.specs.declared.drops.DropWhy.{DropWhy}
use Rattle.ikeless_tree.specs.declared.drops.DropWhy.TheVariants as why
use Rattle.esp_frame.specs.Esp.{EspOpens, Inner, Keying, NoInner, keying, spi_of}
use Rattle.esp_frame.specs.Open as esp
use Rattle.esp_frame.proofs.Opens.{opened_finds, opened_is, packet_finds, packet_is}
use Rattle.replay_win.specs.declared.verdict.Verdict.{Verdict}
use Rattle.replay_win.specs.declared.verdict.Verdict.TheVariants as verdicts
use Rattle.replay_win.specs.Marks.{verdict_over}
use Rattle.ikeless_tree.specs.Half.{other_half}
use Rattle.spd_match.specs.Match.{first_entry, holds_packet}
use Rattle.hist_acts.specs.declared.act.Act.{Act}
use Rattle.hist_acts.specs.declared.act.Act.TheVariants as acts
use Rattle.hist_acts.specs.Past.{after, force}
use Rattle.hist_halves.specs.Sealed.{by_spi, esp_of, is_opened, number_of, payload_of}
use Rattle.hist_halves.specs.Halves.{is_sealed, live, numbers_taken}
use Rattle.hist_gateway.specs.Stands.{does_bad_spi_stand}
use Rattle.hist_gateway.specs.Datagram.{fault_why}
use Rattle.hist_gateway.specs.Look.{look, tells}
use Rattle.hist_gateway.specs.Let.{unless}
use Rattle.hist_gateway.specs.Arrive.{arrive_acts, arrive_by_action, arrive_by_entry, arrive_by_half, by_inner, by_packet, by_text, by_verdict, arrive_by_view, drops, esp_acts, is_sealed_for, is_told_version, use_acts}
use Rattle.hist_gateway.specs.Block.{Gateway}
use Rattle.hist_gateway.specs.May.{GatewayMayActAll, IsDelivery, IsOpenedArrival, GatewayMayDrop, GatewayMayAct, OpensArrival}
use Rattle.hist_gateway.proofs.Delivery.{delivers-is}
use Rattle.hist_safety.specs.Carried.{ComesTo, Delivers, IsGenuine, IsOpened, IsUndelivered, address_of, keying_of}
use Rattle.hist_safety.specs.Law.{AllMayHappen, MayHappen, is_ready}
use Rattle.hist_safety.proofs.Basics.{no, both-left, both-right, eq-nat, name-is, name-self}
use Rattle.hist_world.specs.Arrivals.{does_open, is_esp_forged, is_forged, is_fresh, is_half_forged, is_view_forged}
use Rattle.hist_world.proofs.Followers.{follow, look-follows, unless-follows}
use Rattle.hist_world.proofs.Lets.{Shaped, shaped, shaped-if}

-- ---- addresses and versions

same-address : (a b : Addr) → is_same_address a b ≡ true → a ≡ b
same-address (V4 a) (V4 b) e = ap V4 (name-is a b e)
same-address (V4 a) (V6 b) e = absurd (no e)
same-address (V6 a) (V4 b) e = absurd (no e)
same-address (V6 a) (V6 b) e = ap V6 (name-is a b e)

own-address : (a : Addr) → is_same_address a a ≡ true
own-address (V4 a) = name-self a
own-address (V6 a) = name-self a

versions : (p : List ℕ) (v : Packet) (four six : Result Packet NotPacket) (s a b : Bool)
    → (if s then Err faults.Short else if a then four else if b then six else Err faults.Version) ≡ Ok v → (a || b) ≡ true
versions p v four six true a b e = cc
versions p v four six false true b e = refl
versions p v four six false false true e = refl
versions p v four six false false false e = cc

view-version : (p : List ℕ) (v : Packet) → view_of p ≡ Ok v → ((version p == 4) || (version p == 6)) ≡ true
unfolding view_of
view-version p v e = versions p v (view_of_4 p) (view_of_6 p) (is_short p) (version p == 4) (version p == 6) e

told : (n : ℕ) → ((n == 4) || (n == 6)) ≡ true → let m : ℕ = if n == 4 then 4 else 41 in
    (((m == 4) && (n == 4)) || ((m == 41) && (n == 6))) ≡ true
told n e = grind (arith, e)

next-is : (m n : ℕ) → (((m == 4) && (n == 4)) || ((m == 41) && (n == 6))) ≡ true → m ≡ (if n == 4 then 4 else 41)
next-is m n e = grind (arith, e)

-- ---- what comes to a half

-- a datagram for the gateway itself
record ToUs (gs : List Peer) (g o : List ℕ) (v : Packet) : Type 0 where
  pub view : view_of o ≡ Ok v
  pub proto : v.proto ≡ 50
  pub own : address_of gs g ≡ Some v.dst

pub esp-is : (o : List ℕ) (v : Packet) → view_of o ≡ Ok v → esp_of o ≡ v.payload
esp-is o v e = ap payload_of e

comes-to : (gs : List Peer) (g o : List ℕ) (h : List Act) (v : Packet) (e : SadEntry) → ToUs gs g o v
    → by_spi (spi_of v.payload) (live g h) ≡ Some e
    → verdict_over e.window (numbers_taken g e.name h) (number_of e (numbers_taken g e.name h) v.payload) ≡ verdicts.Fresh
    → ComesTo gs g o e h
comes-to gs g o h v e t found fresh =
    let b = esp-is o v t.view in
    record {
      packet = v;
      view = t.view;
      proto = t.proto;
      own = t.own;
      found = ap (λ (z : List ℕ). by_spi (spi_of z) (live g h)) b ∙ found;
      fresh = ap (λ (z : List ℕ). verdict_over e.window (numbers_taken g e.name h) (number_of e (numbers_taken g e.name h) z)) b ∙ fresh;
    }

opens-at : (k : Keying) (b x : List ℕ) (found : Option (List ℕ)) → MatchOption found (esp.NoText k b) (EspOpens k b) → found ≡ Some x
    → EspOpens k b x
opens-at k b x None m e = cc
opens-at k b x (Some y) m e = let s : y ≡ x = grind (arith, e) in subst (EspOpens k b) s m

opens-to : (k : Keying) (b x : List ℕ) → esp.opened k b ≡ Some x → EspOpens k b x
opens-to k b x e = opens-at k b x (esp.opened k b) (opened_is k b) e

inner-at : (x : List ℕ) (p : esp.InnerPacket) (found : Option esp.InnerPacket)
    → MatchOption found (NoInner x) (λ q. Inner x q.next q.octets) → found ≡ Some p → Inner x p.next p.octets
inner-at x p None m e = cc
inner-at x p (Some q) m e = let s : q ≡ p = grind (arith, e) in subst (λ (z : esp.InnerPacket). Inner x z.next z.octets) s m

inner-of : (x : List ℕ) (p : esp.InnerPacket) → esp.inner_packet x ≡ Some p → Inner x p.next p.octets
inner-of x p e = inner-at x p (esp.inner_packet x) (packet_is x) e

-- ---- no forged arrival

long : (b : List ℕ) → 34 ≤ length b → nat_lt (length b) 34 ≡ false
long b l = grind (arith, l)

genuine-of : (f d s : Bool) → (f && (d && not s)) ≡ false → f ≡ true → d ≡ true → s ≡ true
genuine-of f d s e p q = grind (arith, e, p, q)

pub genuine : (gs : List Peer) (g o : List ℕ) (own : Addr) (h : List Act) → address_of gs g ≡ Some own → is_forged g own h o ≡ false
    → IsGenuine gs g o h
genuine gs g o own h at no-forgery = λ half text c opens.
    let b = esp-is o c.packet c.view in
    let same : own ≡ c.packet.dst = let s : Some own ≡ Some c.packet.dst = sym at ∙ c.own in grind (arith, s) in
    let ours : is_sealed_for own c.packet ≡ true = and_from (c.packet.proto == 50) (is_same_address c.packet.dst own)
    (grind (arith, c.proto)) (subst (λ (z : Addr). is_same_address z own ≡ true) same (own-address own)) in
    let v1 : is_view_forged g own h (Ok c.packet) ≡ false = subst (λ (r : Result Packet NotPacket). is_view_forged g own h r ≡ false) c.view
    no-forgery in
    let v2 : is_esp_forged g h c.packet.payload ≡ false = subst (λ (t : Bool). (t && is_esp_forged g h c.packet.payload) ≡ false) ours v1 in
    let v3 : is_esp_forged g h (esp_of o) ≡ false = subst (λ (z : List ℕ). is_esp_forged g h z ≡ false) (sym b) v2 in
    let v4 : is_half_forged g h (esp_of o) (by_spi (spi_of (esp_of o)) (live g h)) ≡ false =
    subst (λ (t : Bool). (not t && is_half_forged g h (esp_of o) (by_spi (spi_of (esp_of o)) (live g h))) ≡ false) (long (esp_of o) opens.0)
    v3 in
    let v5 : is_half_forged g h (esp_of o) (Some half) ≡ false = subst (λ (z : Option SadEntry). is_half_forged g h (esp_of o) z ≡ false)
    c.found v4 in
    let fresh : is_fresh (verdict_over half.window (numbers_taken g half.name h) (number_of half (numbers_taken g half.name h) (esp_of o)))
    ≡ true = ap is_fresh c.fresh in
    let opens_here : does_open (esp.opened (keying half.spi half.key) (esp_of o)) ≡ true =
    ap does_open (opened_finds (keying half.spi half.key) (esp_of o) text opens) in
    genuine-of (is_fresh (verdict_over half.window (numbers_taken g half.name h) (number_of half (numbers_taken g half.name h) (esp_of o))))
    (does_open (esp.opened (keying half.spi half.key) (esp_of o))) (is_sealed (other_half half.name) (esp_of o) h) v5 fresh opens_here

-- ---- what is given

to-delivery : (gs : List Peer) (c : Gateway) (o x : List ℕ) (n : ℕ) (p : List ℕ) (h : List Act) → address_of gs c.name ≡ Some c.address
    → (d : Delivers gs c.name o x n p h) → IsDelivery c h o d.comes.packet d.packet d.half d.text (next_header p) p
to-delivery gs c o x n p h at d =
    let v : Packet = d.comes.packet in
    let b = esp-is o v d.comes.view in
    let same : c.address ≡ v.dst = let s : Some c.address ≡ Some v.dst = sym at ∙ d.comes.own in grind (arith, s) in
    let e : SadEntry = d.half in
    record {
      view = d.comes.view;
      own = and_from (v.proto == 50) (is_same_address v.dst c.address) (grind (arith, d.comes.proto))
          (subst (λ (z : Addr). is_same_address z c.address ≡ true) same (own-address c.address));
      whole = subst (λ (z : List ℕ). nat_lt (length z) 34 ≡ false) b (long (esp_of o) d.opens.0);
      spi = ap (λ (z : List ℕ). by_spi (spi_of z) (live c.name h)) (sym b) ∙ d.comes.found;
      fresh = ap (λ (z : List ℕ). verdict_over e.window (numbers_taken c.name e.name h) (number_of e (numbers_taken c.name e.name h) z))
          (sym b) ∙ d.comes.fresh;
      opened = ap (λ (z : List ℕ). esp.opened (keying e.spi e.key) z) (sym b) ∙ opened_finds (keying e.spi e.key) (esp_of o) d.text d.opens;
      packet = packet_finds d.text p (next_header p) d.inner;
      inner_view = d.view;
      version = told (version p) (view-version p d.packet d.view);
      held = d.holds;
    }

-- the octets and the past of the arrival that is answered
same-arrival : (f g o p : List ℕ) (h older : List Act) → acts.Arrived f o ∷ h ≡ acts.Arrived g p ∷ older → (f ≡ g) × (o ≡ p) × (h ≡ older)
same-arrival f g o p h older e = grind (arith, e)

proto-is : (v : Packet) (own : Addr) → is_sealed_for own v ≡ true → v.proto ≡ 50
proto-is v own e = eq-nat v.proto 50 (both-left (v.proto == 50) (is_same_address v.dst own) e)

dst-is : (v : Packet) (own : Addr) → is_sealed_for own v ≡ true → own ≡ v.dst
dst-is v own e = sym (same-address v.dst own (both-right (v.proto == 50) (is_same_address v.dst own) e))

-- an arrival that opens comes to a half
opens-comes : (gs : List Peer) (c : Gateway) (o : List ℕ) (h : List Act) → address_of gs c.name ≡ Some c.address
    → (a : OpensArrival c (acts.Arrived c.name o ∷ h) c.name)
    → ComesTo gs c.name o a.half h × EspOpens (keying_of a.half) (esp_of o) a.text
opens-comes gs c o h at a =
    let s = same-arrival c.name c.name o a.octets h a.older a.before in
    let view : view_of o ≡ Ok a.outer = ap view_of s.1 ∙ a.view in
    let own : address_of gs c.name ≡ Some a.outer.dst = at ∙ ap Some (dst-is a.outer c.address a.own) in
    let us : ToUs gs c.name o a.outer = record { view = view; proto = proto-is a.outer c.address a.own; own = own } in
    let k : Keying = keying a.half.spi a.half.key in (
      comes-to gs c.name o h a.outer a.half us a.spi a.fresh,
      subst (λ (z : List ℕ). EspOpens k z a.text) (sym (esp-is o a.outer view)) (opens-to k a.outer.payload a.text a.opened),
    )

gives : (gs : List Peer) (c : Gateway) (o x : List ℕ) (n : ℕ) (p : List ℕ) (h : List Act) → address_of gs c.name ≡ Some c.address
    → IsOpenedArrival c (acts.Arrived c.name o ∷ h) c.name x n p → Delivers gs c.name o x n p h
gives gs c o x n p h at a =
    let q = opens-comes gs c o h at a.opens in
    let s = same-arrival c.name c.name o a.opens.octets h a.opens.older a.opens.before in
    let view : view_of o ≡ Ok a.opens.outer = ap view_of s.1 ∙ a.opens.view in
    let m : a.next ≡ next_header p = next-is a.next (version p) a.version in
    let i : Inner a.opens.text a.next p = inner-of a.opens.text (record { next = a.next; octets = p }) a.packet in
    record {
      half = a.opens.half;
      comes = q.0;
      name = sym a.name;
      number = a.number ∙ ap (λ (z : List ℕ). number_of a.opens.half (numbers_taken c.name x h) z) (sym (esp-is o a.opens.outer view));
      text = a.opens.text;
      opens = q.1;
      inner = subst (λ (z : ℕ). Inner a.opens.text z p) m i;
      packet = a.inner;
      view = a.inner_view;
      holds = a.held;
    }

-- ---- the shape of the answer

abbrev pub ArriveAnswer : List ℕ → Act → Type 0
ArriveAnswer g (acts.Gave f x n p) = f ≡ g
ArriveAnswer g (acts.Pass f o) = f ≡ g
ArriveAnswer g (acts.Drop f w) = f ≡ g
ArriveAnswer g _ = ⊥

inner-answer : (g : List ℕ) (e : SadEntry) (n next : ℕ) (p : List ℕ) (r : Result Packet NotPacket)
    → ArriveAnswer g (by_inner g e n next p r)
inner-answer g e n next p (Err fault) = refl
inner-answer g e n next p (Ok v) = told-answer (is_told_version next p) (holds_packet e.selector In v) where
  told-answer : (t b : Bool) → ArriveAnswer g (if not t then acts.Drop g why.Inner else if b then acts.Gave g e.name n p
      else acts.Drop g why.Selector)
  told-answer true true = refl
  told-answer true false = refl
  told-answer false b = refl

packet-answer : (g : List ℕ) (e : SadEntry) (n : ℕ) (found : Option esp.InnerPacket) → ArriveAnswer g (by_packet g e n found)
packet-answer g e n None = refl
packet-answer g e n (Some p) = dummy-answer (p.next == 59) (inner-answer g e n p.next p.octets (view_of p.octets)) where
  dummy-answer : (b : Bool) → ArriveAnswer g (by_inner g e n p.next p.octets (view_of p.octets))
      → ArriveAnswer g (if b then acts.Drop g why.Dummy else by_inner g e n p.next p.octets (view_of p.octets))
  dummy-answer true a = refl
  dummy-answer false a = a

text-shape : (g : List ℕ) (h : List Act) (e : SadEntry) (n : ℕ) (found : Option (List ℕ)) → Shaped (ArriveAnswer g) (by_text g h e n found)
text-shape g h e n None = shaped (ArriveAnswer g) (acts.Drop g why.Auth) [] refl refl
text-shape g h e n (Some x) =
    let a : Act = by_packet g e n (esp.inner_packet x) in
    shaped (ArriveAnswer g) a (look g (a ∷ h) (e ∷ [])) (packet-answer g e n (esp.inner_packet x)) (look-follows g (a ∷ h) (e ∷ []))

verdict-shape : (g : List ℕ) (h : List Act) (b : List ℕ) (e : SadEntry) (n : ℕ) (v : Verdict)
    → Shaped (ArriveAnswer g) (by_verdict g h b e n v)
verdict-shape g h b e n verdicts.Zero = shaped (ArriveAnswer g) (acts.Drop g why.Zero) [] refl refl
verdict-shape g h b e n verdicts.Old = shaped (ArriveAnswer g) (acts.Drop g why.Old) [] refl refl
verdict-shape g h b e n verdicts.Seen = shaped (ArriveAnswer g) (acts.Drop g why.Seen) [] refl refl
verdict-shape g h b e n verdicts.Fresh = text-shape g h e n (esp.opened (keying e.spi e.key) b)

half-shape : (g : List ℕ) (h : List Act) (b : List ℕ) (found : Option SadEntry) → Shaped (ArriveAnswer g) (arrive_by_half g h b found)
half-shape g h b None =
    let told : List Act = tells g h (notices.BadSpi (spi_of b)) in
    shaped (ArriveAnswer g) (acts.Drop g why.BadSpi) (unless (does_bad_spi_stand g (spi_of b) h) told) refl
    (unless-follows (does_bad_spi_stand g (spi_of b) h) told refl)
half-shape g h b (Some e) =
    let n : ℕ = number_of e (numbers_taken g e.name h) b in
    verdict-shape g h b e n (verdict_over e.window (numbers_taken g e.name h) n)

esp-shape : (g : List ℕ) (h : List Act) (b : List ℕ) → Shaped (ArriveAnswer g) (esp_acts g h b)
esp-shape g h b =
    shaped-if (ArriveAnswer g) (nat_lt (length b) 34) (drops g why.Short) (arrive_by_half g h b (by_spi (spi_of b) (live g h)))
    (shaped (ArriveAnswer g) (acts.Drop g why.Short) [] refl refl) (half-shape g h b (by_spi (spi_of b) (live g h)))

action-shape : (g o : List ℕ) (a : Action) → ArriveAnswer g (arrive_by_action g o a)
action-shape g o actions.Protect = refl
action-shape g o actions.Bypass = refl
action-shape g o actions.Discard = refl

entry-shape : (g o : List ℕ) (found : Option SpdEntry) → ArriveAnswer g (arrive_by_entry g o found)
entry-shape g o None = refl
entry-shape g o (Some p) = action-shape g o p.action

view-shape : (g : List ℕ) (own : Addr) (h : List Act) (o : List ℕ) (r : Result Packet NotPacket)
    → Shaped (ArriveAnswer g) (arrive_by_view g own h o r)
view-shape g own h o (Err fault) = shaped (ArriveAnswer g) (acts.Drop g (fault_why fault)) [] refl refl
view-shape g own h o (Ok v) =
    shaped-if (ArriveAnswer g) (is_sealed_for own v) (esp_acts g h v.payload) (arrive_by_entry g o (first_entry (force g h) In v) ∷ [])
    (esp-shape g h v.payload) (shaped (ArriveAnswer g) (arrive_by_entry g o (first_entry (force g h) In v)) []
    (entry-shape g o (first_entry (force g h) In v)) refl)

pub arrive-shape : (g : List ℕ) (own : Addr) (h : List Act) (o : List ℕ) → Shaped (ArriveAnswer g) (arrive_acts g own h o)
unfolding arrive_acts
arrive-shape g own h o = view-shape g own h o (view_of o)

-- ---- the answer may happen

first-is : (a b : Act) (xs ys : List Act) → a ∷ xs ≡ b ∷ ys → a ≡ b
first-is a b xs ys e = grind (arith, e)

rest-is : (a b : Act) (xs ys : List Act) → a ∷ xs ≡ b ∷ ys → xs ≡ ys
rest-is a b xs ys e = grind (arith, e)

-- what has a packet is given
given-first : (gs : List Peer) (c : Gateway) (o x : List ℕ) (n : ℕ) (p : List ℕ) (h : List Act) (a : Act) (rest : List Act)
    → address_of gs c.name ≡ Some c.address
    → arrive_acts c.name c.address (acts.Arrived c.name o ∷ h) o ≡ a ∷ rest → Delivers gs c.name o x n p h → (m : ℕ) × (y : List ℕ)
    × (a ≡ acts.Gave c.name y m p)
given-first gs c o x n p h a rest at parts d =
    let e : SadEntry = d.half in
    let m : ℕ = number_of e (numbers_taken c.name e.name h) d.comes.packet.payload in
    let g : Act = acts.Gave c.name e.name m p in
    let w = delivers-is c h o d.comes.packet d.packet e d.text p (next_header p) (to-delivery gs c o x n p h at d) in
    let after_it = rest-is (acts.Arrived c.name o) (acts.Arrived c.name o) (arrive_acts c.name c.address (acts.Arrived c.name o ∷ h) o)
    (use_acts c.name (acts.Arrived c.name o ∷ h) e g) w in
    (m, e.name, first-is a g rest (look c.name (g ∷ acts.Arrived c.name o ∷ h) (e ∷ [])) (sym parts ∙ after_it))

drop-not : (f g x : List ℕ) (w : DropWhy) (n : ℕ) (p : List ℕ) → acts.Drop f w ≡ acts.Gave g x n p → ⊥
drop-not f g x w n p e = grind (arith, e)

pass-not : (f o g x : List ℕ) (n : ℕ) (p : List ℕ) → acts.Pass f o ≡ acts.Gave g x n p → ⊥
pass-not f o g x n p e = grind (arith, e)

opened-drop : (gs : List Peer) (c : Gateway) (o : List ℕ) (h : List Act) (b : Bool) → address_of gs c.name ≡ Some c.address
    → GatewayMayDrop c (acts.Arrived c.name o ∷ h) c.name b → b ≡ true → IsOpened gs c.name o h
opened-drop gs c o h true at m e = let q = opens-comes gs c o h at m in (m.half, m.text, q.0, q.1)
opened-drop gs c o h false at m e = absurd (no e)

answer-may : (gs : List Peer) (c : Gateway) (o : List ℕ) (h : List Act) (a : Act) (rest : List Act) → address_of gs c.name ≡ Some c.address
    → IsGenuine gs c.name o h
    → arrive_acts c.name c.address (acts.Arrived c.name o ∷ h) o ≡ a ∷ rest → ArriveAnswer c.name a
    → GatewayMayAct c (acts.Arrived c.name o ∷ h) a
    → MayHappen gs a (acts.Arrived c.name o ∷ h) × (is_ready (a ∷ acts.Arrived c.name o ∷ h) ≡ true)
answer-may gs c o h (acts.Gave f x n p) rest at real parts fits m =
    let m2 : IsOpenedArrival c (acts.Arrived c.name o ∷ h) c.name x n p =
    subst (λ (z : List ℕ). IsOpenedArrival c (acts.Arrived c.name o ∷ h) z x n p) fits m in
    let P : List ℕ → Type 0 = λ z. (c.name ≡ z) × IsGenuine gs z o h × Delivers gs z o x n p h in
    (subst P (sym fits) (refl, real, gives gs c o x n p h at m2), refl)
answer-may gs c o h (acts.Pass f q) rest at real parts fits m =
    let P : List ℕ → Type 0 = λ z. (c.name ≡ z) × IsGenuine gs z o h × IsUndelivered gs z o h in (
      subst P (sym fits) (
        refl,
        real,
        λ x n p d. let g = given-first gs c o x n p h (acts.Pass f q) rest at parts d in
            pass-not f q c.name g.1 g.0 p g.2,
      ),
      refl,
    )
answer-may gs c o h (acts.Drop f w) rest at real parts fits m =
    let m2 : GatewayMayDrop c (acts.Arrived c.name o ∷ h) c.name (is_opened w) =
    subst (λ (z : List ℕ). GatewayMayDrop c (acts.Arrived c.name o ∷ h) z (is_opened w)) fits m in
    let P : List ℕ → Type 0 = λ z. (c.name ≡ z) × IsGenuine gs z o h × IsUndelivered gs z o h × (is_opened w ≡ true → IsOpened gs z o h) in (
      subst P (sym fits) (
        refl,
        real,
        (λ x n p d. let g = given-first gs c o x n p h (acts.Drop f w) rest at parts d in
            drop-not f c.name g.1 w g.0 p g.2),
        opened-drop gs c o h (is_opened w) at m2,
      ),
      refl,
    )
answer-may gs c o h a rest at real parts fits m = absurd fits

-- the answer to a datagram that isn't forged, and what follows it
pub arrive-may : (gs : List Peer) (c : Gateway) (o : List ℕ) (h : List Act) → address_of gs c.name ≡ Some c.address
    → IsGenuine gs c.name o h
    → GatewayMayActAll c (acts.Arrived c.name o ∷ h) (arrive_acts c.name c.address (acts.Arrived c.name o ∷ h) o)
    → AllMayHappen gs (acts.Arrived c.name o ∷ h) (arrive_acts c.name c.address (acts.Arrived c.name o ∷ h) o)
    × (is_ready (after (acts.Arrived c.name o ∷ h) (arrive_acts c.name c.address (acts.Arrived c.name o ∷ h) o)) ≡ true)
arrive-may gs c o h at real all =
    let w : List Act = acts.Arrived c.name o ∷ h in
    let s = arrive-shape c.name c.address w o in
    let all2 : GatewayMayActAll c w (s.first ∷ s.rest) = subst (GatewayMayActAll c w) s.parts all in
    let a = answer-may gs c o h s.first s.rest at real s.parts s.fits all2.0 in
    let f = follow gs (s.first ∷ w) s.rest a.1 s.follow in
    let P : List Act → Type 0 = λ xs. AllMayHappen gs w xs × (is_ready (after w xs) ≡ true) in
    subst P (sym s.parts) ((a.0, f.0), f.1)
