-- The gateway's own test of a forged arrival is that of the law: what opened its number was sealed under the other half, or no datagram
-- with these octets was sent at all.
use Rattle.std.proofs.Common.{◌≡◌, ℕ, ◌<◌, ◌^◌, ◌==◌, ◌&&◌, ◌||◌, Bool, true, false, not, nat_lt, List, [], ◌∷◌, ◌++◌, map, length, Option, Some, None, Result, Ok, Err, refl, sym, ◌∙◌, ap, subst, arith, if◌then◌else◌}
use Rattle.std.proofs.lemmas.Bool.{and_from, or_left, or_right}
use Rattle.std.specs.List.{list_any}
use Rattle.std.specs.Str.{bytes_eq}
use Rattle.ikl_base.specs.declared.address.Addr.{Addr}
use Rattle.ip_packet.specs.Field.{next_header}
use Rattle.ip_packet.specs.declared.packet.NotPacket.{NotPacket}
use Rattle.ip_packet.specs.declared.packet.NotPacket.TheVariants as faults
use Rattle.ip_packet.specs.View.{Packet, view_of}
use Rattle.ikeless_tree.specs.declared.command.Peer.{Peer}
use Rattle.ikeless_tree.specs.declared.entry.Action.{Action}
use Rattle.ikeless_tree.specs.declared.entry.Action.TheVariants as actions
use Rattle.ikeless_tree.specs.declared.entry.Direction.TheVariants.{In}
use Rattle.ikeless_tree.specs.declared.entry.SpdEntry.{SpdEntry}
use Rattle.ikeless_tree.specs.declared.order.Notice.{Notice}
use Rattle.ikeless_tree.specs.declared.order.Notice.TheVariants as notices
use Rattle.ikeless_tree.specs.declared.drops.DropWhy.TheVariants as why
use Rattle.ikeless_tree.specs.declared.sad.SadEntry.{SadEntry}
use Rattle.ikeless_tree.specs.Half.{in_half, other_half, out_half}
use Rattle.esp_frame.specs.Esp.{esp as esp_octets, keying, spi_of}
use Rattle.esp_frame.specs.Open as esp
use Rattle.replay_win.specs.declared.verdict.Verdict.{Verdict}
use Rattle.replay_win.specs.declared.verdict.Verdict.TheVariants as verdicts
use Rattle.replay_win.specs.Marks.{verdict_over}
use Rattle.spd_match.specs.Match.{first_entry, holds_packet}
use Rattle.hist_acts.specs.declared.act.Act.{Act}
use Rattle.hist_acts.specs.declared.act.Act.TheVariants as acts
use Rattle.hist_acts.specs.declared.event.Header.{Header}
use Rattle.hist_acts.specs.Past.{force}
use Rattle.hist_halves.specs.Halves.{is_sealed, live, numbers_taken}
use Rattle.hist_halves.specs.Sealed.{by_spi, esp_of, is_opened, number_of, payload_of}
use Rattle.hist_gateway.specs.Arrive as arrive
use Rattle.hist_gateway.specs.Datagram.{fault_why}
use Rattle.hist_gateway.specs.Let.{unless}
use Rattle.hist_gateway.specs.Look.{look, tells}
use Rattle.hist_gateway.specs.Stands.{does_bad_spi_stand}
use Rattle.hist_safety.specs.Carried.{keying_of}
use Rattle.hist_safety.specs.Law.{IsLawful}
use Rattle.hist_safety.specs.Orders.{order_of}
use Rattle.hist_safety.proofs.Basics.{both-right, name-self, no, or-split, some-is}
use Rattle.hist_safety.proofs.Carried.{carried, sealed-sent}
use Rattle.hist_safety.proofs.Frames.{esp-spi, keying-spi}
use Rattle.hist_safety.proofs.Live.{spi-is}
use Rattle.hist_safety.proofs.Orders.{put-order}
use Rattle.hist_safety.proofs.Pairs.{Numbered, inbound, numbered, one-spi, order-ordered, outbound, pair}
use Rattle.hist_world.specs.Arrivals.{does_open, is_forged, is_fresh, is_half_forged, is_view_forged}
use Rattle.gw_requests.specs.declared.act.GwAct.{GwAct}
use Rattle.gw_requests.specs.declared.act.GwAct.TheVariants as done
use Rattle.gw_core.specs.Machine.{Arrive}
use Rattle.gw_law.specs.Told.{Naming}
use Rattle.gw_history.specs.Told.{told}
use Rattle.world_steps.specs.Nodes.{naming, outcome}
use Rattle.world_steps.specs.Worlds.{was_sent}
use Rattle.world_steps.specs.Steps.{did_open}
use Rattle.world_law.specs.Stands.{node_of, sent}
use Rattle.world_law.proofs.Blocks.{tail-is, Law, block-is}
use Rattle.world_law.proofs.Turns.{Ready}

-- ---- the answer tells that the octets opened

abbrev was_opened : Act → Bool
was_opened (acts.Gave f x n o) = true
was_opened (acts.Drop f w) = is_opened w
was_opened _ = false

opened-one : (n : Naming) (x : GwAct) → did_open x ≡ was_opened (told n x)
opened-one n (done.Reply r) = refl
opened-one n _ = refl

opened-told : (n : Naming) (xs : List GwAct) → list_any did_open xs ≡ list_any was_opened (map (told n) xs)
opened-told n [] = refl
opened-told n (x ∷ xs) = ap (λ b. b || list_any did_open xs) (opened-one n x) ∙ ap (λ b. was_opened (told n x) || b) (opened-told n xs)

-- the arrival reaches the test of its tag and passes it
abbrev does_half_open : List ℕ → List Act → List ℕ → Option SadEntry → Bool
does_half_open g h b None = false
does_half_open g h b (Some e) =
    is_fresh (verdict_over e.window (numbers_taken g e.name h) (number_of e (numbers_taken g e.name h) b)) && does_open
    (esp.opened (keying e.spi e.key) b)

abbrev does_view_open : List ℕ → Addr → List Act → Result Packet NotPacket → Bool
does_view_open g own h (Err fault) = false
does_view_open g own h (Ok v) =
    arrive.is_sealed_for own v
    && (not (nat_lt (length v.payload) 34) && does_half_open g h v.payload (by_spi (spi_of v.payload) (live g h)))

if-opened : (b : Bool) (x y : Act) → was_opened x ≡ true → was_opened y ≡ true → was_opened (if b then x else y) ≡ true
if-opened true x y p q = p
if-opened false x y p q = q

inner-opened : (g : List ℕ) (e : SadEntry) (n next : ℕ) (p : List ℕ) (r : Result Packet NotPacket)
    → was_opened (arrive.by_inner g e n next p r) ≡ true
inner-opened g e n next p (Err fault) = refl
inner-opened g e n next p (Ok v) =
    if-opened (not (arrive.is_told_version next p)) (acts.Drop g why.Inner)
    (if holds_packet e.selector In v then acts.Gave g e.name n p else acts.Drop g why.Selector) refl
    (if-opened (holds_packet e.selector In v) (acts.Gave g e.name n p) (acts.Drop g why.Selector) refl refl)

packet-opened : (g : List ℕ) (e : SadEntry) (n : ℕ) (p : Option esp.InnerPacket) → was_opened (arrive.by_packet g e n p) ≡ true
packet-opened g e n None = refl
packet-opened g e n (Some p) =
    if-opened (p.next == 59) (acts.Drop g why.Dummy) (arrive.by_inner g e n p.next p.octets (view_of p.octets)) refl
    (inner-opened g e n p.next p.octets (view_of p.octets))

text-opened : (g : List ℕ) (j : List Act) (e : SadEntry) (n : ℕ) (text : Option (List ℕ))
    → list_any was_opened (arrive.by_text g j e n text) ≡ does_open text
text-opened g j e n None = refl
text-opened g j e n (Some x) =
    let a : Act = arrive.by_packet g e n (esp.inner_packet x) in
    or_left (was_opened a) (list_any was_opened (look g (a ∷ j) (e ∷ []))) (packet-opened g e n (esp.inner_packet x))

verdict-opened : (g b : List ℕ) (j : List Act) (e : SadEntry) (n : ℕ) (v : Verdict)
    → list_any was_opened (arrive.by_verdict g j b e n v) ≡ (is_fresh v && does_open (esp.opened (keying e.spi e.key) b))
verdict-opened g b j e n verdicts.Zero = refl
verdict-opened g b j e n verdicts.Old = refl
verdict-opened g b j e n verdicts.Seen = refl
verdict-opened g b j e n verdicts.Fresh = text-opened g j e n (esp.opened (keying e.spi e.key) b)

told-unopened : (g : List ℕ) (j : List Act) (n : Notice) (b : Bool) → list_any was_opened (unless b (tells g j n)) ≡ false
told-unopened g j n true = refl
told-unopened g j n false = refl

half-opened : (g o b : List ℕ) (h : List Act) (found : Option SadEntry)
    → list_any was_opened (arrive.arrive_by_half g (acts.Arrived g o ∷ h) b found) ≡ does_half_open g h b found
half-opened g o b h None =
    told-unopened g (acts.Arrived g o ∷ h) (notices.BadSpi (spi_of b)) (does_bad_spi_stand g (spi_of b) (acts.Arrived g o ∷ h))
half-opened g o b h (Some e) =
    let n : ℕ = number_of e (numbers_taken g e.name h) b in
    verdict-opened g b (acts.Arrived g o ∷ h) e n (verdict_over e.window (numbers_taken g e.name h) n)

long-opened : (g o b : List ℕ) (h : List Act) (short : Bool)
    → list_any was_opened (if short then arrive.drops g why.Short else arrive.arrive_by_half g (acts.Arrived g o ∷ h) b
    (by_spi (spi_of b) (live g h)))
    ≡ (not short && does_half_open g h b (by_spi (spi_of b) (live g h)))
long-opened g o b h true = refl
long-opened g o b h false = half-opened g o b h (by_spi (spi_of b) (live g h))

action-opened : (g o : List ℕ) (a : Action) → was_opened (arrive.arrive_by_action g o a) ≡ false
action-opened g o actions.Protect = refl
action-opened g o actions.Bypass = refl
action-opened g o actions.Discard = refl

clear-opened : (g o : List ℕ) (p : Option SpdEntry) → list_any was_opened (arrive.arrive_by_entry g o p ∷ []) ≡ false
clear-opened g o None = refl
clear-opened g o (Some p) = ap (λ b. b || false) (action-opened g o p.action)

own-opened : (g o : List ℕ) (h : List Act) (v : Packet) (own : Bool)
    → list_any was_opened (if own then arrive.esp_acts g (acts.Arrived g o ∷ h) v.payload else arrive.arrive_by_entry g o
    (first_entry (force g h) In v) ∷ [])
    ≡ (own && (not (nat_lt (length v.payload) 34) && does_half_open g h v.payload (by_spi (spi_of v.payload) (live g h))))
own-opened g o h v true = long-opened g o v.payload h (nat_lt (length v.payload) 34)
own-opened g o h v false = clear-opened g o (first_entry (force g h) In v)

fault-opened : (fault : NotPacket) → is_opened (fault_why fault) ≡ false
fault-opened faults.Fragment = refl
fault-opened _ = refl

view-opened : (g o : List ℕ) (own : Addr) (h : List Act) (r : Result Packet NotPacket)
    → list_any was_opened (arrive.arrive_by_view g own (acts.Arrived g o ∷ h) o r) ≡ does_view_open g own h r
view-opened g o own h (Err fault) = ap (λ b. b || false) (fault-opened fault)
view-opened g o own h (Ok v) = own-opened g o h v (arrive.is_sealed_for own v)

arrival-opened : (g o : List ℕ) (own : Addr) (h : List Act)
    → list_any was_opened (arrive.arrive_acts g own (acts.Arrived g o ∷ h) o) ≡ does_view_open g own h (view_of o)
unfolding arrive.arrive_acts
arrival-opened g o own h = view-opened g o own h (view_of o)

-- ---- the octets were sent under the other half, or not at all

abbrev has_octets : List ℕ → List ℕ → Bool
has_octets b o = bytes_eq (esp_of o) b

any-more : (b : List ℕ) (os : List (List ℕ)) (o : List ℕ)
    → list_any (has_octets b) (os ++ o ∷ []) ≡ (list_any (has_octets b) os || has_octets b o)
any-more b [] o = or-none (has_octets b o) where
  or-none : (c : Bool) → (c || false) ≡ c
  or-none true = refl
  or-none false = refl
any-more b (p ∷ os) o =
    ap (λ c. has_octets b p || c) (any-more b os o) ∙ or-join (has_octets b p) (list_any (has_octets b) os) (has_octets b o) where
      or-join : (x y z : Bool) → (x || (y || z)) ≡ ((x || y) || z)
      or-join true y z = refl
      or-join false y z = refl

-- what is sealed was sent
sealed-was : (x b : List ℕ) (h : List Act) → is_sealed x b h ≡ true → was_sent b (sent h) ≡ true
sealed-was x b [] e = absurd (no e)
sealed-was x b (acts.Sent f y n o ∷ h) e =
    any-more b (sent h) o
    ∙ or-split {A = (list_any (has_octets b) (sent h) || has_octets b o) ≡ true} (bytes_eq y x && bytes_eq (esp_of o) b) (is_sealed x b h)
    (λ q. or_right (list_any (has_octets b) (sent h)) (has_octets b o) (both-right (bytes_eq y x) (bytes_eq (esp_of o) b) q))
    (λ q. or_left (list_any (has_octets b) (sent h)) (has_octets b o) (sealed-was x b h q)) e
sealed-was x b (a ∷ h) e = sealed-was x b h e

-- what was sent was sealed under some half
abbrev IsSealed : List ℕ → List Act → Type 0
IsSealed b h = (x : List ℕ) × (is_sealed x b h ≡ true)

was-sealed : (b : List ℕ) (h : List Act) → was_sent b (sent h) ≡ true → IsSealed b h
was-sealed b [] e = absurd (no e)
was-sealed b (acts.Sent f y n o ∷ h) e =
    or-split {A = IsSealed b (acts.Sent f y n o ∷ h)} (list_any (has_octets b) (sent h)) (has_octets b o)
    (λ q. let r = was-sealed b h q in (r.0, or_right (bytes_eq y r.0 && bytes_eq (esp_of o) b) (is_sealed r.0 b h) r.1))
    (λ q. (
      y,
      or_left (bytes_eq y y && bytes_eq (esp_of o) b) (is_sealed y b h)
          (and_from (bytes_eq y y) (bytes_eq (esp_of o) b) (name-self y) q),
    ))
    (sym (any-more b (sent h) o) ∙ e)
was-sealed b (a ∷ h) e = was-sealed b h e

small : (t : List ℕ) (e : SadEntry) → Numbered t e → e.spi < 2 ^ 32
small t e n = let a = n.2 in let b = n.3 in omega (arith, a, b)

-- the half that sealed octets, and the inbound half of its serial, which has the SPI in them
record Sealer (x b : List ℕ) : Type 0 where
  pub serial : List ℕ
  pub name : x ≡ out_half serial
  pub half : SadEntry
  pub numbered : Numbered serial half
  pub spi : spi_of b ≡ half.spi

told-spi : (d i : SadEntry) (t b p : List ℕ) (n next : ℕ) → b ≡ esp_octets (keying_of d) n next p → Numbered t i → d.spi ≡ i.spi
    → spi_of b ≡ i.spi
told-spi d i t b p n next sealed low same =
    let few : (keying_of d).spi < 2 ^ 32 = subst (λ (z : ℕ). z < 2 ^ 32) (sym (keying-spi d ∙ same)) (small t i low) in
    ap spi_of sealed ∙ (esp-spi (keying_of d) n next p few ∙ (keying-spi d ∙ same))

one-order : (d c : SadEntry) (o : Option SadEntry) → o ≡ Some d → o ≡ Some c → d ≡ c
one-order d c o e f = some-is d c (sym e ∙ f)

spi-same : (d c i : SadEntry) → d ≡ c → d.spi ≡ i.spi → c.spi ≡ i.spi
spi-same d c i e same = ap (λ (z : SadEntry). z.spi) (sym e) ∙ same

sealer : (gs : List Peer) (x b : List ℕ) (h : List Act) → IsLawful gs h → is_sealed x b h ≡ true → Sealer x b
sealer gs x b h l s =
    let w = sealed-sent gs x b h l s in
    let c = carried gs w.0 x w.1 b w.2 h l w.3 in
    let t = outbound gs x h l (order-ordered x c.0 h c.2) c.4 in
    let ordered : order_of (out_half t.0) h ≡ Some c.0 = subst (λ (z : List ℕ). order_of z h ≡ Some c.0) t.1 c.2 in
    let two = pair gs t.0 h l (order-ordered (out_half t.0) c.0 h ordered) in
    let same : two.0 ≡ c.0 = one-order two.0 c.0 (order_of (out_half t.0) h) two.2 ordered in
    let spi : c.0.spi ≡ two.1.spi = spi-same two.0 c.0 two.1 same two.5 in
    let one : Numbered t.0 two.1 = numbered gs t.0 two.1 h l two.3 in
    record {
      serial = t.0;
      name = t.1;
      half = two.1;
      numbered = one;
      spi = told-spi c.0 two.1 t.0 b w.2 w.1 (next_header w.2) c.6 one spi;
    }

-- a live inbound half with the SPI
record Owner (e : SadEntry) (b : List ℕ) : Type 0 where
  pub serial : List ℕ
  pub name : e.name ≡ in_half serial
  pub numbered : Numbered serial e
  pub spi : e.spi ≡ spi_of b

spi-owner : (gs : List Peer) (g b : List ℕ) (e : SadEntry) (h : List Act) → IsLawful gs h → by_spi (spi_of b) (live g h) ≡ Some e
    → Owner e b
spi-owner gs g b e h l found =
    let is = spi-is gs g (spi_of b) e h l found in
    let put = put-order gs g e.name e h l is.0 in
    let u = inbound gs e.name h l put.1 is.2 in
    record {
      serial = u.0;
      name = u.1;
      numbered = numbered gs u.0 e h l (subst (λ (z : List ℕ). order_of z h ≡ Some e) u.1 put.3);
      spi = is.3;
    }

-- octets that have the SPI of a live inbound half were sealed under the other half, if they were sealed
sealed-other : (gs : List Peer) (g x b : List ℕ) (e : SadEntry) (h : List Act) → IsLawful gs h → by_spi (spi_of b) (live g h) ≡ Some e
    → is_sealed x b h ≡ true → x ≡ other_half e.name
sealed-other gs g x b e h l found s = same-serial x b e (sealer gs x b h l s) (spi-owner gs g b e h l found) where
  same-serial : (x b : List ℕ) (e : SadEntry) → Sealer x b → Owner e b → x ≡ other_half e.name
  same-serial x b e a o =
      let serial : o.serial ≡ a.serial = one-spi o.serial a.serial e a.half o.numbered a.numbered (o.spi ∙ a.spi) in
      a.name ∙ (ap out_half (sym serial) ∙ ap other_half (sym o.name))

sealed-is : (gs : List Peer) (g b : List ℕ) (e : SadEntry) (h : List Act) → IsLawful gs h → by_spi (spi_of b) (live g h) ≡ Some e
    → is_sealed (other_half e.name) b h ≡ was_sent b (sent h)
sealed-is gs g b e h l found = by-test (is_sealed (other_half e.name) b h) (was_sent b (sent h)) refl refl where
  by-test : (c d : Bool) → is_sealed (other_half e.name) b h ≡ c → was_sent b (sent h) ≡ d → c ≡ d
  by-test true d s w = sym (sealed-was (other_half e.name) b h s) ∙ w
  by-test false false s w = refl
  by-test false true s w =
      let r = was-sealed b h w in
      sym s ∙ subst (λ (z : List ℕ). is_sealed z b h ≡ true) (sealed-other gs g r.0 b e h l found r.1) r.1

-- ---- the two tests

both : (x y z : Bool) → (x && (y && z)) ≡ ((x && y) && z)
both true y z = refl
both false y z = refl

half-forged : (gs : List Peer) (g b : List ℕ) (h : List Act) (found : Option SadEntry) → IsLawful gs h
    → by_spi (spi_of b) (live g h) ≡ found
    → is_half_forged g h b found ≡ (does_half_open g h b found && not (was_sent b (sent h)))
half-forged gs g b h None l e = refl
half-forged gs g b h (Some e) l found =
    let fresh : Bool = is_fresh (verdict_over e.window (numbers_taken g e.name h) (number_of e (numbers_taken g e.name h) b)) in
    let opens : Bool = does_open (esp.opened (keying e.spi e.key) b) in
    ap (λ s. fresh && (opens && not s)) (sealed-is gs g b e h l found) ∙ both fresh opens (not (was_sent b (sent h)))

long-forged : (own long half opens sent_so : Bool) → half ≡ (opens && not sent_so)
    → (own && (long && half)) ≡ ((own && (long && opens)) && not sent_so)
long-forged true true half opens sent_so e = e
long-forged true false half opens sent_so e = refl
long-forged false long half opens sent_so e = refl

view-forged : (gs : List Peer) (g : List ℕ) (own : Addr) (h : List Act) (r : Result Packet NotPacket) → IsLawful gs h
    → is_view_forged g own h r ≡ (does_view_open g own h r && not (was_sent (payload_of r) (sent h)))
view-forged gs g own h (Err fault) l = refl
view-forged gs g own h (Ok v) l =
    let found : Option SadEntry = by_spi (spi_of v.payload) (live g h) in
    long-forged (arrive.is_sealed_for own v) (not (nat_lt (length v.payload) 34)) (is_half_forged g h v.payload found)
    (does_half_open g h v.payload found) (was_sent v.payload (sent h))
    (half-forged gs g v.payload h found l refl)

pub forged-is : Law → (header : Header) (h : List Act) (p : Peer) (o : List ℕ) → Ready header h → IsLawful header.gateways h
    → (list_any did_open (outcome (node_of header h p) (Arrive o)).acts && not (was_sent (esp_of o) (sent h)))
    ≡ is_forged p.name p.address h o
forged-is law header h p o ready l =
    let n : Naming = naming (node_of header h p) in
    let xs : List GwAct = (outcome (node_of header h p) (Arrive o)).acts in
    let b = block-is law header h p (Arrive o) (ready.order p.name) (ready.named p) in
    let ys : List Act = arrive.arrive_acts p.name p.address (acts.Arrived p.name o ∷ h) o in
    let told_so : map (told n) xs ≡ ys = tail-is (acts.Arrived p.name o) (acts.Arrived p.name o) (map (told n) xs) ys b.acts in
    let opened : list_any did_open xs ≡ does_view_open p.name p.address h (view_of o) =
    opened-told n xs ∙ (ap (list_any was_opened) told_so ∙ arrival-opened p.name o p.address h) in
    ap (λ c. c && not (was_sent (esp_of o) (sent h))) opened ∙ sym (view-forged header.gateways p.name p.address h (view_of o) l)
