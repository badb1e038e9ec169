-- What arrives is given once, and what must be given is given.
use Rattle.std.proofs.Common.{◌≡◌, ℕ, ◌<◌, ◌^◌, Bool, true, false, ◌==◌, ◌&&◌, List, [], ◌∷◌, Option, Some, None, inl, inr, refl, sym, ◌∙◌, ap, subst, arith, if◌then◌else◌, length}
use Rattle.std.proofs.lemmas.Bool.{false_from_ne_true}
use Rattle.std.specs.Str.{bytes_eq}
use Rattle.ip_packet.specs.View.{Packet}
use Rattle.ip_packet.specs.Field.{next_header}
use Rattle.ikeless_tree.specs.declared.sad.SadEntry.{SadEntry}
use Rattle.ikeless_tree.specs.declared.command.Peer.{Peer}
use Rattle.ikeless_tree.specs.declared.entry.Direction.TheVariants.{In, Out}
use Rattle.ikeless_tree.specs.declared.entry.Selector.{Selector}
use Rattle.ikeless_tree.specs.declared.order.Order.{Order}
use Rattle.ikeless_tree.specs.declared.order.Order.TheVariants as asks
use Rattle.ikeless_tree.specs.declared.order.Answer.{Answer}
use Rattle.ikeless_tree.specs.declared.ends.GoneWhy.TheVariants as gone
use Rattle.ikeless_tree.specs.Half.{is_inbound, other_half, in_half, out_half}
use Rattle.spd_match.specs.Match.{holds_packet, lies_in, local_port, port_fits, proto_fits, remote_port}
use Rattle.esp_frame.specs.Esp.{EspOpens, Inner, esp, pad_len, padded, seq_of, spi_of}
use Rattle.esp_frame.proofs.Opens.{inner_once, opens_once}
use Rattle.replay_win.specs.Marks.{greatest, is_among, verdict_over}
use Rattle.replay_win.specs.declared.verdict.Verdict.TheVariants.{Fresh, Old, Seen, Zero}
use Rattle.hist_acts.specs.declared.act.Act.{Act}
use Rattle.hist_acts.specs.declared.act.Act.TheVariants as acts
use Rattle.hist_halves.specs.Sealed.{by_spi, esp_of, number_of}
use Rattle.hist_halves.specs.Halves.{is_lapsed, is_live, is_sealed, live, put_of, numbers_taken}
use Rattle.hist_safety.specs.Clear.{ClearIsLet}
use Rattle.hist_safety.specs.Orders.{is_removal_ordered, mirrored, order_of, site}
use Rattle.hist_safety.specs.Carried.{ComesTo, Delivers, IsGenuine, keying_of, was_given, was_sent}
use Rattle.hist_safety.specs.Law.{IsAnswer, IsLawful, GiveMayHappen, MayHappen}
use Rattle.hist_safety.specs.Safe.{GaveWasSent, MustGive}
use Rattle.hist_safety.proofs.Basics.{no, name-not, name-true, some-is}
use Rattle.hist_safety.proofs.Orders.{put-order, put-was, was}
use Rattle.hist_safety.proofs.Pairs.{Numbered, inbound, numbered, order-ordered, pair}
use Rattle.hist_safety.proofs.Halves.{Stands, stays}
use Rattle.hist_safety.proofs.Frames.{esp-seq, esp-spi, keying-same, keying-spi, one-packet, seals-open, number-field}
use Rattle.hist_safety.proofs.Live.{spi-finds, spi-is}
use Rattle.hist_safety.proofs.Carried.{carried, given, sealed-sent}

-- ---- a number taken isn't fresh
fresh-by : (a b c : Bool) → (if a then Zero else if b then Old else if c then Seen else Fresh) ≡ Fresh → c ≡ false
fresh-by true b c e = absurd (grind arith)
fresh-by false true c e = absurd (grind arith)
fresh-by false false true e = absurd (grind arith)
fresh-by false false false e = refl

pub fresh-not : (size n : ℕ) (xs : List ℕ) → verdict_over size xs n ≡ Fresh → is_among n xs ≡ false
fresh-not size n xs e = fresh-by (n == 0) _ (is_among n xs) e

-- ---- each Gave has its Sent, and no other Gave has it
-- both halves of the association that a delivered datagram is of
abbrev Found : List ℕ → List ℕ → SadEntry → List Act → Type 0
Found g x e h = (t : List ℕ) × (x ≡ in_half t) × (order_of x h ≡ Some e) × (site x h ≡ g) × (put_of g x h ≡ Some e) × (is_live g x h ≡ true)

found : (gs : List Peer) (g x : List ℕ) (spi : ℕ) (e : SadEntry) (h : List Act) → IsLawful gs h → by_spi spi (live g h) ≡ Some e
    → e.name ≡ x → Found g x e h
found gs g x spi e h l p q =
    let s = spi-is gs g spi e h l p in
    let o = put-order gs g e.name e h l s.0 in
    let t = inbound gs e.name h l o.1 s.2 in
    let one : Found g e.name e h = (t.0, t.1, o.3, o.2, s.0, s.1) in
    subst (λ z. Found g z e h) q one

-- the entries of a pair seal alike
paired : (gs : List Peer) (t : List ℕ) (o i : SadEntry) (h : List Act) → IsLawful gs h → order_of (out_half t) h ≡ Some o
    → order_of (in_half t) h ≡ Some i →
    (keying_of o ≡ keying_of i) × (o.spi ≡ i.spi) × (i.selector ≡ mirrored o.selector)
    × (bytes_eq (site (in_half t) h) (site (out_half t) h) ≡ false)
paired gs t o i h l p q =
    let w = pair gs t h l (order-ordered (out_half t) o h p) in
    let a : w.0 ≡ o = some-is w.0 o (sym w.2 ∙ p) in
    let b : w.1 ≡ i = some-is w.1 i (sym w.3 ∙ q) in
    let k : o.key ≡ i.key = ap (λ (z : SadEntry). z.key) (sym a) ∙ w.4 ∙ ap (λ (z : SadEntry). z.key) b in
    let s : o.spi ≡ i.spi = ap (λ (z : SadEntry). z.spi) (sym a) ∙ w.5 ∙ ap (λ (z : SadEntry). z.spi) b in
    let m : i.selector ≡ mirrored o.selector = ap (λ (z : SadEntry). z.selector) (sym b) ∙ w.6
    ∙ ap (λ (z : SadEntry). mirrored z.selector) a in
    (keying-same o i k s, s, m, w.7)

gave-by : (gs : List Peer) (g o x : List ℕ) (n : ℕ) (p : List ℕ) (h : List Act) → IsLawful gs h → IsGenuine gs g o h
    → (d : Delivers gs g o x n p h) → (t : List ℕ) → x ≡ in_half t → order_of x h ≡ Some d.half → site x h ≡ g →
    (bytes_eq (site (out_half t) h) g ≡ false) × (was_sent (site (out_half t) h) (out_half t) n (esp_of o) p h ≡ true)
gave-by gs g o x n p h l genuine d t e order here =
    let z = genuine d.half d.text d.comes d.opens in
    let name : other_half d.half.name ≡ out_half t = ap other_half (d.name ∙ e) in
    let s = sealed-sent gs (out_half t) (esp_of o) h l (subst (λ y. is_sealed y (esp_of o) h ≡ true) name z) in
    let c = carried gs s.0 (out_half t) s.1 (esp_of o) s.2 h l s.3 in
    let i : order_of (in_half t) h ≡ Some d.half = subst (λ y. order_of y h ≡ Some d.half) e order in
    let w = paired gs t c.0 d.half h l c.2 i in
    let sealed : esp_of o ≡ esp (keying_of d.half) s.1 (next_header s.2) s.2 = c.6 ∙ ap (λ k. esp k s.1 (next_header s.2) s.2) w.0 in
    let number : n ≡ s.1 = d.number ∙ number-field d.half (greatest (numbers_taken g x h)) (esp_of o) ∙ ap (λ (y : List ℕ). seq_of y) sealed
    ∙ esp-seq (keying_of d.half) s.1 (next_header s.2) s.2 c.5 in
    let packet : p ≡ s.2 = one-packet (keying_of d.half) s.1 (next_header s.2) (next_header p) s.2 p (esp_of o) d.text sealed d.opens
    d.inner in
    let site_in : site (in_half t) h ≡ g = subst (λ y. site y h ≡ g) e here in
    let apart : bytes_eq (site (out_half t) h) g ≡ false =
    name-not (site (out_half t) h) g (λ r. no (sym w.3 ∙ name-true (site (in_half t) h) (site (out_half t) h) (site_in ∙ sym r))) in
    let was : was_sent (site (out_half t) h) (out_half t) s.1 (esp_of o) s.2 h ≡ true =
    subst (λ y. was_sent y (out_half t) s.1 (esp_of o) s.2 h ≡ true) (sym c.3) s.3 in (
      apart,
      subst (λ y. was_sent (site (out_half t) h) (out_half t) y (esp_of o) p h ≡ true) (sym number)
          (subst (λ y. was_sent (site (out_half t) h) (out_half t) s.1 (esp_of o) y h ≡ true) (sym packet) was),
    )

not-given : (gs : List Peer) (g x : List ℕ) (n size : ℕ) (h : List Act) → IsLawful gs h → site x h ≡ g
    → verdict_over size (numbers_taken g x h) n ≡ Fresh → was_given x n h ≡ false
not-given gs g x n size h l here f =
    false_from_ne_true (was_given x n h) (λ e.
    let i = given gs x n h l e in
    let s : i.0 ≡ g = sym (was gs i.0 x h l i.1).1 ∙ here in
    let a : is_among n (numbers_taken g x h) ≡ true = subst (λ z. is_among n (numbers_taken z x h) ≡ true) s i.2 in
    no (sym (fresh-not size n (numbers_taken g x h) f) ∙ a))

fresh-of : (gs : List Peer) (g o x : List ℕ) (n : ℕ) (p : List ℕ) (h : List Act) (d : Delivers gs g o x n p h)
    → verdict_over d.half.window (numbers_taken g x h) n ≡ Fresh
fresh-of gs g o x n p h d =
    let a : verdict_over d.half.window (numbers_taken g x h) (number_of d.half (numbers_taken g x h) (esp_of o)) ≡ Fresh =
    subst (λ z. verdict_over d.half.window (numbers_taken g z h) (number_of d.half (numbers_taken g z h) (esp_of o)) ≡ Fresh) d.name
    d.comes.fresh in
    ap (verdict_over d.half.window (numbers_taken g x h)) d.number ∙ a

gave-now : (gs : List Peer) (g o x : List ℕ) (n : ℕ) (p : List ℕ) (h : List Act) → IsLawful gs h → IsGenuine gs g o h
    → Delivers gs g o x n p h → GaveWasSent g x n p (acts.Arrived g o ∷ h)
gave-now gs g o x n p h l genuine d =
    let f = found gs g x (spi_of (esp_of o)) d.half h l d.comes.found d.name in
    let b = gave-by gs g o x n p h l genuine d f.0 f.1 f.2 f.3 in
    let name : other_half x ≡ out_half f.0 = ap other_half f.1 in
    record {
      inbound = ap is_inbound f.1;
      here = sym f.3;
      elsewhere = subst (λ z. bytes_eq (site z h) g ≡ false) (sym name) b.0;
      octets = esp_of o;
      before = subst (λ z. was_sent (site z h) z n (esp_of o) p h ≡ true) (sym name) b.1;
      first = not-given gs g x n d.half.window h l f.3 (fresh-of gs g o x n p h d);
    }

pub gave-safe : (gs : List Peer) (g x : List ℕ) (n : ℕ) (p : List ℕ) (h : List Act) → IsLawful gs h → GiveMayHappen gs g x n p h
    → GaveWasSent g x n p h
gave-safe gs g x n p (acts.Arrived f o ∷ h) l m = subst (λ z. GaveWasSent g x n p (acts.Arrived z o ∷ h)) (sym m.0)
    (gave-now gs g o x n p h l.1 m.1 m.2)
gave-safe gs g x n p [] l m = absurd m
gave-safe gs g x n p (a ∷ h) l m = absurd m

-- ---- what must be given can be given
swap : (a b c d e : Bool) → (a && (b && (c && (d && e)))) ≡ true → (b && (a && (c && (e && d)))) ≡ true
swap true true true true e q = rw q refl
swap true true true false e q = absurd (no q)
swap true true false d e q = absurd (no q)
swap true false c d e q = absurd (no q)
swap false b c d e q = absurd (no q)

ports-in : (ports : Option (ℕ × ℕ)) → remote_port Out ports ≡ local_port In ports
ports-in None = refl
ports-in (Some r) = refl

ports-out : (ports : Option (ℕ × ℕ)) → local_port Out ports ≡ remote_port In ports
ports-out None = refl
ports-out (Some r) = refl

-- what one end holds as outbound, the other holds as inbound
holds-in : (s : Selector) (v : Packet) → holds_packet s Out v ≡ true → holds_packet (mirrored s) In v ≡ true
unfolding holds_packet
holds-in s v e =
    let z = swap (lies_in v.src s.local) (lies_in v.dst s.remote) (proto_fits s.proto v.proto)
    (port_fits s.local_ports (local_port Out v.ports)) (port_fits s.remote_ports (remote_port Out v.ports)) e in
    subst (λ k. (lies_in v.dst s.remote
    && (lies_in v.src s.local
    && (proto_fits s.proto v.proto && (port_fits s.remote_ports (local_port In v.ports) && port_fits s.local_ports k)))) ≡ true)
    (ports-out v.ports)
    (subst (λ k. (lies_in v.dst s.remote
    && (lies_in v.src s.local
    && (proto_fits s.proto v.proto && (port_fits s.remote_ports k && port_fits s.local_ports (local_port Out v.ports))))) ≡ true)
    (ports-in v.ports) z)

still-live : (v p d : Bool) → p ≡ false → d ≡ false → Stands v p d → v ≡ true
still-live v p d e f (inl q) = q
still-live v p d e f (inr (inl q)) = absurd (no (sym e ∙ q))
still-live v p d e f (inr (inr q)) = absurd (no (sym f ∙ q))

small-spi : (t : List ℕ) (e : SadEntry) → Numbered t e → e.spi < 2 ^ 32
small-spi t e n = let a = n.2 in let b = n.3 in omega (arith, a, b)

-- the datagram comes to its half
comes : (gs : List Peer) (g o t p : List ℕ) (half : SadEntry) (h : List Act) → IsLawful gs h → MustGive gs g o t p half h
    → half.name ≡ in_half t → spi_of (esp_of o) ≡ half.spi → ComesTo gs g o half h
comes gs g o t p half h l m name spi =
    let v = still-live (is_live g (in_half t) h) (is_lapsed g (in_half t) h) (is_removal_ordered (in_half t) h) m.whole m.stays
    (stays gs g (in_half t) h l (put-was g (in_half t) half h m.put)) in
    record {
      packet = m.packet;
      view = m.view;
      proto = m.proto;
      own = m.own;
      found = spi-finds gs g t (spi_of (esp_of o)) half h l v m.put (sym spi);
      fresh = subst (λ z. verdict_over half.window (numbers_taken g z h) (number_of half (numbers_taken g z h) (esp_of o)) ≡ Fresh)
          (sym name) m.fresh;
    }

pub delivered : (gs : List Peer) (g o t p : List ℕ) (half : SadEntry) (h : List Act) → IsLawful gs h → MustGive gs g o t p half h →
    Delivers gs g o (in_half t) (number_of half (numbers_taken g (in_half t) h) (esp_of o)) p h
delivered gs g o t p half h l m =
    let c = carried gs m.sender (out_half t) m.number (esp_of o) p h l m.unchanged in
    let i = put-order gs g (in_half t) half h l m.put in
    let w = paired gs t c.0 half h l c.2 i.3 in
    let sealed : esp_of o ≡ esp (keying_of half) m.number (next_header p) p = c.6 ∙ ap (λ k. esp k m.number (next_header p) p) w.0 in
    let n = numbered gs t half h l i.3 in
    let low : (keying_of half).spi < 2 ^ 32 = subst (λ (z : ℕ). z < 2 ^ 32) (sym (keying-spi half)) (small-spi t half n) in
    let spi : spi_of (esp_of o) ≡ half.spi = ap (λ (z : List ℕ). spi_of z) sealed ∙ esp-spi (keying_of half) m.number (next_header p) p low
    ∙ keying-spi half in
    let fits : holds_packet half.selector In c.1 ≡ true = subst (λ z. holds_packet z In c.1 ≡ true) (sym w.2)
    (holds-in c.0.selector c.1 c.8) in
    record {
      half = half;
      comes = comes gs g o t p half h l m i.0 spi;
      name = i.0;
      number = refl;
      text = padded (pad_len (length p)) (next_header p) p;
      opens = seals-open (keying_of half) m.number (next_header p) p (esp_of o) sealed;
      inner = (pad_len (length p), refl);
      packet = c.1;
      view = c.7;
      holds = fits;
    }

-- an arrival has at most one packet
pub same-found : (gs : List Peer) (g o : List ℕ) (d e : SadEntry) (h : List Act) → ComesTo gs g o d h → ComesTo gs g o e h → d ≡ e
same-found gs g o d e h a b = some-is d e (sym a.found ∙ b.found)

same-packet : (d e : SadEntry) (b x y p q : List ℕ) (m n : ℕ) → d ≡ e → EspOpens (keying_of d) b x → EspOpens (keying_of e) b y
    → Inner x m p → Inner y n q → p ≡ q
same-packet d e b x y p q m n s a c i j =
    let w : EspOpens (keying_of e) b x = subst (λ z. EspOpens (keying_of z) b x) s a in
    let t : x ≡ y = opens_once (keying_of e) b x w ∙ sym (opens_once (keying_of e) b y c) in
    (inner_once y p q m n (subst (λ z. Inner z m p) t i) j).1

delivers-once : (gs : List Peer) (g o x y : List ℕ) (m n : ℕ) (p q : List ℕ) (h : List Act) → (a : Delivers gs g o x m p h)
    → (b : Delivers gs g o y n q h) → acts.Gave g x m p ≡ acts.Gave g y n q
delivers-once gs g o x y m n p q h a b =
    let s = same-found gs g o a.half b.half h a.comes b.comes in
    let e : x ≡ y = sym a.name ∙ ap (λ (z : SadEntry). z.name) s ∙ b.name in
    let k : m ≡ n = a.number ∙ ap (λ (z : List ℕ). number_of a.half (numbers_taken g z h) (esp_of o)) e
    ∙ ap (λ (z : SadEntry). number_of z (numbers_taken g y h) (esp_of o)) s ∙ sym b.number in
    let r : p ≡ q = same-packet a.half b.half (esp_of o) a.text b.text p q (next_header p) (next_header q) s a.opens b.opens a.inner b.inner
    in
    rw (e, k, r) refl

answer-not : (g f o : List ℕ) (q : Order) (a : Answer) (h : List Act) → IsAnswer g q a (acts.Arrived f o ∷ h) → ⊥
answer-not g f o asks.Read a h e = no e.0
answer-not g f o (asks.Policy l) a h e = no e.0
answer-not g f o (asks.Put d) a h e = no e.0
answer-not g f o (asks.Remove x) a h e = no e.0

abbrev is_arrived : List Act → Bool
is_arrived (acts.Arrived f o ∷ h) = true
is_arrived _ = false

clear-not : (g f o q : List ℕ) (h : List Act) → ClearIsLet (acts.Arrived f o ∷ h) g q → ⊥
clear-not g f o q h c = let p : true ≡ false = ap is_arrived c.let_before in no (sym p)

give-only : (gs : List Peer) (g f o x y : List ℕ) (m n : ℕ) (p q : List ℕ) (h : List Act) → f ≡ g → Delivers gs f o y n q h
    → Delivers gs g o x m p h → acts.Gave f y n q ≡ acts.Gave g x m p
give-only gs g f o x y m n p q h e a b =
    let c : Delivers gs g o y n q h = subst (λ z. Delivers gs z o y n q h) e a in
    ap (λ (z : List ℕ). acts.Gave z y n q) e ∙ delivers-once gs g o y x n m q p h c b

not-delivered : (gs : List Peer) (g f o x : List ℕ) (m : ℕ) (p : List ℕ) (h : List Act) → g ≡ f
    → ((y : List ℕ) (n : ℕ) (q : List ℕ) → Delivers gs f o y n q h → ⊥) → Delivers gs g o x m p h → ⊥
not-delivered gs g f o x m p h e u d = u x m p (subst (λ z. Delivers gs z o x m p h) e d)

-- an arrival that has a packet is answered by giving it
pub answer : (gs : List Peer) (a : Act) (g o x : List ℕ) (m : ℕ) (p : List ℕ) (h : List Act) → MayHappen gs a (acts.Arrived g o ∷ h)
    → Delivers gs g o x m p h → a ≡ acts.Gave g x m p
answer gs (acts.Gave f y n q) g o x m p h e d = give-only gs g f o x y m n p q h (sym e.0) e.2 d
answer gs (acts.Drop f why) g o x m p h e d = absurd (not-delivered gs g f o x m p h e.0 e.2 d)
answer gs (acts.Pass f q) g o x m p h e d = absurd (not-delivered gs g f o x m p h e.0 e.2 d)
answer gs (acts.Handled f s k r) g o x m p h e d = absurd (answer-not f g o e.2.0 r h e.2.2)
answer gs (acts.Clear f q) g o x m p h e d = absurd (clear-not f g o q h e)
answer gs (acts.Sent f y n q) g o x m p h e d = absurd e
answer gs (acts.Opened f s) g o x m p h e d = absurd (no e.0)
answer gs (acts.Cut f s) g o x m p h e d = absurd (no e.0)
answer gs (acts.Order f s k q) g o x m p h e d = absurd (no e.0)
answer gs (acts.Answered f s k r) g o x m p h e d = absurd (no e.0)
answer gs (acts.Policy f l) g o x m p h e d = absurd (no e.0)
answer gs (acts.Put f c) g o x m p h e d = absurd (no e.0)
answer gs (acts.Gone f y gone.Removed) g o x m p h e d = absurd (no e.0)
answer gs (acts.Gone f y gone.Hard) g o x m p h e d = absurd (no e)
answer gs (acts.Took k) g o x m p h e d = absurd (no e)
answer gs (acts.Now t) g o x m p h e d = absurd (no e)
answer gs (acts.Boot f) g o x m p h e d = absurd (no e)
answer gs (acts.Let f q) g o x m p h e d = absurd (no e)
answer gs (acts.Arrived f q) g o x m p h e d = absurd (no e)
answer gs (acts.Notice f s n) g o x m p h e d = absurd (no e)
answer gs (acts.Heard f s n) g o x m p h e d = absurd (no e)
answer gs (acts.Wire f lane q) g o x m p h e d = absurd (no e)
answer gs (acts.Refused why) g o x m p h e d = absurd (no e)
