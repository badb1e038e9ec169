-- The two halves of an association: one key, one SPI, mirrored selectors, two gateways.
use Rattle.std.proofs.Common.{◌==◌, ◌≡◌, ℕ, ◌+◌, ◌≤◌, nat_lt, Bool, true, false, ◌&&◌, ◌||◌, List, [], ◌∷◌, decimal, Option, Some, ◌⊎◌, inl, inr, refl, sym, ◌∙◌, ap, subst, arith, if◌then◌else◌}
use Rattle.std.proofs.lemmas.Bool.{or_right, or_left, and_from}
use Rattle.std.specs.Str.{bytes_eq}
use Rattle.ikl_base.specs.declared.address.Addr.{Addr}
use Rattle.ikl_base.specs.declared.address.Addr.TheVariants.{V4, V6}
use Rattle.ikl_base.specs.Address.{AreOneFamily}
use Rattle.ikeless_tree.specs.declared.sad.SadEntry.{SadEntry}
use Rattle.ikeless_tree.specs.declared.command.Peer.{Peer}
use Rattle.ikeless_tree.specs.declared.order.Order.TheVariants as asks
use Rattle.ikeless_tree.specs.Half.{is_inbound, aes_part, in_half, out_half}
use Rattle.hist_acts.specs.declared.act.Act.{Act}
use Rattle.hist_acts.specs.declared.act.Act.TheVariants as acts
use Rattle.hist_acts.specs.Sessions.{is_session, order_at, orders}
use Rattle.hist_safety.specs.Orders.{inbounds, is_key_used, is_put_accepted, is_put, order_of, was_order_given, place_of, session_of, site}
use Rattle.hist_safety.specs.Law.{IsLawful, PutInMayHappen, PutOutMayHappen}
use Rattle.hist_safety.specs.Kept.{Pair}
use Rattle.hist_safety.proofs.Sessions.{count-at, not-new}
use Rattle.hist_safety.proofs.Finality.{num-in}
use Rattle.hist_safety.proofs.Basics.{self, session-self, no, or-split, name-is, name-not, name-true, some-is, if-cases, if-new, if-old}
use Rattle.hist_safety.proofs.Orders.{in-out, in-serial, other, out-serial}

-- what was ordered has an entry, of its name
order-some : (b c : Bool) (d e : SadEntry) (o : Option SadEntry) → (o ≡ Some e → c ≡ true) → (if b then Some d else o) ≡ Some e
    → (b || c) ≡ true
order-some true c d e o ih q = refl
order-some false c d e o ih q = ih q

pub order-ordered : (x : List ℕ) (e : SadEntry) (h : List Act) → order_of x h ≡ Some e → was_order_given x h ≡ true
order-ordered x e [] q = absurd (grind arith)
order-ordered x e (acts.Order f s k (asks.Put d) ∷ h) q = order-some (bytes_eq d.name x) (was_order_given x h) d e (order_of x h)
    (order-ordered x e h) q
order-ordered x e (a ∷ h) q = order-ordered x e h q

-- and stands as the order with its number, in its session, at its gateway
stands-new : (f x : List ℕ) (t j : ℕ) (d : SadEntry) (h : List Act) (b : Bool) → b ≡ true →
    order_at (if b then f else site x h) (if b then t else session_of x h) (if b then j else place_of x h) (acts.Order f t j (asks.Put d)
    ∷ h) ≡ Some (asks.Put d)
stands-new f x t j d h true q = if-new (is_session f t f t && (j == j)) (Some (asks.Put d)) (order_at f t j h)
    (and_from (is_session f t f t) (j == j) (session-self f t) (self j))
stands-new f x t j d h false q = absurd (no q)

stands-old : (f x : List ℕ) (t j : ℕ) (d e : SadEntry) (h : List Act) (b : Bool) → b ≡ false
    → (is_session f t (site x h) (session_of x h) && (j == place_of x h)) ≡ false → order_at (site x h) (session_of x h) (place_of x h) h ≡
    Some (asks.Put e) →
    order_at (if b then f else site x h) (if b then t else session_of x h) (if b then j else place_of x h) (acts.Order f t j (asks.Put d)
    ∷ h) ≡ Some (asks.Put e)
stands-old f x t j d e h true q r o = absurd (no (sym q))
stands-old f x t j d e h false q r o = if-old (is_session f t (site x h) (session_of x h) && (j == place_of x h)) (Some (asks.Put d))
    (order_at (site x h) (session_of x h) (place_of x h) h) r ∙ o

not-this : (gs : List Peer) (f x : List ℕ) (t j : ℕ) (h : List Act) → IsLawful gs h → was_order_given x h ≡ true → j ≡ orders f t h + 1
    → (is_session f t (site x h) (session_of x h) && (j == place_of x h)) ≡ false
not-this gs f x t j h l o e =
    not-new (is_session f t (site x h) (session_of x h) && (j == place_of x h)) (place_of x h) (orders (site x h) (session_of x h) h)
    (count-at orders f t j (site x h) (session_of x h) (place_of x h) h e) (num-in gs x h l o)

pub order-stands : (gs : List Peer) (x : List ℕ) (e : SadEntry) (h : List Act) → IsLawful gs h → order_of x h ≡ Some e
    → order_at (site x h) (session_of x h) (place_of x h) h ≡ Some (asks.Put e)
order-stands gs x e [] l q = absurd (grind arith)
order-stands gs x e (acts.Order f t j (asks.Put d) ∷ h) l q =
    elim (if-cases (bytes_eq d.name x) d e (order_of x h) q) as (λ z. order_at (if bytes_eq d.name x then f else site x h)
    (if bytes_eq d.name x then t else session_of x h) (if bytes_eq d.name x then j else place_of x h) (acts.Order f t j (asks.Put d)
    ∷ h) ≡ Some (asks.Put e)) [
      | inl r ↦ stands-new f x t j d h (bytes_eq d.name x) r.0 ∙ ap (λ (z : SadEntry). Some (asks.Put z)) r.1
      | inr r ↦ let o = order-ordered x e h r in
          stands-old f x t j d e h (bytes_eq d.name x) (other gs x f d h l.1 l.0.4 o) (not-this gs f x t j h l.1 o l.0.3)
          (order-stands gs x e h l.1 r)
    ]
order-stands gs x e (acts.Order f t j a ∷ h) l q =
    let o = order-ordered x e h q in
    if-old (is_session f t (site x h) (session_of x h) && (j == place_of x h)) (Some a) (order_at (site x h) (session_of x h) (place_of x h)
    h) (not-this gs f x t j h l.1 o l.0.3) ∙ order-stands gs x e h l.1 q
order-stands gs x e (a ∷ h) l q = order-stands gs x e h l.1 q

-- a half that was ordered has the name of one of the two
abbrev pub Named : List ℕ → Type 0
Named x = (serial : List ℕ) × ((x ≡ in_half serial) ⊎ (x ≡ out_half serial))

named-put : (f : List ℕ) (e : SadEntry) (h : List Act) → PutInMayHappen e h ⊎ PutOutMayHappen f e h → Named e.name
named-put f e h (inl p) = (decimal (inbounds h + 1), inl p.name)
named-put f e h (inr p) = (p.serial, inr p.name)

pub named : (gs : List Peer) (x : List ℕ) (h : List Act) → IsLawful gs h → was_order_given x h ≡ true → Named x
named gs x [] l q = absurd (no q)
named gs x (acts.Order f s k (asks.Put d) ∷ h) l q =
    or-split {A = Named x} (bytes_eq d.name x) (was_order_given x h)
    (λ r. subst (λ z. Named z) (name-is d.name x r) (named-put f d h l.0.4)) (named gs x h l.1) q
named gs x (a ∷ h) l q = named gs x h l.1 q

outbound-by : (x : List ℕ) → is_inbound x ≡ false → Named x → (serial : List ℕ) × (x ≡ out_half serial)
outbound-by x b (t, inl p) = absurd (let q : is_inbound x ≡ true = ap is_inbound p in no (sym b ∙ q))
outbound-by x b (t, inr p) = (t, p)

pub outbound : (gs : List Peer) (x : List ℕ) (h : List Act) → IsLawful gs h → was_order_given x h ≡ true → is_inbound x ≡ false
    → (serial : List ℕ) × (x ≡ out_half serial)
outbound gs x h l o b = outbound-by x b (named gs x h l o)

inbound-by : (x : List ℕ) → is_inbound x ≡ true → Named x → (serial : List ℕ) × (x ≡ in_half serial)
inbound-by x b (t, inl p) = (t, p)
inbound-by x b (t, inr p) = absurd (let q : is_inbound x ≡ false = ap is_inbound p in no (sym q ∙ b))

pub inbound : (gs : List Peer) (x : List ℕ) (h : List Act) → IsLawful gs h → was_order_given x h ≡ true → is_inbound x ≡ true
    → (serial : List ℕ) × (x ≡ in_half serial)
inbound gs x h l o b = inbound-by x b (named gs x h l o)

-- ---- both halves
pair-new : (f : List ℕ) (s k : ℕ) (t : List ℕ) (d : SadEntry) (h : List Act) (p : PutOutMayHappen f d h) → p.serial ≡ t
    → bytes_eq d.name (out_half t) ≡ true → bytes_eq d.name (in_half t) ≡ false → Pair t (acts.Order f s k (asks.Put d) ∷ h)
pair-new f s k t d h p e q r =
    let o : order_of (in_half t) h ≡ Some p.inbound = subst (λ z. order_of (in_half z) h ≡ Some p.inbound) e p.order in
    let w : bytes_eq (site (in_half t) h) f ≡ false = subst (λ z. bytes_eq (site (in_half z) h) f ≡ false) e p.elsewhere in
    let v : bytes_eq (if bytes_eq d.name (in_half t) then f else site (in_half t) h) (if bytes_eq d.name (out_half t) then f
    else site (out_half t) h) ≡ false = rw (q, r) w in
    let m : is_put_accepted (in_half t) h ≡ true = subst (λ z. is_put_accepted (in_half z) h ≡ true) e p.made in (
      d,
      p.inbound,
      if-new (bytes_eq d.name (out_half t)) (Some d) (order_of (out_half t) h) q,
      if-old (bytes_eq d.name (in_half t)) (Some d)
          (order_of (in_half t) h) r ∙ o,
      p.key,
      p.spi,
      p.selector,
      v,
      m,
    )

pair-older : (f : List ℕ) (s k : ℕ) (t : List ℕ) (d : SadEntry) (h : List Act) → bytes_eq d.name (out_half t) ≡ false
    → bytes_eq d.name (in_half t) ≡ false → Pair t h → Pair t (acts.Order f s k (asks.Put d) ∷ h)
pair-older f s k t d h q r p =
    let v : bytes_eq (if bytes_eq d.name (in_half t) then f else site (in_half t) h) (if bytes_eq d.name (out_half t) then f
    else site (out_half t) h) ≡ false = rw (q, r) p.7 in (
      p.0,
      p.1,
      if-old (bytes_eq d.name (out_half t)) (Some d) (order_of (out_half t) h) q
          ∙ p.2,
      if-old (bytes_eq d.name (in_half t)) (Some d) (order_of (in_half t) h) r ∙ p.3,
      p.4,
      p.5,
      p.6,
      v,
      p.8,
    )

pair-put : (gs : List Peer) (f : List ℕ) (s k : ℕ) (t : List ℕ) (d : SadEntry) (h : List Act) → PutInMayHappen d h ⊎ PutOutMayHappen f d h
    → bytes_eq d.name (out_half t) ≡ true → Pair t (acts.Order f s k (asks.Put d) ∷ h)
pair-put gs f s k t d h (inl p) q = absurd (in-out (decimal (inbounds h + 1)) t (sym p.name ∙ name-is d.name (out_half t) q))
pair-put gs f s k t d h (inr p) q =
    let e = name-is d.name (out_half t) q in
    pair-new f s k t d h p (out-serial p.serial t (sym p.name ∙ e)) q (name-not d.name (in_half t) (λ r. in-out t t (sym r ∙ e)))

pair-made : (t : List ℕ) (b : Bool) (h : List Act) → is_put_accepted (in_half t) h ≡ true → (b || is_put_accepted (in_half t) h) ≡ true
pair-made t b h e = or_right b (is_put_accepted (in_half t) h) e

-- the outbound half is ordered only after the inbound one, of the same association
pub pair : (gs : List Peer) (t : List ℕ) (h : List Act) → IsLawful gs h → was_order_given (out_half t) h ≡ true → Pair t h
pair gs t [] l q = absurd (no q)
pair gs t (acts.Order f s k (asks.Put d) ∷ h) l q =
    or-split {A = Pair t (acts.Order f s k (asks.Put d) ∷ h)} (bytes_eq d.name (out_half t)) (was_order_given (out_half t) h)
    (λ r. pair-put gs f s k t d h l.0.4 r)
    (λ r.
    let p = pair gs t h l.1 r in
    pair-older f s k t d h (other gs (out_half t) f d h l.1 l.0.4 r)
    (other gs (in_half t) f d h l.1 l.0.4 (order-ordered (in_half t) p.1 h p.3)) p) q
pair gs t (acts.Answered f s k a ∷ h) l q =
    let p = pair gs t h l.1 q in
    (p.0, p.1, p.2, p.3, p.4, p.5, p.6, p.7, pair-made t (is_put (in_half t) (order_at f s k h) && nat_lt a.status 400) h p.8)
pair gs t (a ∷ h) l q = pair gs t h l.1 q

-- ---- numbers: an inbound half has the SPI of its serial
abbrev pub Numbered : List ℕ → SadEntry → Type 0
Numbered t e = (n : ℕ) × (t ≡ decimal n) × (e.spi ≡ 256 + n) × (n ≤ 1048576)

numbered-put : (f t : List ℕ) (d : SadEntry) (h : List Act) → PutInMayHappen d h ⊎ PutOutMayHappen f d h → d.name ≡ in_half t → Numbered t d
numbered-put f t d h (inl p) q = (inbounds h + 1, in-serial t (decimal (inbounds h + 1)) (sym q ∙ p.name), p.spi, p.few)
numbered-put f t d h (inr p) q = absurd (in-out t p.serial (sym q ∙ p.name))

pub numbered : (gs : List Peer) (t : List ℕ) (e : SadEntry) (h : List Act) → IsLawful gs h → order_of (in_half t) h ≡ Some e → Numbered t e
numbered gs t e [] l q = absurd (grind arith)
numbered gs t e (acts.Order f s k (asks.Put d) ∷ h) l q =
    elim (if-cases (bytes_eq d.name (in_half t)) d e (order_of (in_half t) h) q) as (λ z. Numbered t e) [
      | inl r ↦ subst (λ z. Numbered t z) r.1 (numbered-put f t d h l.0.4 (name-is d.name (in_half t) r.0))
      | inr r ↦ numbered gs t e h l.1 r
    ]
numbered gs t e (a ∷ h) l q = numbered gs t e h l.1 q

-- both ends of each half have whole addresses of one family
turned : (a b : Addr) → AreOneFamily a b → AreOneFamily b a
turned (V4 a) (V4 b) p = (p.1, p.0)
turned (V4 a) (V6 b) p = absurd p
turned (V6 a) (V4 b) p = absurd p
turned (V6 a) (V6 b) p = (p.1, p.0)

ends-put : (f : List ℕ) (d : SadEntry) (h : List Act) → ((x : List ℕ) (e : SadEntry) → order_of x h ≡ Some e
    → AreOneFamily e.local e.remote) → PutInMayHappen d h ⊎ PutOutMayHappen f d h → AreOneFamily d.local d.remote
ends-put f d h i (inl p) = p.ends
ends-put f d h i (inr p) =
    let one = turned p.inbound.local p.inbound.remote (i (in_half p.serial) p.inbound p.order) in
    subst (λ z. AreOneFamily z d.remote) (sym p.local) (subst (λ z. AreOneFamily p.inbound.remote z) (sym p.remote) one)

pub ends : (gs : List Peer) (x : List ℕ) (e : SadEntry) (h : List Act) → IsLawful gs h → order_of x h ≡ Some e
    → AreOneFamily e.local e.remote
ends gs x e [] l q = absurd (grind arith)
ends gs x e (acts.Order f s k (asks.Put d) ∷ h) l q =
    elim (if-cases (bytes_eq d.name x) d e (order_of x h) q) as (λ z. AreOneFamily e.local e.remote) [
      | inl r ↦ subst (λ z. AreOneFamily z.local z.remote) r.1 (ends-put f d h (λ y c. ends gs y c h l.1) l.0.4)
      | inr r ↦ ends gs x e h l.1 r
    ]
ends gs x e (a ∷ h) l q = ends gs x e h l.1 q

-- two inbound halves with one SPI are one
pub one-spi : (t u : List ℕ) (d e : SadEntry) → Numbered t d → Numbered u e → d.spi ≡ e.spi → t ≡ u
one-spi t u d e p q r =
    let a = p.2 in
    let b = q.2 in
    let n : p.0 ≡ q.0 = omega (arith, a, b, r) in
    p.1 ∙ ap decimal n ∙ sym q.1

-- ---- keys: no two associations have one AES part
key-in : (b c : Bool) (d e : SadEntry) (part : List ℕ) (o : Option SadEntry) → (o ≡ Some e → c ≡ true)
    → (d ≡ e → bytes_eq (aes_part d.key) part ≡ true) → (if b then Some d else o) ≡ Some e → (bytes_eq (aes_part d.key) part || c) ≡ true
key-in true c d e part o ih f q = or_left (bytes_eq (aes_part d.key) part) c (f (some-is d e q))
key-in false c d e part o ih f q = or_right (bytes_eq (aes_part d.key) part) c (ih q)

pub key-used : (x : List ℕ) (e : SadEntry) (h : List Act) → order_of x h ≡ Some e → is_key_used (aes_part e.key) h ≡ true
key-used x e [] q = absurd (grind arith)
key-used x e (acts.Order f s k (asks.Put d) ∷ h) q =
    key-in (bytes_eq d.name x) (is_key_used (aes_part e.key) h) d e (aes_part e.key) (order_of x h) (key-used x e h)
    (λ p. name-true (aes_part d.key) (aes_part e.key) (ap (λ (z : SadEntry). aes_part z.key) p)) q
key-used x e (a ∷ h) q = key-used x e h q

-- a key that was used isn't that of a new inbound half
key-new : (f t : List ℕ) (x : List ℕ) (d e : SadEntry) (h : List Act) → PutInMayHappen d h ⊎ PutOutMayHappen f d h → d.name ≡ in_half t
    → order_of x h ≡ Some e → aes_part d.key ≡ aes_part e.key → ⊥
key-new f t x d e h (inl p) q o s = let u : is_key_used (aes_part d.key) h ≡ true = rw s (key-used x e h o) in no (sym p.key ∙ u)
key-new f t x d e h (inr p) q o s = in-out t p.serial (sym q ∙ p.name)

keys-new : (f t u : List ℕ) (c d e : SadEntry) (h : List Act) → PutInMayHappen c h ⊎ PutOutMayHappen f c h → aes_part d.key ≡ aes_part e.key
    →
    (order_of (in_half t) h ≡ Some d → order_of (in_half u) h ≡ Some e → t ≡ u) →
    ((bytes_eq c.name (in_half t) ≡ true) × (c ≡ d)) ⊎ (order_of (in_half t) h ≡ Some d) → ((bytes_eq c.name (in_half u) ≡ true) × (c ≡ e))
    ⊎ (order_of (in_half u) h ≡ Some e) → t ≡ u
keys-new f t u c d e h m s ih (inl p) (inl q) = in-serial t u (sym (name-is c.name (in_half t) p.0) ∙ name-is c.name (in_half u) q.0)
keys-new f t u c d e h m s ih (inl p) (inr q) =
    absurd (key-new f t (in_half u) c e h m (name-is c.name (in_half t) p.0) q (ap (λ (z : SadEntry). aes_part z.key) p.1 ∙ s))
keys-new f t u c d e h m s ih (inr p) (inl q) =
    absurd (key-new f u (in_half t) c d h m (name-is c.name (in_half u) q.0) p (ap (λ (z : SadEntry). aes_part z.key) q.1 ∙ sym s))
keys-new f t u c d e h m s ih (inr p) (inr q) = ih p q

pub keys-differ : (gs : List Peer) (t u : List ℕ) (d e : SadEntry) (h : List Act) → IsLawful gs h → order_of (in_half t) h ≡ Some d
    → order_of (in_half u) h ≡ Some e → aes_part d.key ≡ aes_part e.key → t ≡ u
keys-differ gs t u d e [] l p q s = absurd (grind arith)
keys-differ gs t u d e (acts.Order f j k (asks.Put c) ∷ h) l p q s =
    keys-new f t u c d e h l.0.4 s (λ a b. keys-differ gs t u d e h l.1 a b s)
    (if-cases (bytes_eq c.name (in_half t)) c d (order_of (in_half t) h) p)
    (if-cases (bytes_eq c.name (in_half u)) c e (order_of (in_half u) h) q)
keys-differ gs t u d e (a ∷ h) l p q s = keys-differ gs t u d e h l.1 p q s
