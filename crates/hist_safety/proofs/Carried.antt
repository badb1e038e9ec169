-- What was sent under an outbound half, and what was given under an inbound one.
use Rattle.std.proofs.Common.{◌≡◌, ℕ, Bool, true, false, ◌==◌, ◌&&◌, ◌||◌, List, [], ◌∷◌, ◌++◌, Option, Some, None, refl, sym, ◌∙◌, subst, if◌then◌else◌}
use Rattle.std.proofs.lemmas.Bool.{false_from_ne_true, or_right, or_left, and_from}
use Rattle.std.specs.Str.{bytes_eq}
use Rattle.ikeless_tree.specs.declared.sad.SadEntry.{SadEntry}
use Rattle.ikeless_tree.specs.declared.command.Peer.{Peer}
use Rattle.ikeless_tree.specs.declared.order.Order.TheVariants as asks
use Rattle.esp_frame.specs.Esp.{spi_of}
use Rattle.replay_win.specs.Marks.{is_among}
use Rattle.hist_acts.specs.declared.act.Act.{Act}
use Rattle.hist_acts.specs.declared.act.Act.TheVariants as acts
use Rattle.hist_halves.specs.Sealed.{esp_of, is_opened}
use Rattle.hist_halves.specs.Halves.{arrival_number, is_half, is_sealed, numbers_taken, was_put, with_number}
use Rattle.hist_safety.specs.Orders.{order_of, site}
use Rattle.hist_safety.specs.Carried.{Sends, is_let, was_given, was_sent}
use Rattle.hist_safety.specs.Law.{IsLawful, GiveMayHappen, SendMayHappen}
use Rattle.hist_safety.specs.Kept.{Carried, WasGiven}
use Rattle.hist_safety.proofs.Basics.{no, both-left, both-right, eq-nat, half-is, half-true, if-old, name-is, name-self, or-split, self}
use Rattle.hist_safety.proofs.Orders.{other, put-order, put-was}
use Rattle.hist_safety.proofs.Once.{put-once}
use Rattle.hist_safety.proofs.Pairs.{order-ordered}
use Rattle.hist_safety.proofs.Live.{spi-is}

-- ---- what was sent

carried-now : (gs : List Peer) (f y : List ℕ) (m : ℕ) (p o : List ℕ) (h : List Act) → IsLawful gs h → Sends f y m p o h
    → Carried f y m (esp_of o) p h
carried-now gs f y m p o h l s = let r = put-order gs f y s.half h l s.put in
    (s.half, s.packet, r.3, r.2, s.outbound, s.small, s.sealed, s.view, s.holds)

four : (a b c d : Bool) → (a && b && c && d) ≡ true → (a ≡ true) × (b ≡ true) × (c ≡ true) × (d ≡ true)
four true true true d e = (refl, refl, refl, e)
four true true false d e = absurd (no e)
four true false c d e = absurd (no e)
four false b c d e = absurd (no e)

carried-let : (gs : List Peer) (f y : List ℕ) (m : ℕ) (p o : List ℕ) (h : List Act) → IsLawful gs h → SendMayHappen f y m o h
    → is_let f p h ≡ true → Carried f y m (esp_of o) p h
carried-let gs f y m p o (acts.Let g q ∷ h) l s e =
    let b = name-is q p (both-right (bytes_eq g f) (bytes_eq q p) e) in
    subst (λ z. Carried f y m (esp_of o) z h) b (carried-now gs f y m q o h l.1 s.1)
carried-let gs f y m p o [] l s e = absurd (no e)
carried-let gs f y m p o (a ∷ h) l s e = absurd (no e)

carried-new : (gs : List Peer) (f y g x : List ℕ) (m n : ℕ) (b p o : List ℕ) (h : List Act) → IsLawful gs h → SendMayHappen f y m o h
    → (is_half f y g x && (m == n) && bytes_eq (esp_of o) b && is_let f p h) ≡ true → Carried g x n b p h
carried-new gs f y g x m n b p o h l s e =
    let t = four (is_half f y g x) (m == n) (bytes_eq (esp_of o) b) (is_let f p h) e in
    let k = half-is f y g x t.0 in
    let c = carried-let gs f y m p o h l s t.3 in
    subst (λ z. Carried z x n b p h) k.0
    (subst (λ z. Carried f z n b p h) k.1 (subst (λ z. Carried f y z b p h) (eq-nat m n t.1)
    (subst (λ z. Carried f y m z p h) (name-is (esp_of o) b t.2) c)))

carried-order : (gs : List Peer) (f : List ℕ) (s k : ℕ) (d : SadEntry) (g x : List ℕ) (n : ℕ) (b p : List ℕ) (h : List Act)
    → bytes_eq d.name x ≡ false → Carried g x n b p h → Carried g x n b p (acts.Order f s k (asks.Put d) ∷ h)
carried-order gs f s k d g x n b p h q c = (
  c.0,
  c.1,
  if-old (bytes_eq d.name x) (Some d) (order_of x h) q ∙ c.2,
  if-old (bytes_eq d.name x) f (site x h) q
      ∙ c.3,
  c.4,
  c.5,
  c.6,
  c.7,
  c.8,
)

pub carried : (gs : List Peer) (g x : List ℕ) (n : ℕ) (b p : List ℕ) (h : List Act) → IsLawful gs h → was_sent g x n b p h ≡ true
    → Carried g x n b p h
carried gs g x n b p [] l e = absurd (no e)
carried gs g x n b p (acts.Sent f y m o ∷ h) l e =
    or-split {A = Carried g x n b p h} (is_half f y g x && (m == n) && bytes_eq (esp_of o) b && is_let f p h) (was_sent g x n b p h)
    (carried-new gs f y g x m n b p o h l.1 l.0) (carried gs g x n b p h l.1) e
carried gs g x n b p (acts.Order f s k (asks.Put d) ∷ h) l e =
    let c = carried gs g x n b p h l.1 e in
    carried-order gs f s k d g x n b p h (other gs x f d h l.1 l.0.4 (order-ordered x c.0 h c.2)) c
carried gs g x n b p (a ∷ h) l e = carried gs g x n b p h l.1 e

-- ESP octets that were sent were sent somewhere, with a number, for a packet
abbrev pub SentSomewhere : List ℕ → List ℕ → List Act → Type 0
SentSomewhere x b h = (g : List ℕ) × (n : ℕ) × (p : List ℕ) × (was_sent g x n b p h ≡ true)

let-of : (f y : List ℕ) (m : ℕ) (o : List ℕ) (h : List Act) → SendMayHappen f y m o h → (p : List ℕ) × (is_let f p h ≡ true)
let-of f y m o (acts.Let g p ∷ h) s = (p, and_from (bytes_eq g f) (bytes_eq p p) (let e = s.0 in rw e (name-self f)) (name-self p))
let-of f y m o [] s = absurd s
let-of f y m o (a ∷ h) s = absurd s

all-four : (a b c d : Bool) → a ≡ true → b ≡ true → c ≡ true → d ≡ true → (a && b && c && d) ≡ true
all-four a b c d p q r s = and_from (a && b && c) d (and_from (a && b) c (and_from a b p q) r) s

sealed-now : (f y : List ℕ) (m : ℕ) (o x b : List ℕ) (h : List Act) → SendMayHappen f y m o h
    → (bytes_eq y x && bytes_eq (esp_of o) b) ≡ true → SentSomewhere x b (acts.Sent f y m o ∷ h)
sealed-now f y m o x b h s e =
    let p = let-of f y m o h s in
    let a = half-true f y f x refl (name-is y x (both-left (bytes_eq y x) (bytes_eq (esp_of o) b) e)) in (
      f,
      m,
      p.0,
      or_left (is_half f y f x && (m == m) && bytes_eq (esp_of o) b && is_let f p.0 h) (was_sent f x m b p.0 h)
          (all-four (is_half f y f x) (m == m) (bytes_eq (esp_of o) b) (is_let f p.0 h) a (self m)
          (both-right (bytes_eq y x) (bytes_eq (esp_of o) b) e) p.1),
    )

sealed-more : (f y : List ℕ) (m : ℕ) (o x b : List ℕ) (h : List Act) → SentSomewhere x b h → SentSomewhere x b (acts.Sent f y m o ∷ h)
sealed-more f y m o x b h s = (
  s.0,
  s.1,
  s.2,
  or_right (is_half f y s.0 x && (m == s.1) && bytes_eq (esp_of o) b && is_let f s.2 h)
      (was_sent s.0 x s.1 b s.2 h) s.3,
)

pub sealed-sent : (gs : List Peer) (x b : List ℕ) (h : List Act) → IsLawful gs h → is_sealed x b h ≡ true → SentSomewhere x b h
sealed-sent gs x b [] l e = absurd (no e)
sealed-sent gs x b (acts.Sent f y m o ∷ h) l e =
    or-split {A = SentSomewhere x b (acts.Sent f y m o ∷ h)} (bytes_eq y x && bytes_eq (esp_of o) b) (is_sealed x b h)
    (sealed-now f y m o x b h l.0) (λ q. sealed-more f y m o x b h (sealed-sent gs x b h l.1 q)) e
sealed-sent gs x b (a ∷ h) l e = sealed-sent gs x b h l.1 e

-- and the other way round
sent-this : (f y g x : List ℕ) (m n : ℕ) (b p o : List ℕ) (h : List Act) → (is_half f y g x && (m == n) && bytes_eq (esp_of o) b
    && is_let f p h) ≡ true → (bytes_eq y x && bytes_eq (esp_of o) b) ≡ true
sent-this f y g x m n b p o h e =
    let t = four (is_half f y g x) (m == n) (bytes_eq (esp_of o) b) (is_let f p h) e in
    and_from (bytes_eq y x) (bytes_eq (esp_of o) b) (both-right (bytes_eq f g) (bytes_eq y x) t.0) t.2

pub sent-sealed : (g x : List ℕ) (n : ℕ) (b p : List ℕ) (h : List Act) → was_sent g x n b p h ≡ true → is_sealed x b h ≡ true
sent-sealed g x n b p [] e = absurd (no e)
sent-sealed g x n b p (acts.Sent f y m o ∷ h) e =
    or-split {A = ((bytes_eq y x && bytes_eq (esp_of o) b) || is_sealed x b h) ≡ true} (is_half f y g x && (m == n) && bytes_eq (esp_of o) b
    && is_let f p h) (was_sent g x n b p h)
    (λ q. or_left (bytes_eq y x && bytes_eq (esp_of o) b) (is_sealed x b h) (sent-this f y g x m n b p o h q))
    (λ q. or_right (bytes_eq y x && bytes_eq (esp_of o) b) (is_sealed x b h) (sent-sealed g x n b p h q)) e
sent-sealed g x n b p (a ∷ h) e = sent-sealed g x n b p h e

-- ---- what was given

among-more : (n m : ℕ) (xs : List ℕ) → is_among n xs ≡ true → is_among n (xs ++ m ∷ []) ≡ true
among-more n m [] e = absurd (no e)
among-more n m (x ∷ xs) e =
    or-split {A = ((n == x) || is_among n (xs ++ m ∷ [])) ≡ true} (n == x) (is_among n xs)
    (λ q. or_left (n == x) (is_among n (xs ++ m ∷ [])) q) (λ q. or_right (n == x) (is_among n (xs ++ m ∷ [])) (among-more n m xs q)) e

among-last : (n : ℕ) (xs : List ℕ) → is_among n (xs ++ n ∷ []) ≡ true
among-last n [] = or_left (n == n) false (self n)
among-last n (x ∷ xs) = or_right (n == x) (is_among n (xs ++ n ∷ [])) (among-last n xs)

among-with : (n : ℕ) (xs : List ℕ) (o : Option ℕ) → is_among n xs ≡ true → is_among n (with_number xs o) ≡ true
among-with n xs None e = e
among-with n xs (Some m) e = among-more n m xs e

among-if : (b : Bool) (n : ℕ) (xs ys : List ℕ) → is_among n ys ≡ true → is_among n xs ≡ true → is_among n (if b then ys else xs) ≡ true
among-if true n xs ys p q = p
among-if false n xs ys p q = q

given-now : (gs : List Peer) (f y : List ℕ) (m : ℕ) (p : List ℕ) (h : List Act) → IsLawful gs h → GiveMayHappen gs f y m p h
    → was_put f y h ≡ true
given-now gs f y m p (acts.Arrived g o ∷ h) l s =
    let d = s.2 in
    let w = spi-is gs f (spi_of (esp_of o)) d.half h l.1 d.comes.found in
    subst (λ z. was_put f z h ≡ true) d.name (put-was f d.half.name d.half h w.0)
given-now gs f y m p [] l s = absurd s
given-now gs f y m p (a ∷ h) l s = absurd s

given-new : (f y x : List ℕ) (m n : ℕ) (q : List ℕ) (h : List Act) → was_put f y h ≡ true → (bytes_eq y x && (m == n)) ≡ true
    → WasGiven x n (acts.Gave f y m q ∷ h)
given-new f y x m n q h w e =
    let a = name-is y x (both-left (bytes_eq y x) (m == n) e) in
    let b = eq-nat m n (both-right (bytes_eq y x) (m == n) e) in
    let k = half-true f y f x refl a in
    let r : is_among n (numbers_taken f x h ++ m ∷ []) ≡ true = subst (λ z. is_among z (numbers_taken f x h ++ m ∷ []) ≡ true) b
    (among-last m (numbers_taken f x h)) in (
      f,
      subst (λ z. was_put f z h ≡ true) a w,
      (let t : is_among n (if is_half f y f x then numbers_taken f x h ++ m
          ∷ [] else numbers_taken f x h) ≡ true = rw k r in t),
    )

given-more : (f y x : List ℕ) (m n : ℕ) (q : List ℕ) (h : List Act) → WasGiven x n h → WasGiven x n (acts.Gave f y m q ∷ h)
given-more f y x m n q h i = (
  i.0,
  i.1,
  among-if (is_half f y i.0 x) n (numbers_taken i.0 x h) (numbers_taken i.0 x h ++ m ∷ [])
      (among-more n m (numbers_taken i.0 x h) i.2) i.2,
)

given-put : (f x : List ℕ) (n : ℕ) (d : SadEntry) (h : List Act) → ((g : List ℕ) → was_put g d.name h ≡ false) → WasGiven x n h
    → WasGiven x n (acts.Put f d ∷ h)
given-put f x n d h w i =
    let q : is_half f d.name i.0 x ≡ false = false_from_ne_true (is_half f d.name i.0 x) (λ r. let s = (half-is f d.name i.0 x r).1 in
    no (sym (w i.0) ∙ (let t : was_put i.0 d.name h ≡ true = rw s i.1 in t))) in (
      i.0,
      or_right (is_half f d.name i.0 x) (was_put i.0 x h) i.1,
      (let t : is_among n (if is_half f d.name i.0 x then [] else numbers_taken i.0 x h) ≡ true = rw q i.2 in t),
    )

pub given : (gs : List Peer) (x : List ℕ) (n : ℕ) (h : List Act) → IsLawful gs h → was_given x n h ≡ true → WasGiven x n h
given gs x n [] l e = absurd (no e)
given gs x n (acts.Gave f y m q ∷ h) l e =
    or-split {A = WasGiven x n (acts.Gave f y m q ∷ h)} (bytes_eq y x && (m == n)) (was_given x n h)
    (given-new f y x m n q h (given-now gs f y m q h l.1 l.0)) (λ r. given-more f y x m n q h (given gs x n h l.1 r)) e
given gs x n (acts.Put f d ∷ h) l e = given-put f x n d h (λ g. put-once gs g f d h l.1 l.0.0 l.0.1) (given gs x n h l.1 e)
given gs x n (acts.Drop f why ∷ h) l e =
    let i = given gs x n h l.1 e in (
      i.0,
      i.1,
      among-if (bytes_eq f i.0 && is_opened why) n (numbers_taken i.0 x h)
          (with_number (numbers_taken i.0 x h) (arrival_number i.0 x (numbers_taken i.0 x h) h))
          (among-with n (numbers_taken i.0 x h) (arrival_number i.0 x (numbers_taken i.0 x h) h) i.2) i.2,
    )
given gs x n (a ∷ h) l e = given gs x n h l.1 e
