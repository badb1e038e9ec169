-- The numbers under one half: each was sent once, and what was taken was sent.
use Rattle.std.proofs.Common.{◌≡◌, ℕ, ◌+◌, ◌≤◌, Bool, true, false, ◌==◌, ◌&&◌, ◌||◌, List, [], ◌∷◌, ◌++◌, Option, Some, None, ◌⊎◌, inl, inr, refl, sym, ◌∙◌, ap, subst, arith, if◌then◌else◌}
use Rattle.std.proofs.lemmas.Bool.{or_right, or_left}
use Rattle.std.specs.Str.{bytes_eq}
use Rattle.ip_packet.specs.Field.{next_header}
use Rattle.ikeless_tree.specs.declared.sad.SadEntry.{SadEntry}
use Rattle.ikeless_tree.specs.declared.command.Peer.{Peer}
use Rattle.ikeless_tree.specs.declared.drops.DropWhy.{DropWhy}
use Rattle.esp_frame.specs.Esp.{seq_of, spi_of}
use Rattle.replay_win.specs.Marks.{greatest, is_among}
use Rattle.ikeless_tree.specs.Half.{other_half}
use Rattle.hist_acts.specs.declared.act.Act.{Act}
use Rattle.hist_acts.specs.declared.act.Act.TheVariants as acts
use Rattle.hist_halves.specs.Sealed.{by_spi, esp_of, is_opened, number_of}
use Rattle.hist_halves.specs.Halves.{arrival_number, is_half, is_sealed, live, number_for, number_if, put_of, sent, numbers_taken, was_put, with_number}
use Rattle.hist_safety.specs.Orders.{site}
use Rattle.hist_safety.specs.Carried.{ComesTo, is_let, keying_of, was_sent}
use Rattle.hist_safety.specs.Kept.{NumberSent}
use Rattle.hist_safety.specs.Law.{IsLawful, DropMayHappen, GiveMayHappen, SendMayHappen}
use Rattle.hist_safety.proofs.Basics.{both-left, both-right, eq-nat, half-is, if-old, more, name-is, no, or-split, some-is}
use Rattle.hist_safety.proofs.Once.{put-once}
use Rattle.hist_safety.proofs.Keys.{not-now}
use Rattle.hist_safety.proofs.Frames.{esp-seq, number-field}
use Rattle.hist_safety.proofs.Carried.{carried, sealed-sent}
use Rattle.hist_safety.proofs.Window.{gave-safe}

-- ---- a number is sent once
abbrev SentUnder : List ℕ → List ℕ → ℕ → List Act → Type 0
SentUnder g x n h = (e : SadEntry) × (put_of g x h ≡ Some e) × (n ≤ sent g x h)

abbrev This : List ℕ → List ℕ → ℕ → List ℕ → List ℕ → List ℕ → ℕ → List ℕ → List ℕ → List Act → Type 0
This f y m o g x n b p h = (f ≡ g) × (y ≡ x) × (m ≡ n) × (esp_of o ≡ b) × (is_let f p h ≡ true)

this-is : (f y : List ℕ) (m : ℕ) (o g x : List ℕ) (n : ℕ) (b p : List ℕ) (h : List Act)
    → (is_half f y g x && (m == n) && bytes_eq (esp_of o) b && is_let f p h) ≡ true → This f y m o g x n b p h
this-is f y m o g x n b p h e =
    let k = both-left (is_half f y g x && (m == n) && bytes_eq (esp_of o) b) (is_let f p h) e in
    let j = both-left (is_half f y g x && (m == n)) (bytes_eq (esp_of o) b) k in
    let i = half-is f y g x (both-left (is_half f y g x) (m == n) j) in (
      i.0,
      i.1,
      eq-nat m n (both-right (is_half f y g x) (m == n) j),
      name-is (esp_of o) b
          (both-right (is_half f y g x && (m == n)) (bytes_eq (esp_of o) b) k),
      both-right (is_half f y g x && (m == n)
          && bytes_eq (esp_of o) b) (is_let f p h) e,
    )

count-now : (f y : List ℕ) (m : ℕ) (o : List ℕ) (h : List Act) → SendMayHappen f y m o h → (e : SadEntry) × (put_of f y h ≡ Some e)
    × (m ≡ sent f y h + 1)
count-now f y m o (acts.Let g p ∷ h) s = let r = s.1 in (r.half, r.put, r.number)
count-now f y m o [] s = absurd s
count-now f y m o (a ∷ h) s = absurd s

under-new : (f y : List ℕ) (m : ℕ) (o : List ℕ) (h : List Act) → SendMayHappen f y m o h → (b : Bool) → b ≡ true → (e : SadEntry)
    × (put_of f y h ≡ Some e) × (m ≤ (if b then sent f y h + 1 else sent f y h))
under-new f y m o h s true q = let c = count-now f y m o h s in (c.0, c.1, (let r = c.2 in omega (arith, r)))
under-new f y m o h s false q = absurd (no q)

under-this : (f y : List ℕ) (m : ℕ) (o g x : List ℕ) (n : ℕ) (h : List Act) → SendMayHappen f y m o h → f ≡ g → y ≡ x → m ≡ n
    → is_half f y g x ≡ true → SentUnder g x n (acts.Sent f y m o ∷ h)
under-this f y m o g x n h s p q r e =
    let one = under-new f y m o h s (is_half f y g x) e in (
      one.0,
      subst (λ z. put_of z x h ≡ Some one.0) p (subst (λ z. put_of f z h ≡ Some one.0) q one.1),
      subst (λ z. z ≤ (if is_half f y g x then sent g x h + 1 else sent g x h)) r
          (subst (λ z. m ≤ (if is_half f y g x then sent z x h + 1 else sent z x h)) p
          (subst (λ z. m ≤ (if is_half f y g x then sent f z h + 1 else sent f z h)) q one.2)),
    )

under-put : (gs : List Peer) (f g x : List ℕ) (n : ℕ) (d : SadEntry) (h : List Act) → was_put g d.name h ≡ false → SentUnder g x n h
    → SentUnder g x n (acts.Put f d ∷ h)
under-put gs f g x n d h w u =
    let q = not-now gs g f x d u.0 h w u.1 in
    let s : n ≤ (if is_half f d.name g x then 0 else sent g x h) = rw q u.2 in
    (u.0, if-old (is_half f d.name g x) (Some d) (put_of g x h) q ∙ u.1, s)

sent-under : (gs : List Peer) (g x : List ℕ) (n : ℕ) (b p : List ℕ) (h : List Act) → IsLawful gs h → was_sent g x n b p h ≡ true
    → SentUnder g x n h
sent-under gs g x n b p [] l e = absurd (no e)
sent-under gs g x n b p (acts.Sent f y m o ∷ h) l e =
    or-split {A = SentUnder g x n (acts.Sent f y m o ∷ h)} (is_half f y g x && (m == n) && bytes_eq (esp_of o) b && is_let f p h)
    (was_sent g x n b p h)
    (λ q. let t = this-is f y m o g x n b p h q in
    under-this f y m o g x n h l.0 t.0 t.1 t.2
    (both-left (is_half f y g x) (m == n) (both-left (is_half f y g x && (m == n)) (bytes_eq (esp_of o) b)
    (both-left (is_half f y g x && (m == n) && bytes_eq (esp_of o) b) (is_let f p h) q))))
    (λ q. let u = sent-under gs g x n b p h l.1 q in (u.0, u.1, more (is_half f y g x) n (sent g x h) u.2)) e
sent-under gs g x n b p (acts.Put f d ∷ h) l e = under-put gs f g x n d h (put-once gs g f d h l.1 l.0.0 l.0.1)
    (sent-under gs g x n b p h l.1 e)
sent-under gs g x n b p (a ∷ h) l e = sent-under gs g x n b p h l.1 e

let-one : (f p q : List ℕ) (h : List Act) → is_let f p h ≡ true → is_let f q h ≡ true → p ≡ q
let-one f p q (acts.Let g r ∷ h) a b = sym (name-is r p (both-right (bytes_eq g f) (bytes_eq r p) a))
    ∙ name-is r q (both-right (bytes_eq g f) (bytes_eq r q) b)
let-one f p q [] a b = absurd (no a)
let-one f p q (c ∷ h) a b = absurd (no a)

not-older : (gs : List Peer) (f y : List ℕ) (m : ℕ) (o g x : List ℕ) (n : ℕ) (b p c q : List ℕ) (h : List Act) → IsLawful gs h
    → SendMayHappen f y m o h → This f y m o g x n b p h → was_sent g x n c q h ≡ true → ⊥
not-older gs f y m o g x n b p c q h l s t w =
    let u = (sent-under gs g x n c q h l w).2 in
    let k = (count-now f y m o h s).2 in
    let j : m ≡ sent g x h + 1 = subst (λ z. m ≡ sent z x h + 1) t.0 (subst (λ z. m ≡ sent f z h + 1) t.1 k) in
    let i = t.2 in
    omega (arith, u, j, i)

abbrev pub OneSent : List ℕ → List ℕ → List ℕ → List ℕ → Type 0
OneSent b c p q = (b ≡ c) × (p ≡ q)

one-sent-here : (gs : List Peer) (g x : List ℕ) (n : ℕ) (b c p q : List ℕ) (h : List Act) → IsLawful gs h → was_sent g x n b p h ≡ true
    → was_sent g x n c q h ≡ true → OneSent b c p q
one-sent-here gs g x n b c p q [] l u v = absurd (no u)
one-sent-here gs g x n b c p q (acts.Sent f y m o ∷ h) l u v =
    or-split {A = OneSent b c p q} (is_half f y g x && (m == n) && bytes_eq (esp_of o) b && is_let f p h) (was_sent g x n b p h)
    (λ i.
    let s = this-is f y m o g x n b p h i in
    or-split {A = OneSent b c p q} (is_half f y g x && (m == n) && bytes_eq (esp_of o) c && is_let f q h) (was_sent g x n c q h)
    (λ j. let t = this-is f y m o g x n c q h j in (sym s.3 ∙ t.3, let-one f p q h s.4 t.4))
    (λ j. absurd (not-older gs f y m o g x n b p c q h l.1 l.0 s j)) v)
    (λ i.
    or-split {A = OneSent b c p q} (is_half f y g x && (m == n) && bytes_eq (esp_of o) c && is_let f q h) (was_sent g x n c q h)
    (λ j. let t = this-is f y m o g x n c q h j in absurd (not-older gs f y m o g x n c q b p h l.1 l.0 t i))
    (λ j. one-sent-here gs g x n b c p q h l.1 i j) v) u
one-sent-here gs g x n b c p q (a ∷ h) l u v = one-sent-here gs g x n b c p q h l.1 u v

pub one-sent : (gs : List Peer) (g f x : List ℕ) (n : ℕ) (b c p q : List ℕ) (h : List Act) → IsLawful gs h → was_sent g x n b p h ≡ true
    → was_sent f x n c q h ≡ true → (g ≡ f) × (b ≡ c) × (p ≡ q)
one-sent gs g f x n b c p q h l u v =
    let s : g ≡ f = sym (carried gs g x n b p h l u).3 ∙ (carried gs f x n c q h l v).3 in
    let o = one-sent-here gs g x n b c p q h l u (subst (λ z. was_sent z x n c q h ≡ true) (sym s) v) in
    (s, o.0, o.1)

-- ---- what was taken was sent
among-split : (n m : ℕ) (xs : List ℕ) → is_among n (xs ++ m ∷ []) ≡ true → (is_among n xs ≡ true) ⊎ (m ≡ n)
among-split n m [] e = or-split {A = (false ≡ true) ⊎ (m ≡ n)} (n == m) false (λ q. inr (sym (eq-nat n m q))) (λ q. inl q) e
among-split n m (x ∷ xs) e =
    or-split {A = (((n == x) || is_among n xs) ≡ true) ⊎ (m ≡ n)} (n == x) (is_among n (xs ++ m ∷ []))
    (λ q. inl (or_left (n == x) (is_among n xs) q))
    (λ q. elim (among-split n m xs q) as (λ z. (((n == x) || is_among n xs) ≡ true) ⊎ (m ≡ n))
    [ inl r ↦ inl (or_right (n == x) (is_among n xs) r) | inr r ↦ inr r ]) e

with-split : (n : ℕ) (xs : List ℕ) (o : Option ℕ) → is_among n (with_number xs o) ≡ true → (is_among n xs ≡ true) ⊎ (o ≡ Some n)
with-split n xs None e = inl e
with-split n xs (Some m) e = elim (among-split n m xs e) as (λ z. (is_among n xs ≡ true) ⊎ (Some m ≡ Some n))
    [ inl r ↦ inl r | inr r ↦ inr (ap (λ (z : ℕ). Some z) r) ]

if-split : {A : Type 0} (b : Bool) (n : ℕ) (xs ys : List ℕ) → (b ≡ true → is_among n ys ≡ true → A) → (is_among n xs ≡ true → A)
    → is_among n (if b then ys else xs) ≡ true → A
if-split true n xs ys new old e = new refl e
if-split false n xs ys new old e = old e

none-among : {A : Type 0} (n : ℕ) → is_among n [] ≡ true → A
none-among n e = absurd (no e)

number-is : (b : Bool) (k n : ℕ) → (if b then Some k else None) ≡ Some n → (b ≡ true) × (k ≡ n)
number-is true k n e = (refl, some-is k n e)
number-is false k n e = absurd (grind arith)

arrival-is : (g x f o : List ℕ) (numbers : List ℕ) (half : SadEntry) (n : ℕ) (h : List Act)
    → by_spi (spi_of (esp_of o)) (live g h) ≡ Some half → (b : Bool) →
    (if b then number_for x (greatest numbers) (live g h) (esp_of o) else None) ≡ Some n → (half.name ≡ x) × (seq_of (esp_of o) ≡ n)
arrival-is g x f o numbers half n h q true e =
    let r : (if bytes_eq half.name x then Some (number_of half numbers (esp_of o)) else None) ≡ Some n =
    sym (ap (number_if x (greatest numbers) (esp_of o)) q) ∙ e in
    let s = number-is (bytes_eq half.name x) (number_of half numbers (esp_of o)) n r in
    (name-is half.name x s.0, sym (number-field half (greatest numbers) (esp_of o)) ∙ s.1)
arrival-is g x f o numbers half n h q false e = absurd (grind arith)

number-of-sent : (gs : List Peer) (x b : List ℕ) (n : ℕ) (h : List Act) → IsLawful gs h → is_sealed x b h ≡ true → seq_of b ≡ n
    → NumberSent x n h
number-of-sent gs x b n h l s e =
    let w = sealed-sent gs x b h l s in
    let c = carried gs w.0 x w.1 b w.2 h l w.3 in
    let k : w.1 ≡ n = sym (ap (λ (z : List ℕ). seq_of z) c.6 ∙ esp-seq (keying_of c.0) w.1 (next_header w.2) w.2 c.5) ∙ e in
    (w.0, b, w.2, subst (λ z. was_sent w.0 x z b w.2 h ≡ true) k w.3)

drop-sent : (gs : List Peer) (f : List ℕ) (why : DropWhy) (g x : List ℕ) (n : ℕ) (h : List Act) → IsLawful gs h → DropMayHappen gs f why h
    → f ≡ g → is_opened why ≡ true → arrival_number g x (numbers_taken g x h) h ≡ Some n → NumberSent (other_half x) n h
drop-sent gs f why g x n (acts.Arrived y o ∷ h) l m p q e =
    let d = m.3 q in
    let c : ComesTo gs f o d.0 h = d.2 in
    let found : by_spi (spi_of (esp_of o)) (live g h) ≡ Some d.0 = subst (λ z. by_spi (spi_of (esp_of o)) (live z h) ≡ Some d.0) p c.found
    in
    let a = arrival-is g x y o (numbers_taken g x h) d.0 n h found (bytes_eq y g) e in
    let s = m.1 d.0 d.1 c d.3 in
    let t : is_sealed (other_half x) (esp_of o) h ≡ true = subst (λ z. is_sealed (other_half z) (esp_of o) h ≡ true) a.0 s in
    number-of-sent gs (other_half x) (esp_of o) n h l.1 t a.1
drop-sent gs f why g x n (acts.Let y o ∷ h) l m p q e = absurd (grind arith)
drop-sent gs f why g x n [] l m p q e = absurd m
drop-sent gs f why g x n (a ∷ h) l m p q e = absurd m

gave-sent : (gs : List Peer) (f y : List ℕ) (m : ℕ) (q : List ℕ) (g x : List ℕ) (n : ℕ) (h : List Act) → IsLawful gs h
    → GiveMayHappen gs f y m q h → is_half f y g x ≡ true → m ≡ n → NumberSent (other_half x) n h
gave-sent gs f y m q g x n h l s b e =
    let w = gave-safe gs f y m q h l s in
    let k = (half-is f y g x b).1 in
    let one : NumberSent (other_half y) m h = (site (other_half y) h, w.octets, q, w.before) in
    subst (λ z. NumberSent (other_half x) z h) e (subst (λ z. NumberSent (other_half z) m h) k one)

sent-more : (f y : List ℕ) (m : ℕ) (o x : List ℕ) (n : ℕ) (h : List Act) → NumberSent x n h → NumberSent x n (acts.Sent f y m o ∷ h)
sent-more f y m o x n h s = (
  s.0,
  s.1,
  s.2,
  or_right (is_half f y s.0 x && (m == n) && bytes_eq (esp_of o) s.1 && is_let f s.2 h)
      (was_sent s.0 x n s.1 s.2 h) s.3,
)

pub taken-sent : (gs : List Peer) (g x : List ℕ) (n : ℕ) (h : List Act) → IsLawful gs h → is_among n (numbers_taken g x h) ≡ true
    → NumberSent (other_half x) n h
taken-sent gs g x n [] l e = absurd (no e)
taken-sent gs g x n (acts.Put f d ∷ h) l e = if-split {A = NumberSent (other_half x) n h} (is_half f d.name g x) n (numbers_taken g x h) []
    (λ q r. none-among n r) (taken-sent gs g x n h l.1) e
taken-sent gs g x n (acts.Gave f y m p ∷ h) l e =
    if-split {A = NumberSent (other_half x) n h} (is_half f y g x) n (numbers_taken g x h) (numbers_taken g x h ++ m ∷ [])
    (λ q r. elim (among-split n m (numbers_taken g x h) r) as (λ z. NumberSent (other_half x) n h)
    [ inl s ↦ taken-sent gs g x n h l.1 s | inr s ↦ gave-sent gs f y m p g x n h l.1 l.0 q s ])
    (taken-sent gs g x n h l.1) e
taken-sent gs g x n (acts.Drop f why ∷ h) l e =
    if-split {A = NumberSent (other_half x) n h} (bytes_eq f g && is_opened why) n (numbers_taken g x h)
    (with_number (numbers_taken g x h) (arrival_number g x (numbers_taken g x h) h))
    (λ q r. elim (with-split n (numbers_taken g x h) (arrival_number g x (numbers_taken g x h) h) r) as (λ z. NumberSent (other_half x) n h) [
      | inl s ↦ taken-sent gs g x n h l.1 s
      | inr s ↦ drop-sent gs f why g x n h l.1 l.0 (name-is f g (both-left (bytes_eq f g) (is_opened why) q))
          (both-right (bytes_eq f g) (is_opened why) q) s
    ])
    (taken-sent gs g x n h l.1) e
taken-sent gs g x n (acts.Sent f y m o ∷ h) l e = sent-more f y m o (other_half x) n h (taken-sent gs g x n h l.1 e)
taken-sent gs g x n (a ∷ h) l e = taken-sent gs g x n h l.1 e
