-- The associations left of a direction are an older one and the one put last; at most one is in progress, and that is the newest.
use Rattle.std.proofs.Common.{◌≡◌, ℕ, ◌+◌, ◌<◌, ◌≤◌, Bool, true, false, ◌==◌, not, ◌&&◌, ◌||◌, nat_lt, List, [], ◌∷◌, ◌++◌, ◌⊎◌, inl, inr, length, refl, sym, subst, ◌∙◌, ap, arith, if◌then◌else◌}
use Rattle.std.proofs.lemmas.Grind.{common_steps}
use Rattle.hist_controller.specs.Acts.{Way, Association, ControllerOrder, Read, Policy, PutIn, PutOut, RemoveIn, RemoveOut, PlacedCommand, ControllerAct, Opened, Cut, Answered, Heard, Ordered, Accepted, Refused}
use Rattle.hist_controller.specs.Past.{oldest, queue, serials, is_inbound_put, directions, is_made_by, PuttingIn, PuttingOut, RemovingIn, is_kind, is_answer_to, has_answer, is_ended, is_in_progress, inbound_put, left, last_if, newest_serial}
use Rattle.hist_controller.specs.Law.{first}
use Rattle.hist_controller.specs.Clauses.{Has, MayOrder, IsControllerPast, MayOrderInPut}
use Rattle.hist_controller.specs.Halves.{PlainAnswers}
use Rattle.hist_controller.specs.Left.{Ascend, listed, newest_left, older_left}
use Rattle.hist_controller.proofs.Serials.{has-more, has-filter, has-if, put-one, put-serial, low, one}
use Rattle.hist_controller.proofs.Everything.{no-in}
use Rattle.hist_controller.proofs.Few.{ascend, settled, one-left, left-by-id, few-left}
use Rattle.hist_controller.proofs.Waits.{waits}

-- ## none is in progress where a new one is put

progress-of : (e o : Bool) → o ≡ true → (not e && not o) ≡ false
progress-of true o t = refl
progress-of false o t = rw t refl

none-in-progress : (p : ℕ) (h : List ControllerAct) → IsControllerPast p h → (g : ℕ) (z : Association) → MayOrderInPut h g z → (d : Way)
    → (d.id == z.way.id) ≡ true → (x : Association) → Has x (left d h) → is_in_progress h x ≡ false
none-in-progress p h l g z m d t x i =
    let q : d.id ≡ z.way.id = grind arith in
    let s = settled p h l g z m x (subst (Has x) (left-by-id h d z.way q) i) in
    progress-of (is_ended x h) (has_answer PuttingOut x.serial h) s.1

-- ## the newest

record Newest (h : List ControllerAct) (d : Way) : Type 0 where
  pub high : (x : Association) → Has x (left d h) → x.serial ≤ newest_serial d h
  pub below : newest_serial d h ≤ serials h
  pub last : (x : Association) → Has x (left d h) → is_in_progress h x ≡ true → x.serial ≡ newest_serial d h

still : (b e o : Bool) → b ≡ false → (not (not b && e) && not (not b && o)) ≡ true → (not e && not o) ≡ true
still b e o t q = rw t at q

ended-less : (a e o : Bool) → (not (a || e) && not o) ≡ true → (not e && not o) ≡ true
ended-less true e o q = cc
ended-less false e o q = q

both-less : (a b e o : Bool) → (not (a || e) && not (b || o)) ≡ true → (not e && not o) ≡ true
both-less true b e o q = cc
both-less false true true o q = cc
both-less false true false o q = cc
both-less false false e o q = q

put-newest : (b : Bool) (z n : ℕ) → b ≡ true → (if b then z else n) ≡ z
put-newest b z n e = rw e refl

newest-of : (d : Way) (o : ControllerOrder) (x : Association) (n : ℕ) → Has x (inbound_put d o) → last_if d o n ≡ x.serial
newest-of d o x n i = let q = put-one d x o i in
    subst (λ z. last_if d z n ≡ x.serial) (sym q.0) (put-newest (d.id == x.way.id) x.serial n q.1)

newest-old : (h : List ControllerAct) (g : ℕ) (o : ControllerOrder) → MayOrder h g o → (d : Way) (m : ℕ) → m ≤ newest_serial d h
    → m ≤ serials h → m ≤ last_if d o (newest_serial d h)
newest-old h g Read m d n e f = e
newest-old h g (Policy l) m d n e f = e
newest-old h g (PutIn z) m d n e f = either (d.id == z.way.id)
  where
    either : (b : Bool) → n ≤ (if b then z.serial else newest_serial d h)
    either true = let q = m.serial in omega arith
    either false = e
newest-old h g (PutOut z) m d n e f = e
newest-old h g (RemoveIn k) m d n e f = e
newest-old h g (RemoveOut k) m d n e f = e

newest-below : (h : List ControllerAct) (g : ℕ) (o : ControllerOrder) → MayOrder h g o → (d : Way) → newest_serial d h ≤ serials h
    → last_if d o (newest_serial d h) ≤ (if is_inbound_put o then serials h + 1 else serials h)
newest-below h g Read m d e = e
newest-below h g (Policy l) m d e = e
newest-below h g (PutIn z) m d e = either (d.id == z.way.id)
  where
    either : (b : Bool) → (if b then z.serial else newest_serial d h) ≤ serials h + 1
    either true = let q = m.serial in omega arith
    either false = omega arith
newest-below h g (PutOut z) m d e = e
newest-below h g (RemoveIn k) m d e = e
newest-below h g (RemoveOut k) m d e = e

-- one in progress stays the newest
newest-last : (p : ℕ) (h : List ControllerAct) → IsControllerPast p h → (g : ℕ) (o : ControllerOrder) → MayOrder h g o
    → (d : Way) (x : Association) → Has x (left d h) → is_in_progress h x ≡ true → x.serial ≡ newest_serial d h
    → x.serial ≡ last_if d o (newest_serial d h)
newest-last p h l g Read m d x i t e = e
newest-last p h l g (Policy q) m d x i t e = e
newest-last p h l g (PutIn z) m d x i t e = either (d.id == z.way.id) refl
  where
    either : (b : Bool) → (d.id == z.way.id) ≡ b → x.serial ≡ (if b then z.serial else newest_serial d h)
    either true u = absurd (let v : true ≡ false = sym t ∙ none-in-progress p h l g z m d u x i in cc)
    either false u = e
newest-last p h l g (PutOut z) m d x i t e = e
newest-last p h l g (RemoveIn k) m d x i t e = e
newest-last p h l g (RemoveOut k) m d x i t e = e

newest-ordered : (p : ℕ) (h : List ControllerAct) (g s n : ℕ) (o : ControllerOrder) → IsControllerPast p h → MayOrder h g o → (d : Way)
    → Newest h d → Newest (Ordered g s n o ∷ h) d
newest-ordered p h g s n o l m d k =
    record {
      high = λ x i. high x (has-more x (left d h) (inbound_put d o) i);
      below = newest-below h g o m d k.below;
      last = λ x i. last x (has-more x (left d h) (inbound_put d o) i);
    }
  where
    high : (x : Association) → Has x (left d h) ⊎ Has x (inbound_put d o) → x.serial ≤ last_if d o (newest_serial d h)
    high x (inl i) = newest-old h g o m d x.serial (k.high x i) (low p h l d x i)
    high x (inr i) = let e = newest-of d o x (newest_serial d h) i in omega arith

    last : (x : Association) → Has x (left d h) ⊎ Has x (inbound_put d o) → is_in_progress (Ordered g s n o ∷ h) x ≡ true
        → x.serial ≡ last_if d o (newest_serial d h)
    last x (inl i) t =
        let t' = still (is_kind PuttingIn x.serial o) (is_ended x h) (has_answer PuttingOut x.serial h) (no-in h g o x m (low p h l d x i))
        t in
        newest-last p h l g o m d x i t' (k.last x i t')
    last x (inr i) t = sym (newest-of d o x (newest_serial d h) i)

newest-told : (p : ℕ) (h : List ControllerAct) (c : PlacedCommand) (d : Way) (b : Bool) → is_made_by c (length (directions h)) d ≡ b
    → Newest h d → Newest (Accepted c ∷ h) d
newest-told p h c d true e k =
    record {
      high = λ x i. let i' : Has x [] = rw e at i in absurd i';
      below = rw e (omega arith);
      last = λ x i t. let i' : Has x [] = rw e at i in absurd i';
    }
newest-told p h c d false e k =
    record {
      high = λ x i. rw e (k.high x (rw e at i));
      below = rw e k.below;
      last = λ x i t. rw e (k.last x (rw e at i) (ended-less _ (is_ended x h) (has_answer PuttingOut x.serial h) t));
    }

newest : (p : ℕ) (h : List ControllerAct) → IsControllerPast p h → (d : Way) → Newest h d
newest p [] l d = record { high = λ x i. absurd i; below = omega arith; last = λ x i t. absurd i }
newest p (Opened g s ∷ h) l d = let k = newest p h l.1 d in record { high = k.high; below = k.below; last = k.last }
newest p (Cut g s ∷ h) l d =
    let k = newest p h l.1 d in
    record { high = k.high; below = k.below; last = λ x i t. k.last x i (ended-less _ (is_ended x h) (has_answer PuttingOut x.serial h) t) }
newest p (Answered g s n a ∷ h) l d =
    let k = newest p h l.1 d in
    record {
      high = λ x i. k.high x (has-filter (λ y. not (is_answer_to RemovingIn y.serial (oldest (queue g h)))) x (left d h) i);
      below = k.below;
      last = λ x i t. k.last x (has-filter (λ y. not (is_answer_to RemovingIn y.serial (oldest (queue g h)))) x (left d h) i)
          (both-less _ _ (is_ended x h) (has_answer PuttingOut x.serial h) t);
    }
newest p (Heard g s t ∷ h) l d = let k = newest p h l.1 d in record { high = k.high; below = k.below; last = k.last }
newest p (Ordered g s n o ∷ h) l d = newest-ordered p h g s n o l.1 l.0.3 d (newest p h l.1 d)
newest p (Accepted c ∷ h) l d = newest-told p h c d (is_made_by c (length (directions h)) d) refl (newest p h l.1 d)
newest p (Refused w ∷ h) l d = let k = newest p h l.1 d in record { high = k.high; below = k.below; last = k.last }

pub newest-high : (p : ℕ) (h : List ControllerAct) → IsControllerPast p h → (d : Way)
    → ((x : Association) → Has x (left d h) → x.serial ≤ newest_serial d h) × (newest_serial d h ≤ serials h)
newest-high p h l d = let k = newest p h l d in (k.high, k.below)

pub progress-newest : (p : ℕ) (h : List ControllerAct) → IsControllerPast p h → (d : Way) (x : Association) → Has x (left d h)
    → is_in_progress h x ≡ true → x.serial ≡ newest_serial d h
progress-newest p h l d x i t = (newest p h l d).last x i t

pub progress-one : (p : ℕ) (h : List ControllerAct) → IsControllerPast p h → (d : Way) (x y : Association) → Has x (left d h)
    → Has y (left d h) → is_in_progress h x ≡ true → is_in_progress h y ≡ true → x ≡ y
progress-one p h l d x y i j t u = let k = newest p h l d in one p h l d d x y i j (k.last x i t ∙ sym (k.last y j u))

-- its serial is one that was given out
put-positive : (h : List ControllerAct) (g : ℕ) (o : ControllerOrder) (x : Association) → MayOrder h g o → o ≡ PutIn x → 1 ≤ x.serial
put-positive h g o x m e = let q = put-serial h g o x m e in omega arith

pub positive : (p : ℕ) (h : List ControllerAct) → IsControllerPast p h → (d : Way) (x : Association) → Has x (left d h) → 1 ≤ x.serial
positive p [] l d x i = absurd i
positive p (Opened g s ∷ h) l d x i = positive p h l.1 d x i
positive p (Cut g s ∷ h) l d x i = positive p h l.1 d x i
positive p (Answered g s n a ∷ h) l d x i =
    positive p h l.1 d x (has-filter (λ y. not (is_answer_to RemovingIn y.serial (oldest (queue g h)))) x (left d h) i)
positive p (Heard g s t ∷ h) l d x i = positive p h l.1 d x i
positive p (Ordered g s n o ∷ h) l d x i = elim (has-more x (left d h) (inbound_put d o) i) as (λ q. 1 ≤ x.serial)
    [ inl j ↦ positive p h l.1 d x j | inr j ↦ put-positive h g o x l.0.3 (put-one d x o j).0 ]
positive p (Accepted c ∷ h) l d x i = positive p h l.1 d x (has-if x _ (left d h) i).1
positive p (Refused w ∷ h) l d x i = positive p h l.1 d x i

pub left-serials : (p : ℕ) (h : List ControllerAct) → IsControllerPast p h → (d : Way) (x : Association) → Has x (left d h) → (1 ≤ x.serial)
    × (x.serial ≤ serials h)
left-serials p h l d x i = (positive p h l d x i, low p h l d x i)

-- ## an older one and the newest

short-one : (xs : List Association) → length xs ≤ 1 → (x y : Association) → Has x xs → Has y xs → x ≡ y
short-one [] e x y i j = absurd i
short-one (z ∷ []) e x y (inl i) (inl j) = i ∙ sym j
short-one (z ∷ []) e x y (inl i) (inr j) = absurd j
short-one (z ∷ []) e x y (inr i) j = absurd i
short-one (z ∷ w ∷ xs) e x y i j = absurd (grind arith)

abbrev OneOlder : List ControllerAct → Way → Type 0
OneOlder h d = (x y : Association) → Has x (left d h) → Has y (left d h) → x.serial < newest_serial d h → y.serial < newest_serial d h
    → x ≡ y

older-ordered : (p : ℕ) (h : List ControllerAct) (g s n : ℕ) (o : ControllerOrder) → IsControllerPast p h → PlainAnswers h → MayOrder h g o
    → (d : Way) → OneOlder h d → OneOlder (Ordered g s n o ∷ h) d
older-ordered p h g s n o l a m d k x y i j e f =
    both (has-more x (left d h) (inbound_put d o) i) (has-more y (left d h) (inbound_put d o) j)
  where
    new : (x : Association) → Has x (inbound_put d o) → x.serial < last_if d o (newest_serial d h) → ⊥
    new x i e = let q = newest-of d o x (newest_serial d h) i in absurd (omega arith)

    old : (o : ControllerOrder) → MayOrder h g o → Has x (left d h) → Has y (left d h) → x.serial < last_if d o (newest_serial d h)
        → y.serial < last_if d o (newest_serial d h) → x ≡ y
    old Read m i j e f = k x y i j e f
    old (Policy q) m i j e f = k x y i j e f
    old (PutIn z) m i j e f = either (d.id == z.way.id) refl e f
      where
        either : (b : Bool) → (d.id == z.way.id) ≡ b → x.serial < (if b then z.serial else newest_serial d h)
            → y.serial < (if b then z.serial else newest_serial d h) → x ≡ y
        either true u e f =
            let q : d.id ≡ z.way.id = grind arith in
            let w = left-by-id h d z.way q in
            short-one (left z.way h) (one-left p h l (waits p h l a) g z m) x y (subst (Has x) w i) (subst (Has y) w j)
        either false u e f = k x y i j e f
    old (PutOut z) m i j e f = k x y i j e f
    old (RemoveIn q) m i j e f = k x y i j e f
    old (RemoveOut q) m i j e f = k x y i j e f

    both : Has x (left d h) ⊎ Has x (inbound_put d o) → Has y (left d h) ⊎ Has y (inbound_put d o) → x ≡ y
    both (inl i) (inl j) = old o m i j e f
    both (inl i) (inr j) = absurd (new y j f)
    both (inr i) j = absurd (new x i e)

older-told : (h : List ControllerAct) (c : PlacedCommand) (d : Way) (b : Bool) → is_made_by c (length (directions h)) d ≡ b → OneOlder h d
    → OneOlder (Accepted c ∷ h) d
older-told h c d true e k x y i j u v = let i' : Has x [] = rw e at i in absurd i'
older-told h c d false e k x y i j u v = k x y (rw e at i) (rw e at j) (rw e at u) (rw e at v)

one-older : (p : ℕ) (h : List ControllerAct) → IsControllerPast p h → PlainAnswers h → (d : Way) → OneOlder h d
one-older p [] l a d x y i j u v = absurd i
one-older p (Opened g s ∷ h) l a d x y i j u v = one-older p h l.1 a d x y i j u v
one-older p (Cut g s ∷ h) l a d x y i j u v = one-older p h l.1 a d x y i j u v
one-older p (Answered g s n z ∷ h) l a d x y i j u v =
    one-older p h l.1 a.1 d x y
    (has-filter (λ y. not (is_answer_to RemovingIn y.serial (oldest (queue g h)))) x (left d h) i)
    (has-filter (λ y. not (is_answer_to RemovingIn y.serial (oldest (queue g h)))) y (left d h) j)
    u v
one-older p (Heard g s t ∷ h) l a d x y i j u v = one-older p h l.1 a d x y i j u v
one-older p (Ordered g s n o ∷ h) l a d x y i j u v = older-ordered p h g s n o l.1 a l.0.3 d (one-older p h l.1 a d) x y i j u v
one-older p (Accepted c ∷ h) l a d x y i j u v = older-told h c d (is_made_by c (length (directions h)) d) refl (one-older p h l.1 a d) x y
    i j u v
one-older p (Refused w ∷ h) l a d x y i j u v = one-older p h l.1 a d x y i j u v

same-number : (m n : ℕ) → (m == n) ≡ true → nat_lt m n ≡ false
same-number m n e = grind (arith, common_steps)

other-number : (m n : ℕ) → m ≤ n → (m == n) ≡ false → nat_lt m n ≡ true
other-number m n e t = grind (arith, common_steps)

two-split : (n : ℕ) (xs : List Association) → Ascend xs → length xs ≤ 2 → ((x : Association) → Has x xs → x.serial ≤ n)
    → ((x y : Association) → Has x xs → Has y xs → x.serial < n → y.serial < n → x ≡ y) → xs ≡ listed (first (λ x. nat_lt x.serial n) xs)
    ++ listed (first (λ x. x.serial == n) xs)
two-split n [] c e f k = refl
two-split n (x ∷ []) c e f k = either (x.serial == n) refl
  where
    either : (b : Bool) → (x.serial == n) ≡ b → (x ∷ []) ≡ listed (first (λ x. nat_lt x.serial n) (x ∷ []))
        ++ listed (first (λ x. x.serial == n) (x ∷ []))
    either true t = rw (t, same-number x.serial n t) refl
    either false t = rw (t, other-number x.serial n (f x (inl refl)) t) refl
two-split n (x ∷ y ∷ []) c e f k =
    let a : x.serial < y.serial = c.0 y (inl refl) in
    let b : y.serial ≤ n = f y (inr (inl refl)) in
    let s : (x.serial == n) ≡ false = grind arith in
    let t = last (y.serial == n) refl a b in
    rw (s, t, other-number x.serial n (omega arith) s) refl
  where
    last : (b : Bool) → (y.serial == n) ≡ b → x.serial < y.serial → y.serial ≤ n → (y.serial == n) ≡ true
    last true t a b = t
    last false t a b =
        let u : y.serial < n = grind arith in
        let w = k x y (inl refl) (inr (inl refl)) (omega arith) u in
        let v = ap (λ (z : Association). z.serial) w in
        absurd (omega arith)
two-split n (x ∷ y ∷ z ∷ xs) c e f k = absurd (grind arith)

pub older-newest : (p : ℕ) (h : List ControllerAct) → IsControllerPast p h → PlainAnswers h → (d : Way) → left d h ≡ listed (older_left d h)
    ++ listed (newest_left d h)
older-newest p h l a d = two-split (newest_serial d h) (left d h) (ascend p h l d) (few-left p h l a d) (newest p h l d).high
    (one-older p h l a d)

pub one-at-put : (p : ℕ) (h : List ControllerAct) → IsControllerPast p h → PlainAnswers h → (g : ℕ) (x : Association) → MayOrderInPut h g x
    → length (left x.way h) ≤ 1
one-at-put p h l a g x m = one-left p h l (waits p h l a) g x m
