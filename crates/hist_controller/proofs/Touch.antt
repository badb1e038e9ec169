-- An act leaves the next order of each direction that it doesn't touch as it is.
use Rattle.std.proofs.Common.{◌≡◌, ℕ, Bool, true, false, ◌==◌, not, ◌&&◌, ◌||◌, nat_le, nat_lt, List, [], ◌∷◌, ◌++◌, Option, Some, None, ◌⊎◌, inl, inr, length, refl, sym, ◌∙◌, ap, arith, if◌then◌else◌, append-nil}
use Rattle.std.specs.List.{filter, list_any}
use Rattle.ikeless_tree.specs.declared.order.Answer.{Answer}
use Rattle.ikeless_tree.specs.declared.order.Notice.{Notice}
use Rattle.ikeless_tree.specs.declared.order.Notice.TheVariants as notices
use Rattle.hist_controller.specs.Acts.{Way, Association, ControllerOrder, Read, Policy, PutIn, PutOut, RemoveIn, RemoveOut, PlacedCommand, SetPolicy, Tunnel, End, Rekey, Keys, ControllerAct, Opened, Cut, Answered, Heard, Ordered, Accepted, Refused}
use Rattle.hist_controller.specs.Past.{is_open, oldest, queue, is_first_answered, spare, keys_after, key_of, directions, is_made_by, is_end_of, Kind, PuttingIn, PuttingOut, RemovingIn, RemovingOut, is_kind, is_answer_to, is_out_ordered, has_answer, is_spoiled, is_ended, inbound_put, left, is_own, is_busy, is_renewal, is_unseen, is_cause_reading, is_cause_notice, is_put_of, is_inbound_put_of, is_wanted}
use Rattle.hist_controller.specs.Law.{give}
use Rattle.hist_controller.specs.State.{gateway_of, way_of}
use Rattle.hist_controller.specs.Clauses.{Has, MayOrder, IsControllerPast}
use Rattle.hist_controller.specs.Own.{place_of}
use Rattle.hist_controller.specs.Touch.{NextOrder, Nothing, RemovesOut, RemovesIn, PutsOut, PutsNew, next_order, with_key, acts_for, is_of_way, does_command_touch, does_touch, does_bring_key, did_way}
use Rattle.hist_controller.proofs.Bools.{and-no}
use Rattle.hist_controller.proofs.KeptState.{way-told, way-cut, way-answered, way-heard, way-ordered}
use Rattle.hist_controller.proofs.Serials.{of-way, low, one, one-way}
use Rattle.hist_controller.proofs.Removed.{neither}
use Rattle.hist_controller.proofs.Befores.{is-not}
use Rattle.hist_controller.proofs.Everything.{no-in}
use Rattle.hist_controller.proofs.Turns.{used-none}
use Rattle.hist_controller.proofs.Homes.{own-way}
use Rattle.hist_controller.proofs.Waits.{shut-queue, oldest-has}
use Rattle.hist_controller.proofs.Owners.{kept, found, at-one, kind-half, kind-serial, same-id, equal}
use Rattle.hist_controller.proofs.OwnOrders.{any-one}
use Rattle.hist_controller.proofs.Own.{each-owned, own-waits, old-made}
use Rattle.hist_controller.proofs.NextOrders.{gives-next, SamePart, same-next}

-- ## acts at another gateway

other-gateway : (d : Way) (g : ℕ) → is_of_way d g ≡ false → ((d.sender == g) ≡ false) × ((d.receiver == g) ≡ false)
other-gateway d g e = neither (d.sender == g) (d.receiver == g) e

not-at : (d : Way) (g : ℕ) → is_of_way d g ≡ false → (g ≡ d.sender) ⊎ (g ≡ d.receiver) → ⊥
not-at d g e (inl q) = let w = other-gateway d g e in let u : (d.sender == g) ≡ true = grind arith in let v : true ≡ false = sym u ∙ w.0 in
    cc
not-at d g e (inr q) = let w = other-gateway d g e in let u : (d.receiver == g) ≡ true = grind arith in
    let v : true ≡ false = sym u ∙ w.1 in cc

same-if : {A : Type 0} (b : Bool) (x y : A) → b ≡ false → (if b then x else y) ≡ y
same-if b x y e = rw e refl

-- no order of an association left waits there
none-there : (p : ℕ) (h : List ControllerAct) → IsControllerPast p h → (d : Way) → Has d (directions h) → (g : ℕ) → is_of_way d g ≡ false
    → (o : ControllerOrder) → Has o (queue g h) → is_own d (left d h) o ≡ false
none-there p h l d i g e o j = is-not (is_own d (left d h) o) (λ t. let w = own-waits p h l d i g o j t in not-at d g e (at-one d o g w.at))

none-of : (p : ℕ) (h : List ControllerAct) → IsControllerPast p h → (d : Way) → Has d (directions h) → (g : ℕ) → is_of_way d g ≡ false
    → (x : Association) → Has x (left d h) → (k : Kind) (o : ControllerOrder) → Has o (queue g h) → is_kind k x.serial o ≡ false
none-of p h l d i g e x j k o q = is-not (is_kind k x.serial o) (λ t.
    let w = each-owned p h l g o q (kind-half k x.serial o t) in
    let s = kind-serial k x.serial o w.waits.association t w.waits.of in
    let y : w.waits.association ≡ x = one p h l w.way d w.waits.association x w.waits.left j (sym s) in
    let a = of-way h w.way w.waits.association w.waits.left in
    let a' : (w.way.id == x.way.id) ≡ true = ap (λ (z : Association). w.way.id == z.way.id) (sym y) ∙ a in
    let b = of-way h d x j in
    let v : w.way ≡ d = one-way h w.way d w.of i (same-id w.way.id d.id x.way.id a' b) in
    let at : g ≡ place_of d o = w.waits.at ∙ ap (λ z. place_of z o) v in
    not-at d g e (at-one d o g at))

put-own : (d : Way) (xs : List Association) (o : ControllerOrder) → is_own d xs o ≡ false → is_put_of d o ≡ false
put-own d xs Read e = refl
put-own d xs (Policy l) e = refl
put-own d xs (PutIn y) e = e
put-own d xs (PutOut y) e = e
put-own d xs (RemoveIn n) e = refl
put-own d xs (RemoveOut n) e = refl

any-none : {A : Type 0} (p : A → Bool) (xs : List A) → ((x : A) → Has x xs → p x ≡ false) → list_any p xs ≡ false
any-none p [] f = refl
any-none p (x ∷ xs) f = rw (f x (inl refl)) (any-none p xs (λ y i. f y (inr i)))

-- ## a cut

cut-part : (p : ℕ) (h : List ControllerAct) → IsControllerPast p h → (d : Way) → Has d (directions h) → (g s : ℕ) → is_of_way d g ≡ false
    → SamePart h (Cut g s ∷ h) d
cut-part p h l d i g s e =
    let w = other-gateway d g e in
    let w0 = w.0 in
    let w1 = w.1 in
    let c = any-none (is_put_of d) (queue g h) (λ o j. put-own d (left d h) o (none-there p h l d i g e o j)) in
    record {
      busy = rw (w0, w1) refl;
      each = λ x j.
          let b = any-none (λ o. is_kind PuttingIn x.serial o || is_kind PuttingOut x.serial o) (queue g h)
          (λ o q. rw (none-of p h l d i g e x j PuttingIn o q, none-of p h l d i g e x j PuttingOut o q) refl) in
          ap (λ t. kept x (has_answer PuttingIn x.serial h) (is_out_ordered x.serial h) (has_answer PuttingOut x.serial h)
          (has_answer RemovingOut x.serial h) (t || is_ended x h)) b;
      left = refl;
      sender = rw w0 refl;
      receiver = rw w1 refl;
      wanted = ap (λ t. t || is_wanted d h) c;
      over = refl;
    }

-- ## an answer

filter-all : (p : Association → Bool) (xs : List Association) → ((x : Association) → Has x xs → p x ≡ true) → filter p xs ≡ xs
filter-all p [] f = refl
filter-all p (x ∷ xs) f = rw (f x (inl refl)) (ap (λ t. x ∷ t) (filter-all p xs (λ y i. f y (inr i))))

no-answer : (p : ℕ) (h : List ControllerAct) → IsControllerPast p h → (d : Way) → Has d (directions h) → (g : ℕ) → is_of_way d g ≡ false
    → (x : Association) → Has x (left d h) → (k : Kind) → is_answer_to k x.serial (oldest (queue g h)) ≡ false
no-answer p h l d i g e x j k = at (oldest (queue g h)) refl
  where
    at : (q : Option ControllerOrder) → oldest (queue g h) ≡ q → is_answer_to k x.serial q ≡ false
    at None t = refl
    at (Some o) t = none-of p h l d i g e x j k o (oldest-has (queue g h) o t)

first-no : (a b c d : Bool) → a ≡ false → (a && b && c && d) ≡ false
first-no a b c d e = rw e refl

both-no : (a b c d e : Bool) → a ≡ false → c ≡ false → ((a && b) || (c && d && e)) ≡ false
both-no a b c d e p q = rw (p, q) refl

not-spoiled : (p : ℕ) (h : List ControllerAct) → IsControllerPast p h → (d : Way) → Has d (directions h) → (g : ℕ) → is_of_way d g ≡ false
    → (x : Association) → Has x (left d h) → (a : Answer) (done sent : Bool) → is_spoiled x g (oldest (queue g h)) a done sent ≡ false
not-spoiled p h l d i g e x j a done sent = at (oldest (queue g h)) refl
  where
    receiver : (x.way.receiver == g) ≡ false
    receiver = ap (λ (y : Way). y.receiver == g) (sym (own-way p h l d x i j)) ∙ (other-gateway d g e).1

    other-way : (y : Association) → Has (PutOut y) (queue g h) → (x.way.id == y.way.id) ≡ false
    other-way y q = is-not (x.way.id == y.way.id) (λ t.
        let b = of-way h d x j in
        let c : (d.id == y.way.id) ≡ true = grind arith in
        let n = none-there p h l d i g e (PutOut y) q in
        let v : true ≡ false = sym c ∙ n in
        cc)

    at : (q : Option ControllerOrder) → oldest (queue g h) ≡ q → is_spoiled x g q a done sent ≡ false
    at None t = refl
    at (Some Read) t = first-no (x.way.receiver == g) done (not sent) _ receiver
    at (Some (Policy r)) t = refl
    at (Some (PutIn y)) t = let n : (x.serial == y.serial) ≡ false =
        none-of p h l d i g e x j PuttingIn (PutIn y) (oldest-has (queue g h) (PutIn y) t) in rw n refl
    at (Some (PutOut y)) t =
        let q = oldest-has (queue g h) (PutOut y) t in
        let n : (x.serial == y.serial) ≡ false = none-of p h l d i g e x j PuttingOut (PutOut y) q in
        both-no (x.serial == y.serial) (nat_le 400 a.status) (x.way.id == y.way.id) (nat_lt x.serial y.serial) (a.status == 201) n
        (other-way y q)
    at (Some (RemoveIn n)) t = refl
    at (Some (RemoveOut n)) t = refl

same-answered : (x : Association) (i s d r e a c f b : Bool) → a ≡ false → c ≡ false → f ≡ false → b ≡ false
    → kept x (a || i) s (c || d) (f || r) (b || e) ≡ kept x i s d r e
same-answered x i s d r e true c f b p q t u = cc
same-answered x i s d r e false true f b p q t u = cc
same-answered x i s d r e false false true b p q t u = cc
same-answered x i s d r e false false false true p q t u = cc
same-answered x i s d r e false false false false p q t u = refl

unseen-no : (e r s a b : Bool) → r ≡ false → s ≡ false → (not e && ((r && a) || (s && b))) ≡ false
unseen-no e r s a b p q = rw (p, q) (and-no (not e) false refl)

no-reading : (h : List ControllerAct) (d : Way) (g : ℕ) → is_of_way d g ≡ false → (o : Option ControllerOrder) (a : Answer)
    → is_cause_reading h d g o a ≡ false
no-reading h d g e None a = refl
no-reading h d g e (Some Read) a =
    let w = other-gateway d g e in
    any-none (is_unseen h d g a.names) (left d h) (λ x j. rw (w.0, w.1) (and-no (not (is_ended x h)) false refl))
no-reading h d g e (Some (Policy l)) a = refl
no-reading h d g e (Some (PutIn y)) a = refl
no-reading h d g e (Some (PutOut y)) a = refl
no-reading h d g e (Some (RemoveIn n)) a = refl
no-reading h d g e (Some (RemoveOut n)) a = refl

left-busy : (h : List ControllerAct) (d : Way) (xs : List Association) → xs ≡ left d h
    → (list_any (is_own d xs) (queue d.sender h) || list_any (is_own d xs) (queue d.receiver h)) ≡ is_busy d h
left-busy h d xs e = ap (λ ys. list_any (is_own d ys) (queue d.sender h) || list_any (is_own d ys) (queue d.receiver h)) e

answered-part : (p : ℕ) (h : List ControllerAct) → IsControllerPast p h → (d : Way) → Has d (directions h) → (g s n : ℕ) (a : Answer)
    → is_of_way d g ≡ false → SamePart h (Answered g s n a ∷ h) d
answered-part p h l d i g s n a e =
    let w = other-gateway d g e in
    let w0 = w.0 in
    let w1 = w.1 in
    let f : filter (λ x. not (is_answer_to RemovingIn x.serial (oldest (queue g h)))) (left d h) ≡ left d h =
    filter-all (λ x. not (is_answer_to RemovingIn x.serial (oldest (queue g h)))) (left d h)
    (λ x j. ap not (no-answer p h l d i g e x j RemovingIn)) in
    record {
      busy = rw (w0, w1) (left-busy h d (filter (λ x. not (is_answer_to RemovingIn x.serial (oldest (queue g h)))) (left d h)) f);
      each = λ x j. same-answered x (has_answer PuttingIn x.serial h) (is_out_ordered x.serial h) (has_answer PuttingOut x.serial h)
          (has_answer RemovingOut x.serial h) (is_ended x h) (is_answer_to PuttingIn x.serial (oldest (queue g h)))
          (is_answer_to PuttingOut x.serial (oldest (queue g h))) (is_answer_to RemovingOut x.serial (oldest (queue g h)))
          (is_spoiled x g (oldest (queue g h)) a (has_answer PuttingIn x.serial h) (is_out_ordered x.serial h))
          (no-answer p h l d i g e x j PuttingIn) (no-answer p h l d i g e x j PuttingOut) (no-answer p h l d i g e x j RemovingOut)
          (not-spoiled p h l d i g e x j a (has_answer PuttingIn x.serial h) (is_out_ordered x.serial h));
      left = f;
      sender = rw w0 refl;
      receiver = rw w1 refl;
      wanted = ap (λ t. t || is_wanted d h) (no-reading h d g e (oldest (queue g h)) a);
      over = refl;
    }

-- ## a notice and an opening

no-notice : (h : List ControllerAct) (d : Way) (g : ℕ) → is_of_way d g ≡ false → (t : Notice) → is_cause_notice h d g t ≡ false
no-notice h d g e (notices.Acquire name s) = let w = (other-gateway d g e).0 in rw w refl
no-notice h d g e (notices.Expire name soft c) = let w = other-gateway d g e in let a = w.0 in let b = w.1 in rw (a, b) refl
no-notice h d g e (notices.SeqOverflow name) = let w = other-gateway d g e in let a = w.0 in let b = w.1 in rw (a, b) refl
no-notice h d g e (notices.BadSpi s) = refl

heard-part : (h : List ControllerAct) (d : Way) (g s : ℕ) (t : Notice) → is_of_way d g ≡ false → SamePart h (Heard g s t ∷ h) d
heard-part h d g s t e = record {
  busy = refl;
  each = λ x j. refl;
  left = refl;
  sender = refl;
  receiver = refl;
  wanted =
      ap (λ b. b || is_wanted d h) (no-notice h d g e t);
  over = refl;
}

opened-queue : (p : ℕ) (h : List ControllerAct) → IsControllerPast p h → (g f : ℕ) → is_open g h ≡ false → (b : Bool) → (f == g) ≡ b
    → (if b then [] else queue f h) ≡ queue f h
opened-queue p h l g f o true e = let q : f ≡ g = grind arith in sym (ap (λ z. queue z h) q ∙ shut-queue p h g l o)
opened-queue p h l g f o false e = refl

opened-read : (h : List ControllerAct) (g f : ℕ) → is_open g h ≡ false → (b : Bool) → (f == g) ≡ b
    → ((b || is_open f h) && (not b && is_first_answered f h)) ≡ (is_open f h && is_first_answered f h)
opened-read h g f o true e = let q : f ≡ g = grind arith in let u : is_open f h ≡ false = ap (λ z. is_open z h) q ∙ o in rw u refl
opened-read h g f o false e = refl

opened-part : (p : ℕ) (h : List ControllerAct) (g s : ℕ) → IsControllerPast p h → is_open g h ≡ false → (d : Way)
    → SamePart h (Opened g s ∷ h) d
opened-part p h g s l o d =
    let a = opened-queue p h l g d.sender o (d.sender == g) refl in
    let b = opened-queue p h l g d.receiver o (d.receiver == g) refl in
    record {
      busy = ap (λ q. list_any (is_own d (left d h)) q
          || list_any (is_own d (left d h)) (if d.receiver == g then [] else queue d.receiver h)) a
          ∙ ap (λ q. list_any (is_own d (left d h)) (queue d.sender h) || list_any (is_own d (left d h)) q) b;
      each = λ x j. refl;
      left = refl;
      sender = opened-read h g d.sender o (d.sender == g) refl;
      receiver = opened-read h g d.receiver o (d.receiver == g) refl;
      wanted = refl;
      over = refl;
    }

-- ## an order of another direction

no-put : (d : Way) (xs : List Association) (o : ControllerOrder) → is_own d xs o ≡ false → (inbound_put d o ≡ [])
    × (is_inbound_put_of d o ≡ false)
no-put d xs Read e = (refl, refl)
no-put d xs (Policy l) e = (refl, refl)
no-put d xs (PutIn x) e = (rw e refl, e)
no-put d xs (PutOut x) e = (refl, refl)
no-put d xs (RemoveIn n) e = (refl, refl)
no-put d xs (RemoveOut n) e = (refl, refl)

no-out-put : (p : ℕ) (h : List ControllerAct) → IsControllerPast p h → (g : ℕ) (o : ControllerOrder) → MayOrder h g o → (d : Way)
    → is_own d (left d h) o ≡ false → (x : Association) → Has x (left d h) → is_kind PuttingOut x.serial o ≡ false
no-out-put p h l g Read m d e x j = refl
no-out-put p h l g (Policy q) m d e x j = refl
no-out-put p h l g (PutIn y) m d e x j = refl
no-out-put p h l g (PutOut y) m d e x j = is-not (x.serial == y.serial) (λ t.
    let q = one p h l d m.way x y j m.left (equal x.serial y.serial t) in
    let b = of-way h d x j in
    let c : (d.id == y.way.id) ≡ true = ap (λ (z : Association). d.id == z.way.id) (sym q) ∙ b in
    let v : true ≡ false = sym c ∙ e in
    cc)
no-out-put p h l g (RemoveIn n) m d e x j = refl
no-out-put p h l g (RemoveOut n) m d e x j = refl

grown-any : (p : ControllerOrder → Bool) (q : List ControllerOrder) (o : ControllerOrder) → p o ≡ false → (b : Bool)
    → list_any p (if b then q ++ o ∷ [] else q) ≡ list_any p q
grown-any p q o e true = any-one p q o e
grown-any p q o e false = refl

same-ordered : (x : Association) (i s d r e a b : Bool) → a ≡ false → b ≡ false → kept x (not a && i) (not a && (b || s)) (not a && d)
    (not a && r) (not a && e) ≡ kept x i s d r e
same-ordered x i s d r e true b p q = cc
same-ordered x i s d r e false true p q = cc
same-ordered x i s d r e false false p q = refl

ordered-part : (p : ℕ) (h : List ControllerAct) (g s n : ℕ) (o : ControllerOrder) → IsControllerPast p h → MayOrder h g o → (d : Way)
    → is_own d (left d h) o ≡ false → SamePart h (Ordered g s n o ∷ h) d
ordered-part p h g s n o l m d e =
    let z = no-put d (left d h) o e in
    let f : left d h ++ inbound_put d o ≡ left d h = ap (λ t. left d h ++ t) z.0 ∙ append-nil (left d h) in
    let a = grown-any (is_own d (left d h)) (queue d.sender h) o e (d.sender == g) in
    let b = grown-any (is_own d (left d h)) (queue d.receiver h) o e (d.receiver == g) in
    record {
      busy = ap (λ xs. list_any (is_own d xs) (if d.sender == g then queue d.sender h ++ o ∷ [] else queue d.sender h)
          || list_any (is_own d xs) (if d.receiver == g then queue d.receiver h ++ o ∷ [] else queue d.receiver h)) f
          ∙ (ap (λ t. t || list_any (is_own d (left d h)) (if d.receiver == g then queue d.receiver h ++ o ∷ [] else queue d.receiver h)) a
          ∙ ap (λ t. list_any (is_own d (left d h)) (queue d.sender h) || t) b);
      each = λ x j. same-ordered x (has_answer PuttingIn x.serial h) (is_out_ordered x.serial h) (has_answer PuttingOut x.serial h)
          (has_answer RemovingOut x.serial h) (is_ended x h) (is_kind PuttingIn x.serial o) (is_kind PuttingOut x.serial o)
          (no-in h g o x m (low p h l d x j)) (no-out-put p h l g o m d e x j);
      left = f;
      sender = refl;
      receiver = refl;
      wanted = ap (λ t. not t && is_wanted d h) z.1;
      over = refl;
    }

-- ## a command of another tunnel

no-end : (d : Way) (c : PlacedCommand) → does_command_touch d c ≡ false → (is_end_of d.tunnel.reqid c ≡ false) × (is_renewal d c ≡ false)
no-end d (SetPolicy g l) e = (refl, refl)
no-end d (Tunnel t) e = (refl, refl)
no-end d (End r) e = (e, refl)
no-end d (Rekey r) e = (refl, e)
no-end d (Keys k) e = (refl, refl)

told-part : (p : ℕ) (h : List ControllerAct) → IsControllerPast p h → (d : Way) → Has d (directions h) → (c : PlacedCommand)
    → does_command_touch d c ≡ false → SamePart h (Accepted c ∷ h) d
told-part p h l d i c e =
    let m = old-made h c d i in
    let z = no-end d c e in
    let z0 = z.0 in
    let z1 = z.1 in
    let f : (if is_made_by c (length (directions h)) d then [] else left d h) ≡ left d h = rw m refl in
    record {
      busy = left-busy h d (if is_made_by c (length (directions h)) d then [] else left d h) f;
      each = λ x j.
          let b : is_end_of x.way.tunnel.reqid c ≡ false = ap (λ (y : Way). is_end_of y.tunnel.reqid c) (sym (own-way p h l d x i j))
          ∙ z0 in
          ap (λ t. kept x (has_answer PuttingIn x.serial h) (is_out_ordered x.serial h) (has_answer PuttingOut x.serial h)
          (has_answer RemovingOut x.serial h) (t || is_ended x h)) b;
      left = f;
      sender = refl;
      receiver = refl;
      wanted = rw (m, z1) refl;
      over = rw (m, z0) refl;
    }

-- ## every act

part : (p : ℕ) (h : List ControllerAct) (a : ControllerAct) → IsControllerPast p (a ∷ h) → (d : Way) → Has d (directions h)
    → does_touch d a h ≡ false → SamePart h (a ∷ h) d
part p h (Opened g s) l d i e = opened-part p h g s l.1 l.0.0 d
part p h (Cut g s) l d i e = cut-part p h l.1 d i g s e
part p h (Answered g s n a) l d i e = answered-part p h l.1 d i g s n a e
part p h (Heard g s t) l d i e = heard-part h d g s t e
part p h (Ordered g s n o) l d i e = ordered-part p h g s n o l.1 l.0.3 d e
part p h (Accepted c) l d i e = told-part p h l.1 d i c e
part p h (Refused w) l d i e = record {
  busy = refl;
  each = λ x j. refl;
  left = refl;
  sender = refl;
  receiver = refl;
  wanted = refl;
  over =
      refl;
}

pub next-untouched : (p : ℕ) (h : List ControllerAct) (a : ControllerAct) → IsControllerPast p (a ∷ h) → (d : Way) → Has d (directions h)
    → does_touch d a h ≡ false → next_order (a ∷ h) d ≡ next_order h d
next-untouched p h a l d i e = same-next h (a ∷ h) d (part p h a l d i e)

-- ## with nothing to give

no-key : (c : PlacedCommand) → does_bring_key (Accepted c) ≡ false → key_of c ≡ []
no-key (SetPolicy g l) e = refl
no-key (Tunnel t) e = refl
no-key (End r) e = refl
no-key (Rekey r) e = refl
no-key (Keys k) e = cc

spare-none : (h : List ControllerAct) (a : ControllerAct) → does_bring_key a ≡ false → spare h ≡ [] → spare (a ∷ h) ≡ []
spare-none h (Opened g s) e f = f
spare-none h (Cut g s) e f = f
spare-none h (Answered g s n a) e f = f
spare-none h (Heard g s t) e f = f
spare-none h (Ordered g s n o) e f = ap (keys_after o) f ∙ used-none o
spare-none h (Accepted c) e f = ap (λ t. t ++ key_of c) f ∙ no-key c e
spare-none h (Refused w) e f = f

none-spare : (h : List ControllerAct) (d : Way) (ks : List (List ℕ)) → with_key h d ks ≡ [] → ks ≡ []
none-spare h d [] e = refl
none-spare h d (k ∷ ks) e = cc

acts-none : (h : List ControllerAct) (a : ControllerAct) (d : Way) (n : NextOrder) → does_bring_key a ≡ false → acts_for h d n ≡ []
    → acts_for (a ∷ h) d n ≡ []
acts-none h a d Nothing e f = refl
acts-none h a d (RemovesOut x) e f = cc
acts-none h a d (RemovesIn x) e f = cc
acts-none h a d (PutsOut x) e f = cc
acts-none h a d PutsNew e f = ap (with_key (a ∷ h) d) (spare-none h a e (none-spare h d (spare h) f))

pub none-untouched : (p : ℕ) (h : List ControllerAct) (a : ControllerAct) → IsControllerPast p (a ∷ h) → (d : Way) → Has d (directions h)
    → does_touch d a h ≡ false → does_bring_key a ≡ false → give h d ≡ [] → give (a ∷ h) d ≡ []
none-untouched p h a l d i e k g =
    let n = acts-none h a d (next_order h d) k (sym (gives-next h d) ∙ g) in
    gives-next (a ∷ h) d ∙ (ap (acts_for (a ∷ h) d) (next-untouched p h a l d i e) ∙ n)

-- ## an order is of one direction

removal-one : (p : ℕ) (h : List ControllerAct) → IsControllerPast p h → (d e : Way) (n : ℕ) → Has d (directions h) → Has e (directions h)
    → list_any (λ (y : Association). y.serial == n) (left d h) ≡ true → list_any (λ (y : Association). y.serial == n) (left e h) ≡ true
    → d ≡ e
removal-one p h l d e n i j t u =
    let a = found (λ (y : Association). y.serial == n) (left d h) t in
    let b = found (λ (y : Association). y.serial == n) (left e h) u in
    let x : Association = a.0 in
    let y : Association = b.0 in
    let ix : Has x (left d h) = a.1 in
    let iy : Has y (left e h) = b.1 in
    let ex : x.serial ≡ n = equal x.serial n a.2 in
    let ey : y.serial ≡ n = equal y.serial n b.2 in
    let q = one p h l d e x y ix iy (ex ∙ sym ey) in
    let v = of-way h d x ix in
    let w : (e.id == x.way.id) ≡ true = ap (λ (z : Association). e.id == z.way.id) q ∙ of-way h e y iy in
    one-way h d e i j (same-id d.id e.id x.way.id v w)

pub own-one : (p : ℕ) (h : List ControllerAct) → IsControllerPast p h → (d e : Way) (o : ControllerOrder) → Has d (directions h)
    → Has e (directions h) → is_own d (left d h) o ≡ true → is_own e (left e h) o ≡ true → d ≡ e
own-one p h l d e Read i j t u = cc
own-one p h l d e (Policy q) i j t u = cc
own-one p h l d e (PutIn x) i j t u = one-way h d e i j (same-id d.id e.id x.way.id t u)
own-one p h l d e (PutOut x) i j t u = one-way h d e i j (same-id d.id e.id x.way.id t u)
own-one p h l d e (RemoveIn n) i j t u = removal-one p h l d e n i j t u
own-one p h l d e (RemoveOut n) i j t u = removal-one p h l d e n i j t u

-- ## what an act makes of the part of a direction

pub part-did : (h : List ControllerAct) (a : ControllerAct) (d : Way) → Has d (directions h)
    → way_of (a ∷ h) d ≡ did_way (gateway_of h) a (way_of h d)
part-did h (Opened g s) d i = refl
part-did h (Cut g s) d i = way-cut h g s d
part-did h (Answered g s n a) d i = way-answered h g s n a d
part-did h (Heard g s t) d i = way-heard h g s t d
part-did h (Ordered g s n o) d i = way-ordered h g s n o d
part-did h (Accepted c) d i = way-told h c d (old-made h c d i)
part-did h (Refused w) d i = refl
