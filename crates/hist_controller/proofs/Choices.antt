-- The clauses leave no choice: the block of an event is the one list of acts that meets them.
use Rattle.std.proofs.Common.{◌≡◌, ℕ, ◌+◌, ◌<◌, Bool, true, false, ◌==◌, not, ◌&&◌, ◌||◌, nat_lt, List, [], ◌∷◌, ◌++◌, Option, Some, None, length, ◌⊎◌, inl, inr, refl, sym, subst, ◌∙◌, ap, arith, if◌then◌else◌}
use Rattle.std.proofs.Math.Bool.{and-false}
use Rattle.std.proofs.lemmas.Grind.{common_steps}
use Rattle.std.specs.List.{list_any}
use Rattle.ikeless_tree.specs.declared.command.Command.{Command}
use Rattle.ikeless_tree.specs.declared.command.Peer.{Peer}
use Rattle.ikeless_tree.specs.declared.command.Refusal.{Refusal}
use Rattle.ikeless_tree.specs.declared.entry.SpdEntry.{SpdEntry}
use Rattle.ikeless_tree.specs.declared.order.Answer.{Answer}
use Rattle.ikeless_tree.specs.declared.order.Notice.{Notice}
use Rattle.ikeless_tree.specs.declared.order.Notice.TheVariants as notices
use Rattle.hist_controller.specs.Acts.{Way, Association, ControllerOrder, Read, Policy, PutIn, PutOut, RemoveIn, RemoveOut, PlacedCommand, SetPolicy, Tunnel, End, Rekey, Keys, ControllerAct, Opened, Cut, Answered, Heard, Ordered, Accepted, Refused, ControllerEvent, Told, Opens, Cuts, Answers, Notices}
use Rattle.hist_acts.specs.Past.{after}
use Rattle.hist_controller.specs.Past.{is_open, openings, orders, answered, oldest, queue, newest_list, serials, spare, directions, left, is_busy}
use Rattle.hist_controller.specs.Law.{order, may_out_remove, may_in_remove, may_out_put, may_in_put, first, key_put, give, pass, with_list, is_reading, by_command, by_notice, read_put, placed_command, refusal, asked_then, going, by_refusal, by_answer, block}
use Rattle.hist_controller.specs.Clauses.{Has, NonePasses, MayOrderInPut, MayOrderOutPut, MayOrderInRemove, MayOrderOutRemove, is_reading_due, is_policy_due, is_list_for, next_key, ControllerMayAct, IsControllerPast, Quiet, NotIdle}
use Rattle.hist_controller.specs.Choice.{IsDue, NoneDue, HasTurn, ComesNext, AreOrdersNext, IsOwnAct, IsBlock}
use Rattle.hist_controller.proofs.KeptState.{Rising, rising, eq-own}
use Rattle.hist_controller.proofs.Gives.{Idle, Given, nothing, out_removed, in_removed, out_was_put, in_was_put, given, ways-give}
use Rattle.hist_controller.proofs.Serials.{of-way, from, one-way}
use Rattle.hist_controller.proofs.Clauses.{may-given, past-after}
use Rattle.hist_controller.proofs.Turns.{any-has, other-out, own-turn, turn, from-idle, idle-refused}

-- ## what a direction is given where one of its orders may be given

first-no : (p : Association → Bool) (xs : List Association) → NonePasses p xs → first p xs ≡ None
first-no p [] f = refl
first-no p (x ∷ xs) f = let q = f x (inl refl) in let ih = first-no p xs (λ y i. f y (inr i)) in rw q ih

gives-out-remove : (h : List ControllerAct) (g n : ℕ) → (m : MayOrderOutRemove h g n) → give h m.way ≡ order h g (RemoveOut n) ∷ []
gives-out-remove h g n m = let a = m.free in let b = m.oldest in let c = m.at in let d = m.name in rw (a, b, c, d) refl

gives-in-remove : (h : List ControllerAct) (g n : ℕ) → (m : MayOrderInRemove h g n) → give h m.way ≡ order h g (RemoveIn n) ∷ []
gives-in-remove h g n m =
    let a = m.free in let b = first-no (may_out_remove h m.way) (left m.way h) m.no_out_remove in let e = m.oldest in let c = m.at in
    let d = m.name in
    rw (a, b, e, c, d) refl

gives-out-put : (h : List ControllerAct) (g : ℕ) (x : Association) → (m : MayOrderOutPut h g x) → give h m.way ≡ order h g (PutOut x) ∷ []
gives-out-put h g x m =
    let a = m.free in
    let b = first-no (may_out_remove h m.way) (left m.way h) m.no_out_remove in
    let e = first-no (may_in_remove h m.way) (left m.way h) m.no_in_remove in
    let f = m.oldest in
    let c = m.at in
    rw (a, b, e, f, c) refl

key-is : (ks : List (List ℕ)) (k : List ℕ) → next_key ks ≡ Some k → (more : List (List ℕ)) × (ks ≡ k ∷ more)
key-is [] k e = cc
key-is (x ∷ ks) k e = (ks, let w : x ≡ k = cc in rw w refl)

gives-in-put : (h : List ControllerAct) (g : ℕ) (x : Association) → (m : MayOrderInPut h g x) → give h x.way ≡ order h g (PutIn x) ∷ []
gives-in-put h g x m =
    let a = m.free in
    let b = first-no (may_out_remove h x.way) (left x.way h) m.no_out_remove in
    let e = first-no (may_in_remove h x.way) (left x.way h) m.no_in_remove in
    let f = first-no (may_out_put h x.way) (left x.way h) m.no_out_put in
    let k = key-is (spare h) x.key m.key in
    let t = k.1 in
    let y = m.may in
    let s = m.serial in
    let c = m.at in
    rw (a, b, e, f, t, y, c, ← s) refl

quiet-gives : (h : List ControllerAct) (d : Way) → Quiet h d → (b : Bool) → is_busy d h ≡ b → give h d ≡ []
quiet-gives h d q true e = rw e refl
quiet-gives h d q false e =
    let b = first-no (may_out_remove h d) (left d h) q.no_out_remove in
    let c = first-no (may_in_remove h d) (left d h) q.no_in_remove in
    let f = first-no (may_out_put h d) (left d h) q.no_out_put in
    rw (e, b, c, f) (no-key (spare h) refl q.no_in_put)
  where
    no-key : (ks : List (List ℕ)) → spare h ≡ ks → (may_in_put h d ≡ false) ⊎ (spare h ≡ []) → key_put h d ks ≡ []
    no-key [] t w = refl
    no-key (k ∷ ks) t (inl w) = rw w refl
    no-key (k ∷ ks) t (inr w) = cc

idle-gives : (h : List ControllerAct) (d : Way) → (is_busy d h ≡ false → Quiet h d) → (b : Bool) → is_busy d h ≡ b → give h d ≡ []
idle-gives h d f true e = rw e refl
idle-gives h d f false e = quiet-gives h d (f e) false e

-- ## which order comes next

-- an order is due, or is what its direction is given in its turn
data Sorted (h : List ControllerAct) : ControllerAct → Type 0 where
  due : (g : ℕ) (o : ControllerOrder) → IsDue h g o → Sorted h (order h g o)
  in_turn : (a : ControllerAct) (d : Way) → Has d (directions h) → give h d ≡ a ∷ [] → HasTurn h d → Sorted h a

as-ordered : (h : List ControllerAct) (g s n : ℕ) (o : ControllerOrder) → s ≡ openings g h → n ≡ orders g h + 1
    → Ordered g s n o ≡ order h g o
as-ordered h g s n o e f = rw (e, f) refl

sorted : (p : ℕ) (h : List ControllerAct) (g s n : ℕ) (o : ControllerOrder) → ControllerMayAct p h (Ordered g s n o) → ComesNext h o
    → Sorted h (Ordered g s n o)
sorted p h g s n Read m c = subst (Sorted h) (sym (as-ordered h g s n Read m.0 m.1)) (due g Read m.3)
sorted p h g s n (Policy l) m c = subst (Sorted h) (sym (as-ordered h g s n (Policy l) m.0 m.1)) (due g (Policy l) (m.2, m.3.0, m.3.1))
sorted p h g s n (PutIn x) m c =
    let r : MayOrderInPut h g x = m.3 in
    subst (Sorted h) (sym (as-ordered h g s n (PutIn x) m.0 m.1)) (in_turn (order h g (PutIn x)) x.way r.of (gives-in-put h g x r)
    (c x.way r.of (eq-own x.way.id)))
sorted p h g s n (PutOut x) m c =
    let r : MayOrderOutPut h g x = m.3 in
    subst (Sorted h) (sym (as-ordered h g s n (PutOut x) m.0 m.1)) (in_turn (order h g (PutOut x)) r.way r.of (gives-out-put h g x r)
    (c r.way r.of (of-way h r.way x r.left)))
sorted p h g s n (RemoveIn i) m c =
    let r : MayOrderInRemove h g i = m.3 in
    let e : (r.association.serial == i) ≡ true = let w = r.name in grind arith in
    subst (Sorted h) (sym (as-ordered h g s n (RemoveIn i) m.0 m.1)) (in_turn (order h g (RemoveIn i)) r.way r.of (gives-in-remove h g i r)
    (c r.way r.of (any-has (λ (y : Association). y.serial == i) r.association (left r.way h) r.left e)))
sorted p h g s n (RemoveOut i) m c =
    let r : MayOrderOutRemove h g i = m.3 in
    let e : (r.association.serial == i) ≡ true = let w = r.name in grind arith in
    subst (Sorted h) (sym (as-ordered h g s n (RemoveOut i) m.0 m.1))
    (in_turn (order h g (RemoveOut i)) r.way r.of (gives-out-remove h g i r)
    (c r.way r.of (any-has (λ (y : Association). y.serial == i) r.association (left r.way h) r.left e)))

no-order : (a : ControllerAct) (xs : List ControllerAct) → xs ≡ a ∷ [] → xs ≡ [] → ⊥
no-order a xs e f = cc

-- where a block is whole no order comes next
none-next : (h : List ControllerAct) (a : ControllerAct) → NoneDue h → NotIdle h → Sorted h a → ⊥
none-next h _ n q (due g o i) = n g o i
none-next h a n q (in_turn _ d i e t) = no-order a (give h d) e (idle-gives h d (q d i) (is_busy d h) refl)

reading-at : (h : List ControllerAct) (f g : ℕ) → is_reading_due f h ≡ true → is_reading_due g h ≡ true → f ≡ g
reading-at [] f g e i = cc
reading-at (Opened k s ∷ h) f g e i = grind arith
reading-at (Cut k s ∷ h) f g e i = cc
reading-at (Answered k s n a ∷ h) f g e i = cc
reading-at (Heard k s t ∷ h) f g e i = both-at (f == k) _ _ (g == k) _ _ (λ x y. grind arith) e i
  where
    both-at : (a b c d x y : Bool) → (a ≡ true → d ≡ true → f ≡ g) → (a && b && c) ≡ true → (d && x && y) ≡ true → f ≡ g
    both-at true b c true x y w e i = w refl refl
    both-at true b c false x y w e i = cc
    both-at false b c d x y w e i = cc
reading-at (Ordered k s n o ∷ h) f g e i = cc
reading-at (Accepted c ∷ h) f g e i = cc
reading-at (Refused w ∷ h) f g e i = cc

reading-no-list : (h : List ControllerAct) (f g : ℕ) → is_reading_due f h ≡ true → is_policy_due g h ≡ true → ⊥
reading-no-list [] f g e i = cc
reading-no-list (Opened k s ∷ h) f g e i = cc
reading-no-list (Cut k s ∷ h) f g e i = cc
reading-no-list (Answered k s n a ∷ h) f g e i = cc
reading-no-list (Heard k s t ∷ h) f g e i = cc
reading-no-list (Ordered k s n o ∷ h) f g e i = cc
reading-no-list (Accepted c ∷ h) f g e i = cc
reading-no-list (Refused w ∷ h) f g e i = cc

list-for : (c : PlacedCommand) (f g : ℕ) → is_list_for f c ≡ true → is_list_for g c ≡ true → f ≡ g
list-for (SetPolicy k l) f g e i = grind arith
list-for (Tunnel t) f g e i = cc
list-for (End r) f g e i = cc
list-for (Rekey r) f g e i = cc
list-for (Keys k) f g e i = cc

list-at : (h : List ControllerAct) (f g : ℕ) → is_policy_due f h ≡ true → is_policy_due g h ≡ true → f ≡ g
list-at [] f g e i = cc
list-at (Opened k s ∷ h) f g e i = cc
list-at (Cut k s ∷ h) f g e i = cc
list-at (Answered k s n a ∷ h) f g e i = cc
list-at (Heard k s t ∷ h) f g e i = cc
list-at (Ordered k s n o ∷ h) f g e i = both-at (f == k) _ (g == k) _ (λ x y. grind arith) e i
  where
    both-at : (a b d x : Bool) → (a ≡ true → d ≡ true → f ≡ g) → (a && b) ≡ true → (d && x) ≡ true → f ≡ g
    both-at true b true x w e i = w refl refl
    both-at true b false x w e i = cc
    both-at false b d x w e i = cc
list-at (Accepted c ∷ h) f g e i = list-for c f g e i
list-at (Refused w ∷ h) f g e i = cc

same-list : (h : List ControllerAct) (f g : ℕ) (l m : List SpdEntry) → f ≡ g → newest_list f h ≡ Some l → newest_list g h ≡ Some m → l ≡ m
same-list h f g l m e a b = let w : newest_list f h ≡ newest_list g h = ap (λ z. newest_list z h) e in
    let q : Some l ≡ Some m = sym a ∙ (w ∙ b) in cc

due-one : (h : List ControllerAct) (f g : ℕ) (o z : ControllerOrder) → IsDue h f o → IsDue h g z → order h f o ≡ order h g z
due-one h f g Read Read a b = ap (λ k. order h k Read) (reading-at h f g a b)
due-one h f g Read (Policy m) a b = absurd (reading-no-list h f g a b.2)
due-one h f g (Policy l) Read a b = absurd (reading-no-list h g f b a.2)
due-one h f g (Policy l) (Policy m) a b = let e = list-at h f g a.2 b.2 in let q = same-list h f g l m e a.1 b.1 in rw (e, q) refl
due-one h f g (PutIn x) z a b = absurd a
due-one h f g (PutOut x) z a b = absurd a
due-one h f g (RemoveIn n) z a b = absurd a
due-one h f g (RemoveOut n) z a b = absurd a
due-one h f g Read (PutIn x) a b = absurd b
due-one h f g Read (PutOut x) a b = absurd b
due-one h f g Read (RemoveIn n) a b = absurd b
due-one h f g Read (RemoveOut n) a b = absurd b
due-one h f g (Policy l) (PutIn x) a b = absurd b
due-one h f g (Policy l) (PutOut x) a b = absurd b
due-one h f g (Policy l) (RemoveIn n) a b = absurd b
due-one h f g (Policy l) (RemoveOut n) a b = absurd b

apart : (n m : ℕ) (b : Bool) → nat_lt n m ≡ b → (n < m) ⊎ ((n ≡ m) ⊎ (m < n))
apart n m true e = inl (grind (arith, common_steps))
apart n m false e = inr (equal-or (n == m) refl)
  where
    equal-or : (c : Bool) → (n == m) ≡ c → (n ≡ m) ⊎ (m < n)
    equal-or true f = inl (grind arith)
    equal-or false f = inr (grind (arith, common_steps))

same-turn : (h : List ControllerAct) (a b : ControllerAct) (d e : Way) → Has d (directions h) → Has e (directions h) → give h d ≡ a ∷ []
    → give h e ≡ b ∷ [] → HasTurn h d → HasTurn h e → (d.id < e.id) ⊎ ((d.id ≡ e.id) ⊎ (e.id < d.id)) → a ≡ b
same-turn h a b d e i j p q t u (inl w) = absurd (no-order a (give h d) p (idle-gives h d (u.earlier d i w) (is_busy d h) refl))
same-turn h a b d e i j p q t u (inr (inl w)) = let r : d ≡ e = one-way h d e i j w in
    let z : a ∷ [] ≡ b ∷ [] = sym p ∙ (ap (give h) r ∙ q) in cc
same-turn h a b d e i j p q t u (inr (inr w)) = absurd (no-order b (give h e) q (idle-gives h e (t.earlier e j w) (is_busy e h) refl))

one-next : (h : List ControllerAct) (a b : ControllerAct) → Sorted h a → Sorted h b → a ≡ b
one-next h _ _ (due f o i) (due g z j) = due-one h f g o z i j
one-next h _ b (due f o i) (in_turn _ d k e t) = absurd (t.none_due f o i)
one-next h a _ (in_turn _ d k e t) (due f o i) = absurd (t.none_due f o i)
one-next h a b (in_turn _ d k e t) (in_turn _ c j r u) = same-turn h a b d c k j e r t u (apart d.id c.id (nat_lt d.id c.id) refl)

-- two lists of orders that come next are one
one-list : (p : ℕ) (h xs ys : List ControllerAct) → AreOrdersNext p h xs → AreOrdersNext p h ys → xs ≡ ys
one-list p h [] [] a b = refl
one-list p h [] (Ordered g s n o ∷ ys) a b = absurd (none-next h (Ordered g s n o) a.0 a.1 (sorted p h g s n o b.0 b.1))
one-list p h (Ordered g s n o ∷ xs) [] a b = absurd (none-next h (Ordered g s n o) b.0 b.1 (sorted p h g s n o a.0 a.1))
one-list p h (Ordered f r m z ∷ xs) (Ordered g s n o ∷ ys) a b =
    let e : Ordered f r m z ≡ Ordered g s n o = one-next h (Ordered f r m z) (Ordered g s n o) (sorted p h f r m z a.0 a.1)
    (sorted p h g s n o b.0 b.1) in
    let q : xs ≡ ys = one-list p (Ordered f r m z ∷ h) xs ys a.2 (subst (λ c. AreOrdersNext p (c ∷ h) ys) (sym e) b.2) in
    rw (e, q) refl
one-list p h [] (Opened g s ∷ ys) a b = absurd b
one-list p h [] (Cut g s ∷ ys) a b = absurd b
one-list p h [] (Answered g s n r ∷ ys) a b = absurd b
one-list p h [] (Heard g s t ∷ ys) a b = absurd b
one-list p h [] (Accepted c ∷ ys) a b = absurd b
one-list p h [] (Refused w ∷ ys) a b = absurd b
one-list p h (Ordered f k m z ∷ xs) (Opened g s ∷ ys) a b = absurd b
one-list p h (Ordered f k m z ∷ xs) (Cut g s ∷ ys) a b = absurd b
one-list p h (Ordered f k m z ∷ xs) (Answered g s n r ∷ ys) a b = absurd b
one-list p h (Ordered f k m z ∷ xs) (Heard g s t ∷ ys) a b = absurd b
one-list p h (Ordered f k m z ∷ xs) (Accepted c ∷ ys) a b = absurd b
one-list p h (Ordered f k m z ∷ xs) (Refused w ∷ ys) a b = absurd b
one-list p h (Opened g s ∷ xs) ys a b = absurd a
one-list p h (Cut g s ∷ xs) ys a b = absurd a
one-list p h (Answered g s n r ∷ xs) ys a b = absurd a
one-list p h (Heard g s t ∷ xs) ys a b = absurd a
one-list p h (Accepted c ∷ xs) ys a b = absurd a
one-list p h (Refused w ∷ xs) ys a b = absurd a

-- ## the pass over the directions gives the orders that come next

with-serial : (n : ℕ) (x : Association) (xs : List Association) (b : Bool) → (x.serial == n) ≡ b
    → (list_any (λ (y : Association). y.serial == n) xs ≡ true → (z : Association) × Has z xs × ((z.serial == n) ≡ true))
    → (b || list_any (λ (y : Association). y.serial == n) xs) ≡ true → (z : Association) × Has z (x ∷ xs) × ((z.serial == n) ≡ true)
with-serial n x xs true q f t = (x, inl refl, q)
with-serial n x xs false q f t = let r = f t in (r.0, inr r.1, r.2)

found-own : (n : ℕ) (xs : List Association) → list_any (λ (y : Association). y.serial == n) xs ≡ true → (x : Association) × Has x xs
    × ((x.serial == n) ≡ true)
found-own n [] e = cc
found-own n (x ∷ xs) e = with-serial n x xs (x.serial == n) refl (found-own n xs) e

own-id : (p : ℕ) (h : List ControllerAct) → IsControllerPast p h → (d e : Way) (x : Association) → Has x (left e h)
    → list_any (λ (y : Association). y.serial == x.serial) (left d h) ≡ true → (b : Bool) → (d.id == e.id) ≡ b → d.id ≡ e.id
own-id p h l d e x i q true w = grind arith
own-id p h l d e x i q false w = let r = found-own x.serial (left d h) q in
    absurd (let u : true ≡ false = sym r.2 ∙ other-out p h l d e w x i r.0 r.1 in cc)

own-put : (h : List ControllerAct) (d e : Way) (x : Association) → Has x (left e h) → (d.id == x.way.id) ≡ true → d.id ≡ e.id
own-put h d e x i q = let w = of-way h e x i in grind arith

turn-of : (h : List ControllerAct) (d e : Way) → HasTurn h e → d.id ≡ e.id → HasTurn h d
turn-of h d e t q = record { none_due = t.none_due; earlier = λ c i w. t.earlier c i (let u : c.id < e.id = rw (← q) w in u) }

one-turn : (p : ℕ) (h : List ControllerAct) (e : Way) (os more : List ControllerAct) → IsControllerPast p h → Has e (directions h)
    → HasTurn h e → Given h e os → AreOrdersNext p (after h os) more → AreOrdersNext p h (os ++ more)
one-turn p h e _ more l i t (nothing q) r = r
one-turn p h e _ more l i t (out_removed x f j m n1) r =
    ((may-given p h e _ i (out_removed x f j m n1)).0, (λ d k w. turn-of h d e t (own-id p h l d e x j w (d.id == e.id) refl)), r)
one-turn p h e _ more l i t (in_removed x f j m n1 n2) r =
    ((may-given p h e _ i (in_removed x f j m n1 n2)).0, (λ d k w. turn-of h d e t (own-id p h l d e x j w (d.id == e.id) refl)), r)
one-turn p h e _ more l i t (out_was_put x f j m n1 n2 n3) r =
    ((may-given p h e _ i (out_was_put x f j m n1 n2 n3)).0, (λ d k w. turn-of h d e t (own-put h d e x j w)), r)
one-turn p h e _ more l i t (in_was_put k ks f s m n1 n2 n3) r =
    ((may-given p h e _ i (in_was_put k ks f s m n1 n2 n3)).0, (λ d c w. turn-of h d e t (grind arith)), r)

-- after an order nothing is due, but a list after the reading of an opening
no-due : (h : List ControllerAct) (z : ControllerOrder) (f : ℕ) → ((g : ℕ) → is_policy_due g (order h f z ∷ h) ≡ false)
    → NoneDue (order h f z ∷ h)
no-due h z f q g Read i = cc
no-due h z f q g (Policy l) i = absurd (let u : true ≡ false = sym i.2 ∙ q g in cc)
no-due h z f q g (PutIn x) i = i
no-due h z f q g (PutOut x) i = i
no-due h z f q g (RemoveIn n) i = i
no-due h z f q g (RemoveOut n) i = i

-- after an order of a direction nothing is due
none-after : (h : List ControllerAct) (e : Way) (os : List ControllerAct) → Given h e os → NoneDue h → NoneDue (after h os)
none-after h e _ (nothing q) u = u
none-after h e _ (out_removed x f j m n1) u = no-due h (RemoveOut x.serial) e.sender (λ g. and-false _)
none-after h e _ (in_removed x f j m n1 n2) u = no-due h (RemoveIn x.serial) e.receiver (λ g. and-false _)
none-after h e _ (out_was_put x f j m n1 n2 n3) u = no-due h (PutOut x) e.sender (λ g. and-false _)
none-after h e _ (in_was_put k ks f s m n1 n2 n3) u = no-due h (PutIn (record { serial = serials h + 1; key = k; way = e })) e.receiver
    (λ g. and-false _)

pass-next : (p : ℕ) (h : List ControllerAct) → IsControllerPast p h → NoneDue h → (m : ℕ) (ds : List Way) → Rising m ds
    → ((d : Way) → Has d ds → Has d (directions h)) → ((d : Way) → Has d (directions h) → Has d ds ⊎ Idle h d)
    → AreOrdersNext p h (pass h ds)
pass-next p h l u m [] r f g = (u, λ d i w. from-idle h d (elim (g d i) as (λ z. Idle h d) [ inl j ↦ absurd j | inr q ↦ q ]) w)
pass-next p h l u m (e ∷ ds) r f g =
    let he : Has e (directions h) = f e (inl refl) in
    let same = ways-give h e in
    let l' = past-after p h (give h e) l (may-given p h e (give h e) he (given h e)) in
    one-turn p h e (give h e) (pass (after h (give h e)) ds) l he
    (record { none_due = u; earlier = λ c i w. from-idle h c (before c (g c i) w) })
    (given h e)
    (pass-next p (after h (give h e)) l' (none-after h e (give h e) (given h e) u) (m + 1) ds r.1
    (λ c j. subst (Has c) (sym same) (f c (inr j)))
    (λ c j. let j' : Has c (directions h) = subst (Has c) same j in later he c j' (g c j')))
  where
    before : (c : Way) → Has c (e ∷ ds) ⊎ Idle h c → c.id < e.id → Idle h c
    before c (inl j) w = let a = from m (e ∷ ds) c r j in let b : e.id ≡ m = r.0 in absurd (omega arith)
    before c (inr q) w = q

    later : Has e (directions h) → (c : Way) → Has c (directions h) → Has c (e ∷ ds) ⊎ Idle h c → Has c ds ⊎ Idle (after h (give h e)) c
    later he c j (inl (inl q)) = inr (rw q (own-turn h e (give h e) (given h e)))
    later he c j (inl (inr k)) = inl k
    later he c j (inr q) = inr (turn p h l c e j he (c.id == e.id) refl q)

rest-next : (p : ℕ) (h : List ControllerAct) → IsControllerPast p h → NoneDue h → AreOrdersNext p h (pass h (directions h))
rest-next p h l u = pass-next p h l u 0 (directions h) (rising h) (λ d i. i) (λ d i. inl i)

-- ## the orders that belong to no direction

-- nothing is due where the newest act asks for no reading and no list
none-asked : (h : List ControllerAct) → ((g : ℕ) → is_reading_due g h ≡ false) → ((g : ℕ) → is_open g h ≡ true → is_policy_due g h ≡ false)
    → NoneDue h
none-asked h a b g Read i = absurd (let u : true ≡ false = sym i ∙ a g in cc)
none-asked h a b g (Policy l) i = absurd (let u : true ≡ false = sym i.2 ∙ b g i.0 in cc)
none-asked h a b g (PutIn x) i = i
none-asked h a b g (PutOut x) i = i
none-asked h a b g (RemoveIn n) i = i
none-asked h a b g (RemoveOut n) i = i

none-commanded : (h : List ControllerAct) (c : PlacedCommand) → ((g : ℕ) → is_open g h ≡ true → is_list_for g c ≡ false)
    → NoneDue (Accepted c ∷ h)
none-commanded h c b = none-asked (Accepted c ∷ h) (λ g. refl) b

list-next : (p : ℕ) (h : List ControllerAct) (g : ℕ) (l : List SpdEntry) (b : Bool) → is_open g h ≡ b
    → IsControllerPast p (Accepted (SetPolicy g l) ∷ h)
    → AreOrdersNext p (Accepted (SetPolicy g l) ∷ h)
    (asked_then (Accepted (SetPolicy g l) ∷ h) (if b then order (Accepted (SetPolicy g l) ∷ h) g (Policy l) ∷ [] else []))
list-next p h g l true o k =
    let m : ControllerMayAct p (Accepted (SetPolicy g l) ∷ h) (order (Accepted (SetPolicy g l) ∷ h) g (Policy l)) =
    (refl, refl, o, (rw (eq-own g) refl, eq-own g)) in (
      m,
      (λ d i w. cc),
      rest-next p (order (Accepted (SetPolicy g l) ∷ h) g (Policy l) ∷ Accepted (SetPolicy g l) ∷ h) (m, k)
          (no-due (Accepted (SetPolicy g l) ∷ h) (Policy l) g (λ f. and-false _)),
    )
list-next p h g l false o k =
    rest-next p (Accepted (SetPolicy g l) ∷ h) k (none-commanded h (SetPolicy g l) (λ f w. shut f (f == g) refl w))
  where
    shut : (f : ℕ) (b : Bool) → (f == g) ≡ b → is_open f h ≡ true → b ≡ false
    shut f true e w = let q : f ≡ g = grind arith in absurd (let u : true ≡ false = sym w ∙ (ap (λ z. is_open z h) q ∙ o) in cc)
    shut f false e w = refl

command-next : (p : ℕ) (h : List ControllerAct) (c : PlacedCommand) → IsControllerPast p (Accepted c ∷ h)
    → AreOrdersNext p (Accepted c ∷ h) (asked_then (Accepted c ∷ h) (by_command (Accepted c ∷ h) c))
command-next p h (SetPolicy g l) k = list-next p h g l (is_open g h) refl k
command-next p h (Tunnel t) k = rest-next p (Accepted (Tunnel t) ∷ h) k (none-commanded h (Tunnel t) (λ f w. refl))
command-next p h (End r) k = rest-next p (Accepted (End r) ∷ h) k (none-commanded h (End r) (λ f w. refl))
command-next p h (Rekey r) k = rest-next p (Accepted (Rekey r) ∷ h) k (none-commanded h (Rekey r) (λ f w. refl))
command-next p h (Keys q) k = rest-next p (Accepted (Keys q) ∷ h) k (none-commanded h (Keys q) (λ f w. refl))

-- after the reading of an opening
abbrev read_at : List ControllerAct → ℕ → ℕ → List ControllerAct
read_at h g s = order (Opened g s ∷ h) g Read ∷ Opened g s ∷ h

newest-next : (p : ℕ) (h : List ControllerAct) (g s : ℕ) (o : Option (List SpdEntry)) → newest_list g h ≡ o
    → IsControllerPast p (read_at h g s) → AreOrdersNext p (read_at h g s) (asked_then (read_at h g s) (with_list (read_at h g s) g o))
newest-next p h g s None e k = rest-next p (read_at h g s) k (no-list (read_at h g s) refl)
  where
    no-list : (w : List ControllerAct) → w ≡ read_at h g s → NoneDue (read_at h g s)
    no-list w t f Read i = cc
    no-list w t f (Policy l) i = absurd (none-there f l (f == g) refl i)
      where
        none-there : (f : ℕ) (l : List SpdEntry) (b : Bool) → (f == g) ≡ b → IsDue (read_at h g s) f (Policy l) → ⊥
        none-there f l true q i = let w : f ≡ g = grind arith in
            let u : None ≡ Some l = sym e ∙ (ap (λ z. newest_list z h) (sym w) ∙ i.1) in cc
        none-there f l false q i = let u = i.2 in let v : (false && (f == g)) ≡ true = subst (λ b. (b && (f == g)) ≡ true) q u in cc
    no-list w t f (PutIn x) i = i
    no-list w t f (PutOut x) i = i
    no-list w t f (RemoveIn n) i = i
    no-list w t f (RemoveOut n) i = i
newest-next p h g s (Some l) e k =
    let q = eq-own g in
    let m : ControllerMayAct p (read_at h g s) (order (read_at h g s) g (Policy l)) = (refl, refl, rw q refl, (e, rw q refl)) in (
      m,
      (λ d i w. cc),
      rest-next p (order (read_at h g s) g (Policy l) ∷ read_at h g s) (m, k)
          (no-due (read_at h g s) (Policy l) g (λ f. and-false _)),
    )

opening-next : (p : ℕ) (h : List ControllerAct) (g s : ℕ) → IsControllerPast p (Opened g s ∷ h)
    → AreOrdersNext p (Opened g s ∷ h) (asked_then (Opened g s ∷ h) (read_put (Opened g s ∷ h) g))
opening-next p h g s k =
    let q = eq-own g in
    let m : ControllerMayAct p (Opened g s ∷ h) (order (Opened g s ∷ h) g Read) = (refl, refl, rw q refl, q) in
    (m, (λ d i w. cc), newest-next p h g s (newest_list g h) refl (m, k))

spi-next : (p : ℕ) (h : List ControllerAct) (g s n : ℕ) (b : Bool) → list_any is_reading (queue g h) ≡ b → is_open g h ≡ true
    → IsControllerPast p (Heard g s (notices.BadSpi n) ∷ h) → AreOrdersNext p (Heard g s (notices.BadSpi n) ∷ h)
    (asked_then (Heard g s (notices.BadSpi n) ∷ h) (if b then [] else order (Heard g s (notices.BadSpi n) ∷ h) g Read ∷ []))
spi-next p h g s n true e o k =
    rest-next p (Heard g s (notices.BadSpi n) ∷ h) k (none-asked (Heard g s (notices.BadSpi n) ∷ h) (λ f. waits f (f == g) refl)
    (λ f w. refl))
  where
    waits : (f : ℕ) (b : Bool) → (f == g) ≡ b → (b && true && not (list_any is_reading (queue f h))) ≡ false
    waits f true q = let w : f ≡ g = grind arith in
        let u : list_any is_reading (queue f h) ≡ true = ap (λ z. list_any is_reading (queue z h)) w ∙ e in rw u refl
    waits f false q = refl
spi-next p h g s n false e o k =
    let q = eq-own g in
    let m : ControllerMayAct p (Heard g s (notices.BadSpi n) ∷ h) (order (Heard g s (notices.BadSpi n) ∷ h) g Read) =
    (refl, refl, o, rw (q, e) refl) in (
      m,
      (λ d i w. cc),
      rest-next p (order (Heard g s (notices.BadSpi n) ∷ h) g Read ∷ Heard g s (notices.BadSpi n) ∷ h) (m, k)
          (no-due (Heard g s (notices.BadSpi n) ∷ h) Read g (λ f. and-false _)),
    )

no-reading : (a c : Bool) → (a && false && c) ≡ false
no-reading true c = refl
no-reading false c = refl

notice-next : (p : ℕ) (h : List ControllerAct) (g s : ℕ) (t : Notice) → is_open g h ≡ true → IsControllerPast p (Heard g s t ∷ h)
    → AreOrdersNext p (Heard g s t ∷ h) (asked_then (Heard g s t ∷ h) (by_notice (Heard g s t ∷ h) g t))
notice-next p h g s (notices.Acquire r f) o k = rest-next p (Heard g s (notices.Acquire r f) ∷ h) k
    (none-asked (Heard g s (notices.Acquire r f) ∷ h) (λ z. no-reading _ _) (λ z w. refl))
notice-next p h g s (notices.Expire m b c) o k = rest-next p (Heard g s (notices.Expire m b c) ∷ h) k
    (none-asked (Heard g s (notices.Expire m b c) ∷ h) (λ z. no-reading _ _) (λ z w. refl))
notice-next p h g s (notices.SeqOverflow m) o k = rest-next p (Heard g s (notices.SeqOverflow m) ∷ h) k
    (none-asked (Heard g s (notices.SeqOverflow m) ∷ h) (λ z. no-reading _ _) (λ z w. refl))
notice-next p h g s (notices.BadSpi n) o k = spi-next p h g s n (list_any is_reading (queue g h)) refl o k

-- ## a block meets the clauses

refused-whole : (h : List ControllerAct) (w : Refusal) → NotIdle h → NoneDue (Refused w ∷ h) × NotIdle (Refused w ∷ h)
refused-whole h w q = (none-asked (Refused w ∷ h) (λ g. refl) (λ g o. refl), idle-refused h w q)

refusal-block : (ps : List Peer) (h : List ControllerAct) (c : Command) (o : Option Refusal)
    → refusal (length ps) h (placed_command ps c) ≡ o → IsControllerPast (length ps) h → NotIdle h
    → IsBlock ps h (Told c) (by_refusal h (placed_command ps c) o)
refusal-block ps h c None e l q = (refl, e, command-next (length ps) h (placed_command ps c) (e, l))
refusal-block ps h c (Some w) e l q = (e, (placed_command ps c, e), refused-whole h w q)

block-if : (ps : List Peer) (h : List ControllerAct) (e : ControllerEvent) (b : Bool) (xs ys : List ControllerAct)
    → (b ≡ true → IsBlock ps h e xs) → (b ≡ false → IsBlock ps h e ys) → IsBlock ps h e (if b then xs else ys)
block-if ps h e true xs ys f g = f refl
block-if ps h e false xs ys f g = g refl

shut-open : (x y : Bool) → x ≡ y → x ≡ true → y ≡ false → ⊥
shut-open x y e a b = let u : true ≡ false = sym a ∙ (e ∙ b) in cc

none-opens : (ps : List Peer) (h : List ControllerAct) (g : ℕ) → is_open g h ≡ true → IsBlock ps h (Opens g) []
none-opens ps h g o (Opened f s) i m = shut-open _ _ (ap (λ z. is_open z h) (sym i)) o m.0
none-opens ps h g o (Cut f s) i m = i
none-opens ps h g o (Answered f s n b) i m = i
none-opens ps h g o (Heard f s u) i m = i
none-opens ps h g o (Ordered f s n z) i m = i
none-opens ps h g o (Accepted k) i m = i
none-opens ps h g o (Refused w) i m = i

none-cuts : (ps : List Peer) (h : List ControllerAct) (g : ℕ) → is_open g h ≡ false → IsBlock ps h (Cuts g) []
none-cuts ps h g o (Opened f s) i m = i
none-cuts ps h g o (Cut f s) i m = shut-open _ _ (ap (λ z. is_open z h) i) m.0 o
none-cuts ps h g o (Answered f s n b) i m = i
none-cuts ps h g o (Heard f s u) i m = i
none-cuts ps h g o (Ordered f s n z) i m = i
none-cuts ps h g o (Accepted k) i m = i
none-cuts ps h g o (Refused w) i m = i

none-notices : (ps : List Peer) (h : List ControllerAct) (g : ℕ) (t : Notice) → is_open g h ≡ false → IsBlock ps h (Notices g t) []
none-notices ps h g t o (Opened f s) i m = i
none-notices ps h g t o (Cut f s) i m = i
none-notices ps h g t o (Answered f s n b) i m = i
none-notices ps h g t o (Heard f s u) i m = shut-open _ _ (ap (λ z. is_open z h) i.0) m.0 o
none-notices ps h g t o (Ordered f s n z) i m = i
none-notices ps h g t o (Accepted k) i m = i
none-notices ps h g t o (Refused w) i m = i

no-oldest : (q : List ControllerOrder) (o : ControllerOrder) → q ≡ [] → oldest q ≡ Some o → ⊥
no-oldest [] o e f = cc
no-oldest (x ∷ q) o e f = cc

none-answers : (ps : List Peer) (h : List ControllerAct) (g : ℕ) (a : Answer) → queue g h ≡ [] → IsBlock ps h (Answers g a) []
none-answers ps h g a o (Opened f s) i m = i
none-answers ps h g a o (Cut f s) i m = i
none-answers ps h g a o (Answered f s n b) i m = no-oldest (queue f h) m.0 (ap (λ z. queue z h) i.0 ∙ o) m.1
none-answers ps h g a o (Heard f s u) i m = i
none-answers ps h g a o (Ordered f s n z) i m = i
none-answers ps h g a o (Accepted k) i m = i
none-answers ps h g a o (Refused w) i m = i

answer-block : (ps : List Peer) (h : List ControllerAct) (g : ℕ) (a : Answer) (os : List ControllerOrder) → queue g h ≡ os
    → IsControllerPast (length ps) h → IsBlock ps h (Answers g a) (by_answer h g a os)
answer-block ps h g a [] e l = none-answers ps h g a e
answer-block ps h g a (o ∷ os) e l =
    let m : ControllerMayAct (length ps) h (Answered g (openings g h) (answered g h + 1) a) = (o, ap oldest e, refl, refl) in (
      (refl, refl),
      m,
      rest-next (length ps) (Answered g (openings g h) (answered g h + 1) a ∷ h) (m, l)
          (none-asked (Answered g (openings g h) (answered g h + 1) a ∷ h) (λ f. refl) (λ f o. refl)),
    )

-- the block of an event meets the clauses
pub block-meets : (ps : List Peer) (h : List ControllerAct) (e : ControllerEvent) → IsControllerPast (length ps) h → NotIdle h
    → IsBlock ps h e (block ps h e)
block-meets ps h (Told c) l q = refusal-block ps h c (refusal (length ps) h (placed_command ps c)) refl l q
block-meets ps h (Opens g) l q =
    block-if ps h (Opens g) (is_open g h) [] (going h (Opened g (openings g h + 1)))
    (λ o. none-opens ps h g o)
    (λ o. (refl, (o, refl), opening-next (length ps) h g (openings g h + 1) ((o, refl), l)))
block-meets ps h (Cuts g) l q =
    block-if ps h (Cuts g) (is_open g h) (going h (Cut g (openings g h))) []
    (λ o. (
      refl,
      (o, refl),
      rest-next (length ps) (Cut g (openings g h) ∷ h) ((o, refl), l)
          (none-asked (Cut g (openings g h) ∷ h) (λ f. refl) (λ f o. refl)),
    ))
    (λ o. none-cuts ps h g o)
block-meets ps h (Answers g a) l q = answer-block ps h g a (queue g h) refl l
block-meets ps h (Notices g t) l q =
    block-if ps h (Notices g t) (is_open g h) (going h (Heard g (openings g h) t)) []
    (λ o. ((refl, refl), (o, refl), notice-next (length ps) h g (openings g h) t o ((o, refl), l)))
    (λ o. none-notices ps h g t o)

-- ## and is the only one that does

abbrev told_act : PlacedCommand → Option Refusal → ControllerAct
told_act c None = Accepted c
told_act c (Some w) = Refused w

own-told : (ps : List Peer) (h : List ControllerAct) (c : Command) (a : ControllerAct) → IsOwnAct ps h (Told c) a
    → ControllerMayAct (length ps) h a → a ≡ told_act (placed_command ps c) (refusal (length ps) h (placed_command ps c))
own-told ps h c (Opened f s) i m = absurd i
own-told ps h c (Cut f s) i m = absurd i
own-told ps h c (Answered f s n b) i m = absurd i
own-told ps h c (Heard f s u) i m = absurd i
own-told ps h c (Ordered f s n z) i m = absurd i
own-told ps h c (Accepted k) i m = let t : refusal (length ps) h (placed_command ps c) ≡ None = ap (refusal (length ps) h) (sym i) ∙ m in
    rw (i, t) refl
own-told ps h c (Refused w) i m = rw i refl

own-opens : (ps : List Peer) (h : List ControllerAct) (g : ℕ) (a : ControllerAct) → IsOwnAct ps h (Opens g) a
    → ControllerMayAct (length ps) h a → a ≡ Opened g (openings g h + 1)
own-opens ps h g (Opened f s) i m = let t = m.1 in rw (t, i) refl
own-opens ps h g (Cut f s) i m = absurd i
own-opens ps h g (Answered f s n b) i m = absurd i
own-opens ps h g (Heard f s u) i m = absurd i
own-opens ps h g (Ordered f s n z) i m = absurd i
own-opens ps h g (Accepted k) i m = absurd i
own-opens ps h g (Refused w) i m = absurd i

own-cuts : (ps : List Peer) (h : List ControllerAct) (g : ℕ) (a : ControllerAct) → IsOwnAct ps h (Cuts g) a
    → ControllerMayAct (length ps) h a → a ≡ Cut g (openings g h)
own-cuts ps h g (Opened f s) i m = absurd i
own-cuts ps h g (Cut f s) i m = let t = m.1 in rw (t, i) refl
own-cuts ps h g (Answered f s n b) i m = absurd i
own-cuts ps h g (Heard f s u) i m = absurd i
own-cuts ps h g (Ordered f s n z) i m = absurd i
own-cuts ps h g (Accepted k) i m = absurd i
own-cuts ps h g (Refused w) i m = absurd i

own-answers : (ps : List Peer) (h : List ControllerAct) (g : ℕ) (r : Answer) (a : ControllerAct) → IsOwnAct ps h (Answers g r) a
    → ControllerMayAct (length ps) h a → a ≡ Answered g (openings g h) (answered g h + 1) r
own-answers ps h g r (Opened f s) i m = absurd i
own-answers ps h g r (Cut f s) i m = absurd i
own-answers ps h g r (Answered f s n b) i m = let t = m.2 in let w = m.3 in let x = i.0 in let y = i.1 in rw (t, w, x, y) refl
own-answers ps h g r (Heard f s u) i m = absurd i
own-answers ps h g r (Ordered f s n z) i m = absurd i
own-answers ps h g r (Accepted k) i m = absurd i
own-answers ps h g r (Refused w) i m = absurd i

own-notices : (ps : List Peer) (h : List ControllerAct) (g : ℕ) (t : Notice) (a : ControllerAct) → IsOwnAct ps h (Notices g t) a
    → ControllerMayAct (length ps) h a → a ≡ Heard g (openings g h) t
own-notices ps h g t (Opened f s) i m = absurd i
own-notices ps h g t (Cut f s) i m = absurd i
own-notices ps h g t (Answered f s n b) i m = absurd i
own-notices ps h g t (Heard f s u) i m = let w = m.1 in let x = i.0 in let y = i.1 in rw (w, x, y) refl
own-notices ps h g t (Ordered f s n z) i m = absurd i
own-notices ps h g t (Accepted k) i m = absurd i
own-notices ps h g t (Refused w) i m = absurd i

one-own : (ps : List Peer) (h : List ControllerAct) (e : ControllerEvent) (a b : ControllerAct) → IsOwnAct ps h e a
    → ControllerMayAct (length ps) h a → IsOwnAct ps h e b → ControllerMayAct (length ps) h b → a ≡ b
one-own ps h (Told c) a b i m j n = own-told ps h c a i m ∙ sym (own-told ps h c b j n)
one-own ps h (Opens g) a b i m j n = own-opens ps h g a i m ∙ sym (own-opens ps h g b j n)
one-own ps h (Cuts g) a b i m j n = own-cuts ps h g a i m ∙ sym (own-cuts ps h g b j n)
one-own ps h (Answers g r) a b i m j n = own-answers ps h g r a i m ∙ sym (own-answers ps h g r b j n)
one-own ps h (Notices g t) a b i m j n = own-notices ps h g t a i m ∙ sym (own-notices ps h g t b j n)

one-block : (ps : List Peer) (h : List ControllerAct) (e : ControllerEvent) (xs ys : List ControllerAct) → IsBlock ps h e xs
    → IsBlock ps h e ys → xs ≡ ys
one-block ps h e [] [] a b = refl
one-block ps h e [] (y ∷ ys) a b = absurd (a y b.0 b.1)
one-block ps h e (x ∷ xs) [] a b = absurd (b x a.0 a.1)
one-block ps h e (x ∷ xs) (y ∷ ys) a b =
    let q : x ≡ y = one-own ps h e x y a.0 a.1 b.0 b.1 in
    let r : xs ≡ ys = one-list (length ps) (x ∷ h) xs ys a.2 (subst (λ c. AreOrdersNext (length ps) (c ∷ h) ys) (sym q) b.2) in
    rw (q, r) refl

-- acts that meet the clauses are the block
pub only-block : (ps : List Peer) (h : List ControllerAct) (e : ControllerEvent) (xs : List ControllerAct) → IsControllerPast (length ps) h
    → NotIdle h → IsBlock ps h e xs → xs ≡ block ps h e
only-block ps h e xs l q i = one-block ps h e xs (block ps h e) i (block-meets ps h e l q)
