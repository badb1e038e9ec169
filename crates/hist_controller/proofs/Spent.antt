-- A direction that is over with nothing left stays so and is given nothing, so it may be forgotten; and a block is short.
use Rattle.std.proofs.Common.{◌≡◌, ℕ, ◌+◌, ◌*◌, ◌≤◌, Bool, true, false, ◌==◌, not, ◌&&◌, ◌||◌, List, [], ◌∷◌, ◌++◌, Option, Some, None, inl, inr, length, refl, sym, subst, ◌∙◌, ap, arith, if◌then◌else◌, append-nil}
use Rattle.std.proofs.lemmas.Bool.{and_parts}
use Rattle.std.specs.List.{filter, list_any}
use Rattle.ikeless_tree.specs.declared.command.Peer.{Peer}
use Rattle.ikeless_tree.specs.declared.command.Refusal.{Refusal}
use Rattle.ikeless_tree.specs.declared.entry.SpdEntry.{SpdEntry}
use Rattle.ikeless_tree.specs.declared.order.Answer.{Answer}
use Rattle.ikeless_tree.specs.declared.order.Notice.{Notice}
use Rattle.ikeless_tree.specs.declared.order.Notice.TheVariants as notices
use Rattle.hist_controller.specs.Acts.{Way, Association, ControllerOrder, Read, Policy, PutIn, PutOut, RemoveIn, RemoveOut, PlacedCommand, SetPolicy, Tunnel, End, Rekey, Keys, ControllerAct, Opened, Cut, Answered, Heard, Ordered, Accepted, Refused, ControllerEvent, Told, Opens, Cuts, Answers, Notices}
use Rattle.hist_acts.specs.Past.{after}
use Rattle.hist_controller.specs.Past.{is_open, openings, answered, oldest, queue, newest_list, is_read, new_ways, directions, is_end_of, is_over, is_wanted, RemovingIn, is_answer_to, inbound_put, left, is_own, is_busy}
use Rattle.hist_controller.specs.Law.{order, give, pass, with_list, is_reading, by_command, by_notice, read_put, has_tunnel, is_none, is_counted, tunnels, placed_command, refusal, asked_then, going, by_refusal, by_answer, block}
use Rattle.hist_controller.specs.Clauses.{Has, MayOrder, ControllerMayActAll, IsControllerPast}
use Rattle.hist_controller.specs.Spent.{is_spent, Forgets, none, keeps, drops, added_ways, unspent, StaysSpent}
use Rattle.hist_controller.proofs.Bools.{or-right}
use Rattle.hist_controller.proofs.Lists.{has-left, length-both}
use Rattle.hist_controller.proofs.Serials.{one-way}
use Rattle.hist_controller.proofs.Befores.{is-not}
use Rattle.hist_controller.proofs.Gives.{Given, nothing, out_removed, in_removed, out_was_put, in_was_put, given, ways-give}
use Rattle.hist_controller.proofs.Clauses.{may-given, may-command, may-read-put, may-notice, past-after}
use Rattle.hist_controller.proofs.Few.{Pairs, pairs, few-tunnels}
use Rattle.hist_controller.proofs.Owners.{found, equal}
use Rattle.hist_controller.proofs.Own.{old-made, own-waits}

none-empty : (xs : List Association) → is_none xs ≡ true → xs ≡ []
none-empty [] e = refl
none-empty (x ∷ xs) e = cc

record Over (d : Way) (h : List ControllerAct) : Type 0 where
  pub over : is_over d h ≡ true
  pub left : left d h ≡ []

over-of : (d : Way) (h : List ControllerAct) → is_spent d h ≡ true → Over d h
over-of d h e = let q = and_parts (is_over d h) (is_none (left d h)) e in record { over = q.0; left = none-empty (left d h) q.1 }

spent-of : (d : Way) (h : List ControllerAct) → Over d h → is_spent d h ≡ true
spent-of d h k = let o = k.over in let e = k.left in rw (o, e) refl

-- ## it stays so

owed-open : (w o a b : Bool) → ((w && not o) && a && b) ≡ true → o ≡ true → ⊥
owed-open true true a b e f = let q : false ≡ true = e in cc
owed-open true false a b e f = cc
owed-open false o a b e f = let q : false ≡ true = e in cc

none-put : (h : List ControllerAct) (g : ℕ) (z : ControllerOrder) → MayOrder h g z → (d : Way) → Has d (directions h) → is_over d h ≡ true
    → inbound_put d z ≡ []
none-put h g Read m d i o = refl
none-put h g (Policy l) m d i o = refl
none-put h g (PutIn x) m d i o = at (d.id == x.way.id) refl
  where
    at : (b : Bool) → (d.id == x.way.id) ≡ b → (if b then x ∷ [] else []) ≡ []
    at true t =
        let e = one-way h d x.way i m.of (equal d.id x.way.id t) in
        absurd (owed-open (is_wanted x.way h) (is_over x.way h) (is_read x.way.sender h) (is_read x.way.receiver h) m.may
        (ap (λ y. is_over y h) (sym e) ∙ o))
    at false t = refl
none-put h g (PutOut x) m d i o = refl
none-put h g (RemoveIn n) m d i o = refl
none-put h g (RemoveOut n) m d i o = refl

over-step : (p : ℕ) (h : List ControllerAct) (a : ControllerAct) → IsControllerPast p (a ∷ h) → (d : Way) → Has d (directions h) → Over d h
    → Over d (a ∷ h)
over-step p h (Opened g s) l d i k = record { over = k.over; left = k.left }
over-step p h (Cut g s) l d i k = record { over = k.over; left = k.left }
over-step p h (Answered g s n a) l d i k =
    record { over = k.over; left = ap (filter (λ x. not (is_answer_to RemovingIn x.serial (oldest (queue g h))))) k.left }
over-step p h (Heard g s t) l d i k = record { over = k.over; left = k.left }
over-step p h (Ordered g s n z) l d i k = record {
  over = k.over;
  left = ap (λ t. t ++ inbound_put d z) k.left
      ∙ none-put h g z l.0.3 d i k.over;
}
over-step p h (Accepted c) l d i k =
    let e = old-made h c d i in
    record { over = rw e (or-right (is_end_of d.tunnel.reqid c) (is_over d h) k.over); left = rw e k.left }
over-step p h (Refused w) l d i k = record { over = k.over; left = k.left }

pub known-still : (h : List ControllerAct) (a : ControllerAct) (d : Way) → Has d (directions h) → Has d (directions (a ∷ h))
known-still h (Opened g s) d i = i
known-still h (Cut g s) d i = i
known-still h (Answered g s n a) d i = i
known-still h (Heard g s t) d i = i
known-still h (Ordered g s n z) d i = i
known-still h (Accepted c) d i = has-left d (directions h) _ i
known-still h (Refused w) d i = i

-- ## it is given nothing

none-waits : (p : ℕ) (h : List ControllerAct) → IsControllerPast p h → (d : Way) → Has d (directions h) → left d h ≡ [] → (g : ℕ)
    → list_any (is_own d (left d h)) (queue g h) ≡ false
none-waits p h l d i e g = is-not (list_any (is_own d (left d h)) (queue g h)) (λ t.
    let f = found (is_own d (left d h)) (queue g h) t in
    let w = own-waits p h l d i g f.0 f.1 f.2 in
    let j : Has w.association [] = subst (Has w.association) e w.left in
    absurd j)

spent-free : (p : ℕ) (h : List ControllerAct) → IsControllerPast p h → (d : Way) → Has d (directions h) → left d h ≡ []
    → is_busy d h ≡ false
spent-free p h l d i e = rw (none-waits p h l d i e d.sender) (none-waits p h l d i e d.receiver)

gives-none : (h : List ControllerAct) (d : Way) (os : List ControllerAct) → Over d h → Given h d os → os ≡ []
gives-none h d _ k (nothing q) = refl
gives-none h d _ k (out_removed x f l m n1) = let j : Has x [] = subst (Has x) k.left l in absurd j
gives-none h d _ k (in_removed x f l m n1 n2) = let j : Has x [] = subst (Has x) k.left l in absurd j
gives-none h d _ k (out_was_put x f l m n1 n2 n3) = let j : Has x [] = subst (Has x) k.left l in absurd j
gives-none h d _ k (in_was_put y ks f s m n1 n2 n3) =
    absurd (owed-open (is_wanted d h) (is_over d h) (is_read d.sender h) (is_read d.receiver h) m k.over)

spent-gives : (h : List ControllerAct) (d : Way) → is_spent d h ≡ true → give h d ≡ []
spent-gives h d e = gives-none h d (give h d) (over-of d h e) (given h d)

spent-step : (p : ℕ) (h : List ControllerAct) (a : ControllerAct) → IsControllerPast p (a ∷ h) → (d : Way) → Has d (directions h)
    → is_spent d h ≡ true → is_spent d (a ∷ h) ≡ true
spent-step p h a l d i e = spent-of d (a ∷ h) (over-step p h a l d i (over-of d h e))

spent-now : (p : ℕ) (h : List ControllerAct) → IsControllerPast p h → (d : Way) → Has d (directions h) → is_spent d h ≡ true
    → StaysSpent d h
spent-now p h l d i e = record { spent = e; free = spent-free p h l d i (over-of d h e).left; still = spent-gives h d e }

pub spent-ever : (p : ℕ) (h xs : List ControllerAct) → IsControllerPast p h → ControllerMayActAll p h xs → (d : Way) → Has d (directions h)
    → is_spent d h ≡ true → StaysSpent d (after h xs)
spent-ever p h [] l m d i e = spent-now p h l d i e
spent-ever p h (a ∷ xs) l m d i e = spent-ever p (a ∷ h) xs (m.0, l) m.1 d (known-still h a d i) (spent-step p h a (m.0, l) d i e)

-- ## it may be forgotten

abbrev Known : List ControllerAct → List Way → Type 0
Known h ds = (d : Way) → Has d ds → Has d (directions h)

forgets-step : (p : ℕ) (h : List ControllerAct) (a : ControllerAct) → IsControllerPast p (a ∷ h) → (ds ks : List Way) → Known h ds
    → Forgets h ds ks → Forgets (a ∷ h) ds ks
forgets-step p h a l _ _ f none = none
forgets-step p h a l _ _ f (keeps d e ds ks k) = keeps d e ds ks (forgets-step p h a l ds ks (λ c i. f c (inr (inr i))) k)
forgets-step p h a l _ _ f (drops d e ds ks u v k) = drops d e ds ks (spent-step p h a l d (f d (inl refl)) u)
    (spent-step p h a l e (f e (inr (inl refl))) v) (forgets-step p h a l ds ks (λ c i. f c (inr (inr i))) k)

forgets-after : (p : ℕ) (h xs : List ControllerAct) → IsControllerPast p h → ControllerMayActAll p h xs → (ds ks : List Way) → Known h ds
    → Forgets h ds ks → Forgets (after h xs) ds ks
forgets-after p h [] l m ds ks f k = k
forgets-after p h (a ∷ xs) l m ds ks f k = forgets-after p (a ∷ h) xs (m.0, l) m.1 ds ks (λ d i. known-still h a d (f d i))
    (forgets-step p h a (m.0, l) ds ks f k)

forgets-new : (h : List ControllerAct) (n : ℕ) (c : PlacedCommand) → Forgets h (new_ways n c) (new_ways n c)
forgets-new h n (SetPolicy g l) = none
forgets-new h n (Tunnel t) = keeps _ _ [] [] none
forgets-new h n (End r) = none
forgets-new h n (Rekey r) = none
forgets-new h n (Keys k) = none

forgets-both : (h : List ControllerAct) (ds ks vs ws : List Way) → Forgets h ds ks → Forgets h vs ws → Forgets h (ds ++ vs) (ks ++ ws)
forgets-both h _ _ vs ws none k = k
forgets-both h _ _ vs ws (keeps d e ds ks f) k = keeps d e (ds ++ vs) (ks ++ ws) (forgets-both h ds ks vs ws f k)
forgets-both h _ _ vs ws (drops d e ds ks u v f) k = drops d e (ds ++ vs) (ks ++ ws) u v (forgets-both h ds ks vs ws f k)

forgets-same : (h : List ControllerAct) (ds ks : List Way) → Forgets h ds ks → Forgets h ds (ks ++ [])
forgets-same h ds ks k = subst (Forgets h ds) (sym (append-nil ks)) k

pub forgets-on : (p : ℕ) (h : List ControllerAct) (a : ControllerAct) → IsControllerPast p (a ∷ h) → (ks : List Way)
    → Forgets h (directions h) ks → Forgets (a ∷ h) (directions (a ∷ h)) (ks ++ added_ways h a)
forgets-on p h a l ks k = on a (forgets-step p h a l (directions h) ks (λ d i. i) k)
  where
    on : (a : ControllerAct) → Forgets (a ∷ h) (directions h) ks → Forgets (a ∷ h) (directions (a ∷ h)) (ks ++ added_ways h a)
    on (Opened g s) q = forgets-same (Opened g s ∷ h) (directions h) ks q
    on (Cut g s) q = forgets-same (Cut g s ∷ h) (directions h) ks q
    on (Answered g s n z) q = forgets-same (Answered g s n z ∷ h) (directions h) ks q
    on (Heard g s t) q = forgets-same (Heard g s t ∷ h) (directions h) ks q
    on (Ordered g s n z) q = forgets-same (Ordered g s n z ∷ h) (directions h) ks q
    on (Accepted c) q = forgets-both (Accepted c ∷ h) (directions h) ks _ _ q (forgets-new (Accepted c ∷ h) (length (directions h)) c)
    on (Refused w) q = forgets-same (Refused w ∷ h) (directions h) ks q

spent-not : (d : Way) (h : List ControllerAct) → is_counted h d ≡ false → is_spent d h ≡ true
spent-not d h e = at (is_over d h) (is_none (left d h)) e
  where
    at : (o n : Bool) → (not o || not n) ≡ false → (o && n) ≡ true
    at true true e = refl
    at true false e = cc
    at false n e = cc

not-spent : (d : Way) (h : List ControllerAct) → is_spent d h ≡ true → is_counted h d ≡ false
not-spent d h e = at (is_over d h) (is_none (left d h)) e
  where
    at : (o n : Bool) → (o && n) ≡ true → (not o || not n) ≡ false
    at true true e = refl
    at true false e = cc
    at false n e = cc

forgets-one : (h : List ControllerAct) (d e : Way) (ds ks : List Way) (a b : Bool) → is_counted h d ≡ a → is_counted h e ≡ b
    → Forgets h ds ks → Forgets h (d ∷ e ∷ ds) (if a || b then d ∷ e ∷ ks else ks)
forgets-one h d e ds ks true b t u k = keeps d e ds ks k
forgets-one h d e ds ks false true t u k = keeps d e ds ks k
forgets-one h d e ds ks false false t u k = drops d e ds ks (spent-not d h t) (spent-not e h u) k

-- all that is spent may be, whatever was forgotten before
pub forgets-unspent : (h : List ControllerAct) (ds ks : List Way) → Forgets h ds ks → Forgets h ds (unspent h ks)
forgets-unspent h _ _ none = none
forgets-unspent h _ _ (keeps d e ds ks k) = forgets-one h d e ds (unspent h ks) (is_counted h d) (is_counted h e) refl refl
    (forgets-unspent h ds ks k)
forgets-unspent h _ _ (drops d e ds ks u v k) = drops d e ds (unspent h ks) u v (forgets-unspent h ds ks k)

forgets-none : (h : List ControllerAct) (ds : List Way) → Pairs ds → Forgets h ds ds
forgets-none h [] q = none
forgets-none h (d ∷ []) q = absurd q
forgets-none h (d ∷ e ∷ ds) q = keeps d e ds ds (forgets-none h ds q)

pub forgets-all : (h : List ControllerAct) → Forgets h (directions h) (directions h)
forgets-all h = forgets-none h (directions h) (pairs h)

-- ## nothing hangs on it

pub forgets-tunnels : (h : List ControllerAct) (ds ks : List Way) → Forgets h ds ks → tunnels h ds ≡ tunnels h ks
forgets-tunnels h _ _ none = refl
forgets-tunnels h _ _ (keeps d e ds ks k) = ap (λ n. if is_counted h d || is_counted h e then n + 1 else n) (forgets-tunnels h ds ks k)
forgets-tunnels h _ _ (drops d e ds ks u v k) = rw (not-spent d h u, not-spent e h v) (forgets-tunnels h ds ks k)

over-not : (a o : Bool) → o ≡ true → (a && not o) ≡ false
over-not true o e = rw e refl
over-not false o e = refl

pub forgets-has : (r : ℕ) (h : List ControllerAct) (ds ks : List Way) → Forgets h ds ks
    → list_any (λ (d : Way). (d.tunnel.reqid == r) && not (is_over d h)) ds ≡ list_any (λ (d : Way). (d.tunnel.reqid == r)
    && not (is_over d h)) ks
forgets-has r h _ _ none = refl
forgets-has r h _ _ (keeps d e ds ks k) = ap (λ b. ((d.tunnel.reqid == r) && not (is_over d h))
    || (((e.tunnel.reqid == r) && not (is_over e h)) || b)) (forgets-has r h ds ks k)
forgets-has r h _ _ (drops d e ds ks u v k) =
    let a = over-not (d.tunnel.reqid == r) (is_over d h) (over-of d h u).over in
    let b = over-not (e.tunnel.reqid == r) (is_over e h) (over-of e h v).over in
    rw (a, b) (forgets-has r h ds ks k)

pass-none : (h : List ControllerAct) (d : Way) (ds : List Way) → give h d ≡ [] → pass h (d ∷ ds) ≡ pass h ds
pass-none h d ds e = subst (λ os. os ++ pass (after h os) ds ≡ pass h ds) (sym e) refl

known-give : (h : List ControllerAct) (d : Way) (ds : List Way) → Known h ds → Known (after h (give h d)) ds
known-give h d ds f e i = subst (Has e) (sym (ways-give h d)) (f e i)

past-give : (p : ℕ) (h : List ControllerAct) → IsControllerPast p h → (d : Way) → Has d (directions h)
    → IsControllerPast p (after h (give h d))
past-give p h l d i = past-after p h (give h d) l (may-given p h d (give h d) i (given h d))

forgets-give : (p : ℕ) (h : List ControllerAct) → IsControllerPast p h → (d : Way) → Has d (directions h) → (ds ks : List Way) → Known h ds
    → Forgets h ds ks → Forgets (after h (give h d)) ds ks
forgets-give p h l d i ds ks f k = forgets-after p h (give h d) l (may-given p h d (give h d) i (given h d)) ds ks f k

pub forgets-pass : (p : ℕ) (h : List ControllerAct) → IsControllerPast p h → (ds ks : List Way)
    → ((d : Way) → Has d ds → Has d (directions h)) → Forgets h ds ks → pass h ds ≡ pass h ks
forgets-pass p h l [] _ f none = refl
forgets-pass p h l (d ∷ []) ks f k = elim k [ ]
forgets-pass p h l (d ∷ e ∷ ds) _ f (keeps _ _ _ ks k) =
    let i : Has d (directions h) = f d (inl refl) in
    let l1 = past-give p h l d i in
    let j : Has e (directions (after h (give h d))) = subst (Has e) (sym (ways-give h d)) (f e (inr (inl refl))) in
    let f1 = known-give h d ds (λ c q. f c (inr (inr q))) in
    let k1 = forgets-give p h l d i ds ks (λ c q. f c (inr (inr q))) k in
    let l2 = past-give p (after h (give h d)) l1 e j in
    let f2 = known-give (after h (give h d)) e ds f1 in
    let k2 = forgets-give p (after h (give h d)) l1 e j ds ks f1 k1 in
    ap (λ os. give h d ++ (give (after h (give h d)) e ++ os)) (forgets-pass p (after (after h (give h d)) (give (after h (give h d)) e)) l2
    ds ks f2 k2)
forgets-pass p h l (d ∷ e ∷ ds) _ f (drops _ _ _ ks u v k) = pass-none h d (e ∷ ds) (spent-gives h d u)
    ∙ (pass-none h e ds (spent-gives h e v) ∙ forgets-pass p h l ds ks (λ c q. f c (inr (inr q))) k)

pub pass-forgets : (p : ℕ) (h : List ControllerAct) → IsControllerPast p h → (ks : List Way) → Forgets h (directions h) ks
    → pass h (directions h) ≡ pass h ks
pass-forgets p h l ks k = forgets-pass p h l (directions h) ks (λ d i. i) k

pub tunnel-forgets : (r : ℕ) (h : List ControllerAct) (ks : List Way) → Forgets h (directions h) ks
    → has_tunnel r h ≡ list_any (λ (d : Way). (d.tunnel.reqid == r) && not (is_over d h)) ks
tunnel-forgets r h ks k = forgets-has r h (directions h) ks k

-- ## a block is short

one-at-most : (h : List ControllerAct) (d : Way) (os : List ControllerAct) → Given h d os → length os ≤ 1
one-at-most h d _ (nothing q) = omega arith
one-at-most h d _ (out_removed x f l m n1) = omega arith
one-at-most h d _ (in_removed x f l m n1 n2) = omega arith
one-at-most h d _ (out_was_put x f l m n1 n2 n3) = omega arith
one-at-most h d _ (in_was_put y ks f s m n1 n2 n3) = omega arith

pub short-pass : (h : List ControllerAct) (ds : List Way) → length (pass h ds) ≤ length ds
short-pass h [] = omega arith
short-pass h (d ∷ ds) =
    let a = one-at-most h d (give h d) (given h d) in
    let b = short-pass (after h (give h d)) ds in
    let c = length-both (give h d) (pass (after h (give h d)) ds) in
    omega arith

unspent-long : (h : List ControllerAct) (ds : List Way) → length (unspent h ds) ≡ 2 * tunnels h ds
unspent-long h [] = refl
unspent-long h (d ∷ []) = refl
unspent-long h (d ∷ e ∷ ds) = at (is_counted h d || is_counted h e) (unspent-long h ds)
  where
    at : (b : Bool) → length (unspent h ds) ≡ 2 * tunnels h ds → length (if b then d ∷ e ∷ unspent h ds else unspent h ds) ≡ 2 *
        (if b then tunnels h ds + 1 else tunnels h ds)
    at true q = grind (arith, q)
    at false q = q

few-passed : (p : ℕ) (h : List ControllerAct) → IsControllerPast p h → length (pass h (directions h)) ≤ 2048
few-passed p h l =
    let e = ap length (pass-forgets p h l (unspent h (directions h)) (forgets-unspent h (directions h) (directions h) (forgets-all h))) in
    let a = short-pass h (unspent h (directions h)) in
    let b = unspent-long h (directions h) in
    let c = few-tunnels p h l in
    omega arith

few-asked : (p : ℕ) (h os : List ControllerAct) → IsControllerPast p h → ControllerMayActAll p h os → length os ≤ 2
    → length (asked_then h os) ≤ 2050
few-asked p h os l m e =
    let a = few-passed p (after h os) (past-after p h os l m) in
    let b = length-both os (pass (after h os) (directions (after h os))) in
    omega arith

few-more : (a : ControllerAct) (xs : List ControllerAct) → length xs ≤ 2050 → length (a ∷ xs) ≤ 2051
few-more a xs e = grind arith

short-if : (b : Bool) (xs ys : List ControllerAct) (n : ℕ) → (b ≡ true → length xs ≤ n) → (b ≡ false → length ys ≤ n)
    → length (if b then xs else ys) ≤ n
short-if true xs ys n f g = f refl
short-if false xs ys n f g = g refl

short-command : (h : List ControllerAct) (c : PlacedCommand) → length (by_command h c) ≤ 2
short-command h (SetPolicy g l) = short-if (is_open g h) (order h g (Policy l) ∷ []) [] 2 (λ t. omega arith) (λ t. omega arith)
short-command h (Tunnel t) = omega arith
short-command h (End r) = omega arith
short-command h (Rekey r) = omega arith
short-command h (Keys k) = omega arith

short-list : (h : List ControllerAct) (g : ℕ) (o : Option (List SpdEntry)) → length (with_list h g o) ≤ 1
short-list h g None = omega arith
short-list h g (Some l) = omega arith

short-read : (h : List ControllerAct) (g : ℕ) → length (read_put h g) ≤ 2
short-read h g = let a = short-list (order h g Read ∷ h) g (newest_list g h) in grind arith

short-notice : (h : List ControllerAct) (g : ℕ) (t : Notice) → length (by_notice h g t) ≤ 2
short-notice h g (notices.Acquire r f) = omega arith
short-notice h g (notices.Expire m b c) = omega arith
short-notice h g (notices.SeqOverflow m) = omega arith
short-notice h g (notices.BadSpi n) = short-if (list_any is_reading (queue g h)) [] (order h g Read ∷ []) 2 (λ t. omega arith)
    (λ t. omega arith)

short-refusal : (p : ℕ) (h : List ControllerAct) → IsControllerPast p h → (c : PlacedCommand) (o : Option Refusal) → refusal p h c ≡ o
    → length (by_refusal h c o) ≤ 2051
short-refusal p h l c None e = few-more (Accepted c) (asked_then (Accepted c ∷ h) (by_command (Accepted c ∷ h) c))
    (few-asked p (Accepted c ∷ h) (by_command (Accepted c ∷ h) c) (e, l) (may-command p h c) (short-command (Accepted c ∷ h) c))
short-refusal p h l c (Some w) e = omega arith

short-answer : (p : ℕ) (h : List ControllerAct) → IsControllerPast p h → (g : ℕ) (a : Answer) (os : List ControllerOrder) → queue g h ≡ os
    → length (by_answer h g a os) ≤ 2051
short-answer p h l g a [] e = omega arith
short-answer p h l g a (o ∷ os) e =
    let b : ControllerAct = Answered g (openings g h) (answered g h + 1) a in
    few-more (Answered g (openings g h) (answered g h + 1) a) (asked_then (Answered g (openings g h) (answered g h + 1) a ∷ h) [])
    (few-asked p (Answered g (openings g h) (answered g h + 1) a ∷ h) [] ((o, ap oldest e, refl, refl), l) tt (omega arith))

pub short-block : (ps : List Peer) (h : List ControllerAct) (e : ControllerEvent) → IsControllerPast (length ps) h
    → length (block ps h e) ≤ 2051
short-block ps h (Told c) l = short-refusal (length ps) h l (placed_command ps c) (refusal (length ps) h (placed_command ps c)) refl
short-block ps h (Opens g) l =
    short-if (is_open g h) [] (going h (Opened g (openings g h + 1))) 2051
    (λ o. omega arith)
    (λ o. few-more (Opened g (openings g h + 1))
    (asked_then (Opened g (openings g h + 1) ∷ h) (read_put (Opened g (openings g h + 1) ∷ h) g))
    (few-asked (length ps) (Opened g (openings g h + 1) ∷ h) (read_put (Opened g (openings g h + 1) ∷ h) g) ((o, refl), l)
    (may-read-put (length ps) h g (openings g h + 1)) (short-read (Opened g (openings g h + 1) ∷ h) g)))
short-block ps h (Cuts g) l =
    short-if (is_open g h) (going h (Cut g (openings g h))) [] 2051
    (λ o. few-more (Cut g (openings g h)) (asked_then (Cut g (openings g h) ∷ h) []) (few-asked (length ps) (Cut g (openings g h) ∷ h) []
    ((o, refl), l) tt (omega arith)))
    (λ o. omega arith)
short-block ps h (Answers g a) l = short-answer (length ps) h l g a (queue g h) refl
short-block ps h (Notices g t) l =
    short-if (is_open g h) (going h (Heard g (openings g h) t)) [] 2051
    (λ o. few-more (Heard g (openings g h) t) (asked_then (Heard g (openings g h) t ∷ h) (by_notice (Heard g (openings g h) t ∷ h) g t))
    (few-asked (length ps) (Heard g (openings g h) t ∷ h) (by_notice (Heard g (openings g h) t ∷ h) g t) ((o, refl), l)
    (may-notice (length ps) h g (openings g h) t refl o) (short-notice (Heard g (openings g h) t ∷ h) g t)))
    (λ o. omega arith)
