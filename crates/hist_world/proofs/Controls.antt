-- The controller's block may happen in the world, where the controller's part of what happened is its own past, told.
use Rattle.std.proofs.Common.{◌≡◌, ℕ, ◌+◌, ◌<◌, Bool, true, false, List, [], ◌∷◌, ◌++◌, length, Option, Some, None, refl, sym, ◌∙◌, ap, subst, if◌then◌else◌}
use Rattle.std.proofs.lemmas.Bool.{and_from}
use Rattle.std.specs.List.{list_all, list_any}
use Rattle.ikeless_tree.specs.declared.command.Peer.{Peer}
use Rattle.ikeless_tree.specs.declared.command.Refusal.{Refusal}
use Rattle.ikeless_tree.specs.declared.entry.SpdEntry.{SpdEntry}
use Rattle.ikeless_tree.specs.declared.order.Answer.{Answer}
use Rattle.ikeless_tree.specs.declared.order.Notice.{Notice}
use Rattle.ikeless_tree.specs.declared.order.Notice.TheVariants as notices
use Rattle.hist_acts.specs.declared.act as happened
use Rattle.hist_acts.specs.declared.act.Act.TheVariants as acts
use Rattle.hist_acts.specs.Past as world_past
use Rattle.hist_acts.specs.Sessions as sessions
use Rattle.hist_controller.specs.Acts.{Way, ControllerOrder, Read, Policy, PlacedCommand, SetPolicy, Tunnel, End, Rekey, Keys, ControllerAct, Opened, Cut, Answered, Heard, Ordered, Accepted, Refused, ControllerEvent, Told, Opens, Cuts, Answers, Notices}
use Rattle.hist_acts.specs.Past.{after}
use Rattle.hist_controller.specs.Past.{answered, directions, is_open, newest_list, orders, queue, openings}
use Rattle.hist_controller.specs.Law.{asked, asked_then, block, by_answer, by_command, by_notice, by_refusal, give, going, is_reading, order, pass, placed_command, refusal, with_list}
use Rattle.hist_controller.specs.Clauses.{ControllerMayActAll, ControllerMayAct}
use Rattle.hist_controller.specs.Table.{EventFits}
use Rattle.hist_controller.specs.Told.{Named, all_told, peer_name, order_told, told}
use Rattle.hist_controller.proofs.Clauses.{may-block}
use Rattle.hist_controller.proofs.Fitting.{act-fits}
use Rattle.hist_controller.proofs.Gives.{Given, nothing, out_removed, in_removed, out_was_put, in_was_put, given}
use Rattle.hist_controller.proofs.Transcript.{answered-told, open-told, openings-told, orders-told}
use Rattle.hist_safety.specs.Law as law
use Rattle.hist_safety.proofs.Basics.{no, both-left, both-right}
use Rattle.hist_world.specs.Stands.{Meet}
use Rattle.hist_world.proofs.MayOrders.{Family, order-may}
use Rattle.hist_world.proofs.Parts.{answered-part, open-part, openings-part, order-part, orders-part}

-- ---- after its first act a block has orders alone

abbrev pub is_order : ControllerAct → Bool
is_order (Ordered g s n o) = true
is_order _ = false

abbrev pub are_orders : List ControllerAct → Bool
are_orders xs = list_all is_order xs

joined : (xs ys : List ControllerAct) → are_orders xs ≡ true → are_orders ys ≡ true → are_orders (xs ++ ys) ≡ true
joined [] ys p q = q
joined (a ∷ xs) ys p q = and_from (is_order a) (are_orders (xs ++ ys)) (both-left (is_order a) (are_orders xs) p)
    (joined xs ys (both-right (is_order a) (are_orders xs) p) q)

either : (b : Bool) (xs ys : List ControllerAct) → are_orders xs ≡ true → are_orders ys ≡ true → are_orders (if b then xs else ys) ≡ true
either true xs ys p q = p
either false xs ys p q = q

given-orders : (h : List ControllerAct) (d : Way) (os : List ControllerAct) → Given h d os → are_orders os ≡ true
given-orders h d _ (nothing i) = refl
given-orders h d _ (out_removed x f l m n1) = refl
given-orders h d _ (in_removed x f l m n1 n2) = refl
given-orders h d _ (out_was_put x f l m n1 n2 n3) = refl
given-orders h d _ (in_was_put k ks f s m n1 n2 n3) = refl

pass-orders : (h : List ControllerAct) (ds : List Way) → are_orders (pass h ds) ≡ true
pass-orders h [] = refl
pass-orders h (d ∷ ds) = joined (give h d) (pass (after h (give h d)) ds) (given-orders h d (give h d) (given h d))
    (pass-orders (after h (give h d)) ds)

list-orders : (h : List ControllerAct) (g : ℕ) (o : Option (List SpdEntry)) → are_orders (with_list h g o) ≡ true
list-orders h g None = refl
list-orders h g (Some l) = refl

command-orders : (h : List ControllerAct) (c : PlacedCommand) → are_orders (by_command h c) ≡ true
command-orders h (SetPolicy g l) = either (is_open g h) (order h g (Policy l) ∷ []) [] refl refl
command-orders h (Tunnel t) = refl
command-orders h (End r) = refl
command-orders h (Rekey r) = refl
command-orders h (Keys k) = refl

notice-orders : (h : List ControllerAct) (g : ℕ) (t : Notice) → are_orders (by_notice h g t) ≡ true
notice-orders h g (notices.Acquire r f) = refl
notice-orders h g (notices.Expire m b c) = refl
notice-orders h g (notices.SeqOverflow m) = refl
notice-orders h g (notices.BadSpi n) = either (list_any is_reading (queue g h)) [] (order h g Read ∷ []) refl refl

asked-orders : (h : List ControllerAct) (a : ControllerAct) → are_orders (asked h a) ≡ true
asked-orders h (Opened g s) = list-orders (order h g Read ∷ h) g (newest_list g h)
asked-orders h (Cut g s) = refl
asked-orders h (Answered g s n a) = refl
asked-orders h (Heard g s t) = notice-orders h g t
asked-orders h (Ordered g s n o) = refl
asked-orders h (Accepted c) = command-orders h c
asked-orders h (Refused w) = refl

pub then-orders : (h : List ControllerAct) (a : ControllerAct) → are_orders (asked_then (a ∷ h) (asked (a ∷ h) a)) ≡ true
then-orders h a = joined (asked (a ∷ h) a) _ (asked-orders (a ∷ h) a)
    (pass-orders (after (a ∷ h) (asked (a ∷ h) a)) (directions (after (a ∷ h) (asked (a ∷ h) a))))

-- ---- what the controller and the world know alike

pub open-meet : (ps : List Peer) (w : List happened.Act.Act) (c : List ControllerAct) (g : ℕ) → Named ps → Meet ps w c → g < length ps
    → sessions.is_open (peer_name ps g) w ≡ is_open g c
open-meet ps w c g names m i = open-part (peer_name ps g) w ∙ ap (sessions.is_open (peer_name ps g)) m.part ∙ open-told ps c names m.fit g i

pub openings-meet : (ps : List Peer) (w : List happened.Act.Act) (c : List ControllerAct) (g : ℕ) → Named ps → Meet ps w c → g < length ps
    → sessions.openings (peer_name ps g) w ≡ openings g c
openings-meet ps w c g names m i = openings-part (peer_name ps g) w ∙ ap (sessions.openings (peer_name ps g)) m.part
    ∙ openings-told ps c names m.fit g i

orders-meet : (ps : List Peer) (w : List happened.Act.Act) (c : List ControllerAct) (g : ℕ) → Named ps → Meet ps w c → g < length ps
    → sessions.orders (peer_name ps g) (openings g c) w ≡ orders g c
orders-meet ps w c g names m i = orders-part (peer_name ps g) (openings g c) w ∙ ap (sessions.orders (peer_name ps g) (openings g c)) m.part
    ∙ orders-told ps (length ps) c m.past names m.fit g i

pub answered-meet : (ps : List Peer) (w : List happened.Act.Act) (c : List ControllerAct) (g : ℕ) → Named ps → Meet ps w c → g < length ps
    → sessions.answered (peer_name ps g) (openings g c) w ≡ answered g c
answered-meet ps w c g names m i = answered-part (peer_name ps g) (openings g c) w ∙ ap (sessions.answered (peer_name ps g) (openings g c))
    m.part ∙ answered-told ps (length ps) c m.past names m.fit g i

-- ---- one act

-- what may happen and is told leaves no question, and both still know alike
abbrev Told_one : List Peer → List happened.Act.Act → List ControllerAct → ControllerAct → Type 0
Told_one ps w c a = law.AllMayHappen ps w (told ps a) × (law.is_ready (world_past.after w (told ps a)) ≡ true)
    × Meet ps (world_past.after w (told ps a)) (a ∷ c)

order-goes : (ps : List Peer) (w : List happened.Act.Act) (c : List ControllerAct) (g s n : ℕ) (o : ControllerOrder) → Named ps → Family ps
    → law.is_ready w ≡ true → Meet ps w c
    → ControllerMayAct (length ps) c (Ordered g s n o) → Told_one ps w c (Ordered g s n o)
order-goes ps w c g s n o names family ready m f =
    let i = act-fits (length ps) c (Ordered g s n o) m.fit f tt in
    let may : law.OrderMayHappen (peer_name ps g) (order_told ps o) w =
    order-part (peer_name ps g) (order_told ps o) w (subst (law.OrderMayHappen (peer_name ps g) (order_told ps o)) (sym m.part)
    (order-may ps g s n o c (f, m.past) names m.fit family)) in
    let q : s ≡ sessions.openings (peer_name ps g) w = f.0 ∙ sym (openings-meet ps w c g names m i) in
    let k : n ≡ sessions.orders (peer_name ps g) s w + 1 = f.1 ∙ ap (λ (z : ℕ). z + 1) (sym (orders-meet ps w c g names m i))
    ∙ ap (λ (z : ℕ). sessions.orders (peer_name ps g) z w + 1) (sym f.0) in (
      ((ready, open-meet ps w c g names m i ∙ f.2, q, k, may), tt),
      refl,
      record {
        part =
            ap (λ z. acts.Order (peer_name ps g) s n (order_told ps o) ∷ z) m.part;
        past = (f, m.past);
        fit = (i, m.fit);
      },
    )

opened-goes : (ps : List Peer) (w : List happened.Act.Act) (c : List ControllerAct) (g s : ℕ) → Named ps → law.is_ready w ≡ true
    → Meet ps w c → g < length ps
    → ControllerMayAct (length ps) c (Opened g s) → Told_one ps w c (Opened g s)
opened-goes ps w c g s names ready m i f =
    let q : s ≡ sessions.openings (peer_name ps g) w + 1 = f.1 ∙ ap (λ (z : ℕ). z + 1) (sym (openings-meet ps w c g names m i)) in
    (((ready, q), tt), refl, record { part = ap (λ z. acts.Opened (peer_name ps g) s ∷ z) m.part; past = (f, m.past); fit = (i, m.fit) })

cut-goes : (ps : List Peer) (w : List happened.Act.Act) (c : List ControllerAct) (g s : ℕ) → Named ps → law.is_ready w ≡ true → Meet ps w c
    → ControllerMayAct (length ps) c (Cut g s) → Told_one ps w c (Cut g s)
cut-goes ps w c g s names ready m f =
    let i = act-fits (length ps) c (Cut g s) m.fit f tt in
    let q : s ≡ sessions.openings (peer_name ps g) w = f.1 ∙ sym (openings-meet ps w c g names m i) in (
      ((ready, open-meet ps w c g names m i ∙ f.0, q), tt),
      refl,
      record {
        part = ap (λ z. acts.Cut (peer_name ps g) s ∷ z) m.part;
        past =
            (f, m.past);
        fit = (i, m.fit);
      },
    )

heard-goes : (ps : List Peer) (w : List happened.Act.Act) (c : List ControllerAct) (g s : ℕ) (t : Notice) → law.is_ready w ≡ true
    → Meet ps w c
    → ControllerMayAct (length ps) c (Heard g s t) → Told_one ps w c (Heard g s t)
heard-goes ps w c g s t ready m f =
    let i = act-fits (length ps) c (Heard g s t) m.fit f tt in
    ((ready, tt), refl, record { part = ap (λ z. acts.Heard (peer_name ps g) s t ∷ z) m.part; past = (f, m.past); fit = (i, m.fit) })

accepted-goes : (ps : List Peer) (w : List happened.Act.Act) (c : List ControllerAct) (x : PlacedCommand) → law.is_ready w ≡ true
    → Meet ps w c
    → ControllerMayAct (length ps) c (Accepted x) → Told_one ps w c (Accepted x)
accepted-goes ps w c x ready m f =
    let i = act-fits (length ps) c (Accepted x) m.fit f tt in
    (tt, ready, record { part = m.part; past = (f, m.past); fit = (i, m.fit) })

refused-goes : (ps : List Peer) (w : List happened.Act.Act) (c : List ControllerAct) (x : Refusal) → law.is_ready w ≡ true → Meet ps w c
    → ControllerMayAct (length ps) c (Refused x) → Told_one ps w c (Refused x)
refused-goes ps w c x ready m f =
    ((ready, tt), refl, record { part = ap (λ z. acts.Refused x ∷ z) m.part; past = (f, m.past); fit = (tt, m.fit) })

-- the session of the controller is open where an order of it waits
answered-goes : (ps : List Peer) (w : List happened.Act.Act) (c : List ControllerAct) (g s n : ℕ) (a : Answer) → Named ps
    → law.is_ready w ≡ true → Meet ps w c
    → sessions.is_open (peer_name ps g) w ≡ true → sessions.answer_at (peer_name ps g) s n w ≡ Some a
    → ControllerMayAct (length ps) c (Answered g s n a) → Told_one ps w c (Answered g s n a)
answered-goes ps w c g s n a names ready m is_up at f =
    let i = act-fits (length ps) c (Answered g s n a) m.fit f tt in
    let q : s ≡ sessions.openings (peer_name ps g) w = f.2 ∙ sym (openings-meet ps w c g names m i) in
    let k : n ≡ sessions.answered (peer_name ps g) s w + 1 = f.3 ∙ ap (λ (z : ℕ). z + 1) (sym (answered-meet ps w c g names m i))
    ∙ ap (λ (z : ℕ). sessions.answered (peer_name ps g) z w + 1) (sym f.2) in (
      ((ready, is_up, q, k, at), tt),
      refl,
      record {
        part = ap (λ z. acts.Answered (peer_name ps g) s n a ∷ z) m.part;
        past = (f, m.past);
        fit = (i, m.fit);
      },
    )

-- ---- blocks

-- what is told of these acts may happen, leaves no question, and both still know alike
abbrev pub Told_all : List Peer → List happened.Act.Act → List ControllerAct → List ControllerAct → Type 0
Told_all ps w c xs = law.AllMayHappen ps w (all_told ps xs) × (law.is_ready (world_past.after w (all_told ps xs)) ≡ true)
    × Meet ps (world_past.after w (all_told ps xs)) (after c xs)

told-more : (ps : List Peer) (w xs ys : List happened.Act.Act) → law.AllMayHappen ps w xs → law.AllMayHappen ps (world_past.after w xs) ys
    → law.AllMayHappen ps w (xs ++ ys)
told-more ps w [] ys p q = q
told-more ps w (a ∷ xs) ys p q = (p.0, told-more ps (a ∷ w) xs ys p.1 q)

told-after : (w xs ys : List happened.Act.Act) → world_past.after w (xs ++ ys) ≡ world_past.after (world_past.after w xs) ys
told-after w [] ys = refl
told-after w (a ∷ xs) ys = told-after (a ∷ w) xs ys

one-more : (ps : List Peer) (w : List happened.Act.Act) (c : List ControllerAct) (a : ControllerAct) (xs : List ControllerAct)
    → Told_one ps w c a → Told_all ps (world_past.after w (told ps a)) (a ∷ c) xs → Told_all ps w c (a ∷ xs)
one-more ps w c a xs p q =
    let e = told-after w (told ps a) (all_told ps xs) in
    (told-more ps w (told ps a) (all_told ps xs) p.0 q.0, ap law.is_ready e ∙ q.1, subst (λ z. Meet ps z (after (a ∷ c) xs)) (sym e) q.2)

orders-go : (ps : List Peer) (w : List happened.Act.Act) (c xs : List ControllerAct) → Named ps → Family ps → law.is_ready w ≡ true
    → Meet ps w c → are_orders xs ≡ true
    → ControllerMayActAll (length ps) c xs → Told_all ps w c xs
orders-go ps w c [] names family ready m p f = (tt, ready, m)
orders-go ps w c (Ordered g s n o ∷ xs) names family ready m p f =
    let a = order-goes ps w c g s n o names family ready m f.0 in
    one-more ps w c (Ordered g s n o) xs a (orders-go ps (world_past.after w (told ps (Ordered g s n o))) (Ordered g s n o ∷ c) xs names
    family a.1 a.2 p f.1)
orders-go ps w c (Opened g s ∷ xs) names family ready m p f = absurd (no p)
orders-go ps w c (Cut g s ∷ xs) names family ready m p f = absurd (no p)
orders-go ps w c (Answered g s n a ∷ xs) names family ready m p f = absurd (no p)
orders-go ps w c (Heard g s t ∷ xs) names family ready m p f = absurd (no p)
orders-go ps w c (Accepted x ∷ xs) names family ready m p f = absurd (no p)
orders-go ps w c (Refused x ∷ xs) names family ready m p f = absurd (no p)

going-goes : (ps : List Peer) (w : List happened.Act.Act) (c : List ControllerAct) (a : ControllerAct) → Named ps → Family ps
    → Told_one ps w c a → ControllerMayActAll (length ps) c (going c a) → Told_all ps w c (going c a)
going-goes ps w c a names family p f =
    one-more ps w c a (asked_then (a ∷ c) (asked (a ∷ c) a)) p
    (orders-go ps (world_past.after w (told ps a)) (a ∷ c) (asked_then (a ∷ c) (asked (a ∷ c) a)) names family p.1 p.2 (then-orders c a)
    f.1)

-- what an answer needs of the world: the gateway's next answer is this one
abbrev pub AnswerFits : List Peer → List happened.Act.Act → ControllerEvent → Type 0
AnswerFits ps w (Answers g a) = sessions.next_answer (peer_name ps g) w ≡ Some a
AnswerFits ps w _ = Unit {0}

next-open : (b : Bool) (o : Option Answer) (a : Answer) → (if b then o else None) ≡ Some a → (b ≡ true) × (o ≡ Some a)
next-open true o a e = (refl, e)
next-open false o a e = cc

if-told : (ps : List Peer) (w : List happened.Act.Act) (c : List ControllerAct) (b : Bool) (xs ys : List ControllerAct)
    → (b ≡ true → Told_all ps w c xs) → (b ≡ false → Told_all ps w c ys) → Told_all ps w c (if b then xs else ys)
if-told ps w c true xs ys p q = p refl
if-told ps w c false xs ys p q = q refl

may-true : (n : ℕ) (c : List ControllerAct) (b : Bool) (xs ys : List ControllerAct) → ControllerMayActAll n c (if b then xs else ys)
    → b ≡ true → ControllerMayActAll n c xs
may-true n c true xs ys m e = m
may-true n c false xs ys m e = absurd (no e)

may-false : (n : ℕ) (c : List ControllerAct) (b : Bool) (xs ys : List ControllerAct) → ControllerMayActAll n c (if b then xs else ys)
    → b ≡ false → ControllerMayActAll n c ys
may-false n c true xs ys m e = absurd (no (sym e))
may-false n c false xs ys m e = m

by-refusal-goes : (ps : List Peer) (w : List happened.Act.Act) (c : List ControllerAct) (x : PlacedCommand) (r : Option Refusal) → Named ps
    → Family ps → law.is_ready w ≡ true → Meet ps w c
    → ControllerMayActAll (length ps) c (by_refusal c x r) → Told_all ps w c (by_refusal c x r)
by-refusal-goes ps w c x None names family ready m f = going-goes ps w c (Accepted x) names family (accepted-goes ps w c x ready m f.0) f
by-refusal-goes ps w c x (Some r) names family ready m f = let a = refused-goes ps w c r ready m f.0 in
    one-more ps w c (Refused r) [] a (tt, a.1, a.2)

answer-goes : (ps : List Peer) (w : List happened.Act.Act) (c : List ControllerAct) (g : ℕ) (a : Answer) (os : List ControllerOrder)
    → Named ps → Family ps → law.is_ready w ≡ true → Meet ps w c → g < length ps
    → sessions.next_answer (peer_name ps g) w ≡ Some a → ControllerMayActAll (length ps) c (by_answer c g a os)
    → Told_all ps w c (by_answer c g a os)
answer-goes ps w c g a [] names family ready m i next f = (tt, ready, m)
answer-goes ps w c g a (o ∷ os) names family ready m i next f =
    let b = next-open (sessions.is_open (peer_name ps g) w) (sessions.answer_at (peer_name ps g) (sessions.openings (peer_name ps g) w)
    (sessions.answered (peer_name ps g) (sessions.openings (peer_name ps g) w) w + 1) w) a next in
    let q = openings-meet ps w c g names m i in
    let k = answered-meet ps w c g names m i in
    let at1 : sessions.answer_at (peer_name ps g) (openings g c) (sessions.answered (peer_name ps g) (openings g c) w + 1) w ≡ Some a =
    subst (λ (z : ℕ). sessions.answer_at (peer_name ps g) z (sessions.answered (peer_name ps g) z w + 1) w ≡ Some a) q b.1 in
    let at2 : sessions.answer_at (peer_name ps g) (openings g c) (answered g c + 1) w ≡ Some a =
    subst (λ (z : ℕ). sessions.answer_at (peer_name ps g) (openings g c) (z + 1) w ≡ Some a) k at1 in
    going-goes ps w c (Answered g (openings g c) (answered g c + 1) a) names family
    (answered-goes ps w c g (openings g c) (answered g c + 1) a names ready m b.0 at2 f.0) f

pub block-goes : (ps : List Peer) (w : List happened.Act.Act) (c : List ControllerAct) (e : ControllerEvent) → Named ps → Family ps
    → law.is_ready w ≡ true → Meet ps w c → EventFits (length ps) e → AnswerFits ps w e
    → Told_all ps w c (block ps c e)
block-goes ps w c (Told x) names family ready m i next =
    by-refusal-goes ps w c (placed_command ps x) (refusal (length ps) c (placed_command ps x)) names family ready m
    (may-block ps c (Told x))
block-goes ps w c (Opens g) names family ready m i next =
    let own : ControllerAct = Opened g (openings g c + 1) in
    let f = may-block ps c (Opens g) in
    if-told ps w c (is_open g c) [] (going c own) (λ e. (tt, ready, m))
    (λ e. let f2 = may-false (length ps) c (is_open g c) [] (going c own) f e in
    going-goes ps w c own names family (opened-goes ps w c g (openings g c + 1) names ready m i f2.0) f2)
block-goes ps w c (Cuts g) names family ready m i next =
    let own : ControllerAct = Cut g (openings g c) in
    let f = may-block ps c (Cuts g) in
    if-told ps w c (is_open g c) (going c own) []
    (λ e. let f2 = may-true (length ps) c (is_open g c) (going c own) [] f e in
    going-goes ps w c own names family (cut-goes ps w c g (openings g c) names ready m f2.0) f2)
    (λ e. (tt, ready, m))
block-goes ps w c (Answers g a) names family ready m i next = answer-goes ps w c g a (queue g c) names family ready m i next
    (may-block ps c (Answers g a))
block-goes ps w c (Notices g t) names family ready m i next =
    let own : ControllerAct = Heard g (openings g c) t in
    let f = may-block ps c (Notices g t) in
    if-told ps w c (is_open g c) (going c own) []
    (λ e. let f2 = may-true (length ps) c (is_open g c) (going c own) [] f e in
    going-goes ps w c own names family (heard-goes ps w c g (openings g c) t ready m f2.0) f2)
    (λ e. (tt, ready, m))
