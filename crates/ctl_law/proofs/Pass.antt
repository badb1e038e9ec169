-- The pass over the directions gives the orders of the law, and leaves what stands for the past after them.
use Rattle.std.proofs.Common.{◌≡◌, ℕ, ◌+◌, ◌≤◌, Bool, true, false, ◌==◌, List, [], ◌∷◌, ◌++◌, inl, inr, length, refl, sym, subst, ap, ◌∙◌, arith, if◌then◌else◌, append-nil}
use Rattle.std.specs.List.{list_any}
use Rattle.ikeless_tree.specs.declared.command.Peer.{Peer}
use Rattle.hist_acts.specs.Past.{after}
use Rattle.hist_controller.specs.Acts.{Way, Association, ControllerOrder, PutIn, PutOut, RemoveIn, RemoveOut, ControllerAct, Opened, Cut, Answered, Heard, Ordered, Accepted, Refused}
use Rattle.hist_controller.specs.Past.{directions, serials, spare, is_over, left, is_own, is_busy}
use Rattle.hist_controller.specs.Law.{give, pass, key_put, out_put, in_remove, out_remove, first, may_out_remove, may_in_remove, may_out_put, may_in_put}
use Rattle.hist_controller.specs.Clauses.{Has, IsControllerPast}
use Rattle.hist_controller.specs.Halves.{PlainAnswers}
use Rattle.hist_controller.proofs.Clauses.{past-after, may-given, after-append}
use Rattle.hist_controller.proofs.Gives.{Given, nothing, out_removed, in_removed, out_was_put, in_was_put, given, ways-give}
use Rattle.hist_controller.proofs.Homes.{own-way}
use Rattle.hist_controller.proofs.KeptState.{Rising}
use Rattle.hist_controller.proofs.Serials.{one, from}
use Rattle.ctl_tunnels.specs.declared.progress.Progress.{Progress}
use Rattle.ctl_tunnels.specs.declared.tunnel.Pair.{Pair}
use Rattle.ctl_tunnels.specs.declared.tunnel.Tunnel.{Tunnel}
use Rattle.ctl_tunnels.specs.Tunnels as tunnels
use Rattle.ctl_core.specs.declared.peer.Station.{Station}
use Rattle.ctl_core.specs.Drafts.{Drafted}
use Rattle.ctl_core.specs.Pass as passes
use Rattle.ctl_law.specs.Stands.{progress_of, direction_of, IsTunnel, TunnelsStand, no_more, left_out, stands}
use Rattle.ctl_law.proofs.Drafts.{drafting, AtHand, Drafts, drafts}
use Rattle.ctl_law.proofs.Lists.{not-true}
use Rattle.ctl_law.proofs.Ordered.{progress-other, no-inbound}
use Rattle.ctl_law.proofs.Spends.{IsSpent, spent-whole}

-- ## a direction is left as it is by the orders of others

pub record Untouched (h k : List ControllerAct) (e : Way) : Type 0 where
  pub progress : progress_of k e ≡ progress_of h e
  pub left : left e k ≡ left e h
  pub over : is_over e k ≡ is_over e h

pub untouched : (h : List ControllerAct) (e : Way) → Untouched h h e
untouched h e = record { progress = refl; left = refl; over = refl }

pub and-untouched : (h k m : List ControllerAct) (e : Way) → Untouched h k e → Untouched k m e → Untouched h m e
and-untouched h k m e u v = record { progress = v.progress ∙ u.progress; left = v.left ∙ u.left; over = v.over ∙ u.over }

pub untouched-by : (p : ℕ) (h : List ControllerAct) (g s n : ℕ) (o : ControllerOrder) (e : Way) → IsControllerPast p (Ordered g s n o ∷ h)
    → Has e (directions h) → is_own e (left e h) o ≡ false → Untouched h (Ordered g s n o ∷ h) e
untouched-by p h g s n o e l i t = record {
  progress = progress-other p h g s n o e l i t;
  left = ap (λ xs. left e h ++ xs) (no-inbound e (left e h) o t).0 ∙ append-nil (left e h);
  over = refl;
}

any-none : (n : ℕ) (xs : List Association) → ((x : Association) → Has x xs → (x.serial == n) ≡ false)
    → list_any (λ x. x.serial == n) xs ≡ false
any-none n [] f = refl
any-none n (x ∷ xs) f = let t = f x (inl refl) in rw t (any-none n xs (λ y i. f y (inr i)))

-- an association of another direction has another serial
other-serial : (p : ℕ) (h : List ControllerAct) (d e : Way) → IsControllerPast p h → Has d (directions h) → Has e (directions h)
    → (e.id == d.id) ≡ false → (z : Association) → Has z (left d h) → list_any (λ y. y.serial == z.serial) (left e h) ≡ false
other-serial p h d e l i j t z k = any-none z.serial (left e h) (λ y m. not-true (y.serial == z.serial) (λ u.
    let s : y ≡ z = one p h l e d y z m k (grind arith) in
    let v : e ≡ d = own-way p h l e y j m ∙ ap (λ (w : Association). w.way) s ∙ sym (own-way p h l d z i k) in
    let w : (e.id == d.id) ≡ true = (let q : e.id ≡ d.id = ap (λ (c : Way). c.id) v in grind arith) in
    let f : true ≡ false = sym w ∙ t in cc))

untouched-given : (p : ℕ) (h : List ControllerAct) (d e : Way) (os : List ControllerAct) → IsControllerPast p h
    → IsControllerPast p (after h os) → Has d (directions h) → Has e (directions h) → (e.id == d.id) ≡ false → Given h d os
    → Untouched h (after h os) e
untouched-given p h d e _ l m i j t (nothing q) = untouched h e
untouched-given p h d e _ l m i j t (out_removed z f k y q) = untouched-by p h d.sender _ _ (RemoveOut z.serial) e m j
    (other-serial p h d e l i j t z k)
untouched-given p h d e _ l m i j t (in_removed z f k y q u) = untouched-by p h d.receiver _ _ (RemoveIn z.serial) e m j
    (other-serial p h d e l i j t z k)
untouched-given p h d e _ l m i j t (out_was_put z f k y q u v) = untouched-by p h d.sender _ _ (PutOut z) e m j (let w : z.way.id ≡ d.id =
    ap (λ (c : Way). c.id) (sym (own-way p h l d z i k)) in rw w t)
untouched-given p h d e _ l m i j t (in_was_put k r f s y u v w) =
    untouched-by p h d.receiver _ _ (PutIn (record { serial = serials h + 1; key = k; way = d })) e m j t

pub past-give : (p : ℕ) (h : List ControllerAct) (d : Way) → IsControllerPast p h → Has d (directions h)
    → IsControllerPast p (after h (give h d))
past-give p h d l i = past-after p h (give h d) l (may-given p h d (give h d) i (given h d))

pub untouched-give : (p : ℕ) (h : List ControllerAct) (d e : Way) → IsControllerPast p h → Has d (directions h) → Has e (directions h)
    → (e.id == d.id) ≡ false → Untouched h (after h (give h d)) e
untouched-give p h d e l i j t = untouched-given p h d e (give h d) l (past-give p h d l i) i j t (given h d)

-- the directions stay
has-give : (h : List ControllerAct) (d e : Way) → Has e (directions h) → Has e (directions (after h (give h d)))
has-give h d e i = subst (Has e) (sym (ways-give h d)) i

pub untouched-pass : (p : ℕ) (h : List ControllerAct) (ds : List Way) (e : Way) → IsControllerPast p h
    → ((d : Way) → Has d ds → Has d (directions h)) → Has e (directions h) → ((d : Way) → Has d ds → (e.id == d.id) ≡ false)
    → Untouched h (after h (pass h ds)) e
untouched-pass p h [] e l f j t = untouched h e
untouched-pass p h (d ∷ ds) e l f j t =
    let a = untouched-give p h d e l (f d (inl refl)) j (t d (inl refl)) in
    let b = untouched-pass p (after h (give h d)) ds e (past-give p h d l (f d (inl refl))) (λ c i. has-give h d c (f c (inr i)))
    (has-give h d e j) (λ c i. t c (inr i)) in
    subst (λ k. Untouched h k e) (sym (after-append h (give h d) (pass (after h (give h d)) ds)))
    (and-untouched h (after h (give h d)) (after (after h (give h d)) (pass (after h (give h d)) ds)) e a b)

-- ## a spent direction gets nothing

spent-key : (h : List ControllerAct) (d : Way) (ks : List (List ℕ)) → is_over d h ≡ true → key_put h d ks ≡ []
spent-key h d [] e = refl
spent-key h d (k ∷ ks) e = let t : may_in_put h d ≡ false = grind arith in rw t refl

spent-gives : (h : List ControllerAct) (d : Way) → IsSpent h d → give h d ≡ []
spent-gives h d s = case (is_busy d h)
  where
    case : (b : Bool) → (if b then [] else out_remove h d (first (may_out_remove h d) (left d h))) ≡ []
    case true = refl
    case false =
        ap (λ xs. out_remove h d (first (may_out_remove h d) xs)) s.left
        ∙ ap (λ xs. in_remove h d (first (may_in_remove h d) xs)) s.left
        ∙ ap (λ xs. out_put h d (first (may_out_put h d) xs)) s.left
        ∙ spent-key h d (spare h) s.over

pub spent-stays : (h k : List ControllerAct) (d : Way) → IsSpent h d → Untouched h k d → IsSpent k d
spent-stays h k d s u = record { over = u.over ∙ s.over; left = u.left ∙ s.left }

-- ## what the orders of one direction leave at hand

after-given : (ps : List Peer) (h : List ControllerAct) (d : Way) (ss : List Station) (ks : List (List ℕ)) (ready : List Bool)
    (os : List ControllerAct) → AtHand ps h ss ks ready → Given h d os → AtHand ps (after h os) ss ks ready
after-given ps h d ss ks ready _ b (nothing q) = b
after-given ps h d ss ks ready _ b (out_removed z f k y q) = record { keys = b.keys; reads = b.reads; addresses = b.addresses }
after-given ps h d ss ks ready _ b (in_removed z f k y q u) = record { keys = b.keys; reads = b.reads; addresses = b.addresses }
after-given ps h d ss ks ready _ b (out_was_put z f k y q u v) = record { keys = b.keys; reads = b.reads; addresses = b.addresses }
after-given ps h d ss ks ready _ b (in_was_put k r f s y u v w) = record { keys = b.keys; reads = b.reads; addresses = b.addresses }

plain-given : (h : List ControllerAct) (d : Way) (os : List ControllerAct) → PlainAnswers h → Given h d os → PlainAnswers (after h os)
plain-given h d _ a (nothing q) = a
plain-given h d _ a (out_removed z f k y q) = a
plain-given h d _ a (in_removed z f k y q u) = a
plain-given h d _ a (out_was_put z f k y q u v) = a
plain-given h d _ a (in_was_put k r f s y u v w) = a

serials-given : (ps : List Peer) (h : List ControllerAct) (d : Way) (x : Drafted) (os : List ControllerAct) → x.serials ≡ serials h
    → Given h d os → (drafting ps os x).serials ≡ serials (after h os)
serials-given ps h d x _ e (nothing q) = e
serials-given ps h d x _ e (out_removed z f k y q) = e
serials-given ps h d x _ e (in_removed z f k y q u) = e
serials-given ps h d x _ e (out_was_put z f k y q u v) = e
serials-given ps h d x _ e (in_was_put k r f s y u v w) = refl

pub drafting-append : (ps : List Peer) (xs ys : List ControllerAct) (x : Drafted)
    → drafting ps (xs ++ ys) x ≡ drafting ps ys (drafting ps xs x)
drafting-append ps [] ys x = refl
drafting-append ps (Opened g s ∷ xs) ys x = drafting-append ps xs ys x
drafting-append ps (Cut g s ∷ xs) ys x = drafting-append ps xs ys x
drafting-append ps (Answered g s n a ∷ xs) ys x = drafting-append ps xs ys x
drafting-append ps (Heard g s t ∷ xs) ys x = drafting-append ps xs ys x
drafting-append ps (Ordered g s n o ∷ xs) ys x = drafting-append ps xs ys _
drafting-append ps (Accepted c ∷ xs) ys x = drafting-append ps xs ys x
drafting-append ps (Refused w ∷ xs) ys x = drafting-append ps xs ys x

-- ## the pass

-- tunnels and how far they had come before the event, where it makes this change
pub data Changed (ch : passes.Effect) (h : List ControllerAct) : List Way → List Tunnel → List Pair → Type 0 where
  none_changed : Changed ch h [] [] []
  spent_too : (d e : Way) (ds : List Way) (ts : List Tunnel) (qs : List Pair) → IsSpent h d → IsSpent h e → Changed ch h ds ts qs
      → Changed ch h (d ∷ e ∷ ds) ts qs
  changed : (d e : Way) (ds : List Way) (t : Tunnel) (ts : List Tunnel) (q : Pair) (qs : List Pair) → IsTunnel t d e
      → ch (direction_of d) q.forth ≡ progress_of h d → ch (direction_of e) q.back ≡ progress_of h e → Changed ch h ds ts qs
      → Changed ch h (d ∷ e ∷ ds) (t ∷ ts) (q ∷ qs)

pub changed-moves : (ch : passes.Effect) (h k : List ControllerAct) (ds : List Way) (ts : List Tunnel) (qs : List Pair)
    → Changed ch h ds ts qs → ((d : Way) → Has d ds → Untouched h k d) → Changed ch k ds ts qs
changed-moves ch h k _ _ _ none_changed f = none_changed
changed-moves ch h k _ _ _ (spent_too d e ds ts qs a b c) f = spent_too d e ds ts qs (spent-stays h k d a (f d (inl refl)))
    (spent-stays h k e b (f e (inr (inl refl)))) (changed-moves ch h k ds ts qs c (λ z i. f z (inr (inr i))))
changed-moves ch h k _ _ _ (changed d e ds t ts q qs a b c r) f = changed d e ds t ts q qs a (b ∙ sym (f d (inl refl)).progress) (c
    ∙ sym (f e (inr (inl refl))).progress) (changed-moves ch h k ds ts qs r (λ z i. f z (inr (inr i))))

pub record PassIs (ps : List Peer) (h : List ControllerAct) (ds : List Way) (ts : List Tunnel) (qs : List Pair) (ss : List Station)
    (ks : List (List ℕ)) (ready : List Bool) (ch : passes.Effect) (x : Drafted) : Type 0 where
  pub draft : passes.pass_draft ss ks ch ready ts qs x ≡ drafting ps (pass h ds) x
  pub serials : (drafting ps (pass h ds) x).serials ≡ serials (after h (pass h ds))
  pub stands : TunnelsStand (after h (pass h ds)) ds ts (passes.pass_pairs ss ks ch ready ts qs x)

-- in a tunnel with both directions spent
pass-spent : (ps : List Peer) (h : List ControllerAct) (d e : Way) (ds : List Way) (ts : List Tunnel) (qs : List Pair) (ss : List Station)
    (ks : List (List ℕ)) (ready : List Bool) (ch : passes.Effect) (x : Drafted)
    → IsSpent h d → IsSpent h e → Untouched h (after h (pass h ds)) d → Untouched h (after h (pass h ds)) e
    → PassIs ps h ds ts qs ss ks ready ch x → PassIs ps h (d ∷ e ∷ ds) ts qs ss ks ready ch x
pass-spent ps h d e ds ts qs ss ks ready ch x a b u v k = record {
  draft = k.draft ∙ ap (λ os. drafting ps os x) (sym none);
  serials = subst (λ os. (drafting ps os x).serials ≡ serials (after h os)) (sym none) k.serials;
  stands = subst (λ os. TunnelsStand (after h os) (d ∷ e ∷ ds) ts (passes.pass_pairs ss ks ch ready ts qs x)) (sym none)
      (left_out d e ds ts _ (spent-whole _ d (spent-stays h (after h (pass h ds)) d a u))
      (spent-whole _ e (spent-stays h (after h (pass h ds)) e b v)) k.stands);
}
  where
    none : pass h (d ∷ e ∷ ds) ≡ pass h ds
    none =
        ap (λ os. os ++ (give (after h os) e ++ pass (after (after h os) (give (after h os) e)) ds)) (spent-gives h d a)
        ∙ ap (λ os. os ++ pass (after h os) ds) (spent-gives h e b)

abbrev first_past : List ControllerAct → Way → List ControllerAct
first_past h d = after h (give h d)

abbrev second_past : List ControllerAct → Way → Way → List ControllerAct
second_past h d e = after (first_past h d) (give (first_past h d) e)

abbrev last_past : List ControllerAct → Way → Way → List Way → List ControllerAct
last_past h d e ds = after (second_past h d e) (pass (second_past h d e) ds)

abbrev first_draft : List Peer → List ControllerAct → Way → Drafted → Drafted
first_draft ps h d x = drafting ps (give h d) x

abbrev second_draft : List Peer → List ControllerAct → Way → Way → Drafted → Drafted
second_draft ps h d e x = drafting ps (give (first_past h d) e) (first_draft ps h d x)

abbrev pair_of : Progress → Progress → Pair
pair_of a b = record { forth = a; back = b }

same-pairs : (a b c d : Progress) (x y : List Pair) → a ≡ b → c ≡ d → x ≡ y → pair_of a c ∷ x ≡ pair_of b d ∷ y
same-pairs a b c d x y e f g = rw (e, f, g) refl

-- in a tunnel that stands
pass-two : (ps : List Peer) (h : List ControllerAct) (d e : Way) (ds : List Way) (t : Tunnel) (ts : List Tunnel) (q : Pair) (qs : List Pair)
    (ss : List Station) (ks : List (List ℕ)) (ready : List Bool) (ch : passes.Effect) (x : Drafted)
    → IsTunnel t d e → ch (direction_of d) q.forth ≡ progress_of h d → ch (direction_of e) q.back ≡ progress_of h e
    → Drafts ps h d ss ks ready x
    → Untouched h (first_past h d) e
    → Drafts ps (first_past h d) e ss ks ready (first_draft ps h d x)
    → Untouched (first_past h d) (last_past h d e ds) d
    → Untouched (second_past h d e) (last_past h d e ds) e
    → PassIs ps (second_past h d e) ds ts qs ss ks ready ch (second_draft ps h d e x)
    → PassIs ps h (d ∷ e ∷ ds) (t ∷ ts) (q ∷ qs) ss ks ready ch x
pass-two ps h d e ds t ts q qs ss ks ready ch x a b c f u g v w k = record {
  draft = ap (passes.pass_draft ss ks ch ready ts qs) back ∙ k.draft ∙ sym drafted;
  serials = ap (λ (y : Drafted). y.serials) drafted ∙ k.serials ∙ ap serials (sym last);
  stands = subst (λ m. TunnelsStand m (d ∷ e ∷ ds) (t ∷ ts) (passes.pass_pairs ss ks ch ready (t ∷ ts) (q ∷ qs) x)) (sym last)
      (subst (TunnelsStand (last_past h d e ds) (d ∷ e ∷ ds) (t ∷ ts)) (sym pairs) (stands d e ds t ts _ a k.stands));
}
  where
    last : after h (pass h (d ∷ e ∷ ds)) ≡ last_past h d e ds
    last = after-append h (give h d) (give (first_past h d) e ++ pass (second_past h d e) ds)
        ∙ after-append (first_past h d) (give (first_past h d) e) (pass (second_past h d e) ds)

    drafted : drafting ps (pass h (d ∷ e ∷ ds)) x ≡ drafting ps (pass (second_past h d e) ds) (second_draft ps h d e x)
    drafted = drafting-append ps (give h d) (give (first_past h d) e ++ pass (second_past h d e) ds) x
        ∙ drafting-append ps (give (first_past h d) e) (pass (second_past h d e) ds) (first_draft ps h d x)

    forth : passes.draft_forth ss ks ch ready t q x ≡ first_draft ps h d x
    forth = ap (λ y. passes.drafted ss ks ready y (ch y q.forth) x) a.forth ∙ ap (λ z. passes.drafted ss ks ready (direction_of d) z x) b
        ∙ f.draft

    here : ch (direction_of e) q.back ≡ progress_of (first_past h d) e
    here = c ∙ sym u.progress

    back : passes.draft_pair ss ks ch ready t q x ≡ second_draft ps h d e x
    back =
        ap (λ z. passes.drafted ss ks ready (tunnels.back t) (ch (tunnels.back t) q.back) z) forth
        ∙ ap (λ y. passes.drafted ss ks ready y (ch y q.back) (first_draft ps h d x)) a.back
        ∙ ap (λ z. passes.drafted ss ks ready (direction_of e) z (first_draft ps h d x)) here
        ∙ g.draft

    forth-comes : passes.advanced ks ready (tunnels.forth t) (ch (tunnels.forth t) q.forth) x ≡ progress_of (last_past h d e ds) d
    forth-comes =
        ap (λ y. passes.advanced ks ready y (ch y q.forth) x) a.forth
        ∙ ap (λ z. passes.advanced ks ready (direction_of d) z x) b
        ∙ f.progress ∙ sym v.progress

    back-comes : passes.advanced ks ready (tunnels.back t) (ch (tunnels.back t) q.back) (passes.draft_forth ss ks ch ready t q x) ≡
        progress_of (last_past h d e ds) e
    back-comes =
        ap (λ z. passes.advanced ks ready (tunnels.back t) (ch (tunnels.back t) q.back) z) forth
        ∙ ap (λ y. passes.advanced ks ready y (ch y q.back) (first_draft ps h d x)) a.back
        ∙ ap (λ z. passes.advanced ks ready (direction_of e) z (first_draft ps h d x)) here
        ∙ g.progress ∙ sym w.progress

    pairs : passes.pass_pairs ss ks ch ready (t ∷ ts) (q ∷ qs) x ≡ pair_of (progress_of (last_past h d e ds) d)
        (progress_of (last_past h d e ds) e) ∷ passes.pass_pairs ss ks ch ready ts qs (second_draft ps h d e x)
    pairs = same-pairs _ _ _ _ _ _ forth-comes back-comes (ap (passes.pass_pairs ss ks ch ready ts qs) back)

differs : (d e : Way) (m : ℕ) → d.id ≡ m → m + 1 ≤ e.id → ((d.id == e.id) ≡ false) × ((e.id == d.id) ≡ false)
differs d e m i j = (grind arith, grind arith)

pub pass-is : (ps : List Peer) (ss : List Station) (ks : List (List ℕ)) (ready : List Bool) (ch : passes.Effect) (h : List ControllerAct)
    (ds : List Way) (ts : List Tunnel) (qs : List Pair) (x : Drafted) (m : ℕ)
    → IsControllerPast (length ps) h → PlainAnswers h → Rising m ds → ((d : Way) → Has d ds → Has d (directions h))
    → AtHand ps h ss ks ready → x.serials ≡ serials h → Changed ch h ds ts qs
    → PassIs ps h ds ts qs ss ks ready ch x
pass-is ps ss ks ready ch h [] _ _ x m l y r f b n none_changed = record { draft = refl; serials = n; stands = no_more }
pass-is ps ss ks ready ch h (d ∷ []) ts qs x m l y r f b n c = elim c [ ]
pass-is ps ss ks ready ch h (d ∷ e ∷ ds) ts qs x m l y r f b n (spent_too _ _ _ _ _ i j c) =
    let late : (z : Way) → Has z ds → m + 1 + 1 ≤ z.id = λ z k. from (m + 1 + 1) ds z r.1.1 k in
    let g : (z : Way) → Has z ds → Has z (directions h) = λ z k. f z (inr (inr k)) in
    pass-spent ps h d e ds ts qs ss ks ready ch x i j
    (untouched-pass (length ps) h ds d l g (f d (inl refl)) (λ z k. let q = late z k in let w = r.0 in grind arith))
    (untouched-pass (length ps) h ds e l g (f e (inr (inl refl))) (λ z k. let q = late z k in let w = r.1.0 in grind arith))
    (pass-is ps ss ks ready ch h ds ts qs x (m + 1 + 1) l y r.1.1 g b n c)
pass-is ps ss ks ready ch h (d ∷ e ∷ ds) (t ∷ ts) (q ∷ qs) x m l y r f b n (changed _ _ _ _ _ _ _ a v w c) =
    let late : (z : Way) → Has z ds → m + 1 + 1 ≤ z.id = λ z k. from (m + 1 + 1) ds z r.1.1 k in
    let hd : Has d (directions h) = f d (inl refl) in
    let he : Has e (directions h) = f e (inr (inl refl)) in
    let apart = differs d e m r.0 (let k = r.1.0 in omega arith) in
    let l1 : IsControllerPast (length ps) (first_past h d) = past-give (length ps) h d l hd in
    let y1 : PlainAnswers (first_past h d) = plain-given h d (give h d) y (given h d) in
    let b1 : AtHand ps (first_past h d) ss ks ready = after-given ps h d ss ks ready (give h d) b (given h d) in
    let n1 : (first_draft ps h d x).serials ≡ serials (first_past h d) = serials-given ps h d x (give h d) n (given h d) in
    let hd1 : Has d (directions (first_past h d)) = has-give h d d hd in
    let he1 : Has e (directions (first_past h d)) = has-give h d e he in
    let l2 : IsControllerPast (length ps) (second_past h d e) = past-give (length ps) (first_past h d) e l1 he1 in
    let y2 : PlainAnswers (second_past h d e) = plain-given (first_past h d) e (give (first_past h d) e) y1 (given (first_past h d) e) in
    let b2 : AtHand ps (second_past h d e) ss ks ready = after-given ps (first_past h d) e ss ks ready (give (first_past h d) e) b1
    (given (first_past h d) e) in
    let n2 : (second_draft ps h d e x).serials ≡ serials (second_past h d e) = serials-given ps (first_past h d) e (first_draft ps h d x)
    (give (first_past h d) e) n1 (given (first_past h d) e) in
    let f2 : (z : Way) → Has z ds → Has z (directions (second_past h d e)) =
    λ z k. has-give (first_past h d) e z (has-give h d z (f z (inr (inr k)))) in
    let moved : (z : Way) → Has z ds → Untouched h (second_past h d e) z = λ z k.
    and-untouched h (first_past h d) (second_past h d e) z
    (untouched-give (length ps) h d z l hd (f z (inr (inr k))) (let o = late z k in let i = r.0 in grind arith))
    (untouched-give (length ps) (first_past h d) e z l1 he1 (has-give h d z (f z (inr (inr k)))) (let o = late z k in let i = r.1.0 in
    grind arith)) in
    pass-two ps h d e ds t ts q qs ss ks ready ch x a v w
    (drafts ps h d ss ks ready x l y hd b n)
    (untouched-give (length ps) h d e l hd he apart.1)
    (drafts ps (first_past h d) e ss ks ready (first_draft ps h d x) l1 y1 he1 b1 n1)
    (and-untouched (first_past h d) (second_past h d e) (last_past h d e ds) d
    (untouched-give (length ps) (first_past h d) e d l1 he1 hd1 apart.0)
    (untouched-pass (length ps) (second_past h d e) ds d l2 f2 (has-give (first_past h d) e d hd1) (λ z k. let o = late z k in
    let i = r.0 in grind arith)))
    (untouched-pass (length ps) (second_past h d e) ds e l2 f2 (has-give (first_past h d) e e he1) (λ z k. let o = late z k in
    let i = r.1.0 in grind arith))
    (pass-is ps ss ks ready ch (second_past h d e) ds ts qs (second_draft ps h d e x) (m + 1 + 1) l2 y2 r.1.1 f2 b2 n2
    (changed-moves ch h (second_past h d e) ds ts qs c moved))
