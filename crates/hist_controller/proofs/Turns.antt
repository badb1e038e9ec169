-- After each block no direction without a waiting order of its own has an order that is allowed.
use Rattle.std.proofs.Common.{◌≡◌, ℕ, ◌+◌, Bool, true, false, ◌==◌, ◌||◌, List, [], ◌∷◌, ◌++◌, Option, Some, None, ◌⊎◌, inl, inr, refl, sym, subst, ◌∙◌, ap, arith, if◌then◌else◌, length, append-nil}
use Rattle.std.specs.List.{list_any}
use Rattle.ikeless_tree.specs.declared.command.Refusal.{Refusal}
use Rattle.ikeless_tree.specs.declared.order.Answer.{Answer}
use Rattle.ikeless_tree.specs.declared.command.Peer.{Peer}
use Rattle.hist_controller.specs.Acts.{Way, Association, ControllerOrder, Read, Policy, PutIn, PutOut, RemoveIn, RemoveOut, PlacedCommand, ControllerAct, Opened, Cut, Answered, Heard, Ordered, Accepted, Refused, ControllerEvent, Told, Opens, Cuts, Answers, Notices}
use Rattle.hist_acts.specs.Past.{after}
use Rattle.hist_controller.specs.Past.{is_open, openings, orders, answered, queue, serials, spare, keys_after, directions, PuttingIn, PuttingOut, is_kind, is_own, is_inbound_put_of, inbound_put, left, is_busy}
use Rattle.hist_controller.specs.Law.{may_in_put, give, pass, by_command, read_put, by_notice, placed_command, refusal, asked_then, going, by_refusal, by_answer, block, history}
use Rattle.hist_controller.specs.Clauses.{Has, Quiet, NotIdle, ControllerMayActAll, IsControllerPast}
use Rattle.hist_controller.proofs.Lists.{has-left, any-if}
use Rattle.hist_controller.proofs.Bools.{or-right}
use Rattle.hist_controller.proofs.KeptState.{eq-own}
use Rattle.hist_controller.proofs.Gives.{Idle, Given, nothing, out_removed, in_removed, out_was_put, in_was_put, given, ways-give}
use Rattle.hist_controller.proofs.Serials.{of-way, low, one, one-way}
use Rattle.hist_controller.proofs.Clauses.{may-given, may-block, past-after, after-append, may-command, may-read-put, may-notice}

pub any-has : {A : Type 0} (p : A → Bool) (x : A) (xs : List A) → Has x xs → p x ≡ true → list_any p xs ≡ true
any-has p x [] i e = absurd i
any-has p x (y ∷ ys) (inl q) e = let w : p y ≡ true = ap p (sym q) ∙ e in rw w refl
any-has p x (y ∷ ys) (inr i) e = let ih = any-has p x ys i e in grind (arith, ih)

pub any-last : {A : Type 0} (p : A → Bool) (xs : List A) (x : A) → p x ≡ true → list_any p (xs ++ x ∷ []) ≡ true
any-last p [] x e = rw e refl
any-last p (y ∷ ys) x e = let ih = any-last p ys x e in grind (arith, ih)

or-up : (a b c d : Bool) → (a ≡ true → c ≡ true) → (b ≡ true → d ≡ true) → (a || b) ≡ true → (c || d) ≡ true
or-up true b c d f g e = rw (f refl) refl
or-up false b true d f g e = refl
or-up false b false d f g e = g e

-- ## its own turn

busy-sender : (h : List ControllerAct) (s n : ℕ) (o : ControllerOrder) (d : Way) → is_own d (left d h ++ inbound_put d o) o ≡ true
    → is_busy d (Ordered d.sender s n o ∷ h) ≡ true
busy-sender h s n o d e =
    let a = any-last (is_own d (left d h ++ inbound_put d o)) (queue d.sender h) o e in
    rw (eq-own d.sender) (rw a refl)

busy-receiver : (h : List ControllerAct) (s n : ℕ) (o : ControllerOrder) (d : Way) → is_own d (left d h ++ inbound_put d o) o ≡ true
    → is_busy d (Ordered d.receiver s n o ∷ h) ≡ true
busy-receiver h s n o d e =
    let a = any-last (is_own d (left d h ++ inbound_put d o)) (queue d.receiver h) o e in
    rw (eq-own d.receiver) (or-right _ _ a)

removes : (h : List ControllerAct) (d : Way) (x : Association) → Has x (left d h) → list_any (λ (y : Association). y.serial == x.serial)
    (left d h ++ []) ≡ true
removes h d x l = any-has (λ (y : Association). y.serial == x.serial) x (left d h ++ []) (has-left x (left d h) [] l) (eq-own x.serial)

pub own-turn : (h : List ControllerAct) (d : Way) (os : List ControllerAct) → Given h d os → Idle (after h os) d
own-turn h d _ (nothing i) = i
own-turn h d _ (out_removed x f l m n1) =
    inl (busy-sender h (openings d.sender h) (orders d.sender h + 1) (RemoveOut x.serial) d (removes h d x l))
own-turn h d _ (in_removed x f l m n1 n2) =
    inl (busy-receiver h (openings d.receiver h) (orders d.receiver h + 1) (RemoveIn x.serial) d (removes h d x l))
own-turn h d _ (out_was_put x f l m n1 n2 n3) =
    inl (busy-sender h (openings d.sender h) (orders d.sender h + 1) (PutOut x) d (of-way h d x l))
own-turn h d _ (in_was_put k ks f s m n1 n2 n3) =
    inl (busy-receiver h (openings d.receiver h) (orders d.receiver h + 1) (PutIn (record { serial = serials h + 1; key = k; way = d })) d
    (eq-own d.id))

-- ## the turn of another direction

pub used-none : (o : ControllerOrder) → keys_after o [] ≡ []
used-none Read = refl
used-none (Policy l) = refl
used-none (PutIn x) = refl
used-none (PutOut x) = refl
used-none (RemoveIn n) = refl
used-none (RemoveOut n) = refl

busy-stays : (h : List ControllerAct) (g s n : ℕ) (o : ControllerOrder) (d : Way) → inbound_put d o ≡ [] → is_busy d h ≡ true
    → is_busy d (Ordered g s n o ∷ h) ≡ true
busy-stays h g s n o d e b =
    rw (e, append-nil (left d h))
    (or-up _ _ _ _
    (any-if (is_own d (left d h)) (d.sender == g) (queue d.sender h) o)
    (any-if (is_own d (left d h)) (d.receiver == g) (queue d.receiver h) o)
    b)

has-old : (h : List ControllerAct) (g s n : ℕ) (o : ControllerOrder) (d : Way) (x : Association) → inbound_put d o ≡ []
    → Has x (left d (Ordered g s n o ∷ h)) → Has x (left d h)
has-old h g s n o d x e i = subst (Has x) (ap (λ t. left d h ++ t) e ∙ append-nil (left d h)) i

quiet-stays : (h : List ControllerAct) (g s n : ℕ) (o : ControllerOrder) (d : Way) → inbound_put d o ≡ [] → is_inbound_put_of d o ≡ false
    → ((x : Association) → Has x (left d h) → (is_kind PuttingIn x.serial o ≡ false) × (is_kind PuttingOut x.serial o ≡ false)) → Quiet h d
    → Quiet (Ordered g s n o ∷ h) d
quiet-stays h g s n o d e f a q =
    record {
      no_out_remove = λ x i. let j = has-old h g s n o d x e i in let w = a x j in rw (w.0, w.1) (q.no_out_remove x j);
      no_in_remove = λ x i. let j = has-old h g s n o d x e i in let w = a x j in rw (w.0, w.1) (q.no_in_remove x j);
      no_out_put = λ x i. let j = has-old h g s n o d x e i in let w = a x j in rw (w.0, w.1) (q.no_out_put x j);
      no_in_put = elim q.no_in_put as (λ z. (may_in_put (Ordered g s n o ∷ h) d ≡ false) ⊎ (keys_after o (spare h) ≡ [])) [
        | inl w ↦ inl (rw f w)
        | inr w ↦ inr (rw w (used-none o))
      ];
    }

pub idle-stays : (h : List ControllerAct) (g s n : ℕ) (o : ControllerOrder) (d : Way) → inbound_put d o ≡ [] → is_inbound_put_of d o ≡ false
    → ((x : Association) → Has x (left d h) → (is_kind PuttingIn x.serial o ≡ false) × (is_kind PuttingOut x.serial o ≡ false)) → Idle h d
    → Idle (Ordered g s n o ∷ h) d
idle-stays h g s n o d e f a (inl b) = inl (busy-stays h g s n o d e b)
idle-stays h g s n o d e f a (inr q) = inr (quiet-stays h g s n o d e f a q)

pub differ : (n m : ℕ) (b : Bool) → (n == m) ≡ b → (n ≡ m → ⊥) → (n == m) ≡ false
differ n m true e f = absurd (f (grind arith))
differ n m false e f = e

pub other-out : (p : ℕ) (h : List ControllerAct) → IsControllerPast p h → (d e : Way) → (d.id == e.id) ≡ false → (x : Association)
    → Has x (left e h) → (y : Association) → Has y (left d h) → (y.serial == x.serial) ≡ false
other-out p h l d e w x i y j = differ y.serial x.serial (y.serial == x.serial) refl (λ q.
    let s = one p h l d e y x j i q in
    let a = of-way h d y j in
    let b = of-way h e x i in
    let c : (d.id == x.way.id) ≡ true = ap (λ (z : Association). d.id == z.way.id) (sym s) ∙ a in
    let t : d.id ≡ e.id = grind arith in
    grind arith)

other-turn : (p : ℕ) (h : List ControllerAct) → IsControllerPast p h → (d e : Way) → (d.id == e.id) ≡ false → (os : List ControllerAct)
    → Given h e os → Idle h d → Idle (after h os) d
other-turn p h l d e w _ (nothing i) q = q
other-turn p h l d e w _ (out_removed x f i m n1) q = idle-stays h e.sender (openings e.sender h) (orders e.sender h + 1)
    (RemoveOut x.serial) d refl refl (λ y j. (refl, refl)) q
other-turn p h l d e w _ (in_removed x f i m n1 n2) q = idle-stays h e.receiver (openings e.receiver h) (orders e.receiver h + 1)
    (RemoveIn x.serial) d refl refl (λ y j. (refl, refl)) q
other-turn p h l d e w _ (out_was_put x f i m n1 n2 n3) q = idle-stays h e.sender (openings e.sender h) (orders e.sender h + 1) (PutOut x) d
    refl refl (λ y j. (refl, other-out p h l d e w x i y j)) q
other-turn p h l d e w _ (in_was_put k ks f s m n1 n2 n3) q =
    idle-stays h e.receiver (openings e.receiver h) (orders e.receiver h + 1) (PutIn (record { serial = serials h + 1; key = k; way = e }))
    d (rw w refl) w
    (λ y j. let a = low p h l d y j in ((grind arith), refl)) q

-- ## the pass

pub turn : (p : ℕ) (h : List ControllerAct) → IsControllerPast p h → (d e : Way) → Has d (directions h) → Has e (directions h) → (b : Bool)
    → (d.id == e.id) ≡ b → Idle h d → Idle (after h (give h e)) d
turn p h l d e i j true w q = let t : d ≡ e = one-way h d e i j (grind arith) in rw t (own-turn h e (give h e) (given h e))
turn p h l d e i j false w q = other-turn p h l d e w (give h e) (given h e) q

idle-pass : (p : ℕ) (h : List ControllerAct) → IsControllerPast p h → (ds : List Way) → ((d : Way) → Has d ds → Has d (directions h))
    → ((d : Way) → Has d (directions h) → Has d ds ⊎ Idle h d) → (d : Way) → Has d (directions h) → Idle (after h (pass h ds)) d
idle-pass p h l [] f g d i = elim (g d i) as (λ z. Idle h d) [ inl j ↦ absurd j | inr q ↦ q ]
idle-pass p h l (e ∷ ds) f g d i =
    let he : Has e (directions h) = f e (inl refl) in
    let same = ways-give h e in
    let l' = past-after p h (give h e) l (may-given p h e (give h e) he (given h e)) in
    subst (λ t. Idle t d) (sym (after-append h (give h e) (pass (after h (give h e)) ds)))
    (idle-pass p (after h (give h e)) l' ds
    (λ c j. subst (Has c) (sym same) (f c (inr j)))
    (λ c j. let j' : Has c (directions h) = subst (Has c) same j in step p h l e ds he c j' (g c j'))
    d (subst (Has d) (sym same) i))
  where
    step : (p : ℕ) (h : List ControllerAct) → IsControllerPast p h → (e : Way) (ds : List Way) → Has e (directions h) → (c : Way)
        → Has c (directions h) → Has c (e ∷ ds) ⊎ Idle h c → Has c ds ⊎ Idle (after h (give h e)) c
    step p h l e ds he c j (inl (inl q)) = inr (rw q (own-turn h e (give h e) (given h e)))
    step p h l e ds he c j (inl (inr k)) = inl k
    step p h l e ds he c j (inr q) = inr (turn p h l c e j he (c.id == e.id) refl q)

pub from-idle : (h : List ControllerAct) (d : Way) → Idle h d → is_busy d h ≡ false → Quiet h d
from-idle h d (inl b) f = cc
from-idle h d (inr q) f = q

after-pass : (p : ℕ) (h : List ControllerAct) → IsControllerPast p h → NotIdle (after h (pass h (directions h)))
after-pass p h l d i = from-idle (after h (pass h (directions h))) d (idle-pass p h l (directions h) (λ c j. j) (λ c j. inl j) d
    (subst (Has d) (dirs-pass h (directions h)) i))
  where
    dirs-pass : (h : List ControllerAct) (ds : List Way) → directions (after h (pass h ds)) ≡ directions h
    dirs-pass h [] = refl
    dirs-pass h (e ∷ ds) = ap directions (after-append h (give h e) (pass (after h (give h e)) ds))
        ∙ (dirs-pass (after h (give h e)) ds ∙ ways-give h e)

-- ## blocks

idle-asked : (p : ℕ) (h os : List ControllerAct) → IsControllerPast p h → ControllerMayActAll p h os → NotIdle (after h (asked_then h os))
idle-asked p h os l m = subst NotIdle (sym (after-append h os (pass (after h os) (directions (after h os)))))
    (after-pass p (after h os) (past-after p h os l m))

pub idle-refused : (h : List ControllerAct) (w : Refusal) → NotIdle h → NotIdle (Refused w ∷ h)
idle-refused h w q d i f = let r = q d i f in
    record { no_out_remove = r.no_out_remove; no_in_remove = r.no_in_remove; no_out_put = r.no_out_put; no_in_put = r.no_in_put }

idle-if : (h : List ControllerAct) (b : Bool) (xs ys : List ControllerAct) → (b ≡ true → NotIdle (after h xs))
    → (b ≡ false → NotIdle (after h ys)) → NotIdle (after h (if b then xs else ys))
idle-if h true xs ys f g = f refl
idle-if h false xs ys f g = g refl

idle-refusal : (p : ℕ) (h : List ControllerAct) (c : PlacedCommand) (o : Option Refusal) → refusal p h c ≡ o → IsControllerPast p h
    → NotIdle h → NotIdle (after h (by_refusal h c o))
idle-refusal p h c None e l q = idle-asked p (Accepted c ∷ h) (by_command (Accepted c ∷ h) c) (e, l) (may-command p h c)
idle-refusal p h c (Some w) e l q = idle-refused h w q

idle-answer : (p : ℕ) (h : List ControllerAct) (g : ℕ) (a : Answer) (os : List ControllerOrder)
    → ControllerMayActAll p h (by_answer h g a os) → IsControllerPast p h → NotIdle h → NotIdle (after h (by_answer h g a os))
idle-answer p h g a [] m l q = q
idle-answer p h g a (o ∷ os) m l q = idle-asked p (Answered g (openings g h) (answered g h + 1) a ∷ h) [] (m.0, l) tt

pub idle-block : (p : List Peer) (h : List ControllerAct) (e : ControllerEvent) → IsControllerPast (length p) h → NotIdle h
    → NotIdle (after h (block p h e))
idle-block p h (Told c) l q = idle-refusal (length p) h (placed_command p c) (refusal (length p) h (placed_command p c)) refl l q
idle-block p h (Opens g) l q =
    idle-if h (is_open g h) [] (going h (Opened g (openings g h + 1)))
    (λ o. q)
    (λ o. idle-asked (length p) (Opened g (openings g h + 1) ∷ h) (read_put (Opened g (openings g h + 1) ∷ h) g) ((o, refl), l)
    (may-read-put (length p) h g (openings g h + 1)))
idle-block p h (Cuts g) l q =
    idle-if h (is_open g h) (going h (Cut g (openings g h))) []
    (λ o. idle-asked (length p) (Cut g (openings g h) ∷ h) [] ((o, refl), l) tt)
    (λ o. q)
idle-block p h (Answers g a) l q = idle-answer (length p) h g a (queue g h) (may-block p h (Answers g a)) l q
idle-block p h (Notices g t) l q =
    idle-if h (is_open g h) (going h (Heard g (openings g h) t)) []
    (λ o. idle-asked (length p) (Heard g (openings g h) t ∷ h) (by_notice (Heard g (openings g h) t ∷ h) g t) ((o, refl), l)
    (may-notice (length p) h g (openings g h) t refl o))
    (λ o. q)

idle-from : (p : List Peer) (h : List ControllerAct) (es : List ControllerEvent) → IsControllerPast (length p) h → NotIdle h
    → NotIdle (after h (history p h es))
idle-from p h [] l q = q
idle-from p h (e ∷ es) l q =
    subst NotIdle (sym (after-append h (block p h e) (history p (after h (block p h e)) es)))
    (idle-from p (after h (block p h e)) es (past-after (length p) h (block p h e) l (may-block p h e)) (idle-block p h e l q))

pub not-idle : (p : List Peer) (es : List ControllerEvent) → NotIdle (after [] (history p [] es))
not-idle p es = idle-from p [] es tt (λ d i f. absurd i)
