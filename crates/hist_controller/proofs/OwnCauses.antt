-- Each inbound put of a direction has a cause of its own since the last one.
use Rattle.std.proofs.Common.{◌≡◌, ℕ, ◌+◌, Bool, true, false, ◌==◌, not, ◌&&◌, ◌||◌, List, [], ◌∷◌, ◌++◌, length, ◌⊎◌, inl, inr, refl, sym, subst, ◌∙◌, ap, arith, if◌then◌else◌}
use Rattle.std.proofs.lemmas.Bool.{or_right}
use Rattle.hist_controller.specs.Acts.{Way, Association, ControllerOrder, PutIn, PlacedCommand, SetPolicy, Tunnel, End, Rekey, Keys, ControllerAct, Opened, Cut, Answered, Heard, Ordered, Accepted, Refused}
use Rattle.hist_controller.specs.Past.{is_read, directions, new_ways, is_made_by, is_end_of, is_over, is_start, is_renewal, is_inbound_put_of, is_cause, is_wanted}
use Rattle.hist_controller.specs.Clauses.{Has, IsControllerPast, MayOrderInPut}
use Rattle.hist_controller.specs.Causes.{CauseAmong, is_anew, NoneAnew, CauseStands, WasEnded}
use Rattle.hist_controller.proofs.KeptState.{rising, eq-own, made-no}
use Rattle.hist_controller.proofs.Lists.{has-left}
use Rattle.hist_controller.proofs.Serials.{has-more, upto}

or-cause : (c w : Bool) (recent old : List ControllerAct) (d : Way) (a : ControllerAct) → is_cause d a (recent ++ old) ≡ c
    → (w ≡ true → CauseAmong d recent old) → (c || w) ≡ true → CauseAmong d (a ∷ recent) old
or-cause true w recent old d a e f t = inl e
or-cause false w recent old d a e f t = inr (f t)

told-cause : (b s r w : Bool) (recent old : List ControllerAct) (d : Way) (c : PlacedCommand)
    → is_made_by c (length (directions (recent ++ old))) d ≡ b → is_start c ≡ s → is_renewal d c ≡ r → (w ≡ true → CauseAmong d recent old)
    → (if b then s else (r || w)) ≡ true → CauseAmong d (Accepted c ∷ recent) old
told-cause true s r w recent old d c e p q f t = inl (rw e (p ∙ t))
told-cause false s true w recent old d c e p q f t = inl (rw e q)
told-cause false s false w recent old d c e p q f t = inr (f t)

drop-not : (a b : Bool) → (not a && b) ≡ true → b ≡ true
drop-not true b e = cc
drop-not false b e = e

-- what is wanted since an act with which the direction began anew, has a cause since then
wanted-among : (d : Way) (recent old : List ControllerAct) → (is_wanted d old ≡ true → ⊥) → is_wanted d (recent ++ old) ≡ true
    → CauseAmong d recent old
wanted-among d [] old u e = absurd (u e)
wanted-among d (Opened g s ∷ recent) old u e = inr (wanted-among d recent old u e)
wanted-among d (Cut g s ∷ recent) old u e = or-cause _ _ recent old d (Cut g s) refl (wanted-among d recent old u) e
wanted-among d (Answered g s n a ∷ recent) old u e = or-cause _ _ recent old d (Answered g s n a) refl (wanted-among d recent old u) e
wanted-among d (Heard g s t ∷ recent) old u e = or-cause _ _ recent old d (Heard g s t) refl (wanted-among d recent old u) e
wanted-among d (Ordered g s n o ∷ recent) old u e =
    inr (wanted-among d recent old u (drop-not (is_inbound_put_of d o) (is_wanted d (recent ++ old)) e))
wanted-among d (Accepted c ∷ recent) old u e = told-cause _ _ _ _ recent old d c refl refl refl (wanted-among d recent old u) e
wanted-among d (Refused w ∷ recent) old u e = inr (wanted-among d recent old u e)

owed-wanted : (w o a b : Bool) → ((w && not o) && a && b) ≡ true → (w ≡ true) × (o ≡ false)
owed-wanted true false a b e = (refl, refl)
owed-wanted true true a b e = cc
owed-wanted false o a b e = cc

put-wanted : (h : List ControllerAct) (g : ℕ) (y : Association) → MayOrderInPut h g y → (is_wanted y.way h ≡ true)
    × (is_over y.way h ≡ false)
put-wanted h g y m = owed-wanted (is_wanted y.way h) (is_over y.way h) (is_read y.way.sender h) (is_read y.way.receiver h) m.may

put-not : (d : Way) (x : Association) (w : Bool) → d ≡ x.way → (not (d.id == x.way.id) && w) ≡ true → ⊥
put-not d x w e t = let q : (d.id == x.way.id) ≡ true = ap (λ (z : Way). z.id == x.way.id) e ∙ eq-own x.way.id in
    let u : (not true && w) ≡ true = rw q at t in cc

-- between two inbound puts of a direction a cause of it stands
pub between-puts : (p : ℕ) (f r m g s n : ℕ) (x y : Association) (recent old : List ControllerAct)
    → IsControllerPast p (Ordered g s n (PutIn y) ∷ recent ++ Ordered f r m (PutIn x) ∷ old) → y.way ≡ x.way
    → CauseAmong y.way recent (Ordered f r m (PutIn x) ∷ old)
between-puts p f r m g s n x y recent old l e =
    wanted-among y.way recent (Ordered f r m (PutIn x) ∷ old) (put-not y.way x (is_wanted y.way old) e)
    (put-wanted (recent ++ Ordered f r m (PutIn x) ∷ old) g y l.0.3).0

-- between the command of a direction and its first inbound put too, or the command itself is one
pub before-first-put : (p : ℕ) (g s n : ℕ) (y : Association) (c : PlacedCommand) (recent old : List ControllerAct)
    → IsControllerPast p (Ordered g s n (PutIn y) ∷ recent ++ Accepted c ∷ old) → is_made_by c (length (directions old)) y.way ≡ true
    → (is_start c ≡ true) ⊎ CauseAmong y.way recent (Accepted c ∷ old)
before-first-put p g s n y c recent old l e = by-start (is_start c) refl
  where
    by-start : (b : Bool) → is_start c ≡ b → (is_start c ≡ true) ⊎ CauseAmong y.way recent (Accepted c ∷ old)
    by-start true q = inl q
    by-start false q = inr
        (wanted-among y.way recent (Accepted c ∷ old)
        (λ t. let u : (if true then is_start c else (is_renewal y.way c || is_wanted y.way old)) ≡ true = rw e at t in
        let v : true ≡ false = sym u ∙ q in cc) (put-wanted (recent ++ Accepted c ∷ old) g y l.0.3).0)

-- ## owed, exactly where a cause stands

one-more : (d : Way) (a : ControllerAct) (h : List ControllerAct) → is_anew d a h ≡ false → CauseStands d h → CauseStands d (a ∷ h)
one-more d a h e k = record {
  recent = a ∷ k.recent;
  cause = k.cause;
  old = k.old;
  all = ap (λ z. a ∷ z) k.all;
  is = k.is;
  since = (subst (λ z. is_anew d a z ≡ false) k.all e, k.since);
}

this-one : (d : Way) (a : ControllerAct) (h : List ControllerAct) → is_cause d a h ≡ true → CauseStands d (a ∷ h)
this-one d a h e = record { recent = []; cause = a; old = h; all = refl; is = e; since = tt }

or-stands : (c w : Bool) (d : Way) (a : ControllerAct) (h : List ControllerAct) → is_cause d a h ≡ c → is_anew d a h ≡ false
    → (w ≡ true → CauseStands d h) → (c || w) ≡ true → CauseStands d (a ∷ h)
or-stands true w d a h e n f t = this-one d a h e
or-stands false w d a h e n f t = one-more d a h n (f t)

told-stands : (b s r w : Bool) (d : Way) (c : PlacedCommand) (h : List ControllerAct) → is_made_by c (length (directions h)) d ≡ b
    → is_start c ≡ s → is_renewal d c ≡ r → (w ≡ true → CauseStands d h) → (if b then s else (r || w)) ≡ true
    → CauseStands d (Accepted c ∷ h)
told-stands true s r w d c h e p q f t = this-one d (Accepted c) h (rw e (p ∙ t))
told-stands false s true w d c h e p q f t = this-one d (Accepted c) h (rw e q)
told-stands false s false w d c h e p q f t = one-more d (Accepted c) h e (f t)

ordered-stands : (b w : Bool) (d : Way) (g s n : ℕ) (o : ControllerOrder) (h : List ControllerAct) → is_inbound_put_of d o ≡ b
    → (w ≡ true → CauseStands d h) → (not b && w) ≡ true → CauseStands d (Ordered g s n o ∷ h)
ordered-stands true w d g s n o h e f t = cc
ordered-stands false w d g s n o h e f t = one-more d (Ordered g s n o) h e (f t)

pub wanted-stands : (d : Way) (h : List ControllerAct) → is_wanted d h ≡ true → CauseStands d h
wanted-stands d [] e = cc
wanted-stands d (Opened g s ∷ h) e = one-more d (Opened g s) h refl (wanted-stands d h e)
wanted-stands d (Cut g s ∷ h) e = or-stands _ _ d (Cut g s) h refl refl (wanted-stands d h) e
wanted-stands d (Answered g s n a ∷ h) e = or-stands _ _ d (Answered g s n a) h refl refl (wanted-stands d h) e
wanted-stands d (Heard g s t ∷ h) e = or-stands _ _ d (Heard g s t) h refl refl (wanted-stands d h) e
wanted-stands d (Ordered g s n o ∷ h) e = ordered-stands _ _ d g s n o h refl (wanted-stands d h) e
wanted-stands d (Accepted c ∷ h) e = told-stands _ _ _ _ d c h refl refl refl (wanted-stands d h) e
wanted-stands d (Refused w ∷ h) e = one-more d (Refused w) h refl (wanted-stands d h e)

-- with acts that don't begin it anew what is wanted stays wanted
stays-wanted : (d : Way) (recent old : List ControllerAct) → NoneAnew d recent old → is_wanted d old ≡ true
    → is_wanted d (recent ++ old) ≡ true
stays-wanted d [] old n e = e
stays-wanted d (Opened g s ∷ recent) old n e = stays-wanted d recent old n.1 e
stays-wanted d (Cut g s ∷ recent) old n e = or_right _ _ (stays-wanted d recent old n.1 e)
stays-wanted d (Answered g s i a ∷ recent) old n e = or_right _ _ (stays-wanted d recent old n.1 e)
stays-wanted d (Heard g s t ∷ recent) old n e = or_right _ _ (stays-wanted d recent old n.1 e)
stays-wanted d (Ordered g s i o ∷ recent) old n e = let a = n.0 in let b = stays-wanted d recent old n.1 e in rw (a, b) refl
stays-wanted d (Accepted c ∷ recent) old n e = let a = n.0 in let b = stays-wanted d recent old n.1 e in rw a (or_right _ _ b)
stays-wanted d (Refused w ∷ recent) old n e = stays-wanted d recent old n.1 e

cause-wanted : (d : Way) (a : ControllerAct) (h : List ControllerAct) → is_cause d a h ≡ true → is_wanted d (a ∷ h) ≡ true
cause-wanted d (Opened g s) h e = cc
cause-wanted d (Cut g s) h e = rw e refl
cause-wanted d (Answered g s n a) h e = rw e refl
cause-wanted d (Heard g s t) h e = rw e refl
cause-wanted d (Ordered g s n o) h e = cc
cause-wanted d (Accepted c) h e = by-made (is_made_by c (length (directions h)) d) (is_start c) (is_renewal d c) (is_wanted d h) e
  where
    by-made : (b s r w : Bool) → (if b then s else r) ≡ true → (if b then s else (r || w)) ≡ true
    by-made true s r w t = t
    by-made false s true w t = refl
    by-made false s false w t = cc
cause-wanted d (Refused w) h e = cc

pub stands-wanted : (d : Way) (h : List ControllerAct) → CauseStands d h → is_wanted d h ≡ true
stands-wanted d h k = ap (is_wanted d) k.all ∙ stays-wanted d k.recent (k.cause ∷ k.old) k.since (cause-wanted d k.cause k.old k.is)

-- ## over, exactly where the end of its tunnel was accepted after its command

later-ended : (d : Way) (a : ControllerAct) (h : List ControllerAct) → WasEnded d h → WasEnded d (a ∷ h)
later-ended d a h k = record { recent = a ∷ k.recent; old = k.old; all = ap (λ z. a ∷ z) k.all; made = k.made }

end-is : (d : Way) (c : PlacedCommand) (h : List ControllerAct) → is_end_of d.tunnel.reqid c ≡ true → Has d (directions h)
    → WasEnded d (Accepted c ∷ h)
end-is d (SetPolicy g l) h e i = cc
end-is d (Tunnel t) h e i = cc
end-is d (End r) h e i = let q : d.tunnel.reqid ≡ r = grind arith in record { recent = []; old = h; all = rw q refl; made = i }
end-is d (Rekey r) h e i = cc
end-is d (Keys k) h e i = cc

no-end : (d : Way) (c : PlacedCommand) (n : ℕ) → Has d (new_ways n c) → is_end_of d.tunnel.reqid c ≡ false
no-end d (SetPolicy g l) n i = refl
no-end d (Tunnel t) n i = refl
no-end d (End r) n i = absurd i
no-end d (Rekey r) n i = refl
no-end d (Keys k) n i = refl

above : (c : PlacedCommand) (n : ℕ) (d : Way) → Has d (new_ways n c) → is_made_by c n d ≡ true
above (SetPolicy g l) n d i = absurd i
above (Tunnel t) n d (inl e) = let q : d.id ≡ n = ap (λ (z : Way). z.id) e in grind arith
above (Tunnel t) n d (inr (inl e)) = let q : d.id ≡ n + 1 = ap (λ (z : Way). z.id) e in grind arith
above (Tunnel t) n d (inr (inr i)) = absurd i
above (End r) n d i = absurd i
above (Rekey r) n d i = absurd i
above (Keys k) n d i = absurd i

told-ended : (d : Way) (c : PlacedCommand) (h : List ControllerAct) (b e o : Bool) → is_made_by c (length (directions h)) d ≡ b
    → is_end_of d.tunnel.reqid c ≡ e → (Has d (directions h) → o ≡ true → WasEnded d h) → Has d (directions h)
    ⊎ Has d (new_ways (length (directions h)) c) → (not b && (e || o)) ≡ true → WasEnded d (Accepted c ∷ h)
told-ended d c h true e o q r f i t = cc
told-ended d c h false true o q r f (inl i) t = end-is d c h r i
told-ended d c h false false o q r f (inl i) t = later-ended d (Accepted c) h (f i t)
told-ended d c h false e o q r f (inr i) t = absurd (let u : true ≡ false = sym (above c (length (directions h)) d i) ∙ q in cc)

pub over-ended : (d : Way) (h : List ControllerAct) → Has d (directions h) → is_over d h ≡ true → WasEnded d h
over-ended d [] i e = cc
over-ended d (Opened g s ∷ h) i e = later-ended d (Opened g s) h (over-ended d h i e)
over-ended d (Cut g s ∷ h) i e = later-ended d (Cut g s) h (over-ended d h i e)
over-ended d (Answered g s n a ∷ h) i e = later-ended d (Answered g s n a) h (over-ended d h i e)
over-ended d (Heard g s t ∷ h) i e = later-ended d (Heard g s t) h (over-ended d h i e)
over-ended d (Ordered g s n o ∷ h) i e = later-ended d (Ordered g s n o) h (over-ended d h i e)
over-ended d (Accepted c ∷ h) i e =
    told-ended d c h _ _ _ refl refl (over-ended d h) (has-more d (directions h) (new_ways (length (directions h)) c) i) e
over-ended d (Refused w ∷ h) i e = later-ended d (Refused w) h (over-ended d h i e)

still-made : (d : Way) (a : ControllerAct) (h : List ControllerAct) → Has d (directions h) → Has d (directions (a ∷ h))
still-made d (Opened g s) h i = i
still-made d (Cut g s) h i = i
still-made d (Answered g s n a) h i = i
still-made d (Heard g s t) h i = i
still-made d (Ordered g s n o) h i = i
still-made d (Accepted c) h i = has-left d (directions h) (new_ways (length (directions h)) c) i
still-made d (Refused w) h i = i

known-not-made : (c : PlacedCommand) (h : List ControllerAct) (d : Way) → Has d (directions h)
    → is_made_by c (length (directions h)) d ≡ false
known-not-made c h d i = let u = upto 0 (directions h) d (rising h) i in made-no c (length (directions h)) d (omega arith)

stays-over : (d : Way) (recent old : List ControllerAct) → Has d (directions old) → is_over d old ≡ true
    → Has d (directions (recent ++ old)) × (is_over d (recent ++ old) ≡ true)
stays-over d [] old i e = (i, e)
stays-over d (Opened g s ∷ recent) old i e = stays-over d recent old i e
stays-over d (Cut g s ∷ recent) old i e = stays-over d recent old i e
stays-over d (Answered g s n a ∷ recent) old i e = stays-over d recent old i e
stays-over d (Heard g s t ∷ recent) old i e = stays-over d recent old i e
stays-over d (Ordered g s n o ∷ recent) old i e = stays-over d recent old i e
stays-over d (Accepted c ∷ recent) old i e =
    let k = stays-over d recent old i e in
    let q = known-not-made c (recent ++ old) d k.0 in
    let w = k.1 in
    (still-made d (Accepted c) (recent ++ old) k.0, rw q (or_right _ _ w))
stays-over d (Refused w ∷ recent) old i e = stays-over d recent old i e

pub ended-over : (d : Way) (h : List ControllerAct) → WasEnded d h → is_over d h ≡ true
ended-over d h k =
    let r = eq-own d.tunnel.reqid in
    let o : is_over d (Accepted (End d.tunnel.reqid) ∷ k.old) ≡ true = rw r refl in
    ap (is_over d) k.all ∙ (stays-over d k.recent (Accepted (End d.tunnel.reqid) ∷ k.old)
    (still-made d (Accepted (End d.tunnel.reqid)) k.old k.made) o).1
