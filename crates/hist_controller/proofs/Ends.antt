-- Which act ended an association, which was put last in a direction, and where a direction is owed one, read plainly.
use Rattle.std.proofs.Common.{◌≡◌, ℕ, ◌<◌, Bool, true, false, ◌==◌, not, ◌&&◌, ◌||◌, List, [], ◌∷◌, ◌++◌, length, refl, sym, ◌∙◌, ap, subst, arith, if◌then◌else◌}
use Rattle.std.proofs.lemmas.Bool.{false≢true, or_left, or_right, or_parts, and_parts, and_from, not-true, not_from_false, false_from_ne_true}
use Rattle.std.specs.List.{list_any}
use Rattle.hist_controller.specs.Acts.{Way, Association, ControllerOrder, Read, Policy, PutIn, PutOut, RemoveIn, RemoveOut, PlacedCommand, ControllerAct, Opened, Cut, Answered, Heard, Ordered, Accepted, Refused}
use Rattle.hist_controller.specs.Past.{directions, is_made_by, is_over, PuttingIn, is_kind, is_ended, last_if, newest_serial, is_inbound_put_of, is_wanted, is_owed}
use Rattle.hist_controller.specs.Clauses.{Has}
use Rattle.hist_controller.specs.Causes.{is_anew, NoneAnew, CauseStands, WasEnded}
use Rattle.hist_controller.specs.Ends.{is_ended_by, is_begun_by, WasEndedBy, WasPutLast}
use Rattle.hist_controller.proofs.OwnCauses.{wanted-stands, stands-wanted, over-ended, ended-over}

-- ## what ended an association

one-later : (x : Association) (a : ControllerAct) (h : List ControllerAct) → is_begun_by x a ≡ false → WasEndedBy x h → WasEndedBy x (a ∷ h)
one-later x a h e r = record {
  recent = a ∷ r.recent;
  act = r.act;
  old = r.old;
  all = ap (λ z. a ∷ z) r.all;
  is = r.is;
  since =
      rw e r.since;
}

or-ended : (x : Association) (a : ControllerAct) (h : List ControllerAct) (b w : Bool) → is_ended_by x a h ≡ b → is_begun_by x a ≡ false
    → (w ≡ true → WasEndedBy x h) → (b || w) ≡ true → WasEndedBy x (a ∷ h)
or-ended x a h true w e n f t = record { recent = []; act = a; old = h; all = refl; is = e; since = refl }
or-ended x a h false w e n f t = one-later x a h n (f t)

put-ended : (x : Association) (g s n : ℕ) (o : ControllerOrder) (h : List ControllerAct) (b w : Bool) → is_kind PuttingIn x.serial o ≡ b
    → (w ≡ true → WasEndedBy x h) → (not b && w) ≡ true → WasEndedBy x (Ordered g s n o ∷ h)
put-ended x g s n o h true w e f t = absurd (false≢true t)
put-ended x g s n o h false w e f t = one-later x (Ordered g s n o) h e (f t)

pub ended-by : (x : Association) (h : List ControllerAct) → is_ended x h ≡ true → WasEndedBy x h
ended-by x [] e = absurd (false≢true e)
ended-by x (Opened g s ∷ h) e = one-later x (Opened g s) h refl (ended-by x h e)
ended-by x (Cut g s ∷ h) e = or-ended x (Cut g s) h _ _ refl refl (ended-by x h) e
ended-by x (Answered g s n a ∷ h) e = or-ended x (Answered g s n a) h _ _ refl refl (ended-by x h) e
ended-by x (Heard g s t ∷ h) e = one-later x (Heard g s t) h refl (ended-by x h e)
ended-by x (Ordered g s n o ∷ h) e = put-ended x g s n o h _ _ refl (ended-by x h) e
ended-by x (Accepted c ∷ h) e = or-ended x (Accepted c) h _ _ refl refl (ended-by x h) e
ended-by x (Refused w ∷ h) e = one-later x (Refused w) h refl (ended-by x h e)

ended-now : (x : Association) (a : ControllerAct) (h : List ControllerAct) → is_ended_by x a h ≡ true → is_ended x (a ∷ h) ≡ true
ended-now x (Opened g s) h e = absurd (false≢true e)
ended-now x (Cut g s) h e = or_left _ _ e
ended-now x (Answered g s n a) h e = or_left _ _ e
ended-now x (Heard g s t) h e = absurd (false≢true e)
ended-now x (Ordered g s n o) h e = absurd (false≢true e)
ended-now x (Accepted c) h e = or_left _ _ e
ended-now x (Refused w) h e = absurd (false≢true e)

stays-ended : (x : Association) (recent old : List ControllerAct) → list_any (is_begun_by x) recent ≡ false → is_ended x old ≡ true
    → is_ended x (recent ++ old) ≡ true
stays-ended x [] old n e = e
stays-ended x (Opened g s ∷ recent) old n e = stays-ended x recent old n e
stays-ended x (Cut g s ∷ recent) old n e = or_right _ _ (stays-ended x recent old n e)
stays-ended x (Answered g s i a ∷ recent) old n e = or_right _ _ (stays-ended x recent old n e)
stays-ended x (Heard g s t ∷ recent) old n e = stays-ended x recent old n e
stays-ended x (Ordered g s i o ∷ recent) old n e =
    let r = or_parts (is_kind PuttingIn x.serial o) (list_any (is_begun_by x) recent) n in
    and_from (not (is_kind PuttingIn x.serial o)) (is_ended x (recent ++ old)) (not_from_false (is_kind PuttingIn x.serial o) r.0)
    (stays-ended x recent old r.1 e)
stays-ended x (Accepted c ∷ recent) old n e = or_right _ _ (stays-ended x recent old n e)
stays-ended x (Refused w ∷ recent) old n e = stays-ended x recent old n e

pub by-ended : (x : Association) (h : List ControllerAct) → WasEndedBy x h → is_ended x h ≡ true
by-ended x h r = subst (λ z. is_ended x z ≡ true) (sym r.all)
    (stays-ended x r.recent (r.act ∷ r.old) r.since (ended-now x r.act r.old r.is))

-- ## what was put last in a direction

abbrev Last : Way → List ControllerAct → Type 0
Last d h = (x : Association) × WasPutLast d x h × (newest_serial d h ≡ x.serial)

last-later : (d : Way) (a : ControllerAct) (h : List ControllerAct) → is_anew d a h ≡ false → newest_serial d (a ∷ h) ≡ newest_serial d h
    → Last d h → Last d (a ∷ h)
last-later d a h n e (x, r, s) = (
  x,
  record {
    recent = a ∷ r.recent;
    gateway = r.gateway;
    session = r.session;
    number = r.number;
    old = r.old;
    all = ap (λ z. a ∷ z) r.all;
    own = r.own;
    since = (subst (λ z. is_anew d a z ≡ false) r.all n, r.since);
  },
  e ∙ s,
)

last-put : (d : Way) (g s n : ℕ) (x : Association) (h : List ControllerAct) (b : Bool) → (d.id == x.way.id) ≡ b
    → (0 < newest_serial d h → Last d h) → 0 < (if b then x.serial else newest_serial d h) → Last d (Ordered g s n (PutIn x) ∷ h)
last-put d g s n x h true e f l = (
  x,
  record {
    recent = [];
    gateway = g;
    session = s;
    number = n;
    old = h;
    all = refl;
    own = e;
    since =
        tt;
  },
  rw e refl,
)
last-put d g s n x h false e f l = last-later d (Ordered g s n (PutIn x)) h e (rw e refl) (f l)

last-told : (d : Way) (c : PlacedCommand) (h : List ControllerAct) (b : Bool) → is_made_by c (length (directions h)) d ≡ b
    → (0 < newest_serial d h → Last d h) → 0 < (if b then 0 else newest_serial d h) → Last d (Accepted c ∷ h)
last-told d c h true e f l = absurd (omega (arith, l))
last-told d c h false e f l = last-later d (Accepted c) h e (rw e refl) (f l)

pub newest-put : (d : Way) (h : List ControllerAct) → 0 < newest_serial d h → Last d h
newest-put d [] l = absurd (omega (arith, l))
newest-put d (Opened g s ∷ h) l = last-later d (Opened g s) h refl refl (newest-put d h l)
newest-put d (Cut g s ∷ h) l = last-later d (Cut g s) h refl refl (newest-put d h l)
newest-put d (Answered g s n a ∷ h) l = last-later d (Answered g s n a) h refl refl (newest-put d h l)
newest-put d (Heard g s t ∷ h) l = last-later d (Heard g s t) h refl refl (newest-put d h l)
newest-put d (Ordered g s n (PutIn x) ∷ h) l = last-put d g s n x h (d.id == x.way.id) refl (newest-put d h) l
newest-put d (Ordered g s n Read ∷ h) l = last-later d (Ordered g s n Read) h refl refl (newest-put d h l)
newest-put d (Ordered g s n (Policy p) ∷ h) l = last-later d (Ordered g s n (Policy p)) h refl refl (newest-put d h l)
newest-put d (Ordered g s n (PutOut x) ∷ h) l = last-later d (Ordered g s n (PutOut x)) h refl refl (newest-put d h l)
newest-put d (Ordered g s n (RemoveIn m) ∷ h) l = last-later d (Ordered g s n (RemoveIn m)) h refl refl (newest-put d h l)
newest-put d (Ordered g s n (RemoveOut m) ∷ h) l = last-later d (Ordered g s n (RemoveOut m)) h refl refl (newest-put d h l)
newest-put d (Accepted c ∷ h) l = last-told d c h (is_made_by c (length (directions h)) d) refl (newest-put d h) l
newest-put d (Refused w ∷ h) l = last-later d (Refused w) h refl refl (newest-put d h l)

order-keeps : (d : Way) (o : ControllerOrder) (n : ℕ) → is_inbound_put_of d o ≡ false → last_if d o n ≡ n
order-keeps d (PutIn x) n e = rw e refl
order-keeps d Read n e = refl
order-keeps d (Policy p) n e = refl
order-keeps d (PutOut x) n e = refl
order-keeps d (RemoveIn m) n e = refl
order-keeps d (RemoveOut m) n e = refl

stays-newest : (d : Way) (recent old : List ControllerAct) → NoneAnew d recent old → newest_serial d (recent ++ old) ≡ newest_serial d old
stays-newest d [] old n = refl
stays-newest d (Opened g s ∷ recent) old n = stays-newest d recent old n.1
stays-newest d (Cut g s ∷ recent) old n = stays-newest d recent old n.1
stays-newest d (Answered g s i a ∷ recent) old n = stays-newest d recent old n.1
stays-newest d (Heard g s t ∷ recent) old n = stays-newest d recent old n.1
stays-newest d (Ordered g s i o ∷ recent) old n = order-keeps d o (newest_serial d (recent ++ old)) n.0 ∙ stays-newest d recent old n.1
stays-newest d (Accepted c ∷ recent) old n = ap (λ b. if b then 0 else newest_serial d (recent ++ old)) n.0 ∙ stays-newest d recent old n.1
stays-newest d (Refused w ∷ recent) old n = stays-newest d recent old n.1

pub put-newest : (d : Way) (x : Association) (h : List ControllerAct) → WasPutLast d x h → newest_serial d h ≡ x.serial
put-newest d x h r =
    ap (newest_serial d) r.all
    ∙ (stays-newest d r.recent (Ordered r.gateway r.session r.number (PutIn x) ∷ r.old) r.since
    ∙ ap (λ b. if b then x.serial else newest_serial d r.old) r.own)

-- ## where a direction is owed an association

pub owed-stands : (d : Way) (h : List ControllerAct) → is_owed d h ≡ true → CauseStands d h × (WasEnded d h → ⊥)
owed-stands d h e =
    let r = and_parts (is_wanted d h) (not (is_over d h)) e in
    let free = not-true (is_over d h) r.1 in
    (wanted-stands d h r.0, λ w. false≢true (sym free ∙ ended-over d h w))

pub stands-owed : (d : Way) (h : List ControllerAct) → Has d (directions h) → CauseStands d h → (WasEnded d h → ⊥) → is_owed d h ≡ true
stands-owed d h of k n =
    and_from (is_wanted d h) (not (is_over d h)) (stands-wanted d h k)
    (not_from_false (is_over d h) (false_from_ne_true (is_over d h) (λ e. n (over-ended d h of e))))
