-- A half is put once.
use Rattle.std.proofs.Common.{◌≡◌, ℕ, ◌+◌, ◌≤◌, Bool, true, false, ◌&&◌, ◌||◌, List, [], ◌∷◌, Some, ◌⊎◌, inl, inr, refl, sym, ◌∙◌, ap, subst, arith, if◌then◌else◌}
use Rattle.std.proofs.lemmas.Bool.{false_from_ne_true}
use Rattle.std.specs.Str.{bytes_eq}
use Rattle.ikeless_tree.specs.declared.sad.SadEntry.{SadEntry}
use Rattle.ikeless_tree.specs.declared.command.Peer.{Peer}
use Rattle.ikeless_tree.specs.declared.order.Order.{Order}
use Rattle.ikeless_tree.specs.declared.order.Order.TheVariants as asks
use Rattle.ikeless_tree.specs.declared.order.Answer.{Answer}
use Rattle.ikeless_tree.specs.declared.drops.DropWhy.{DropWhy}
use Rattle.ikeless_tree.specs.declared.ends.GoneWhy.TheVariants as gone
use Rattle.hist_acts.specs.declared.act.Act.{Act}
use Rattle.hist_acts.specs.declared.act.Act.TheVariants as acts
use Rattle.hist_acts.specs.Sessions.{handled, is_session, next_request, session_taken}
use Rattle.hist_halves.specs.Halves.{was_put}
use Rattle.hist_safety.specs.Clear.{ClearIsLet}
use Rattle.hist_safety.specs.Orders.{place_of, session_of, site}
use Rattle.hist_safety.specs.Law.{IsAnswer, IsLawful, DropMayHappen, GiveMayHappen, MayHappen, PassMayHappen, SendMayHappen, is_ready}
use Rattle.hist_safety.specs.Kept.{IsBehind, IsPutAt}
use Rattle.hist_safety.proofs.Basics.{no, name-is, more, session-self}
use Rattle.hist_safety.proofs.Sessions.{next-at, next-is}
use Rattle.hist_safety.proofs.Orders.{other, place, was}

-- the newest act is the Put of this half
abbrev pub is_mid : List ℕ → List Act → Bool
is_mid x (acts.Put f e ∷ h) = bytes_eq e.name x
is_mid x _ = false

abbrev is_handled : Act → Bool
is_handled (acts.Handled g s k a) = true
is_handled _ = false

ready-mid : (x : List ℕ) (h : List Act) → is_ready h ≡ true → is_mid x h ≡ true → ⊥
ready-mid x (acts.Put f e ∷ h) r m = no r
ready-mid x [] r m = no m
ready-mid x (a ∷ h) r m = no m

send-mid : (g y o : List ℕ) (n : ℕ) (x : List ℕ) (h : List Act) → SendMayHappen g y n o h → is_mid x h ≡ true → ⊥
send-mid g y o n x (acts.Let f p ∷ h) s m = no m
send-mid g y o n x [] s m = no m
send-mid g y o n x (a ∷ h) s m = s

give-mid : (gs : List Peer) (g y p : List ℕ) (n : ℕ) (x : List ℕ) (h : List Act) → GiveMayHappen gs g y n p h → is_mid x h ≡ true → ⊥
give-mid gs g y p n x (acts.Arrived f o ∷ h) s m = no m
give-mid gs g y p n x [] s m = no m
give-mid gs g y p n x (a ∷ h) s m = s

pass-mid : (gs : List Peer) (g x : List ℕ) (h : List Act) → PassMayHappen gs g h → is_mid x h ≡ true → ⊥
pass-mid gs g x (acts.Arrived f o ∷ h) s m = no m
pass-mid gs g x [] s m = no m
pass-mid gs g x (a ∷ h) s m = s

drop-mid : (gs : List Peer) (g : List ℕ) (why : DropWhy) (x : List ℕ) (h : List Act) → DropMayHappen gs g why h → is_mid x h ≡ true → ⊥
drop-mid gs g why x (acts.Let f o ∷ h) s m = no m
drop-mid gs g why x (acts.Arrived f o ∷ h) s m = no m
drop-mid gs g why x [] s m = no m
drop-mid gs g why x (a ∷ h) s m = s

clear-mid : (g o x : List ℕ) (h : List Act) → ClearIsLet h g o → is_mid x h ≡ true → ⊥
clear-mid g o x h c m = let p : is_mid x (acts.Let g o ∷ c.older) ≡ true = subst (λ z. is_mid x z ≡ true) c.let_before m in no p

-- directly after a Put its order is handled
only-handled : (gs : List Peer) (x : List ℕ) (a : Act) (h : List Act) → MayHappen gs a h → is_mid x h ≡ true → is_handled a ≡ true
only-handled gs x (acts.Handled g s k r) h m e = refl
only-handled gs x (acts.Opened g s) h m e = absurd (ready-mid x h m.0 e)
only-handled gs x (acts.Cut g s) h m e = absurd (ready-mid x h m.0 e)
only-handled gs x (acts.Order g s k a) h m e = absurd (ready-mid x h m.0 e)
only-handled gs x (acts.Answered g s k r) h m e = absurd (ready-mid x h m.0 e)
only-handled gs x (acts.Policy g l) h m e = absurd (ready-mid x h m.0 e)
only-handled gs x (acts.Put g d) h m e = absurd (ready-mid x h m.0 e)
only-handled gs x (acts.Gone g y gone.Removed) h m e = absurd (ready-mid x h m.0 e)
only-handled gs x (acts.Gone g y gone.Hard) h m e = absurd (ready-mid x h m e)
only-handled gs x (acts.Clear g o) h m e = absurd (clear-mid g o x h m e)
only-handled gs x (acts.Sent g y n o) h m e = absurd (send-mid g y o n x h m e)
only-handled gs x (acts.Gave g y n p) h m e = absurd (give-mid gs g y p n x h m e)
only-handled gs x (acts.Pass g o) h m e = absurd (pass-mid gs g x h m e)
only-handled gs x (acts.Drop g why) h m e = absurd (drop-mid gs g why x h m e)
only-handled gs x (acts.Took k) h m e = absurd (ready-mid x h m e)
only-handled gs x (acts.Now t) h m e = absurd (ready-mid x h m e)
only-handled gs x (acts.Boot g) h m e = absurd (ready-mid x h m e)
only-handled gs x (acts.Let g o) h m e = absurd (ready-mid x h m e)
only-handled gs x (acts.Arrived g o) h m e = absurd (ready-mid x h m e)
only-handled gs x (acts.Notice g s n) h m e = absurd (ready-mid x h m e)
only-handled gs x (acts.Heard g s n) h m e = absurd (ready-mid x h m e)
only-handled gs x (acts.Wire g lane o) h m e = absurd (ready-mid x h m e)
only-handled gs x (acts.Refused why) h m e = absurd (ready-mid x h m e)

answer-mid : (g x : List ℕ) (o : Order) (a : Answer) (h : List Act) → IsAnswer g o a h → is_mid x h ≡ true → (e : SadEntry) × (e.name ≡ x)
    × (o ≡ asks.Put e)
answer-mid g x (asks.Put e) a (acts.Put f d ∷ h) p m = (e, ap (λ (z : SadEntry). z.name) (sym p.1) ∙ name-is d.name x m, refl)
answer-mid g x asks.Read a (acts.Put f d ∷ h) p m = absurd (no p.0)
answer-mid g x (asks.Policy list) a (acts.Put f d ∷ h) p m = absurd (no p.0)
answer-mid g x (asks.Remove y) a (acts.Put f d ∷ h) p m = absurd (no p.0)
answer-mid g x o a [] p m = absurd (no m)
answer-mid g x o a (b ∷ h) p m = absurd (no m)

once-now : (f x : List ℕ) (t j : ℕ) (h : List Act) → (site x h ≡ f) → (session_of x h ≡ t) → (place_of x h ≡ j) → j ≡ handled f t h + 1 →
    place_of x h ≤ (if is_session f t (site x h) (session_of x h) then handled (site x h) (session_of x h) h + 1
    else handled (site x h) (session_of x h) h)
once-now f x t j h a b c q =
    let r : is_session f t (site x h) (session_of x h) ≡ true = rw (a, b) (session-self f t) in
    rw r (rw (a, b, c) (omega (arith, q)))

once-handled : (f x : List ℕ) (t j : ℕ) (h : List Act) → (is_mid x h ≡ true → (site x h ≡ f) × (session_of x h ≡ t) × (place_of x h ≡ j))
    → j ≡ handled f t h + 1 → (is_mid x h ≡ true) ⊎ IsBehind x h →
    place_of x h ≤ (if is_session f t (site x h) (session_of x h) then handled (site x h) (session_of x h) h + 1
    else handled (site x h) (session_of x h) h)
once-handled f x t j h pl q (inl m) = let p = pl m in once-now f x t j h p.0 p.1 p.2 q
once-handled f x t j h pl q (inr n) = more (is_session f t (site x h) (session_of x h)) (place_of x h)
    (handled (site x h) (session_of x h) h) n

pub settled : {A : Type 0} (x : List ℕ) (h : List Act) → is_ready h ≡ true → (is_mid x h ≡ true) ⊎ A → A
settled x h r (inl m) = absurd (ready-mid x h r m)
settled x h r (inr a) = a

not-mid : {A : Type 0} (x : List ℕ) (h : List Act) → (is_mid x h ≡ true → ⊥) → (is_mid x h ≡ true) ⊎ A → (false ≡ true) ⊎ A
not-mid x h f (inl m) = absurd (f m)
not-mid x h f (inr a) = inr a

once-put : {A : Type 0} (b s c : Bool) → (c ≡ true → A) → ((b && s) || c) ≡ true → (s ≡ true) ⊎ A
once-put b true c f e = inl refl
once-put true false c f e = inr (f e)
once-put false false c f e = inr (f e)

behind-older : (x f : List ℕ) (t j : ℕ) (d : SadEntry) (h : List Act) → bytes_eq d.name x ≡ false → IsBehind x h
    → IsBehind x (acts.Order f t j (asks.Put d) ∷ h)
behind-older x f t j d h q n =
    let m : (if bytes_eq d.name x then j else place_of x h) ≤ handled (if bytes_eq d.name x then f else site x h)
    (if bytes_eq d.name x then t else session_of x h) h = rw q n in
    m

placed-at : (f x : List ℕ) (t j : ℕ) (e : SadEntry) (h : List Act) → IsPutAt f t j e h → e.name ≡ x → (site x h ≡ f) × (session_of x h ≡ t)
    × (place_of x h ≡ j)
placed-at f x t j e h p q = subst (λ z. (site z h ≡ f) × (session_of z h ≡ t) × (place_of z h ≡ j)) q (p.1, p.2, p.3)

-- once a half was put, the order of its put is handled
pub once : (gs : List Peer) (g x : List ℕ) (h : List Act) → IsLawful gs h → was_put g x h ≡ true → (is_mid x h ≡ true) ⊎ IsBehind x h
once gs g x [] l e = absurd (no e)
once gs g x (acts.Put f d ∷ h) l e = once-put (bytes_eq f g) (bytes_eq d.name x) (was_put g x h)
    (λ q. settled x h l.0.0 (once gs g x h l.1 q)) e
once gs g x (acts.Handled f t j r ∷ h) l e =
    let o = l.0.2.0 in
    inr (once-handled f x t j h
    (λ m.
    let p = answer-mid f x o r h l.0.2.2 m in
    let q = place gs f t j p.0 h l.1 (next-at f t j o h l.0.0 l.0.1 l.0.2.1 ∙ ap Some p.2) in
    placed-at f x t j p.0 h q p.1)
    l.0.1 (once gs g x h l.1 e))
once gs g x (acts.Order f t j (asks.Put d) ∷ h) l e =
    let q = other gs x f d h l.1 l.0.4 (was gs g x h l.1 e).0 in
    inr (behind-older x f t j d h q (settled x h l.0.0 (once gs g x h l.1 e)))
once gs g x (a ∷ h) l e = not-mid x h (λ m. no (only-handled gs x a h l.0 m)) (once gs g x h l.1 e)

pub too-far : (f x : List ℕ) (t : ℕ) (h : List Act) → (site x h ≡ f) → (session_of x h ≡ t) → (place_of x h ≡ handled f t h + 1)
    → IsBehind x h → ⊥
too-far f x t h a b c n = let q : handled f t h + 1 ≤ handled f t h = rw (sym c) (let m : place_of x h ≤ handled f t h =
    rw (sym a, sym b) n in m) in omega (arith, q)

-- no half is put twice
pub put-once : (gs : List Peer) (g f : List ℕ) (e : SadEntry) (h : List Act) → IsLawful gs h → is_ready h ≡ true
    → next_request f h ≡ Some (asks.Put e) → was_put g e.name h ≡ false
put-once gs g f e h l r n =
    false_from_ne_true (was_put g e.name h) (λ q.
    let p = place gs f (session_taken f h) (handled f (session_taken f h) h + 1) e h l (next-is f (asks.Put e) h n) in
    too-far f e.name (session_taken f h) h p.1 p.2 p.3 (settled e.name h r (once gs g e.name h l q)))
