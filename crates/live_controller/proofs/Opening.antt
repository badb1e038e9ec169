-- Which sessions the controller has open after each event, and that its orders are for those alone.
use Rattle.std.proofs.Common.{◌≡◌, ◌==◌, ◌<◌, ℕ, zero, suc, ◌+◌, Bool, true, false, not, ◌&&◌, ◌||◌, List, [], ◌∷◌, ◌++◌, length, get_or, Option, Some, None, refl, sym, ap, subst, ◌∙◌, arith, if◌then◌else◌}
use Rattle.std.specs.Prelude.{All, slice_get}
use Rattle.std.proofs.lemmas.List.Elements.{All-cons, All-nil}
use Rattle.ikeless_tree.specs.declared.command.Peer.{Peer}
use Rattle.ikeless_tree.specs.declared.command.Refusal.{Refusal}
use Rattle.ikeless_tree.specs.declared.order.Answer.{Answer}
use Rattle.hist_acts.specs.Past.{after}
use Rattle.hist_controller.specs.Acts.{ControllerOrder, PlacedCommand, ControllerAct, Opened, Cut, Answered, Heard, Ordered, Accepted, Refused, ControllerEvent, Told, Opens, Cuts, Answers, Notices}
use Rattle.hist_controller.specs.Clauses.{ControllerMayActAll}
use Rattle.hist_controller.specs.Law.{asked, asked_then, block, by_answer, by_refusal, going, placed_command, refusal}
use Rattle.hist_controller.specs.Past.{answered, is_first_answered, is_open, openings, queue}
use Rattle.hist_controller.specs.Told.{order_told}
use Rattle.hist_controller.proofs.Clauses.{may-block}
use Rattle.hist_safety.proofs.Basics.{no}
use Rattle.hist_world.proofs.Controls.{are_orders, then-orders}
use Rattle.ctl_core.specs.declared.acts.CtlAct.{CtlAct}
use Rattle.ctl_core.specs.declared.acts.CtlAct.TheVariants as done
use Rattle.ctl_core.specs.declared.acts.CtlEvent.{CtlEvent}
use Rattle.ctl_core.specs.declared.acts.CtlEvent.TheVariants as events
use Rattle.ctl_core.specs.declared.peer.Station.{Station}
use Rattle.ctl_core.specs.Core as core
use Rattle.ctl_core.specs.Core.{Core, is_open_at, open_or_not}
use Rattle.ctl_core.specs.Step.{stepped}
use Rattle.ctl_law.specs.Stands.{StandsFor, numbered, session_of, station_of}
use Rattle.ctl_law.specs.Told.{all_done, done_at, event_of}
use Rattle.live_controller.specs.Past.{open_by}
use Rattle.live_controller.specs.Doings.{IsForOpen, OpensBy}
use Rattle.live_controller.specs.Standing.{CanBeTold, IsGiven, IsStanding}
use Rattle.live_controller.proofs.Keeping.{same_number}
use Rattle.live_controller.proofs.Ordering.{Faultless}
use Rattle.live_controller.proofs.Standing.{Follows, may-be-told, step-given}

-- ---- what a core that stands for a past has open

session-open : (b r : Bool) → core.is_open (session_of b r) ≡ b
session-open false r = refl
session-open true false = refl
session-open true true = refl

numbered-open : (ps : List Peer) (h : List ControllerAct) (a : ℕ) (qs : List Peer) (g : ℕ) → g < length qs
    → open_or_not (slice_get (numbered (station_of ps h) a qs) g) ≡ is_open (a + g) h
numbered-open ps h a [] g lt = absurd (let none : ⊥ = omega (arith, lt) in none)
numbered-open ps h a (q ∷ qs) zero lt =
    let e : a + 0 ≡ a = omega arith in
    session-open (is_open a h) (is_first_answered a h) ∙ ap (λ n. is_open n h) (sym e)
numbered-open ps h a (q ∷ qs) (suc g) lt =
    let e : a + 1 + g ≡ a + suc g = omega arith in
    let less : g < length qs = omega (arith, lt) in
    numbered-open ps h (a + 1) qs g less ∙ ap (λ n. is_open n h) e

pub stands-open : (ps : List Peer) (h : List ControllerAct) (c : Core) → StandsFor ps h c → (g : ℕ) → g < length ps → is_open_at c.stations
    g ≡ is_open g h
stands-open ps h c s g lt =
    ap (λ (xs : List Station). open_or_not (slice_get xs g)) s.gateways ∙ numbered-open ps h 0 ps g lt
    ∙ ap (λ n. is_open n h) (let e : 0 + g ≡ g = omega arith in e)

-- ---- after a block

orders-open : (g : ℕ) (h xs : List ControllerAct) → are_orders xs ≡ true → is_open g (after h xs) ≡ is_open g h
orders-open g h [] e = refl
orders-open g h (Ordered f k n o ∷ xs) e = orders-open g (Ordered f k n o ∷ h) xs e
orders-open g h (Opened f k ∷ xs) e = absurd (no e)
orders-open g h (Cut f k ∷ xs) e = absurd (no e)
orders-open g h (Answered f k n a ∷ xs) e = absurd (no e)
orders-open g h (Heard f k t ∷ xs) e = absurd (no e)
orders-open g h (Accepted c ∷ xs) e = absurd (no e)
orders-open g h (Refused w ∷ xs) e = absurd (no e)

going-open : (g : ℕ) (h : List ControllerAct) (a : ControllerAct) → is_open g (after h (going h a)) ≡ is_open g (a ∷ h)
going-open g h a = orders-open g (a ∷ h) (asked_then (a ∷ h) (asked (a ∷ h) a)) (then-orders h a)

-- what an event of the law leaves open
abbrev open_of : ℕ → ControllerEvent → Bool → Bool
open_of g (Told c) was = was
open_of g (Opens k) was = (g == k) || was
open_of g (Cuts k) was = not (g == k) && was
open_of g (Answers k a) was = was
open_of g (Notices k t) was = was

opened-still : (g k : ℕ) (h : List ControllerAct) (b : Bool) → (g == k) ≡ b → is_open k h ≡ true → is_open g h ≡ (b || is_open g h)
opened-still g k h true e o = ap (λ n. is_open n h) (same_number g k e) ∙ o
opened-still g k h false e o = refl

cut-still : (g k : ℕ) (h : List ControllerAct) (b : Bool) → (g == k) ≡ b → is_open k h ≡ false → is_open g h ≡ (not b && is_open g h)
cut-still g k h true e o = ap (λ n. is_open n h) (same_number g k e) ∙ o
cut-still g k h false e o = refl

opens-open : (g k : ℕ) (h : List ControllerAct) (a : ControllerAct) (b : Bool) → is_open k h ≡ b → is_open g (a ∷ h) ≡
    ((g == k) || is_open g h)
    → is_open g (after h (if b then [] else going h a)) ≡ ((g == k) || is_open g h)
opens-open g k h a true o e = opened-still g k h (g == k) refl o
opens-open g k h a false o e = going-open g h a ∙ e

cuts-open : (g k : ℕ) (h : List ControllerAct) (a : ControllerAct) (b : Bool) → is_open k h ≡ b → is_open g (a ∷ h) ≡
    (not (g == k) && is_open g h)
    → is_open g (after h (if b then going h a else [])) ≡ (not (g == k) && is_open g h)
cuts-open g k h a true o e = going-open g h a ∙ e
cuts-open g k h a false o e = cut-still g k h (g == k) refl o

hears-open : (g : ℕ) (h : List ControllerAct) (a : ControllerAct) (b : Bool) → is_open g (a ∷ h) ≡ is_open g h
    → is_open g (after h (if b then going h a else [])) ≡ is_open g h
hears-open g h a true e = going-open g h a ∙ e
hears-open g h a false e = refl

refusal-open : (g : ℕ) (h : List ControllerAct) (c : PlacedCommand) (r : Option Refusal) → is_open g (after h (by_refusal h c r)) ≡ is_open
    g h
refusal-open g h c None = going-open g h (Accepted c)
refusal-open g h c (Some w) = refl

answer-open : (g k : ℕ) (h : List ControllerAct) (a : Answer) (q : List ControllerOrder) → is_open g (after h (by_answer h k a q)) ≡ is_open
    g h
answer-open g k h a [] = refl
answer-open g k h a (o ∷ os) = going-open g h (Answered k (openings k h) (answered k h + 1) a)

block-open : (ps : List Peer) (h : List ControllerAct) (e : ControllerEvent) (g : ℕ) → is_open g (after h (block ps h e)) ≡ open_of g e
    (is_open g h)
block-open ps h (Told c) g = refusal-open g h (placed_command ps c) (refusal (length ps) h (placed_command ps c))
block-open ps h (Opens k) g = opens-open g k h (Opened k (openings k h + 1)) (is_open k h) refl refl
block-open ps h (Cuts k) g = cuts-open g k h (Cut k (openings k h)) (is_open k h) refl refl
block-open ps h (Answers k a) g = answer-open g k h a (queue k h)
block-open ps h (Notices k t) g = hears-open g h (Heard k (openings k h) t) (is_open k h) refl

event-open : (g : ℕ) (e : CtlEvent) (was : Bool) → open_of g (event_of e) was ≡ open_by g (Some e) was
event-open g (events.Command c) was = refl
event-open g (events.Opened k) was = refl
event-open g (events.Cut k) was = refl
event-open g (events.Answered k a) was = refl
event-open g (events.Noticed k n) was = refl

pub step-opens : Follows → (ps : List Peer) (c : Core) (e : CtlEvent) → IsStanding ps c → CanBeTold ps c e → OpensBy (length ps) e c
    (stepped c e).core
step-opens laws ps c e s can = λ g lt.
    let h = s.past in
    let next = laws.stands ps h c e s.lawful s.plain s.stands (may-be-told ps c e s can) in
    stands-open ps (after h (block ps h (event_of e))) (stepped c e).core next g lt ∙ block-open ps h (event_of e) g
    ∙ ap (open_of g (event_of e)) (sym (stands-open ps h c s.stands g lt)) ∙ event-open g e (is_open_at c.stations g)

-- ---- orders

-- it is for a peer whose session is open after this past
abbrev IsOpenIn : List ControllerAct → CtlAct → Type 0
IsOpenIn h (done.Order g o) = is_open g h ≡ true
IsOpenIn h (done.Refused w) = Unit {0}

orders-ready : (ps : List Peer) (h xs : List ControllerAct) → ControllerMayActAll (length ps) h xs → are_orders xs ≡ true
    → All (IsOpenIn (after h xs)) (all_done ps xs)
orders-ready ps h [] may e = All-nil (IsOpenIn h)
orders-ready ps h (Ordered g s n o ∷ xs) may e =
    let last : List ControllerAct = after (Ordered g s n o ∷ h) xs in
    All-cons (IsOpenIn last) (done.Order g (order_told ps o)) (all_done ps xs) (orders-open g (Ordered g s n o ∷ h) xs e ∙ may.0.2)
    (orders-ready ps (Ordered g s n o ∷ h) xs may.1 e)
orders-ready ps h (Opened f k ∷ xs) may e = absurd (no e)
orders-ready ps h (Cut f k ∷ xs) may e = absurd (no e)
orders-ready ps h (Answered f k n a ∷ xs) may e = absurd (no e)
orders-ready ps h (Heard f k t ∷ xs) may e = absurd (no e)
orders-ready ps h (Accepted c ∷ xs) may e = absurd (no e)
orders-ready ps h (Refused w ∷ xs) may e = absurd (no e)

-- the acts of a block are for those whose session is open after it
abbrev Ready : List Peer → List ControllerAct → List ControllerAct → Type 0
Ready ps h xs = All (IsOpenIn (after h xs)) (all_done ps xs)

going-ready : (ps : List Peer) (h : List ControllerAct) (a : ControllerAct) → done_at ps a ≡ [] → ControllerMayActAll (length ps) h
    (going h a)
    → Ready ps h (going h a)
going-ready ps h a none may =
    let rest : List ControllerAct = asked_then (a ∷ h) (asked (a ∷ h) a) in
    subst (λ z. All (IsOpenIn (after (a ∷ h) rest)) (z ++ all_done ps rest)) (sym none)
    (orders-ready ps (a ∷ h) rest may.1 (then-orders h a))

refusal-ready : (ps : List Peer) (h : List ControllerAct) (c : PlacedCommand) (r : Option Refusal)
    → ControllerMayActAll (length ps) h (by_refusal h c r) → Ready ps h (by_refusal h c r)
refusal-ready ps h c None may = going-ready ps h (Accepted c) refl may
refusal-ready ps h c (Some w) may = All-cons (IsOpenIn (Refused w ∷ h)) (done.Refused w) [] tt (All-nil (IsOpenIn (Refused w ∷ h)))

answer-ready : (ps : List Peer) (h : List ControllerAct) (g : ℕ) (a : Answer) (q : List ControllerOrder)
    → ControllerMayActAll (length ps) h (by_answer h g a q) → Ready ps h (by_answer h g a q)
answer-ready ps h g a [] may = All-nil (IsOpenIn h)
answer-ready ps h g a (o ∷ os) may = going-ready ps h (Answered g (openings g h) (answered g h + 1) a) refl may

else-ready : (ps : List Peer) (h : List ControllerAct) (a : ControllerAct) (b : Bool) → done_at ps a ≡ []
    → ControllerMayActAll (length ps) h (if b then [] else going h a) → Ready ps h (if b then [] else going h a)
else-ready ps h a true none may = All-nil (IsOpenIn h)
else-ready ps h a false none may = going-ready ps h a none may

then-ready : (ps : List Peer) (h : List ControllerAct) (a : ControllerAct) (b : Bool) → done_at ps a ≡ []
    → ControllerMayActAll (length ps) h (if b then going h a else []) → Ready ps h (if b then going h a else [])
then-ready ps h a true none may = going-ready ps h a none may
then-ready ps h a false none may = All-nil (IsOpenIn h)

block-ready : (ps : List Peer) (h : List ControllerAct) (e : ControllerEvent) → Ready ps h (block ps h e)
block-ready ps h (Told c) = refusal-ready ps h (placed_command ps c) (refusal (length ps) h (placed_command ps c)) (may-block ps h (Told c))
block-ready ps h (Opens g) = else-ready ps h (Opened g (openings g h + 1)) (is_open g h) refl (may-block ps h (Opens g))
block-ready ps h (Cuts g) = then-ready ps h (Cut g (openings g h)) (is_open g h) refl (may-block ps h (Cuts g))
block-ready ps h (Answers g a) = answer-ready ps h g a (queue g h) (may-block ps h (Answers g a))
block-ready ps h (Notices g t) = then-ready ps h (Heard g (openings g h) t) (is_open g h) refl (may-block ps h (Notices g t))

one-ready : (ps : List Peer) (h : List ControllerAct) (c : Core) → StandsFor ps h c → (act : CtlAct) → IsGiven ps act → IsOpenIn h act →
    IsForOpen c act
one-ready ps h c s (done.Order g o) given is = stands-open ps h c s g given.0 ∙ is
one-ready ps h c s (done.Refused w) given is = tt

pub step-ready : Follows → Faultless → (ps : List Peer) (c : Core) (e : CtlEvent) → IsStanding ps c → CanBeTold ps c e
    → All (IsForOpen (stepped c e).core) (stepped c e).acts
step-ready laws faultless ps c e s can =
    let h = s.past in
    let may = may-be-told ps c e s can in
    let given = step-given laws faultless ps c e s can in
    let next = laws.stands ps h c e s.lawful s.plain s.stands may in
    let ready : All (IsOpenIn (after h (block ps h (event_of e)))) (stepped c e).acts =
    subst (λ z. All (IsOpenIn (after h (block ps h (event_of e)))) z) (sym (laws.acts ps h c e s.lawful s.plain s.stands may))
    (block-ready ps h (event_of e)) in
    λ k d lt. one-ready ps (after h (block ps h (event_of e))) (stepped c e).core next (get_or (stepped c e).acts k d) (given k d lt)
    (ready k d lt)
