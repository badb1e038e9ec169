-- The acts of the controller stand where they may in its sessions.
use Rattle.std.proofs.Common.{◌≡◌, ℕ, ◌+◌, ◌<◌, Bool, true, false, List, [], ◌∷◌, ◌++◌, length, Option, Some, None, refl, sym, ◌∙◌, if◌then◌else◌}
use Rattle.ikeless_tree.specs.declared.command.Peer.{Peer}
use Rattle.ikeless_tree.specs.declared.command.Refusal.{Refusal}
use Rattle.ikeless_tree.specs.declared.order.Answer.{Answer}
use Rattle.hist_acts.specs.declared.act.Act.{Act}
use Rattle.hist_acts.specs.declared.act.Act.TheVariants as acts
use Rattle.hist_acts.specs.Past.{after}
use Rattle.hist_acts.specs.Sessions as sessions
use Rattle.hist_controller.specs.Acts.{ControllerOrder, PlacedCommand, ControllerAct, Opened, Cut, Answered, Heard, Ordered, Accepted, Refused, ControllerEvent, Told, Opens, Cuts, Answers, Notices}
use Rattle.hist_controller.specs.Past.{answered, is_open, openings, queue}
use Rattle.hist_controller.specs.Law.{asked, asked_then, block, by_answer, by_refusal, going, placed_command, refusal}
use Rattle.hist_controller.specs.Told.{Named, all_told, peer_name, told}
use Rattle.hist_safety.proofs.Basics.{no}
use Rattle.hist_world.specs.Stands.{Meet}
use Rattle.hist_world.proofs.Controls.{are_orders, open-meet, openings-meet, then-orders}

-- What the law of the whole doesn't ask of acts of sessions: a session is opened where none is open, a notice is of the session
-- that its gateway has, and what is heard is the next notice of the open session.
abbrev pub Besides : Act → List Act → Type 0
Besides (acts.Opened g s) h = sessions.is_open g h ≡ false
Besides (acts.Notice g s n) h = s ≡ sessions.session_taken g h
Besides (acts.Heard g s n) h = (s ≡ sessions.openings g h) × (sessions.next_notice g h ≡ Some n)
Besides _ h = Unit {0}

-- so it is of acts in their order after a past
abbrev pub AllBesides : List Act → List Act → Type 0
AllBesides h [] = Unit {0}
AllBesides h (a ∷ more) = Besides a h × AllBesides (a ∷ h) more

orders-besides : (ps : List Peer) (h : List Act) (xs : List ControllerAct) → are_orders xs ≡ true → AllBesides h (all_told ps xs)
orders-besides ps h [] p = tt
orders-besides ps h (Ordered g s n o ∷ xs) p = (tt, orders-besides ps (after h (told ps (Ordered g s n o))) xs p)
orders-besides ps h (Opened g s ∷ xs) p = absurd (no p)
orders-besides ps h (Cut g s ∷ xs) p = absurd (no p)
orders-besides ps h (Answered g s n a ∷ xs) p = absurd (no p)
orders-besides ps h (Heard g s t ∷ xs) p = absurd (no p)
orders-besides ps h (Accepted x ∷ xs) p = absurd (no p)
orders-besides ps h (Refused x ∷ xs) p = absurd (no p)

-- its own act, and orders
going-besides : (ps : List Peer) (h : List Act) (c : List ControllerAct) (a : ControllerAct) → AllBesides h (told ps a)
    → AllBesides h (all_told ps (going c a))
going-besides ps h c a m = after-own ps h (told ps a) (asked_then (a ∷ c) (asked (a ∷ c) a)) m (then-orders c a) where
  after-own : (ps : List Peer) (h own : List Act) (xs : List ControllerAct) → AllBesides h own → are_orders xs ≡ true
      → AllBesides h (own ++ all_told ps xs)
  after-own ps h [] xs m p = orders-besides ps h xs p
  after-own ps h (a ∷ own) xs m p = (m.0, after-own ps (a ∷ h) own xs m.1 p)

if-besides : (ps : List Peer) (h : List Act) (b : Bool) (xs ys : List ControllerAct) → (b ≡ true → AllBesides h (all_told ps xs))
    → (b ≡ false → AllBesides h (all_told ps ys))
    → AllBesides h (all_told ps (if b then xs else ys))
if-besides ps h true xs ys p q = p refl
if-besides ps h false xs ys p q = q refl

refusal-besides : (ps : List Peer) (h : List Act) (c : List ControllerAct) (x : PlacedCommand) (r : Option Refusal)
    → AllBesides h (all_told ps (by_refusal c x r))
refusal-besides ps h c x None = going-besides ps h c (Accepted x) tt
refusal-besides ps h c x (Some r) = (tt, tt)

answer-besides : (ps : List Peer) (h : List Act) (c : List ControllerAct) (g : ℕ) (a : Answer) (os : List ControllerOrder)
    → AllBesides h (all_told ps (by_answer c g a os))
answer-besides ps h c g a [] = tt
answer-besides ps h c g a (o ∷ os) = going-besides ps h c (Answered g (openings g c) (answered g c + 1) a) (tt, tt)

-- what comes to the controller from a gateway comes from one that it knows, and a notice is the next one
abbrev pub Comes : List Peer → List Act → ControllerEvent → Type 0
Comes ps h (Opens g) = g < length ps
Comes ps h (Notices g t) = (g < length ps) × (sessions.next_notice (peer_name ps g) h ≡ Some t)
Comes ps h _ = Unit {0}

pub block-besides : (ps : List Peer) (h : List Act) (c : List ControllerAct) (e : ControllerEvent) → Named ps → Meet ps h c → Comes ps h e
    → AllBesides h (all_told ps (block ps c e))
block-besides ps h c (Told x) names m i = refusal-besides ps h c (placed_command ps x) (refusal (length ps) c (placed_command ps x))
block-besides ps h c (Opens g) names m i =
    let own : ControllerAct = Opened g (openings g c + 1) in
    if-besides ps h (is_open g c) [] (going c own) (λ e. tt) (λ e. going-besides ps h c own (open-meet ps h c g names m i ∙ e, tt))
block-besides ps h c (Cuts g) names m i = if-besides ps h (is_open g c) (going c (Cut g (openings g c))) []
    (λ e. going-besides ps h c (Cut g (openings g c)) (tt, tt)) (λ e. tt)
block-besides ps h c (Answers g a) names m i = answer-besides ps h c g a (queue g c)
block-besides ps h c (Notices g t) names m i =
    let own : ControllerAct = Heard g (openings g c) t in
    if-besides ps h (is_open g c) (going c own) [] (λ e. going-besides ps h c own ((sym (openings-meet ps h c g names m i.0), i.1), tt))
    (λ e. tt)
