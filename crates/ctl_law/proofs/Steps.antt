-- Every step follows the law, and so does every run.
use Rattle.std.proofs.Common.{◌≡◌, ℕ, ◌+◌, ◌<◌, ◌≤◌, Bool, true, false, List, [], ◌∷◌, ◌++◌, Option, Some, None, length, map, drop, refl, sym, subst, ap, ◌∙◌, arith, if◌then◌else◌, append_assoc}
use Rattle.std.specs.List.{list_any}
use Rattle.std.specs.Option.{option_map}
use Rattle.ikeless_tree.specs.declared.command.Peer.{Peer}
use Rattle.ikeless_tree.specs.declared.command.Refusal.{Refusal}
use Rattle.ikeless_tree.specs.declared.entry.SpdEntry.{SpdEntry}
use Rattle.ikeless_tree.specs.declared.order.Answer.{Answer}
use Rattle.ikeless_tree.specs.declared.order.Notice.{Notice}
use Rattle.ikeless_tree.specs.declared.order.Notice.TheVariants as notices
use Rattle.hist_acts.specs.Past.{after}
use Rattle.hist_controller.specs.Acts.{ControllerOrder, Read, Policy, PlacedCommand, SetPolicy, Tunnel, End, Rekey, Keys, ControllerAct, Opened, Cut, Answered, Heard, Ordered, Accepted, Refused, ControllerEvent}
use Rattle.hist_controller.specs.Past.{is_open, openings, answered, oldest, queue, newest_list, directions, spare, serials, keys}
use Rattle.hist_controller.specs.Law.{order, is_reading, with_list, by_command, by_notice, asked, asked_then, going, placed_command, refusal, by_refusal, by_answer, block, history, event_refusal, one_or_none, refusals_in}
use Rattle.hist_controller.specs.Clauses.{IsControllerPast}
use Rattle.hist_controller.specs.Halves.{is_plain, PlainAnswers}
use Rattle.hist_controller.specs.Told.{order_told}
use Rattle.hist_controller.proofs.Accepts.{few-keys, few-serials}
use Rattle.hist_controller.proofs.Clauses.{may-block, past-after, after-append}
use Rattle.hist_controller.proofs.KeysInTurn.{spare-keys}
use Rattle.hist_controller.proofs.Reasons.{refuses}
use Rattle.ctl_core.specs.declared.acts.CtlEvent.{CtlEvent}
use Rattle.ctl_core.specs.declared.acts.CtlEvent.TheVariants as events
use Rattle.ctl_core.specs.Core as core
use Rattle.ctl_core.specs.Core.{Core, told_nothing, expected}
use Rattle.ctl_core.specs.Step.{stepped}
use Rattle.ctl_law.specs.Stands.{waiting_of, station_of, numbered, no_more, StandsFor}
use Rattle.ctl_law.specs.Told.{event_of, events_of, done_at, all_done, may_answer, MayBeTold, MayAllBeTold, run, run_core, refusals_of}
use Rattle.ctl_law.proofs.AnswersFollow.{answered-follows, plain-status}
use Rattle.ctl_law.proofs.Follows.{Follows}
use Rattle.ctl_law.proofs.Lines.{Orders, orders-more, orders-pass}
use Rattle.ctl_law.proofs.Looks.{count-of, oldest-at}
use Rattle.ctl_law.proofs.Notices.{noticed}
use Rattle.ctl_law.proofs.SessionsFollow.{opened, cut}
use Rattle.ctl_law.proofs.TunnelsFollow.{commanded}

-- ## the beginning

first-stations : (ps : List Peer) (i : ℕ) (qs : List Peer) → map core.station_of qs ≡ numbered (station_of ps []) i qs
first-stations ps i [] = refl
first-stations ps i (q ∷ qs) = ap (λ xs. core.station_of q ∷ xs) (first-stations ps (i + 1) qs)

pub begins : (ps : List Peer) → StandsFor ps [] (told_nothing ps)
begins ps = record { gateways = first-stations ps 0 ps; tunnels = no_more; keys = refl; serials = refl }

-- ## a step

known : (ps : List Peer) (h : List ControllerAct) (c : Core) (g : ℕ) → StandsFor ps h c → g < length c.stations → g < length ps
known ps h c g s i = subst (λ n. g < n) (count-of ps h c.stations s.gateways) i

pub step-follows : (ps : List Peer) (h : List ControllerAct) (c : Core) (e : CtlEvent) → IsControllerPast (length ps) h → PlainAnswers h
    → StandsFor ps h c → MayBeTold c e → Follows ps h (block ps h (event_of e)) (stepped c e)
step-follows ps h c (events.Command command) l y s m = commanded ps h c command l y s
step-follows ps h c (events.Opened g) l y s m = opened ps h c g l y s (known ps h c g s m)
step-follows ps h c (events.Cut g) l y s m = cut ps h c g l y s (known ps h c g s m)
step-follows ps h c (events.Answered g a) l y s m = answered-follows ps h c g a l y s (known ps h c g s m.0) m.1
step-follows ps h c (events.Noticed g t) l y s m = noticed ps h c g t l y s (known ps h c g s m)

-- ## what stays so

pub past-stays : (ps : List Peer) (h : List ControllerAct) (e : ControllerEvent) → IsControllerPast (length ps) h
    → IsControllerPast (length ps) (after h (block ps h e))
past-stays ps h e l = past-after (length ps) h (block ps h e) l (may-block ps h e)

plain-orders : (k xs : List ControllerAct) → Orders xs → PlainAnswers k → PlainAnswers (after k xs)
plain-orders k [] a y = y
plain-orders k (Opened g s ∷ xs) a y = absurd a
plain-orders k (Cut g s ∷ xs) a y = absurd a
plain-orders k (Answered g s n c ∷ xs) a y = absurd a
plain-orders k (Heard g s t ∷ xs) a y = absurd a
plain-orders k (Ordered g s n o ∷ xs) a y = plain-orders (Ordered g s n o ∷ k) xs a y
plain-orders k (Accepted c ∷ xs) a y = absurd a
plain-orders k (Refused w ∷ xs) a y = absurd a

orders-list : (k : List ControllerAct) (g : ℕ) (o : Option (List SpdEntry)) → Orders (with_list k g o)
orders-list k g None = tt
orders-list k g (Some l) = tt

orders-if : (b : Bool) (xs ys : List ControllerAct) → Orders xs → Orders ys → Orders (if b then xs else ys)
orders-if true xs ys a c = a
orders-if false xs ys a c = c

orders-command : (k : List ControllerAct) (c : PlacedCommand) → Orders (by_command k c)
orders-command k (SetPolicy g l) = orders-if (is_open g k) (order k g (Policy l) ∷ []) [] tt tt
orders-command k (Tunnel t) = tt
orders-command k (End r) = tt
orders-command k (Rekey r) = tt
orders-command k (Keys x) = tt

orders-notice : (k : List ControllerAct) (g : ℕ) (t : Notice) → Orders (by_notice k g t)
orders-notice k g (notices.Acquire name s) = tt
orders-notice k g (notices.Expire name soft l) = tt
orders-notice k g (notices.SeqOverflow name) = tt
orders-notice k g (notices.BadSpi n) = orders-if (list_any is_reading (queue g k)) [] (order k g Read ∷ []) tt tt

orders-asked : (k : List ControllerAct) (a : ControllerAct) → Orders (asked k a)
orders-asked k (Opened g s) = orders-list (order k g Read ∷ k) g (newest_list g k)
orders-asked k (Cut g s) = tt
orders-asked k (Answered g s n c) = tt
orders-asked k (Heard g s t) = orders-notice k g t
orders-asked k (Ordered g s n o) = tt
orders-asked k (Accepted c) = orders-command k c
orders-asked k (Refused w) = tt

plain-going : (h : List ControllerAct) (a : ControllerAct) → PlainAnswers (a ∷ h) → PlainAnswers (after h (going h a))
plain-going h a y = plain-orders (a ∷ h) (asked_then (a ∷ h) (asked (a ∷ h) a)) (orders-more (asked (a ∷ h) a) _ (orders-asked (a ∷ h) a)
    (orders-pass (after (a ∷ h) (asked (a ∷ h) a)) (directions (after (a ∷ h) (asked (a ∷ h) a))))) y

plain-if : (h : List ControllerAct) (b : Bool) (xs ys : List ControllerAct) → PlainAnswers (after h xs) → PlainAnswers (after h ys)
    → PlainAnswers (after h (if b then xs else ys))
plain-if h true xs ys a c = a
plain-if h false xs ys a c = c

plain-refusal : (h : List ControllerAct) (c : PlacedCommand) (o : Option Refusal) → PlainAnswers h
    → PlainAnswers (after h (by_refusal h c o))
plain-refusal h c None y = plain-going h (Accepted c) y
plain-refusal h c (Some w) y = y

plain-answer : (ps : List Peer) (h : List ControllerAct) (g : ℕ) (a : Answer) (os : List ControllerOrder) → queue g h ≡ os
    → may_answer (core.order_or_none (core.front (map (waiting_of ps) (queue g h)))) a.status ≡ true → PlainAnswers h
    → PlainAnswers (after h (by_answer h g a os))
plain-answer ps h g a [] e m y = y
plain-answer ps h g a (o ∷ os) e m y = plain-going h (Answered g (openings g h) (answered g h + 1) a) (
  ap (λ z. is_plain (oldest z) a.status) e
      ∙ plain-status ps o a.status (ap (λ z. may_answer (core.order_or_none (core.front (map (waiting_of ps) z))) a.status) (sym e) ∙ m),
  y,
)

pub plain-stays : (ps : List Peer) (h : List ControllerAct) (c : Core) (e : CtlEvent) → PlainAnswers h → StandsFor ps h c → MayBeTold c e
    → PlainAnswers (after h (block ps h (event_of e)))
plain-stays ps h c (events.Command command) y s m =
    plain-refusal h (placed_command ps command) (refusal (length ps) h (placed_command ps command)) y
plain-stays ps h c (events.Opened g) y s m = plain-if h (is_open g h) [] (going h (Opened g (openings g h + 1))) y
    (plain-going h (Opened g (openings g h + 1)) y)
plain-stays ps h c (events.Cut g) y s m = plain-if h (is_open g h) (going h (Cut g (openings g h))) []
    (plain-going h (Cut g (openings g h)) y) y
plain-stays ps h c (events.Answered g a) y s m =
    plain-answer ps h g a (queue g h) refl
    (ap (λ z. may_answer z a.status) (sym (oldest-at ps h c.stations g s.gateways (known ps h c g s m.0))) ∙ m.1) y
plain-stays ps h c (events.Noticed g t) y s m = plain-if h (is_open g h) (going h (Heard g (openings g h) t)) []
    (plain-going h (Heard g (openings g h) t) y) y

-- ## a run

all-done-append : (ps : List Peer) (xs ys : List ControllerAct) → all_done ps (xs ++ ys) ≡ all_done ps xs ++ all_done ps ys
all-done-append ps [] ys = refl
all-done-append ps (x ∷ xs) ys = ap (λ z. done_at ps x ++ z) (all-done-append ps xs ys)
    ∙ sym (append_assoc (done_at ps x) (all_done ps xs) (all_done ps ys))

pub record RunFollows (ps : List Peer) (h : List ControllerAct) (c : Core) (es : List CtlEvent) : Type 0 where
  pub acts : run c es ≡ all_done ps (history ps h (events_of es))
  pub stands : StandsFor ps (after h (history ps h (events_of es))) (run_core c es)

pub run-follows : (ps : List Peer) (h : List ControllerAct) (c : Core) (es : List CtlEvent) → IsControllerPast (length ps) h
    → PlainAnswers h → StandsFor ps h c → MayAllBeTold c es → RunFollows ps h c es
run-follows ps h c [] l y s m = record { acts = refl; stands = s }
run-follows ps h c (e ∷ es) l y s m =
    let f = step-follows ps h c e l y s m.0 in
    let r = run-follows ps (after h (block ps h (event_of e))) (stepped c e).core es (past-stays ps h (event_of e) l)
    (plain-stays ps h c e y s m.0) f.stands m.1 in
    let b : all_done ps (block ps h (event_of e) ++ history ps (after h (block ps h (event_of e))) (events_of es)) ≡ all_done ps
    (block ps h (event_of e)) ++ all_done ps (history ps (after h (block ps h (event_of e))) (events_of es)) =
    all-done-append ps (block ps h (event_of e)) (history ps (after h (block ps h (event_of e))) (events_of es)) in
    record {
      acts = ap (λ z. z ++ run (stepped c e).core es) f.acts ∙ ap (λ z. all_done ps (block ps h (event_of e)) ++ z) r.acts ∙ sym b;
      stands = subst (λ z. StandsFor ps z (run_core (stepped c e).core es))
          (sym (after-append h (block ps h (event_of e)) (history ps (after h (block ps h (event_of e))) (events_of es)))) r.stands;
    }

-- ## what a user sees

pub expects : (ps : List Peer) (h : List ControllerAct) (c : Core) (g : ℕ) → StandsFor ps h c → g < length ps
    → expected c g ≡ option_map (order_told ps) (oldest (queue g h))
expects ps h c g s i = oldest-at ps h c.stations g s.gateways i ∙ front (queue g h)
  where
    front : (q : List ControllerOrder) → core.order_or_none (core.front (map (waiting_of ps) q)) ≡ option_map (order_told ps) (oldest q)
    front [] = refl
    front (o ∷ q) = refl

refusals-done : (ps : List Peer) (xs : List ControllerAct) → refusals_of (all_done ps xs) ≡ refusals_in xs
refusals-done ps [] = refl
refusals-done ps (Opened g s ∷ xs) = refusals-done ps xs
refusals-done ps (Cut g s ∷ xs) = refusals-done ps xs
refusals-done ps (Answered g s n c ∷ xs) = refusals-done ps xs
refusals-done ps (Heard g s t ∷ xs) = refusals-done ps xs
refusals-done ps (Ordered g s n o ∷ xs) = refusals-done ps xs
refusals-done ps (Accepted c ∷ xs) = refusals-done ps xs
refusals-done ps (Refused w ∷ xs) = ap (λ z. w ∷ z) (refusals-done ps xs)

pub refuses-first : (ps : List Peer) (h : List ControllerAct) (c : Core) (e : CtlEvent) → IsControllerPast (length ps) h → PlainAnswers h
    → StandsFor ps h c → MayBeTold c e → refusals_of (stepped c e).acts ≡ one_or_none (event_refusal ps h (event_of e))
refuses-first ps h c e l y s m = ap refusals_of (step-follows ps h c e l y s m).acts ∙ refusals-done ps (block ps h (event_of e))
    ∙ refuses ps h (event_of e)

pub serials-fit : (ps : List Peer) (h : List ControllerAct) (c : Core) → IsControllerPast (length ps) h → StandsFor ps h c
    → (c.serials ≤ length c.keys) × (length c.keys ≤ 1048576)
serials-fit ps h c l s =
    let a : length c.keys ≡ length (keys h) = ap length s.keys in
    let b : serials h ≤ length (keys h) = few-serials (length ps) h l in
    let d : length (keys h) ≤ 1048576 = few-keys (length ps) h l in
    let e : c.serials ≡ serials h = s.serials in
    (omega arith, omega arith)

pub unused : (ps : List Peer) (h : List ControllerAct) (c : Core) → IsControllerPast (length ps) h → StandsFor ps h c
    → spare h ≡ drop c.serials c.keys
unused ps h c l s = spare-keys (length ps) h l ∙ ap (λ n. drop n (keys h)) (sym s.serials) ∙ ap (drop c.serials) (sym s.keys)
