-- What orders add to queues, and what they leave as it is.
use Rattle.std.proofs.Common.{◌≡◌, ℕ, Bool, true, false, ◌==◌, List, [], ◌∷◌, ◌++◌, map, refl, sym, ap, ◌∙◌, arith, if◌then◌else◌, append-nil, append_assoc}
use Rattle.ikeless_tree.specs.declared.command.Peer.{Peer}
use Rattle.hist_acts.specs.Past.{after}
use Rattle.hist_controller.specs.Acts.{Way, ControllerOrder, ControllerAct, Opened, Cut, Answered, Heard, Ordered, Accepted, Refused}
use Rattle.hist_controller.specs.Past.{is_open, is_first_answered, queue, newest_list, keys, directions}
use Rattle.hist_controller.specs.Law.{pass, give}
use Rattle.hist_controller.proofs.Gives.{Given, nothing, out_removed, in_removed, out_was_put, in_was_put, given}
use Rattle.hist_controller.proofs.KeptState.{map-more}
use Rattle.ctl_core.specs.Drafts.{Drafted, queued}
use Rattle.ctl_law.specs.Stands.{waiting_of, numbered}
use Rattle.ctl_law.specs.Told.{all_done}
use Rattle.ctl_law.proofs.Drafts.{drafting, with_order}
use Rattle.ctl_law.proofs.Numbered.{numbered-same, numbered-queued}

-- all of them are orders
abbrev pub Orders : List ControllerAct → Type 0
Orders [] = Unit {0}
Orders (Ordered g s n o ∷ more) = Orders more
Orders (_ ∷ more) = ⊥

pub orders-more : (xs ys : List ControllerAct) → Orders xs → Orders ys → Orders (xs ++ ys)
orders-more [] ys a b = b
orders-more (Opened g s ∷ xs) ys a b = a
orders-more (Cut g s ∷ xs) ys a b = a
orders-more (Answered g s n c ∷ xs) ys a b = a
orders-more (Heard g s t ∷ xs) ys a b = a
orders-more (Ordered g s n o ∷ xs) ys a b = orders-more xs ys a b
orders-more (Accepted c ∷ xs) ys a b = a
orders-more (Refused w ∷ xs) ys a b = a

orders-given : (h : List ControllerAct) (d : Way) (os : List ControllerAct) → Given h d os → Orders os
orders-given h d _ (nothing q) = tt
orders-given h d _ (out_removed z f k y q) = tt
orders-given h d _ (in_removed z f k y q u) = tt
orders-given h d _ (out_was_put z f k y q u v) = tt
orders-given h d _ (in_was_put k r f s y u v w) = tt

pub orders-pass : (h : List ControllerAct) (ds : List Way) → Orders (pass h ds)
orders-pass h [] = tt
orders-pass h (d ∷ ds) = orders-more (give h d) (pass (after h (give h d)) ds) (orders-given h d (give h d) (given h d))
    (orders-pass (after h (give h d)) ds)

-- the orders among them for a gateway
abbrev pub orders_for : ℕ → List ControllerAct → List ControllerOrder
orders_for j [] = []
orders_for j (Ordered g s n o ∷ more) = if j == g then o ∷ orders_for j more else orders_for j more
orders_for j (_ ∷ more) = orders_for j more

-- ## what a past keeps

pub record Same (h k : List ControllerAct) (j : ℕ) : Type 0 where
  pub up : is_open j k ≡ is_open j h
  pub first : is_first_answered j k ≡ is_first_answered j h
  pub list : newest_list j k ≡ newest_list j h

pub same-after : (h os : List ControllerAct) (j : ℕ) → Orders os → Same h (after h os) j
same-after h [] j a = record { up = refl; first = refl; list = refl }
same-after h (Opened g s ∷ os) j a = absurd a
same-after h (Cut g s ∷ os) j a = absurd a
same-after h (Answered g s n c ∷ os) j a = absurd a
same-after h (Heard g s t ∷ os) j a = absurd a
same-after h (Ordered g s n o ∷ os) j a = let ih = same-after (Ordered g s n o ∷ h) os j a in
    record { up = ih.up; first = ih.first; list = ih.list }
same-after h (Accepted c ∷ os) j a = absurd a
same-after h (Refused w ∷ os) j a = absurd a

pub keys-after-orders : (h os : List ControllerAct) → Orders os → keys (after h os) ≡ keys h
keys-after-orders h [] a = refl
keys-after-orders h (Opened g s ∷ os) a = absurd a
keys-after-orders h (Cut g s ∷ os) a = absurd a
keys-after-orders h (Answered g s n c ∷ os) a = absurd a
keys-after-orders h (Heard g s t ∷ os) a = absurd a
keys-after-orders h (Ordered g s n o ∷ os) a = keys-after-orders (Ordered g s n o ∷ h) os a
keys-after-orders h (Accepted c ∷ os) a = absurd a
keys-after-orders h (Refused w ∷ os) a = absurd a

pub ways-after-orders : (h os : List ControllerAct) → Orders os → directions (after h os) ≡ directions h
ways-after-orders h [] a = refl
ways-after-orders h (Opened g s ∷ os) a = absurd a
ways-after-orders h (Cut g s ∷ os) a = absurd a
ways-after-orders h (Answered g s n c ∷ os) a = absurd a
ways-after-orders h (Heard g s t ∷ os) a = absurd a
ways-after-orders h (Ordered g s n o ∷ os) a = ways-after-orders (Ordered g s n o ∷ h) os a
ways-after-orders h (Accepted c ∷ os) a = absurd a
ways-after-orders h (Refused w ∷ os) a = absurd a

add-one-for : (b : Bool) (q os : List ControllerOrder) (o : ControllerOrder) → (if b then q ++ o ∷ [] else q) ++ os ≡ q
    ++ (if b then o ∷ os else os)
add-one-for true q os o = append_assoc q (o ∷ []) os
add-one-for false q os o = refl

pub queue-after : (h os : List ControllerAct) (j : ℕ) → Orders os → queue j (after h os) ≡ queue j h ++ orders_for j os
queue-after h [] j a = sym (append-nil (queue j h))
queue-after h (Opened g s ∷ os) j a = absurd a
queue-after h (Cut g s ∷ os) j a = absurd a
queue-after h (Answered g s n c ∷ os) j a = absurd a
queue-after h (Heard g s t ∷ os) j a = absurd a
queue-after h (Ordered g s n o ∷ os) j a = queue-after (Ordered g s n o ∷ h) os j a ∙ add-one-for (j == g) (queue j h) (orders_for j os) o
queue-after h (Accepted c ∷ os) j a = absurd a
queue-after h (Refused w ∷ os) j a = absurd a

-- ## what a draft has

pub drafted-acts : (ps : List Peer) (os : List ControllerAct) (x : Drafted) → Orders os → (drafting ps os x).acts ≡ x.acts ++ all_done ps os
drafted-acts ps [] x a = sym (append-nil x.acts)
drafted-acts ps (Opened g s ∷ os) x a = absurd a
drafted-acts ps (Cut g s ∷ os) x a = absurd a
drafted-acts ps (Answered g s n c ∷ os) x a = absurd a
drafted-acts ps (Heard g s t ∷ os) x a = absurd a
drafted-acts ps (Ordered g s n o ∷ os) x a = drafted-acts ps os (with_order ps g o x) a ∙ append_assoc x.acts _ _
drafted-acts ps (Accepted c ∷ os) x a = absurd a
drafted-acts ps (Refused w ∷ os) x a = absurd a

one-more : (ps : List Peer) (b : Bool) (q : List ControllerOrder) (o : ControllerOrder) → b ≡ true → map (waiting_of ps) q
    ++ waiting_of ps o ∷ [] ≡ map (waiting_of ps) (if b then q ++ o ∷ [] else q)
one-more ps b q o e = rw e (sym (map-more (waiting_of ps) q (o ∷ [])))

pub drafted-queues : (ps : List Peer) (os : List ControllerAct) (x : Drafted) (before : ℕ → List ControllerOrder) → Orders os
    → x.queues ≡ numbered (λ j p. map (waiting_of ps) (before j)) 0 ps
    → (drafting ps os x).queues ≡ numbered (λ j p. map (waiting_of ps) (before j ++ orders_for j os)) 0 ps
drafted-queues ps [] x before a e = e ∙ numbered-same _ _ 0 ps (λ j p l. ap (map (waiting_of ps)) (sym (append-nil (before j))))
drafted-queues ps (Opened g s ∷ os) x before a e = absurd a
drafted-queues ps (Cut g s ∷ os) x before a e = absurd a
drafted-queues ps (Answered g s n c ∷ os) x before a e = absurd a
drafted-queues ps (Heard g s t ∷ os) x before a e = absurd a
drafted-queues ps (Ordered g s n o ∷ os) x before a e =
    drafted-queues ps os (with_order ps g o x) (λ j. if j == g then before j ++ o ∷ [] else before j) a
    (ap (queued g (waiting_of ps o)) e
    ∙ numbered-queued (waiting_of ps o) (λ j p. map (waiting_of ps) (before j)) (λ j p. map (waiting_of ps) (if j == g then before j ++ o
    ∷ [] else before j)) g 0 g ps (omega arith)
    (λ p. one-more ps (g == g) (before g) o (grind arith))
    (λ j p t. rw t refl))
    ∙ numbered-same _ _ 0 ps (λ j p l. ap (map (waiting_of ps)) (add-one-for (j == g) (before j) (orders_for j os) o))
drafted-queues ps (Accepted c ∷ os) x before a e = absurd a
drafted-queues ps (Refused w ∷ os) x before a e = absurd a
