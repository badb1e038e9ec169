-- A block has one refusal where its command has a reason to be refused, and none else.
use Rattle.std.proofs.Common.{◌≡◌, ℕ, ◌+◌, Bool, true, false, List, [], ◌∷◌, ◌++◌, Option, Some, None, length, refl, if◌then◌else◌}
use Rattle.std.specs.List.{list_any}
use Rattle.ikeless_tree.specs.declared.command.Peer.{Peer}
use Rattle.ikeless_tree.specs.declared.command.Refusal.{Refusal}
use Rattle.ikeless_tree.specs.declared.entry.SpdEntry.{SpdEntry}
use Rattle.ikeless_tree.specs.declared.order.Answer.{Answer}
use Rattle.ikeless_tree.specs.declared.order.Notice.{Notice}
use Rattle.ikeless_tree.specs.declared.order.Notice.TheVariants as notices
use Rattle.hist_controller.specs.Acts.{Way, ControllerOrder, Read, Policy, PlacedCommand, SetPolicy, Tunnel, End, Rekey, Keys, ControllerAct, Opened, Cut, Answered, Heard, Ordered, Accepted, Refused, ControllerEvent, Told, Opens, Cuts, Answers, Notices}
use Rattle.hist_acts.specs.Past.{after}
use Rattle.hist_controller.specs.Past.{is_open, openings, answered, queue, newest_list, directions}
use Rattle.hist_controller.specs.Law.{order, give, pass, with_list, is_reading, by_command, by_notice, asked, asked_then, placed_command, refusal, going, by_refusal, by_answer, block, event_refusal, one_or_none, refusals_in}
use Rattle.hist_controller.proofs.Gives.{Given, nothing, out_removed, in_removed, out_was_put, in_was_put, given}

none-more : (xs ys : List ControllerAct) → refusals_in xs ≡ [] → refusals_in ys ≡ [] → refusals_in (xs ++ ys) ≡ []
none-more [] ys e f = f
none-more (Opened g s ∷ xs) ys e f = none-more xs ys e f
none-more (Cut g s ∷ xs) ys e f = none-more xs ys e f
none-more (Answered g s n a ∷ xs) ys e f = none-more xs ys e f
none-more (Heard g s t ∷ xs) ys e f = none-more xs ys e f
none-more (Ordered g s n o ∷ xs) ys e f = none-more xs ys e f
none-more (Accepted c ∷ xs) ys e f = none-more xs ys e f
none-more (Refused w ∷ xs) ys e f = cc

none-given : (h : List ControllerAct) (d : Way) (os : List ControllerAct) → Given h d os → refusals_in os ≡ []
none-given h d _ (nothing i) = refl
none-given h d _ (out_removed x f l m n1) = refl
none-given h d _ (in_removed x f l m n1 n2) = refl
none-given h d _ (out_was_put x f l m n1 n2 n3) = refl
none-given h d _ (in_was_put k ks f s m n1 n2 n3) = refl

none-pass : (h : List ControllerAct) (ds : List Way) → refusals_in (pass h ds) ≡ []
none-pass h [] = refl
none-pass h (d ∷ ds) = none-more (give h d) (pass (after h (give h d)) ds) (none-given h d (give h d) (given h d))
    (none-pass (after h (give h d)) ds)

none-list : (h : List ControllerAct) (g : ℕ) (o : Option (List SpdEntry)) → refusals_in (with_list h g o) ≡ []
none-list h g None = refl
none-list h g (Some l) = refl

none-if : (b : Bool) (xs ys : List ControllerAct) → refusals_in xs ≡ [] → refusals_in ys ≡ [] → refusals_in (if b then xs else ys) ≡ []
none-if true xs ys e f = e
none-if false xs ys e f = f

none-command : (h : List ControllerAct) (c : PlacedCommand) → refusals_in (by_command h c) ≡ []
none-command h (SetPolicy g l) = none-if (is_open g h) (order h g (Policy l) ∷ []) [] refl refl
none-command h (Tunnel t) = refl
none-command h (End r) = refl
none-command h (Rekey r) = refl
none-command h (Keys k) = refl

none-notice : (h : List ControllerAct) (g : ℕ) (t : Notice) → refusals_in (by_notice h g t) ≡ []
none-notice h g (notices.Acquire r f) = refl
none-notice h g (notices.Expire m b c) = refl
none-notice h g (notices.SeqOverflow m) = refl
none-notice h g (notices.BadSpi n) = none-if (list_any is_reading (queue g h)) [] (order h g Read ∷ []) refl refl

none-then : (h os : List ControllerAct) → refusals_in os ≡ [] → refusals_in (asked_then h os) ≡ []
none-then h os e = none-more os (pass (after h os) (directions (after h os))) e (none-pass (after h os) (directions (after h os)))

by-reason : (h : List ControllerAct) (c : PlacedCommand) (o : Option Refusal) → refusals_in (by_refusal h c o) ≡ one_or_none o
by-reason h c None = none-then (Accepted c ∷ h) (by_command (Accepted c ∷ h) c) (none-command (Accepted c ∷ h) c)
by-reason h c (Some w) = refl

by-answers : (h : List ControllerAct) (g : ℕ) (a : Answer) (os : List ControllerOrder) → refusals_in (by_answer h g a os) ≡ []
by-answers h g a [] = refl
by-answers h g a (o ∷ os) = none-then (Answered g (openings g h) (answered g h + 1) a ∷ h) [] refl

pub refuses : (ps : List Peer) (h : List ControllerAct) (e : ControllerEvent)
    → refusals_in (block ps h e) ≡ one_or_none (event_refusal ps h e)
refuses ps h (Told c) = by-reason h (placed_command ps c) (refusal (length ps) h (placed_command ps c))
refuses ps h (Opens g) = none-if (is_open g h) [] (going h (Opened g (openings g h + 1))) refl
    (none-then (Opened g (openings g h + 1) ∷ h) (asked (Opened g (openings g h + 1) ∷ h) (Opened g (openings g h + 1)))
    (none-list (order (Opened g (openings g h + 1) ∷ h) g Read ∷ Opened g (openings g h + 1) ∷ h) g (newest_list g h)))
refuses ps h (Cuts g) = none-if (is_open g h) (going h (Cut g (openings g h))) [] (none-then (Cut g (openings g h) ∷ h) [] refl) refl
refuses ps h (Answers g a) = by-answers h g a (queue g h)
refuses ps h (Notices g t) = none-if (is_open g h) (going h (Heard g (openings g h) t)) []
    (none-then (Heard g (openings g h) t ∷ h) (by_notice (Heard g (openings g h) t ∷ h) g t)
    (none-notice (Heard g (openings g h) t ∷ h) g t)) refl
