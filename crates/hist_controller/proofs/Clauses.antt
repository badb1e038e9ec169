-- Each act of a block may stand after what is before it.
use Rattle.std.proofs.Common.{◌≡◌, ℕ, ◌+◌, Bool, true, false, not, ◌&&◌, ◌||◌, List, [], ◌∷◌, ◌++◌, Option, Some, None, length, inl, inr, refl, sym, subst, ap, arith, if◌then◌else◌}
use Rattle.std.specs.List.{list_any}
use Rattle.ikeless_tree.specs.declared.command.Peer.{Peer}
use Rattle.ikeless_tree.specs.declared.command.Refusal.{Refusal}
use Rattle.ikeless_tree.specs.declared.entry.SpdEntry.{SpdEntry}
use Rattle.ikeless_tree.specs.declared.order.Answer.{Answer}
use Rattle.ikeless_tree.specs.declared.order.Notice.{Notice}
use Rattle.ikeless_tree.specs.declared.order.Notice.TheVariants as notices
use Rattle.hist_controller.specs.Acts.{Way, ControllerOrder, Read, Policy, PlacedCommand, SetPolicy, Tunnel, End, Rekey, Keys, ControllerAct, Opened, Cut, Answered, Heard, Accepted, ControllerEvent, Told, Opens, Cuts, Answers, Notices}
use Rattle.hist_acts.specs.Past.{after}
use Rattle.hist_controller.specs.Past.{is_open, is_first_answered, openings, answered, oldest, queue, is_read, newest_list, directions, RemovingOut, PuttingIn, is_out_ordered, has_answer, is_ended, is_in_progress, is_owed}
use Rattle.hist_controller.specs.Law.{order, give, pass, with_list, is_reading, by_command, by_notice, read_put, placed_command, refusal, asked_then, going, by_refusal, by_answer, block, history}
use Rattle.hist_controller.specs.Clauses.{Has, ControllerMayActAll, IsControllerPast, next_key}
use Rattle.hist_controller.proofs.KeptState.{eq-own}
use Rattle.hist_controller.proofs.Gives.{Given, nothing, out_removed, in_removed, out_was_put, in_was_put, given, ways-give}

pub may-more : (p : ℕ) (h xs ys : List ControllerAct) → ControllerMayActAll p h xs → ControllerMayActAll p (after h xs) ys
    → ControllerMayActAll p h (xs ++ ys)
may-more p h [] ys a b = b
may-more p h (x ∷ xs) ys a b = (a.0, may-more p (x ∷ h) xs ys a.1 b)

may-if : (p : ℕ) (h : List ControllerAct) (b : Bool) (xs ys : List ControllerAct) → (b ≡ true → ControllerMayActAll p h xs)
    → (b ≡ false → ControllerMayActAll p h ys) → ControllerMayActAll p h (if b then xs else ys)
may-if p h true xs ys f g = f refl
may-if p h false xs ys f g = g refl

open-4 : (a b c d e : Bool) → (a && b && c && (d && e)) ≡ true → d ≡ true
open-4 a b c d e q = grind arith

open-3 : (a b d e : Bool) → (a && b && (d && e)) ≡ true → d ≡ true
open-3 a b d e q = grind arith

open-5 : (a b c d e f : Bool) → (a && b && c && (d && e) && f) ≡ true → d ≡ true
open-5 a b c d e f q = grind arith

open-r : (a c d e : Bool) → (a && c && (d && e)) ≡ true → d ≡ true
open-r a c d e q = grind arith

-- ## orders of directions

pub may-given : (p : ℕ) (h : List ControllerAct) (d : Way) (os : List ControllerAct) → Has d (directions h) → Given h d os
    → ControllerMayActAll p h os
may-given p h d _ i (nothing q) = tt
may-given p h d _ i (out_removed x f l m n1) = (
  (
    refl,
    refl,
    open-4 (is_ended x h) (is_out_ordered x.serial h) (not (has_answer RemovingOut x.serial h)) (is_open d.sender h)
        (is_first_answered d.sender h) m,
    record { way = d; of = i; association = x; left = l; name = refl; at = refl; free = f; may = m; oldest = n1 },
  ),
  tt,
)
may-given p h d _ i (in_removed x f l m n1 n2) = (
  (
    refl,
    refl,
    open-3 (is_ended x h) (not (is_out_ordered x.serial h) || has_answer RemovingOut x.serial h) (is_open d.receiver h)
        (is_first_answered d.receiver h) m,
    record { way = d; of = i; association = x; left = l; name = refl; at = refl; free = f; may = m; oldest = n1; no_out_remove = n2 },
  ),
  tt,
)
may-given p h d _ i (out_was_put x f l m n1 n2 n3) = (
  (
    refl,
    refl,
    open-5 (is_in_progress h x) (not (is_out_ordered x.serial h)) (has_answer PuttingIn x.serial h) (is_open d.sender h)
        (is_first_answered d.sender h) (is_read d.receiver h) m,
    record { way = d; of = i; left = l; at = refl; free = f; may = m; oldest = n1; no_out_remove = n2; no_in_remove = n3 },
  ),
  tt,
)
may-given p h d _ i (in_was_put k ks f s m n1 n2 n3) = (
  (
    refl,
    refl,
    open-r (is_owed d h) (is_read d.sender h) (is_open d.receiver h) (is_first_answered d.receiver h) m,
    record {
      of = i;
      at = refl;
      free = f;
      may = m;
      serial = refl;
      key = ap next_key s;
      no_out_remove = n1;
      no_in_remove = n2;
      no_out_put =
          n3;
    },
  ),
  tt,
)

may-pass : (p : ℕ) (h : List ControllerAct) (ds : List Way) → ((d : Way) → Has d ds → Has d (directions h))
    → ControllerMayActAll p h (pass h ds)
may-pass p h [] f = tt
may-pass p h (d ∷ ds) f =
    may-more p h (give h d) (pass (after h (give h d)) ds)
    (may-given p h d (give h d) (f d (inl refl)) (given h d))
    (may-pass p (after h (give h d)) ds (λ e i. subst (Has e) (sym (ways-give h d)) (f e (inr i))))

may-asked-then : (p : ℕ) (h os : List ControllerAct) → ControllerMayActAll p h os → ControllerMayActAll p h (asked_then h os)
may-asked-then p h os m = may-more p h os (pass (after h os) (directions (after h os))) m (may-pass p (after h os) (directions (after h os))
    (λ d i. i))

-- ## orders that belong to no direction

pub may-command : (p : ℕ) (h : List ControllerAct) (c : PlacedCommand)
    → ControllerMayActAll p (Accepted c ∷ h) (by_command (Accepted c ∷ h) c)
may-command p h (SetPolicy g l) =
    may-if p (Accepted (SetPolicy g l) ∷ h) (is_open g h) (order (Accepted (SetPolicy g l) ∷ h) g (Policy l) ∷ []) []
    (λ o. ((refl, refl, o, (rw (eq-own g) refl, eq-own g)), tt))
    (λ o. tt)
may-command p h (Tunnel t) = tt
may-command p h (End r) = tt
may-command p h (Rekey r) = tt
may-command p h (Keys k) = tt

may-list : (p : ℕ) (h : List ControllerAct) (g s : ℕ) (o : Option (List SpdEntry)) → newest_list g h ≡ o
    → ControllerMayActAll p (order (Opened g s ∷ h) g Read ∷ Opened g s ∷ h) (with_list (order (Opened g s ∷ h) g Read ∷ Opened g s ∷ h) g
    o)
may-list p h g s None e = tt
may-list p h g s (Some l) e = let q = eq-own g in ((refl, refl, rw q refl, (e, rw q refl)), tt)

pub may-read-put : (p : ℕ) (h : List ControllerAct) (g s : ℕ) → ControllerMayActAll p (Opened g s ∷ h) (read_put (Opened g s ∷ h) g)
may-read-put p h g s = let q = eq-own g in ((refl, refl, rw q refl, q), may-list p h g s (newest_list g h) refl)

pub may-notice : (p : ℕ) (h : List ControllerAct) (g s : ℕ) (t : Notice) → s ≡ openings g h → is_open g h ≡ true
    → ControllerMayActAll p (Heard g s t ∷ h) (by_notice (Heard g s t ∷ h) g t)
may-notice p h g s (notices.Acquire r f) e o = tt
may-notice p h g s (notices.Expire m b c) e o = tt
may-notice p h g s (notices.SeqOverflow m) e o = tt
may-notice p h g s (notices.BadSpi n) e o =
    may-if p (Heard g s (notices.BadSpi n) ∷ h) (list_any is_reading (queue g h)) [] (order (Heard g s (notices.BadSpi n) ∷ h) g Read ∷ [])
    (λ b. tt)
    (λ b. ((refl, refl, o, rw (eq-own g, b) refl), tt))

-- ## blocks

may-refusal : (p : ℕ) (h : List ControllerAct) (c : PlacedCommand) (o : Option Refusal) → refusal p h c ≡ o
    → ControllerMayActAll p h (by_refusal h c o)
may-refusal p h c None e = (e, may-asked-then p (Accepted c ∷ h) (by_command (Accepted c ∷ h) c) (may-command p h c))
may-refusal p h c (Some w) e = ((c, e), tt)

may-answer : (p : ℕ) (h : List ControllerAct) (g : ℕ) (a : Answer) (os : List ControllerOrder) → queue g h ≡ os
    → ControllerMayActAll p h (by_answer h g a os)
may-answer p h g a [] e = tt
may-answer p h g a (o ∷ os) e = ((o, ap oldest e, refl, refl), may-asked-then p (Answered g (openings g h) (answered g h + 1) a ∷ h) [] tt)

pub may-block : (p : List Peer) (h : List ControllerAct) (e : ControllerEvent) → ControllerMayActAll (length p) h (block p h e)
may-block ps h (Told c) = may-refusal (length ps) h (placed_command ps c) (refusal (length ps) h (placed_command ps c)) refl
may-block ps h (Opens g) =
    may-if (length ps) h (is_open g h) [] (going h (Opened g (openings g h + 1)))
    (λ o. tt)
    (λ o. (
      (o, refl),
      may-asked-then (length ps) (Opened g (openings g h + 1) ∷ h) (read_put (Opened g (openings g h + 1) ∷ h) g)
          (may-read-put (length ps) h g (openings g h + 1)),
    ))
may-block ps h (Cuts g) =
    may-if (length ps) h (is_open g h) (going h (Cut g (openings g h))) []
    (λ o. ((o, refl), may-asked-then (length ps) (Cut g (openings g h) ∷ h) [] tt))
    (λ o. tt)
may-block ps h (Answers g a) = may-answer (length ps) h g a (queue g h) refl
may-block ps h (Notices g t) =
    may-if (length ps) h (is_open g h) (going h (Heard g (openings g h) t)) []
    (λ o. (
      (o, refl),
      may-asked-then (length ps) (Heard g (openings g h) t ∷ h) (by_notice (Heard g (openings g h) t ∷ h) g t)
          (may-notice (length ps) h g (openings g h) t refl o),
    ))
    (λ o. tt)

pub past-after : (p : ℕ) (h xs : List ControllerAct) → IsControllerPast p h → ControllerMayActAll p h xs → IsControllerPast p (after h xs)
past-after p h [] i m = i
past-after p h (x ∷ xs) i m = past-after p (x ∷ h) xs (m.0, i) m.1

pub after-append : (h xs ys : List ControllerAct) → after h (xs ++ ys) ≡ after (after h xs) ys
after-append h [] ys = refl
after-append h (x ∷ xs) ys = after-append (x ∷ h) xs ys

past-from : (ps : List Peer) (h : List ControllerAct) (es : List ControllerEvent) → IsControllerPast (length ps) h
    → IsControllerPast (length ps) (after h (history ps h es))
past-from ps h [] i = i
past-from ps h (e ∷ es) i =
    subst (IsControllerPast (length ps)) (sym (after-append h (block ps h e) (history ps (after h (block ps h e)) es)))
    (past-from ps (after h (block ps h e)) es (past-after (length ps) h (block ps h e) i (may-block ps h e)))

-- every history of events is a past in which each act may follow those before it
pub past-history : (ps : List Peer) (es : List ControllerEvent) → IsControllerPast (length ps) (after [] (history ps [] es))
past-history ps es = past-from ps [] es tt
