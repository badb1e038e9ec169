-- The machine's acts are the one block that the past allows.
use Rattle.std.proofs.Common.{◌≡◌, ℕ, ◌+◌, ◌-◌, Bool, true, false, ◌==◌, not, ◌&&◌, ◌||◌, List, [], ◌∷◌, ◌++◌, Option, Some, None, map, length, refl, sym, subst, ◌∙◌, ap, arith, if◌then◌else◌, append_assoc}
use Rattle.std.specs.List.{list_any}
use Rattle.std.specs.Option.{option_map}
use Rattle.ikeless_tree.specs.declared.command.Peer.{Peer}
use Rattle.ikeless_tree.specs.declared.command.Refusal.{Refusal}
use Rattle.ikeless_tree.specs.declared.entry.SpdEntry.{SpdEntry}
use Rattle.ikeless_tree.specs.declared.order.Answer.{Answer}
use Rattle.ikeless_tree.specs.declared.order.Notice.{Notice}
use Rattle.ikeless_tree.specs.declared.order.Notice.TheVariants as notices
use Rattle.hist_controller.specs.Acts.{Way, Association, ControllerOrder, Read, Policy, PutIn, PutOut, RemoveIn, RemoveOut, PlacedCommand, SetPolicy, Tunnel, End, Rekey, Keys, ControllerAct, Opened, Cut, Answered, Heard, Ordered, Accepted, Refused, ControllerEvent, Told, Opens, Cuts, Answers, Notices}
use Rattle.hist_acts.specs.Past.{after}
use Rattle.hist_controller.specs.Past.{is_open, openings, answered, queue, newest_list, spare, directions, is_over, left, is_own, is_busy}
use Rattle.hist_controller.specs.Law.{order, may_out_remove, may_in_remove, may_out_put, first, key_put, out_put, in_remove, out_remove, give, pass, with_list, by_command, by_notice, read_put, asked, has_tunnel, is_none, is_counted, tunnels, placed_command, refusal, asked_then, going, by_refusal, by_answer, block, history}
use Rattle.hist_controller.specs.State.{KeptAssociation, KeptWay, association_of, way_of, state_of, did_all}
use Rattle.hist_controller.specs.Machine.{is_own_of, is_busy_of, may_out_remove_of, may_in_remove_of, may_out_put_of, first_of, key_put_of, out_put_of, in_remove_of, out_remove_of, give_of, place, give_at, pass_of, with_list_of, by_command_of, by_notice_of, read_put_of, asked_of, has_tunnel_of, is_none_kept, is_counted_way, tunnels_of, refusal_of, asked_then_of, going_of, by_refusal_of, by_answer_of, acts_of, next, run}
use Rattle.hist_controller.proofs.Lists.{length-more}
use Rattle.hist_controller.proofs.KeptState.{any-via, keeps}
use Rattle.hist_controller.proofs.Gives.{ways-give}

pub keeps_all : (h os : List ControllerAct) → did_all (state_of h) os ≡ state_of (after h os)
keeps_all h [] = refl
keeps_all h (a ∷ os) = ap (λ s. did_all s os) (sym (keeps h a)) ∙ keeps_all (a ∷ h) os

-- ## one direction

any-same : {A : Type 0} (p q : A → Bool) → ((x : A) → p x ≡ q x) → (xs : List A) → list_any p xs ≡ list_any q xs
any-same p q e [] = refl
any-same p q e (x ∷ xs) = rw (e x, any-same p q e xs) refl

same-own : (h : List ControllerAct) (d : Way) (xs : List Association) (o : ControllerOrder)
    → is_own_of d (map (association_of h) xs) o ≡ is_own d xs o
same-own h d xs Read = refl
same-own h d xs (Policy l) = refl
same-own h d xs (PutIn x) = refl
same-own h d xs (PutOut x) = refl
same-own h d xs (RemoveIn n) = any-via (association_of h) (λ k. k.association.serial == n) xs
same-own h d xs (RemoveOut n) = any-via (association_of h) (λ k. k.association.serial == n) xs

same-busy : (h : List ControllerAct) (d : Way) → is_busy_of (state_of h) (way_of h d) ≡ is_busy d h
same-busy h d =
    let e = any-same (is_own_of d (map (association_of h) (left d h))) (is_own d (left d h)) (same-own h d (left d h)) in
    let a = e (queue d.sender h) in
    let b = e (queue d.receiver h) in
    rw (a, b) refl

first-if : (f : Association → KeptAssociation) (b : Bool) (x : Association) (o : Option KeptAssociation) (q : Option Association)
    → o ≡ option_map f q → (if b then Some (f x) else o) ≡ option_map f (if b then Some x else q)
first-if f true x o q e = refl
first-if f false x o q e = e

first-via : (f : Association → KeptAssociation) (p : KeptAssociation → Bool) (xs : List Association)
    → first_of p (map f xs) ≡ option_map f (first (λ x. p (f x)) xs)
first-via f p [] = refl
first-via f p (x ∷ xs) = first-if f (p (f x)) x (first_of p (map f xs)) (first (λ y. p (f y)) xs) (first-via f p xs)

same-key : (h : List ControllerAct) (d : Way) (ks : List (List ℕ)) → key_put_of (state_of h) (way_of h d) ks ≡ key_put h d ks
same-key h d [] = refl
same-key h d (k ∷ ks) = refl

same-out-put : (h : List ControllerAct) (d : Way) (o : Option Association)
    → out_put_of (state_of h) (way_of h d) (option_map (association_of h) o) ≡ out_put h d o
same-out-put h d (Some x) = refl
same-out-put h d None = same-key h d (spare h)

same-in-remove : (h : List ControllerAct) (d : Way) (o : Option Association)
    → in_remove_of (state_of h) (way_of h d) (option_map (association_of h) o) ≡ in_remove h d o
same-in-remove h d (Some x) = refl
same-in-remove h d None = ap (out_put_of (state_of h) (way_of h d)) (first-via (association_of h) (may_out_put_of (state_of h) (way_of h d))
    (left d h)) ∙ same-out-put h d (first (may_out_put h d) (left d h))

same-out-remove : (h : List ControllerAct) (d : Way) (o : Option Association)
    → out_remove_of (state_of h) (way_of h d) (option_map (association_of h) o) ≡ out_remove h d o
same-out-remove h d (Some x) = refl
same-out-remove h d None =
    ap (in_remove_of (state_of h) (way_of h d)) (first-via (association_of h) (may_in_remove_of (state_of h) (way_of h d)) (left d h))
    ∙ same-in-remove h d (first (may_in_remove h d) (left d h))

pub same-give : (h : List ControllerAct) (d : Way) → give_of (state_of h) (way_of h d) ≡ give h d
same-give h d =
    ap (λ b. if b then [] else out_remove_of (state_of h) (way_of h d) (first_of (may_out_remove_of (state_of h) (way_of h d))
    (map (association_of h) (left d h)))) (same-busy h d)
    ∙ ap (λ t. if is_busy d h then [] else t)
    (ap (out_remove_of (state_of h) (way_of h d)) (first-via (association_of h) (may_out_remove_of (state_of h) (way_of h d)) (left d h))
    ∙ same-out-remove h d (first (may_out_remove h d) (left d h)))

-- ## the pass

abbrev AtPlaces : ℕ → List Way → List Way → Type 0
AtPlaces i [] xs = Unit {0}
AtPlaces i (d ∷ ds) xs = (place i xs ≡ Some d) × AtPlaces (i + 1) ds xs

place-front : (xs : List Way) (i : ℕ) (d : Way) (ds : List Way) → i ≡ length xs → place i (xs ++ d ∷ ds) ≡ Some d
place-front [] i d ds e = let z : i ≡ 0 = grind arith in rw z refl
place-front (x ∷ xs) i d ds e =
    let n : (i == 0) ≡ false = grind arith in
    rw n (place-front xs (i - 1) d ds (grind arith))

at-rest : (xs : List Way) (i : ℕ) (ds : List Way) → i ≡ length xs → AtPlaces i ds (xs ++ ds)
at-rest xs i [] e = tt
at-rest xs i (d ∷ ds) e =
    let l = length-more xs d in
    let e' : i + 1 ≡ length (xs ++ d ∷ []) = grind arith in
    (place-front xs i d ds e, subst (AtPlaces (i + 1) ds) (append_assoc xs (d ∷ []) ds) (at-rest (xs ++ d ∷ []) (i + 1) ds e'))

place-via : (f : Way → KeptWay) (i : ℕ) (xs : List Way) → place i (map f xs) ≡ option_map f (place i xs)
place-via f i [] = refl
place-via f i (x ∷ xs) = let ih = place-via f (i - 1) xs in grind (arith, ih)

same-at-place : (h : List ControllerAct) (i : ℕ) (d : Way) → place i (directions h) ≡ Some d
    → give_at (state_of h) (place i (state_of h).ways) ≡ give h d
same-at-place h i d e = ap (give_at (state_of h)) (place-via (way_of h) i (directions h) ∙ ap (option_map (way_of h)) e) ∙ same-give h d

same-pass : (f : Way → KeptWay) (h : List ControllerAct) (i : ℕ) (ds : List Way) → AtPlaces i ds (directions h)
    → pass_of (state_of h) i (map f ds) ≡ pass h ds
same-pass f h i [] p = refl
same-pass f h i (d ∷ ds) p =
    let g = same-at-place h i d p.0 in
    ap (λ t. t ++ pass_of (did_all (state_of h) t) (i + 1) (map f ds)) g
    ∙ ap (λ t. give h d ++ t)
    (ap (λ s. pass_of s (i + 1) (map f ds)) (keeps_all h (give h d))
    ∙ same-pass f (after h (give h d)) (i + 1) ds (subst (AtPlaces (i + 1) ds) (sym (ways-give h d)) p.1))

same-asked-then : (h os : List ControllerAct) → asked_then_of (state_of h) os ≡ asked_then h os
same-asked-then h os =
    ap (λ s. os ++ pass_of s 0 s.ways) (keeps_all h os)
    ∙ ap (λ t. os ++ t) (same-pass (way_of (after h os)) (after h os) 0 (directions (after h os))
    (at-rest [] 0 (directions (after h os)) refl))

-- ## the orders that belong to no direction

same-with-list : (h : List ControllerAct) (g : ℕ) (o : Option (List SpdEntry)) → with_list_of (state_of h) g o ≡ with_list h g o
same-with-list h g None = refl
same-with-list h g (Some l) = refl

same-read-put : (h : List ControllerAct) (g : ℕ) → read_put_of (state_of h) g ≡ read_put h g
same-read-put h g = ap (λ t. order h g Read ∷ t) (ap (λ s. with_list_of s g (newest_list g h)) (sym (keeps h (order h g Read)))
    ∙ same-with-list (order h g Read ∷ h) g (newest_list g h))

same-command : (h : List ControllerAct) (c : PlacedCommand) → by_command_of (state_of h) c ≡ by_command h c
same-command h (SetPolicy g l) = refl
same-command h (Tunnel t) = refl
same-command h (End r) = refl
same-command h (Rekey r) = refl
same-command h (Keys k) = refl

same-notice : (h : List ControllerAct) (g : ℕ) (t : Notice) → by_notice_of (state_of h) g t ≡ by_notice h g t
same-notice h g (notices.Acquire r f) = refl
same-notice h g (notices.Expire m b c) = refl
same-notice h g (notices.SeqOverflow m) = refl
same-notice h g (notices.BadSpi s) = refl

same-asked : (h : List ControllerAct) (a : ControllerAct) → asked_of (state_of h) a ≡ asked h a
same-asked h (Opened g s) = same-read-put h g
same-asked h (Cut g s) = refl
same-asked h (Answered g s n a) = refl
same-asked h (Heard g s t) = same-notice h g t
same-asked h (Ordered g s n o) = refl
same-asked h (Accepted c) = same-command h c
same-asked h (Refused w) = refl

-- ## commands

same-has : (h : List ControllerAct) (r : ℕ) → has_tunnel_of r (state_of h) ≡ has_tunnel r h
same-has h r = any-via (way_of h) (λ w. (w.way.tunnel.reqid == r) && not w.over) (directions h)

same-none : (h : List ControllerAct) (xs : List Association) → is_none_kept (map (association_of h) xs) ≡ is_none xs
same-none h [] = refl
same-none h (x ∷ xs) = refl

same-counts : (h : List ControllerAct) (d : Way) → is_counted_way (way_of h d) ≡ is_counted h d
same-counts h d = ap (λ b. not (is_over d h) || not b) (same-none h (left d h))

same-tunnels : (h : List ControllerAct) (ds : List Way) → tunnels_of (map (way_of h) ds) ≡ tunnels h ds
same-tunnels h [] = refl
same-tunnels h (d ∷ []) = refl
same-tunnels h (d ∷ e ∷ ds) =
    let ih = same-tunnels h ds in
    let a = same-counts h d in
    let b = same-counts h e in
    rw (a, b, ih) refl

same-refusal : (p : ℕ) (h : List ControllerAct) (c : PlacedCommand) → refusal_of p (state_of h) c ≡ refusal p h c
same-refusal p h (SetPolicy g l) = refl
same-refusal p h (Tunnel t) = let a = same-has h t.spec.reqid in let b = same-tunnels h (directions h) in rw (a, b) refl
same-refusal p h (End r) = let a = same-has h r in rw a refl
same-refusal p h (Rekey r) = let a = same-has h r in rw a refl
same-refusal p h (Keys k) = refl

-- ## blocks

same-going : (h : List ControllerAct) (a : ControllerAct) → going_of (state_of h) a ≡ going h a
same-going h a =
    ap (λ t. a ∷ t)
    (ap (λ s. asked_then_of s (asked_of s a)) (sym (keeps h a))
    ∙ (ap (asked_then_of (state_of (a ∷ h))) (same-asked (a ∷ h) a) ∙ same-asked-then (a ∷ h) (asked (a ∷ h) a)))

same-by-refusal : (h : List ControllerAct) (c : PlacedCommand) (o : Option Refusal) → by_refusal_of (state_of h) c o ≡ by_refusal h c o
same-by-refusal h c None = same-going h (Accepted c)
same-by-refusal h c (Some w) = refl

same-by-answer : (h : List ControllerAct) (g : ℕ) (a : Answer) (os : List ControllerOrder)
    → by_answer_of (state_of h) g a os ≡ by_answer h g a os
same-by-answer h g a [] = refl
same-by-answer h g a (o ∷ os) = same-going h (Answered g (openings g h) (answered g h + 1) a)

pub acts_of-state_of : (p : List Peer) (h : List ControllerAct) (e : ControllerEvent) → acts_of p (state_of h) e ≡ block p h e
acts_of-state_of p h (Told c) = ap (by_refusal_of (state_of h) (placed_command p c)) (same-refusal (length p) h (placed_command p c))
    ∙ same-by-refusal h (placed_command p c) (refusal (length p) h (placed_command p c))
acts_of-state_of p h (Opens g) = ap (λ t. if is_open g h then [] else t) (same-going h (Opened g (openings g h + 1)))
acts_of-state_of p h (Cuts g) = ap (λ t. if is_open g h then t else []) (same-going h (Cut g (openings g h)))
acts_of-state_of p h (Answers g a) = same-by-answer h g a (queue g h)
acts_of-state_of p h (Notices g t) = ap (λ s. if is_open g h then s else []) (same-going h (Heard g (openings g h) t))

pub step-keeps : (p : List Peer) (h : List ControllerAct) (e : ControllerEvent) → state_of (after h (block p h e)) ≡ next p (state_of h) e
step-keeps p h e = sym (ap (did_all (state_of h)) (acts_of-state_of p h e) ∙ keeps_all h (block p h e))

-- the acts of events, one after another
pub run-history : (p : List Peer) (h : List ControllerAct) (es : List ControllerEvent) → run p (state_of h) es ≡ history p h es
run-history p h [] = refl
run-history p h (e ∷ es) =
    ap (λ t. t ++ run p (did_all (state_of h) t) es) (acts_of-state_of p h e)
    ∙ ap (λ t. block p h e ++ t) (ap (λ s. run p s es) (keeps_all h (block p h e)) ∙ run-history p (after h (block p h e)) es)
