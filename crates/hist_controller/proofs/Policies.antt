-- An ordered list of policies is the last one that was accepted.
use Rattle.std.proofs.Common.{◌≡◌, ℕ, ◌-◌, ◌<◌, Bool, true, false, ◌==◌, List, [], ◌∷◌, ◌++◌, Option, Some, length, refl, subst, sym, arith, if◌then◌else◌, append-nil}
use Rattle.ikeless_tree.specs.declared.entry.SpdEntry.{SpdEntry}
use Rattle.hist_controller.specs.Acts.{ControllerOrder, Read, Policy, PutIn, PutOut, RemoveIn, RemoveOut, SetPolicy, Tunnel, End, Rekey, Keys, ControllerAct, Opened, Cut, Answered, Heard, Ordered, Accepted, Refused}
use Rattle.hist_controller.specs.Past.{newest_list}
use Rattle.hist_controller.specs.Clauses.{IsControllerPast, MayOrder}
use Rattle.hist_controller.specs.Machine.{place}
use Rattle.hist_controller.specs.Counts.{lists_accepted, ListRight, ListsRight}
use Rattle.hist_controller.proofs.Lists.{length-more}

-- the last of a list
abbrev IsLast : {A : Type 0} → List A → A → Type 0
IsLast xs x = (0 < length xs) × (place (length xs - 1) xs ≡ Some x)

place-last : {A : Type 0} (xs : List A) (x : A) (i : ℕ) → i ≡ length xs → place i (xs ++ x ∷ []) ≡ Some x
place-last [] x i e = let z : i ≡ 0 = grind arith in rw z refl
place-last (y ∷ xs) x i e = let n : (i == 0) ≡ false = grind arith in rw n (place-last xs x (i - 1) (grind arith))

last-new : {A : Type 0} (xs : List A) (x : A) → IsLast (xs ++ x ∷ []) x
last-new xs x = let e = length-more xs x in (omega arith, place-last xs x (length (xs ++ x ∷ []) - 1) (omega arith))

accepted : (g f : ℕ) (l w : List SpdEntry) (xs : List (List SpdEntry)) (o : Option (List SpdEntry)) (b : Bool) → (o ≡ Some w → IsLast xs w)
    → (if b then Some l else o) ≡ Some w → IsLast (xs ++ (if b then l ∷ [] else [])) w
accepted g f l w xs o true k e = let q : l ≡ w = cc in subst (IsLast (xs ++ l ∷ [])) q (last-new xs l)
accepted g f l w xs o false k e = subst (λ t. IsLast t w) (sym (append-nil xs)) (k e)

newest-last : (g : ℕ) (h : List ControllerAct) (l : List SpdEntry) → newest_list g h ≡ Some l → IsLast (lists_accepted g h) l
newest-last g [] l e = cc
newest-last g (Opened f s ∷ h) l e = newest-last g h l e
newest-last g (Cut f s ∷ h) l e = newest-last g h l e
newest-last g (Answered f s n a ∷ h) l e = newest-last g h l e
newest-last g (Heard f s t ∷ h) l e = newest-last g h l e
newest-last g (Ordered f s n o ∷ h) l e = newest-last g h l e
newest-last g (Accepted (SetPolicy f q) ∷ h) l e = accepted g f q l (lists_accepted g h) (newest_list g h) (g == f) (newest-last g h l) e
newest-last g (Accepted (Tunnel t) ∷ h) l e = subst (λ xs. IsLast xs l) (sym (append-nil (lists_accepted g h))) (newest-last g h l e)
newest-last g (Accepted (End r) ∷ h) l e = subst (λ xs. IsLast xs l) (sym (append-nil (lists_accepted g h))) (newest-last g h l e)
newest-last g (Accepted (Rekey r) ∷ h) l e = subst (λ xs. IsLast xs l) (sym (append-nil (lists_accepted g h))) (newest-last g h l e)
newest-last g (Accepted (Keys k) ∷ h) l e = subst (λ xs. IsLast xs l) (sym (append-nil (lists_accepted g h))) (newest-last g h l e)
newest-last g (Refused w ∷ h) l e = newest-last g h l e

right : (h : List ControllerAct) (g : ℕ) (o : ControllerOrder) → MayOrder h g o → ListRight g h o
right h g Read m = tt
right h g (Policy l) m = newest-last g h l m.0
right h g (PutIn x) m = tt
right h g (PutOut x) m = tt
right h g (RemoveIn n) m = tt
right h g (RemoveOut n) m = tt

pub lists-right : (p : ℕ) (h : List ControllerAct) → IsControllerPast p h → ListsRight h
lists-right p [] l = tt
lists-right p (Opened g s ∷ h) l = lists-right p h l.1
lists-right p (Cut g s ∷ h) l = lists-right p h l.1
lists-right p (Answered g s n a ∷ h) l = lists-right p h l.1
lists-right p (Heard g s t ∷ h) l = lists-right p h l.1
lists-right p (Ordered g s n o ∷ h) l = (right h g o l.0.3, lists-right p h l.1)
lists-right p (Accepted c ∷ h) l = lists-right p h l.1
lists-right p (Refused w ∷ h) l = lists-right p h l.1
