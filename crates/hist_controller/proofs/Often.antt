-- Each half is ordered put once at most, each with its key, and each direction no more than its causes allow.
use Rattle.std.proofs.Common.{◌≡◌, ℕ, ◌+◌, ◌-◌, ◌<◌, ◌≤◌, Bool, true, false, ◌==◌, not, ◌&&◌, List, [], ◌∷◌, ◌++◌, Some, inl, inr, length, refl, sym, subst, ◌∙◌, ap, arith, append_assoc}
use Rattle.hist_controller.specs.Acts.{Way, Association, ControllerOrder, Read, Policy, PutIn, PutOut, RemoveIn, RemoveOut, ControllerAct, Opened, Cut, Answered, Heard, Ordered, Accepted, Refused}
use Rattle.hist_controller.specs.Past.{oldest, queue, is_read, keys, key_of, serials, keys_after, spare, PuttingIn, PuttingOut, RemovingIn, is_answer_to, is_out_ordered, has_answer, is_in_progress, inbound_put, left}
use Rattle.hist_controller.specs.Machine.{place}
use Rattle.hist_controller.specs.Clauses.{Has, MayOrder, IsControllerPast, MayOrderInPut, next_key}
use Rattle.hist_controller.specs.Counts.{times, KeysRight}
use Rattle.hist_controller.proofs.Lists.{length-more}
use Rattle.hist_controller.proofs.Serials.{has-more, has-filter, has-if, put-one, low}

-- ## each half is put once at most

pub record Once (n : ℕ) (h : List ControllerAct) : Type 0 where
  pub few_in : times PuttingIn n h ≤ 1
  pub new_in : serials h < n → times PuttingIn n h ≡ 0
  pub few_out : times PuttingOut n h ≤ 1
  pub new_out : serials h < n → times PuttingOut n h ≡ 0
  pub sent_out : is_out_ordered n h ≡ false → times PuttingOut n h ≡ 0

pub not-sent : (a b c d e : Bool) → (a && not b && c && d && e) ≡ true → b ≡ false
not-sent a b c d e q = grind arith

once-order : (p : ℕ) (n : ℕ) (h : List ControllerAct) (g s i : ℕ) (o : ControllerOrder) → IsControllerPast p h → MayOrder h g o → Once n h
    → Once n (Ordered g s i o ∷ h)
once-order p n h g s i Read l m k = record {
  few_in = k.few_in;
  new_in = k.new_in;
  few_out = k.few_out;
  new_out = k.new_out;
  sent_out =
      k.sent_out;
}
once-order p n h g s i (Policy q) l m k = record {
  few_in = k.few_in;
  new_in = k.new_in;
  few_out = k.few_out;
  new_out = k.new_out;
  sent_out = k.sent_out;
}
once-order p n h g s i (PutIn x) l m k =
    let e = m.serial in
    record {
      few_in = grind arith;
      new_in = λ w. grind arith;
      few_out = k.few_out;
      new_out = λ w. grind arith;
      sent_out = λ w. grind arith;
    }
once-order p n h g s i (PutOut x) l m k =
    let e = not-sent (is_in_progress h x) (is_out_ordered x.serial h) (has_answer PuttingIn x.serial h) (is_read m.way.sender h)
    (is_read m.way.receiver h) m.may in
    let b = low p h l m.way x m.left in
    record {
      few_in = k.few_in;
      new_in = k.new_in;
      few_out = grind arith;
      new_out = λ w. grind arith;
      sent_out = λ w. grind arith;
    }
once-order p n h g s i (RemoveIn q) l m k = record {
  few_in = k.few_in;
  new_in = k.new_in;
  few_out = k.few_out;
  new_out = k.new_out;
  sent_out = k.sent_out;
}
once-order p n h g s i (RemoveOut q) l m k = record {
  few_in = k.few_in;
  new_in = k.new_in;
  few_out = k.few_out;
  new_out = k.new_out;
  sent_out = k.sent_out;
}

pub once : (p : ℕ) (n : ℕ) (h : List ControllerAct) → IsControllerPast p h → Once n h
once p n [] l = record { few_in = omega arith; new_in = λ w. refl; few_out = omega arith; new_out = λ w. refl; sent_out = λ w. refl }
once p n (Opened g s ∷ h) l = let k = once p n h l.1 in
    record { few_in = k.few_in; new_in = k.new_in; few_out = k.few_out; new_out = k.new_out; sent_out = k.sent_out }
once p n (Cut g s ∷ h) l = let k = once p n h l.1 in
    record { few_in = k.few_in; new_in = k.new_in; few_out = k.few_out; new_out = k.new_out; sent_out = k.sent_out }
once p n (Answered g s i a ∷ h) l = let k = once p n h l.1 in
    record { few_in = k.few_in; new_in = k.new_in; few_out = k.few_out; new_out = k.new_out; sent_out = k.sent_out }
once p n (Heard g s t ∷ h) l = let k = once p n h l.1 in
    record { few_in = k.few_in; new_in = k.new_in; few_out = k.few_out; new_out = k.new_out; sent_out = k.sent_out }
once p n (Ordered g s i o ∷ h) l = once-order p n h g s i o l.1 l.0.3 (once p n h l.1)
once p n (Accepted c ∷ h) l = let k = once p n h l.1 in
    record { few_in = k.few_in; new_in = k.new_in; few_out = k.few_out; new_out = k.new_out; sent_out = k.sent_out }
once p n (Refused w ∷ h) l = let k = once p n h l.1 in
    record { few_in = k.few_in; new_in = k.new_in; few_out = k.few_out; new_out = k.new_out; sent_out = k.sent_out }

pub put-once : (p : ℕ) (h : List ControllerAct) → IsControllerPast p h → (n : ℕ) → (times PuttingIn n h ≤ 1) × (times PuttingOut n h ≤ 1)
put-once p h l n = let k = once p n h l in (k.few_in, k.few_out)

-- ## serial n has the n-th key

pub place-stays : {A : Type 0} (i : ℕ) (xs ys : List A) (x : A) → place i xs ≡ Some x → place i (xs ++ ys) ≡ Some x
place-stays i [] ys x e = cc
place-stays i (z ∷ xs) ys x e = let ih = place-stays (i - 1) xs ys x in grind (arith, ih)

place-next : (i : ℕ) (xs : List (List ℕ)) (ks : List (List ℕ)) (k : List ℕ) → i ≡ length xs → next_key ks ≡ Some k
    → place i (xs ++ ks) ≡ Some k
place-next i [] [] k e q = cc
place-next i [] (y ∷ ks) k e q = let z : i ≡ 0 = grind arith in rw z q
place-next i (z ∷ xs) ks k e q = let ih = place-next (i - 1) xs ks k (grind arith) q in let n : (i == 0) ≡ false = grind arith in rw n ih

used-next : (x : Association) (ks : List (List ℕ)) → next_key ks ≡ Some x.key → ks ≡ x.key ∷ keys_after (PutIn x) ks
used-next x [] e = cc
used-next x (k ∷ ks) e = let q : k ≡ x.key = cc in ap (λ t. t ∷ ks) q

pub record Keyed (h : List ControllerAct) : Type 0 where
  pub gone : List (List ℕ)
  pub split : keys h ≡ gone ++ spare h
  pub many : length gone ≡ serials h
  pub right : (d : Way) (x : Association) → Has x (left d h) → place (x.serial - 1) (keys h) ≡ Some x.key
  pub all : KeysRight h

put-place : (h : List ControllerAct) (k : Keyed h) (x : Association) → x.serial ≡ serials h + 1 → next_key (spare h) ≡ Some x.key
    → place (x.serial - 1) (keys h) ≡ Some x.key
put-place h k x e q = let m = k.many in rw k.split (place-next (x.serial - 1) k.gone (spare h) x.key (grind arith) q)

put-right : (h : List ControllerAct) (g : ℕ) (k : Keyed h) (o : ControllerOrder) (x : Association) → MayOrder h g o → o ≡ PutIn x
    → place (x.serial - 1) (keys h) ≡ Some x.key
put-right h g k o x m e = let m' : MayOrderInPut h g x = subst (MayOrder h g) e m in put-place h k x m'.serial m'.key

right-order : (h : List ControllerAct) (g s i : ℕ) (o : ControllerOrder) (k : Keyed h) → MayOrder h g o → (d : Way) (x : Association)
    → Has x (left d h ++ inbound_put d o) → place (x.serial - 1) (keys h) ≡ Some x.key
right-order h g s i o k m d x j = elim (has-more x (left d h) (inbound_put d o) j) as (λ q. place (x.serial - 1) (keys h) ≡ Some x.key) [
  | inl a ↦ k.right d x a
  | inr b ↦ put-right h g k o x m (put-one d x o b).0
]

keyed-order : (h : List ControllerAct) (g s i : ℕ) (o : ControllerOrder) → MayOrder h g o → Keyed h → Keyed (Ordered g s i o ∷ h)
keyed-order h g s i Read m k = record {
  gone = k.gone;
  split = k.split;
  many = k.many;
  right = right-order h g s i Read k m;
  all =
      (tt, k.all);
}
keyed-order h g s i (Policy l) m k = record {
  gone = k.gone;
  split = k.split;
  many = k.many;
  right = right-order h g s i (Policy l) k m;
  all = (tt, k.all);
}
keyed-order h g s i (PutIn x) m k =
    record {
      gone = k.gone ++ x.key ∷ [];
      split = k.split ∙ (ap (λ t. k.gone ++ t) (used-next x (spare h) m.key)
          ∙ sym (append_assoc k.gone (x.key ∷ []) (keys_after (PutIn x) (spare h))));
      many = length-more k.gone x.key ∙ ap (λ t. t + 1) k.many;
      right = right-order h g s i (PutIn x) k m;
      all = (put-place h k x m.serial m.key, k.all);
    }
keyed-order h g s i (PutOut x) m k = record {
  gone = k.gone;
  split = k.split;
  many = k.many;
  right = right-order h g s i (PutOut x) k m;
  all = (k.right m.way x m.left, k.all);
}
keyed-order h g s i (RemoveIn n) m k = record {
  gone = k.gone;
  split = k.split;
  many = k.many;
  right = right-order h g s i (RemoveIn n) k m;
  all = (tt, k.all);
}
keyed-order h g s i (RemoveOut n) m k = record {
  gone = k.gone;
  split = k.split;
  many = k.many;
  right =
      right-order h g s i (RemoveOut n) k m;
  all = (tt, k.all);
}

pub keyed : (p : ℕ) (h : List ControllerAct) → IsControllerPast p h → Keyed h
keyed p [] l = record { gone = []; split = refl; many = refl; right = λ d x i. absurd i; all = tt }
keyed p (Opened g s ∷ h) l = let k = keyed p h l.1 in record { gone = k.gone; split = k.split; many = k.many; right = k.right; all = k.all }
keyed p (Cut g s ∷ h) l = let k = keyed p h l.1 in record { gone = k.gone; split = k.split; many = k.many; right = k.right; all = k.all }
keyed p (Answered g s n a ∷ h) l = let k = keyed p h l.1 in
    record {
      gone = k.gone;
      split = k.split;
      many = k.many;
      right =
          λ d x i. k.right d x (has-filter (λ y. not (is_answer_to RemovingIn y.serial (oldest (queue g h)))) x (left d h) i);
      all = k.all;
    }
keyed p (Heard g s t ∷ h) l = let k = keyed p h l.1 in
    record { gone = k.gone; split = k.split; many = k.many; right = k.right; all = k.all }
keyed p (Ordered g s n o ∷ h) l = keyed-order h g s n o l.0.3 (keyed p h l.1)
keyed p (Accepted c ∷ h) l =
    let k = keyed p h l.1 in
    record {
      gone = k.gone;
      split = ap (λ t. t ++ key_of c) k.split ∙ append_assoc k.gone (spare h) (key_of c);
      many = k.many;
      right = λ d x i. place-stays (x.serial - 1) (keys h) (key_of c) x.key (k.right d x (has-if x _ (left d h) i).1);
      all = k.all;
    }
keyed p (Refused w ∷ h) l = let k = keyed p h l.1 in record { gone = k.gone; split = k.split; many = k.many; right = k.right; all = k.all }

pub keys-right : (p : ℕ) (h : List ControllerAct) → IsControllerPast p h → KeysRight h
keys-right p h l = (keyed p h l).all
