-- What a direction is given is its next order, which hangs on its own part alone.
use Rattle.std.proofs.Common.{◌≡◌, ℕ, Bool, true, false, not, ◌&&◌, ◌||◌, List, [], ◌∷◌, Option, Some, None, inl, inr, refl, sym, ◌∙◌, ap, if◌then◌else◌}
use Rattle.hist_controller.specs.Acts.{Way, Association, ControllerAct}
use Rattle.hist_controller.specs.Past.{is_read, spare, is_over, left, is_busy, is_wanted}
use Rattle.hist_controller.specs.Law.{may_out_remove, may_in_remove, may_out_put, may_in_put, first, key_put, out_put, in_remove, out_remove, give}
use Rattle.hist_controller.specs.State.{KeptAssociation, association_of}
use Rattle.hist_controller.specs.Clauses.{Has}
use Rattle.hist_controller.specs.Touch.{NextOrder, Nothing, RemovesOut, RemovesIn, PutsOut, new_put, next_out_put, next_in_remove, next_out_remove, next_order, with_key, acts_for}

-- ## the acts of the next order

gives-key : (h : List ControllerAct) (d : Way) (ks : List (List ℕ)) → spare h ≡ ks
    → key_put h d ks ≡ acts_for h d (new_put (may_in_put h d))
gives-key h d [] e = none (may_in_put h d)
  where
    none : (b : Bool) → ◌≡◌ {A = List ControllerAct} [] (acts_for h d (new_put b))
    none true = sym (ap (with_key h d) e)
    none false = refl
gives-key h d (k ∷ ks) e = some (may_in_put h d)
  where
    some : (b : Bool) → (if b then with_key h d (k ∷ ks) else []) ≡ acts_for h d (new_put b)
    some true = sym (ap (with_key h d) e)
    some false = refl

gives-out-put : (h : List ControllerAct) (d : Way) (o : Option Association) → out_put h d o ≡ acts_for h d (next_out_put h d o)
gives-out-put h d (Some x) = refl
gives-out-put h d None = gives-key h d (spare h) refl

gives-in-remove : (h : List ControllerAct) (d : Way) (o : Option Association) → in_remove h d o ≡ acts_for h d (next_in_remove h d o)
gives-in-remove h d (Some x) = refl
gives-in-remove h d None = gives-out-put h d (first (may_out_put h d) (left d h))

gives-out-remove : (h : List ControllerAct) (d : Way) (o : Option Association) → out_remove h d o ≡ acts_for h d (next_out_remove h d o)
gives-out-remove h d (Some x) = refl
gives-out-remove h d None = gives-in-remove h d (first (may_in_remove h d) (left d h))

pub gives-next : (h : List ControllerAct) (d : Way) → give h d ≡ acts_for h d (next_order h d)
gives-next h d = at (is_busy d h)
  where
    at : (b : Bool) → (if b then [] else out_remove h d (first (may_out_remove h d) (left d h))) ≡ acts_for h d
        (if b then Nothing else next_out_remove h d (first (may_out_remove h d) (left d h)))
    at true = refl
    at false = gives-out-remove h d (first (may_out_remove h d) (left d h))

-- ## on what it hangs

pub record SamePart (h k : List ControllerAct) (d : Way) : Type 0 where
  pub busy : is_busy d k ≡ is_busy d h
  pub each : (x : Association) → Has x (left d h) → association_of k x ≡ association_of h x
  pub left : left d k ≡ left d h
  pub sender : is_read d.sender k ≡ is_read d.sender h
  pub receiver : is_read d.receiver k ≡ is_read d.receiver h
  pub wanted : is_wanted d k ≡ is_wanted d h
  pub over : is_over d k ≡ is_over d h

first-same : (p q : Association → Bool) (xs : List Association) → ((x : Association) → Has x xs → p x ≡ q x) → first p xs ≡ first q xs
first-same p q [] f = refl
first-same p q (x ∷ xs) f = rw (f x (inl refl), first-same p q xs (λ y i. f y (inr i))) refl

abbrev out-remove-of : KeptAssociation → Bool → Bool
out-remove-of k r = k.ended && k.out_sent && not k.out_gone && r

abbrev in-remove-of : KeptAssociation → Bool → Bool
in-remove-of k r = k.ended && (not k.out_sent || k.out_gone) && r

abbrev out-put-of : KeptAssociation → Bool → Bool → Bool
out-put-of k r s = (not k.ended && not k.out_done) && not k.out_sent && k.in_done && r && s

abbrev chosen-put : Option Association → Bool → NextOrder
chosen-put (Some x) m = PutsOut x
chosen-put None m = new_put m

abbrev chosen-in : Option Association → Option Association → Bool → NextOrder
chosen-in (Some x) u m = RemovesIn x
chosen-in None u m = chosen-put u m

abbrev chosen-out : Option Association → Option Association → Option Association → Bool → NextOrder
chosen-out (Some x) i u m = RemovesOut x
chosen-out None i u m = chosen-in i u m

abbrev chosen : Bool → Option Association → Option Association → Option Association → Bool → NextOrder
chosen b o i u m = if b then Nothing else chosen-out o i u m

is-chosen-put : (h : List ControllerAct) (d : Way) (u : Option Association) → next_out_put h d u ≡ chosen-put u (may_in_put h d)
is-chosen-put h d (Some x) = refl
is-chosen-put h d None = refl

is-chosen-in : (h : List ControllerAct) (d : Way) (i : Option Association)
    → next_in_remove h d i ≡ chosen-in i (first (may_out_put h d) (left d h)) (may_in_put h d)
is-chosen-in h d (Some x) = refl
is-chosen-in h d None = is-chosen-put h d (first (may_out_put h d) (left d h))

is-chosen-out : (h : List ControllerAct) (d : Way) (o : Option Association)
    → next_out_remove h d o ≡ chosen-out o (first (may_in_remove h d) (left d h)) (first (may_out_put h d) (left d h)) (may_in_put h d)
is-chosen-out h d (Some x) = refl
is-chosen-out h d None = is-chosen-in h d (first (may_in_remove h d) (left d h))

is-chosen : (h : List ControllerAct) (d : Way) → next_order h d ≡ chosen (is_busy d h) (first (may_out_remove h d) (left d h))
    (first (may_in_remove h d) (left d h)) (first (may_out_put h d) (left d h)) (may_in_put h d)
is-chosen h d = ap (λ n. if is_busy d h then Nothing else n) (is-chosen-out h d (first (may_out_remove h d) (left d h)))

same-chosen : (b b' : Bool) (o o' i i' u u' : Option Association) (m m' : Bool) → b ≡ b' → o ≡ o' → i ≡ i' → u ≡ u' → m ≡ m'
    → chosen b o i u m ≡ chosen b' o' i' u' m'
same-chosen b b' o o' i i' u u' m m' p q r s t = ap (λ z. chosen z o i u m) p
    ∙ (ap (λ z. chosen b' z i u m) q
    ∙ (ap (λ z. chosen b' o' z u m) r ∙ (ap (λ z. chosen b' o' i' z m) s ∙ ap (λ z. chosen b' o' i' u' z) t)))

pub same-next : (h k : List ControllerAct) (d : Way) → SamePart h k d → next_order k d ≡ next_order h d
same-next h k d s =
    let a : first (may_out_remove k d) (left d k) ≡ first (may_out_remove h d) (left d h) = ap (first (may_out_remove k d)) s.left
    ∙ first-same (may_out_remove k d) (may_out_remove h d) (left d h) (λ x i. ap (λ z. out-remove-of z (is_read d.sender k))
    (s.each x i) ∙ ap (out-remove-of (association_of h x)) s.sender) in
    let b : first (may_in_remove k d) (left d k) ≡ first (may_in_remove h d) (left d h) = ap (first (may_in_remove k d)) s.left
    ∙ first-same (may_in_remove k d) (may_in_remove h d) (left d h) (λ x i. ap (λ z. in-remove-of z (is_read d.receiver k)) (s.each x i)
    ∙ ap (in-remove-of (association_of h x)) s.receiver) in
    let c : first (may_out_put k d) (left d k) ≡ first (may_out_put h d) (left d h) = ap (first (may_out_put k d)) s.left
    ∙ first-same (may_out_put k d) (may_out_put h d) (left d h)
    (λ x i. ap (λ z. out-put-of z (is_read d.sender k) (is_read d.receiver k)) (s.each x i)
    ∙ (ap (λ r. out-put-of (association_of h x) r (is_read d.receiver k)) s.sender
    ∙ ap (out-put-of (association_of h x) (is_read d.sender h)) s.receiver)) in
    let e : may_in_put k d ≡ may_in_put h d = ap (λ w. (w && not (is_over d k)) && is_read d.sender k && is_read d.receiver k) s.wanted
    ∙ (ap (λ o. (is_wanted d h && not o) && is_read d.sender k && is_read d.receiver k) s.over
    ∙ (ap (λ r. (is_wanted d h && not (is_over d h)) && r && is_read d.receiver k) s.sender
    ∙ ap (λ r. (is_wanted d h && not (is_over d h)) && is_read d.sender h && r) s.receiver)) in
    is-chosen k d ∙ (same-chosen (is_busy d k) (is_busy d h) _ _ _ _ _ _ (may_in_put k d) (may_in_put h d) s.busy a b c e
    ∙ sym (is-chosen h d))
