-- What is told of devices, over several calls.
use Rattle.std.proofs.Common.{ℕ, List, [], ◌++◌, Option, Some, None, refl, sym, ◌∙◌, ap, append_assoc, append-nil}
use Rattle.ikl_base.specs.Outside.{Gains, Loses}

pub gains_none : (a : Option (List ℕ)) → Gains a a []
gains_none None = tt
gains_none (Some x) = sym (append-nil x)

pub gains_more : (a b c : Option (List ℕ)) (x y : List ℕ) → Gains a b x → Gains b c y → Gains a c (x ++ y)
gains_more None None None x y p q = tt
gains_more None None (Some c) x y p q = q
gains_more None (Some b) c x y p q = absurd p
gains_more (Some a) None c x y p q = absurd p
gains_more (Some a) (Some b) None x y p q = absurd q
gains_more (Some a) (Some b) (Some c) x y p q = q ∙ (ap (λ z. z ++ y) p ∙ append_assoc a x y)

pub loses_none : (a : Option (List ℕ)) → Loses a a []
loses_none None = tt
loses_none (Some x) = refl

pub loses_more : (a b c : Option (List ℕ)) (x y : List ℕ) → Loses a b x → Loses b c y → Loses a c (x ++ y)
loses_more None None None x y p q = tt
loses_more None None (Some c) x y p q = q
loses_more None (Some b) c x y p q = absurd p
loses_more (Some a) None c x y p q = absurd p
loses_more (Some a) (Some b) None x y p q = absurd q
loses_more (Some a) (Some b) (Some c) x y p q = p ∙ (ap (λ z. x ++ z) q ∙ sym (append_assoc x y c))

-- no more octets
pub loses_no_more : (a b c : Option (List ℕ)) (x : List ℕ) → Loses a b x → Loses b c [] → Loses a c x
loses_no_more None None None x p q = tt
loses_no_more None None (Some c) x p q = q
loses_no_more None (Some b) c x p q = absurd p
loses_no_more (Some a) None c x p q = absurd p
loses_no_more (Some a) (Some b) None x p q = absurd q
loses_no_more (Some a) (Some b) (Some c) x p q = p ∙ ap (λ z. x ++ z) q
