-- What is told of a sink, over several writes.
use Rattle.std.proofs.Common.{ℕ, List, ◌++◌, Option, Some, None, ◌∙◌, ap, append_assoc}
use Rattle.ikl_base.specs.Outside.{Gains}

pub gains_more : (a b c : Option (List ℕ)) (x y : List ℕ) → Gains a b x → Gains b c y → Gains a c (x ++ y)
gains_more None None None x y p q = tt
gains_more None None (Some c) x y p q = q
gains_more None (Some b) c x y p q = absurd p
gains_more (Some a) None c x y p q = absurd p
gains_more (Some a) (Some b) None x y p q = absurd q
gains_more (Some a) (Some b) (Some c) x y p q = q ∙ (ap (λ z. z ++ y) p ∙ append_assoc a x y)
