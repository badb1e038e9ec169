-- An association of which the inbound half was ordered removed is ended.
use Rattle.std.proofs.Common.{◌≡◌, ℕ, Bool, true, List, [], ◌∷◌}
use Rattle.std.specs.Str.{bytes_eq}
use Rattle.ikeless_tree.specs.declared.order.Order.TheVariants as asks
use Rattle.ikeless_tree.specs.Half.{in_half}
use Rattle.hist_acts.specs.declared.act.Act.{Act}
use Rattle.hist_acts.specs.declared.act.Act.TheVariants as acts
use Rattle.hist_safety.specs.Orders.{is_removal_ordered}
use Rattle.hist_safety.specs.Ended.{NeverEnds, RemovedEnded}
use Rattle.hist_safety.proofs.Basics.{name-is, no, or-split}

pub doomed-ended : (ended : List ℕ → List Act → Bool) → NeverEnds ended → (h : List Act) → RemovedEnded ended h → (t : List ℕ)
    → is_removal_ordered (in_half t) h ≡ true → ended t h ≡ true
doomed-ended ended n [] r t e = absurd (no e)
doomed-ended ended n (acts.Order f s k (asks.Remove x) ∷ h) r t e =
    n t (acts.Order f s k (asks.Remove x)) h (or-split {A = ended t h ≡ true} (bytes_eq x (in_half t)) (is_removal_ordered (in_half t) h)
    (λ q. r.0 t (name-is x (in_half t) q)) (doomed-ended ended n h r.1 t) e)
doomed-ended ended n (acts.Order f s k asks.Read ∷ h) r t e = n t (acts.Order f s k asks.Read) h (doomed-ended ended n h r t e)
doomed-ended ended n (acts.Order f s k (asks.Policy l) ∷ h) r t e = n t (acts.Order f s k (asks.Policy l)) h (doomed-ended ended n h r t e)
doomed-ended ended n (acts.Order f s k (asks.Put d) ∷ h) r t e = n t (acts.Order f s k (asks.Put d)) h (doomed-ended ended n h r t e)
doomed-ended ended n (a ∷ h) r t e = n t a h (doomed-ended ended n h r t e)
