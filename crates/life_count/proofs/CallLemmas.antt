-- The counts of a lifetime look back over all calls.
use Rattle.std.proofs.Common.{◌≡◌, ℕ, ◌+◌, false, List, [], ◌∷◌, refl, sym, ap, ◌∙◌}
use Rattle.ikeless_tree.specs.declared.sad.Limits.{Limits}
use Rattle.life_count.specs.Lifetime.{Lifetime, counted, counts_of, event_at, with_told, looked}
use Rattle.life_count.specs.Calls.{Call, Use, Tick, Session, octets_of, uses_of, last_use, counts_after, was_told, told_by, next_event, life_after}
use Rattle.life_count.proofs.CountLemmas.{life-with, counted-life}

-- what is kept, by looking back
abbrev pub life-of : Limits → Limits → ℕ → List Call → Lifetime
life-of hard soft installed h = life-with hard soft installed (last_use installed h) (octets_of h) (uses_of h)
    (was_told hard soft installed h)

-- the same after a use that nothing was told of
used-life : (hard soft : Limits) (installed size now : ℕ) (h : List Call) → counted size now (life-of hard soft installed h) ≡ life-with
    hard soft installed now (octets_of h + size) (uses_of h + 1) (was_told hard soft installed h)
used-life hard soft installed size now h =
    sym (counted-life hard soft installed (last_use installed h) now (octets_of h) (uses_of h) size (was_told hard soft installed h))

pub life-is : (hard soft : Limits) (installed : ℕ) (h : List Call) → life_after hard soft installed h ≡ life-of hard soft installed h
life-is hard soft installed [] = refl
life-is hard soft installed (Use size now ∷ h) = ap (λ l. looked now (counted size now l)) (life-is hard soft installed h)
    ∙ ap (looked now) (used-life hard soft installed size now h)
life-is hard soft installed (Tick now ∷ h) = ap (looked now) (life-is hard soft installed h)
life-is hard soft installed (Session ∷ h) = ap (with_told false) (life-is hard soft installed h)

pub counts-back : (hard soft : Limits) (installed now : ℕ) (h : List Call) → counts_of now (life_after hard soft installed h) ≡ counts_after
    installed now h
counts-back hard soft installed now h = ap (counts_of now) (life-is hard soft installed h)

pub event-back : (hard soft : Limits) (installed : ℕ) (h : List Call) (c : Call) → next_event (life_after hard soft installed h) c ≡ told_by
    hard soft installed h c
event-back hard soft installed h (Use size now) = ap (λ l. event_at now (counted size now l)) (life-is hard soft installed h)
    ∙ ap (event_at now) (used-life hard soft installed size now h)
event-back hard soft installed h (Tick now) = ap (event_at now) (life-is hard soft installed h)
event-back hard soft installed h Session = refl
