-- What is kept at places, and what stands at the place that is found.
use Rattle.std.proofs.Common.{◌≡◌, ◌↔◌, ◌≤◌, ◌+◌, ℕ, zero, suc, List, [], ◌∷◌, length, take, replicate, Bool, true, false, cond, nat_lt, Some, None, Option, option_and_then, position, find, slice_get, refl, sym, ◌∙◌, ap, subst, arith}
use Rattle.std.specs.List.{position_or_len}
use Rattle.std.proofs.Math.ListN.{set}
use Rattle.std.proofs.lemmas.Grind.{common_steps}
use Rattle.std.proofs.lemmas.List.Folds.{find_at}
use Rattle.ip_packet.specs.View.{Packet}
use Rattle.ikeless_tree.specs.declared.entry.Direction.{Direction}
use Rattle.ikeless_tree.specs.declared.entry.Direction.TheVariants.{In, Out}
use Rattle.ikeless_tree.specs.declared.entry.SpdEntry.{SpdEntry}
use Rattle.spd_match.specs.Match.{decides, holds_packet}
use Rattle.spd_match.specs.declared.decisions.Decision.{Decision}
use Rattle.spd_match.specs.Kept.{AreOf, IsOf, flow_of, kept_at, packet_of}

-- ---- the entry at the first place

past : (xs : List SpdEntry) (i : ℕ) → length xs ≤ i → None ≡ slice_get xs i
past [] zero e = refl
past [] (suc i) e = refl
past (x ∷ xs) zero e = absurd (omega arith)
past (x ∷ xs) (suc i) e = past xs i (omega arith)

at_place : (xs : List SpdEntry) (n : ℕ) (b : Bool) → nat_lt n (length xs) ≡ b → option_and_then (slice_get xs) (cond b (Some n) None) ≡
    slice_get xs n
at_place xs n true e = refl
at_place xs n false e = past xs n (grind (arith, common_steps))

pub found : (p : SpdEntry → Bool) (xs : List SpdEntry) → option_and_then (slice_get xs) (position p xs) ≡ find p xs
found p xs = at_place xs (position_or_len p xs) (nat_lt (position_or_len p xs) (length xs)) refl ∙ sym (find_at p xs)

-- ---- what is kept

-- an entry decides for a packet by its flow alone
by-flow : (d : Direction) (v : Packet) (e : SpdEntry) → decides d v e ≡ decides d (packet_of (flow_of d v)) e
unfolding holds_packet
by-flow In v e = refl
by-flow Out v e = refl

-- the place of the first such entry is the list's own decision for the flow
pub own-decision : (list : List SpdEntry) (d : Direction) (v : Packet) (place : Option ℕ)
    → (place ≡ position (decides d v) list) ↔ IsOf list (record { flow = flow_of d v; place = place })
own-decision list d v place =
    let same : decides d v ≡ decides d (packet_of (flow_of d v)) = λ i e. by-flow d v e i in
    let places = ap (λ p. position p list) same in
    (λ is. is ∙ places, λ is. is ∙ sym places)

-- what stands at a place is kept
pub kept-there : (list : List SpdEntry) (places : List (Option Decision)) (i : ℕ) (x : Decision) → slice_get places i ≡ Some (Some x)
    → AreOf list (kept_at places) → IsOf list x
kept-there list [] zero x e all = cc
kept-there list [] (suc i) x e all = cc
kept-there list (None ∷ places) zero x e all = cc
kept-there list (Some y ∷ places) zero x e all = let same : y ≡ x = cc in subst (IsOf list) same all.0
kept-there list (None ∷ places) (suc i) x e all = kept-there list places i x e all
kept-there list (Some y ∷ places) (suc i) x e all = kept-there list places i x e all.1

-- one more decision of the list is kept at a place
pub kept-more : (list : List SpdEntry) (places : List (Option Decision)) (i : ℕ) (x : Decision) → IsOf list x
    → AreOf list (kept_at places) → AreOf list (kept_at (set places i (Some x)))
kept-more list [] i x one all = tt
kept-more list (None ∷ places) zero x one all = (one, all)
kept-more list (Some y ∷ places) zero x one all = (one, all.1)
kept-more list (None ∷ places) (suc i) x one all = kept-more list places i x one all
kept-more list (Some y ∷ places) (suc i) x one all = (all.0, kept-more list places i x one all.1)

-- what is true of no decision is true of nothing alone
pub nothing-else : (P : Option Decision → Type 0) → ((x : Decision) → P (Some x) → ⊥) → (y : Option Decision) → P y → y ≡ None
nothing-else P never None e = refl
nothing-else P never (Some x) e = absurd (never x e)

pub none-kept : (n : ℕ) → kept_at (replicate n None) ≡ []
none-kept zero = refl
none-kept (suc n) = none-kept n

-- one more place is empty
pub emptied-next : (places : List (Option Decision)) (i : ℕ) → kept_at (take i places) ≡ []
    → kept_at (take (i + 1) (set places i None)) ≡ []
emptied-next [] zero e = refl
emptied-next [] (suc i) e = let next : suc i + 1 ≡ suc (i + 1) = omega arith in rw next refl
emptied-next (y ∷ places) zero e = refl
emptied-next (None ∷ places) (suc i) e = let next : suc i + 1 ≡ suc (i + 1) = omega arith in rw next (emptied-next places i e)
emptied-next (Some y ∷ places) (suc i) e = cc
