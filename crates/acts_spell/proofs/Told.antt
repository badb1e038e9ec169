-- The acts of a controller have lines, where they stand where they may and there is room for their numbers.
use Rattle.std.proofs.Common.{◌≡◌, ℕ, ◌+◌, ◌*◌, ◌<◌, ◌≤◌, ◌^◌, List, [], ◌∷◌, subst, arith}
use Rattle.std.specs.List.{AllByRecursion}
use Rattle.ikeless_tree.specs.declared.command.Peer.{Peer}
use Rattle.line_words.specs.Spelling.{IsKnown}
use Rattle.hist_acts.specs.declared.act.Act.{Act}
use Rattle.hist_acts.specs.declared.act.Act.TheVariants as acts
use Rattle.hist_acts.specs.Past.{after}
use Rattle.hist_acts.specs.Sessions.{answered, openings, orders}
use Rattle.session_pipe.specs.Sessions.{KeepsSessions, MayStand}
use Rattle.acts_spell.specs.Spelled.{IsSpelled}
use Rattle.acts_spell.proofs.Counts.{HasRoom, count_answered, count_opened, count_orders, room-step}
use Rattle.acts_spell.proofs.Found.{AreSpelled, IsGoodOrder, heard-answer-good, heard-notice-good}

-- an act of a controller at a gateway of the header, where an order has a line
abbrev pub IsTellable : List Peer → Act → Type 0
IsTellable gs (acts.Opened g s) = IsKnown gs g
IsTellable gs (acts.Cut g s) = IsKnown gs g
IsTellable gs (acts.Order g s k o) = IsKnown gs g × IsGoodOrder o
IsTellable gs (acts.Answered g s k a) = IsKnown gs g
IsTellable gs (acts.Heard g s n) = IsKnown gs g
IsTellable gs (acts.Refused w) = Unit {0}
IsTellable gs _ = ⊥

next-small : (s n c bound : ℕ) → s ≡ n + 1 → n + (c + 1) ≤ bound → bound < 2 ^ 32 → s < 2 ^ 32
next-small s n c bound e r l = omega (arith, e, r, l)

this-small : (s n c bound : ℕ) → s ≡ n → n + c ≤ bound → bound < 2 ^ 32 → s < 2 ^ 32
this-small s n c bound e r l = omega (arith, e, r, l)

answer-small : (k n c bound : ℕ) → k ≡ n + 1 → n + (c + 1) ≤ bound → bound < 2 ^ 32 → k < 2 ^ 64
answer-small k n c bound e r l = omega (arith, e, r, l)

order-small : (k n c bound : ℕ) → k ≡ n + 1 → n + (c + 1) ≤ 2051 * bound → bound < 2 ^ 32 → k < 2 ^ 64
order-small k n c bound e r l = omega (arith, e, r, l)

one-spelled : (gs : List Peer) (bound : ℕ) (a : Act) (h xs : List Act) → bound < 2 ^ 32 → AreSpelled gs h → MayStand a h
    → ((g : List ℕ) → HasRoom bound g h (a ∷ xs)) → IsTellable gs a → IsSpelled gs a
one-spelled gs bound (acts.Opened g s) h xs l p m r t = (t, next-small s (openings g h) (count_opened xs) bound m.1 (r g).openings l)
one-spelled gs bound (acts.Cut g s) h xs l p m r t = (t, this-small s (openings g h) (count_opened xs) bound m.1 (r g).openings l)
one-spelled gs bound (acts.Order g s k o) h xs l p m r t =
    let now : k ≡ orders g (openings g h) h + 1 = subst (λ (z : ℕ). k ≡ orders g z h + 1) m.1 m.2 in (
      (t.0, t.1.0),
      (
        this-small s (openings g h) (count_opened xs) bound m.1 (r g).openings l,
        order-small k (orders g (openings g h) h)
            (count_orders xs) bound now (r g).orders l,
        t.1.1,
      ),
    )
one-spelled gs bound (acts.Answered g s k a) h xs l p m r t =
    let now : k ≡ answered g (openings g h) h + 1 = subst (λ (z : ℕ). k ≡ answered g z h + 1) m.0 m.1 in
    let good = heard-answer-good gs g a h p m.2 in (
      (t, good.0),
      (
        this-small s (openings g h) (count_opened xs) bound m.0 (r g).openings l,
        answer-small k (answered g (openings g h) h)
            (count_answered xs) bound now (r g).answered l,
        good.1,
      ),
    )
one-spelled gs bound (acts.Heard g s n) h xs l p m r t =
    let good = heard-notice-good gs g n h p m.1 in
    ((t, good.0), (this-small s (openings g h) (count_opened xs) bound m.0 (r g).openings l, good.1))
one-spelled gs bound (acts.Refused w) h xs l p m r t = (tt, tt)
one-spelled gs bound a h xs l p m r t = absurd t

pub tellable-spelled : ((k xs : List Act) → KeepsSessions (after k xs) → KeepsSessions k) → (gs : List Peer) (bound : ℕ) (h xs : List Act)
    → bound < 2 ^ 32 → AreSpelled gs h
    → KeepsSessions (after h xs) → ((g : List ℕ) → HasRoom bound g h xs) → AllByRecursion (IsTellable gs) xs → AreSpelled gs xs
tellable-spelled back gs bound h [] l p k r t = tt
tellable-spelled back gs bound h (a ∷ xs) l p k r t =
    let keeps = back (a ∷ h) xs k in
    let one = one-spelled gs bound a h xs l p keeps.0 r t.0 in
    (one, tellable-spelled back gs bound (a ∷ h) xs l (one, p) k (λ g. room-step bound g a h xs keeps.1 (r g)) t.1)
