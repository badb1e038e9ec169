-- The list stands for the function, act by act.
use Rattle.std.proofs.Common.{◌≡◌, ℕ, ◌-◌, ◌<◌, Bool, true, false, ◌==◌, List, [], ◌∷◌, Some, length, refl, ◌∙◌, arith, if◌then◌else◌}
use Rattle.hist_controller.specs.Acts.{PlacedCommand, SetPolicy, Tunnel, End, Rekey, Keys, ControllerAct, Opened, Cut, Answered, Heard, Ordered, Accepted, Refused}
use Rattle.hist_controller.specs.State.{KeptGateway, gateway_opened, gateway_cut, gateway_answered, gateway_ordered, gateway_told, did}
use Rattle.hist_controller.specs.Table.{Table, gateway_at, change, listed, told_gates, seen, did_table, fits_placed, Fits}
use Rattle.hist_controller.proofs.KeptState.{same-at, same-state}

at-change : (f g : ℕ) (k : KeptGateway → KeptGateway) (xs : List KeptGateway) → f < length xs
    → gateway_at g (change f k xs) ≡ (if g == f then k (gateway_at g xs) else gateway_at g xs)
at-change f g k [] e = absurd (omega arith)
at-change f g k (x ∷ xs) e =
    let ih = at-change (f - 1) (g - 1) k xs in
    grind (arith, ih)

at-told : (c : PlacedCommand) (g : ℕ) (xs : List KeptGateway) → fits_placed (length xs) c
    → gateway_at g (told_gates c xs) ≡ gateway_told c g (gateway_at g xs)
at-told (SetPolicy f l) g xs e = at-change f g (listed l) xs e ∙ by-if (g == f) (gateway_at g xs)
  where
    by-if : (b : Bool) (x : KeptGateway) → (if b then listed l x else x) ≡ record x { list = if b then Some l else x.list }
    by-if true x = refl
    by-if false x = refl
at-told (Tunnel t) g xs e = refl
at-told (End r) g xs e = refl
at-told (Rekey r) g xs e = refl
at-told (Keys k) g xs e = refl

pub seen-did : (t : Table) (a : ControllerAct) → Fits (length t.gateways) a → seen (did_table t a) ≡ did (seen t) a
seen-did t (Opened f n) e = same-state _ _ _ _ _ _ _ (same-at _ _ (λ g. at-change f g gateway_opened t.gateways e)) refl
seen-did t (Cut f n) e = same-state _ _ _ _ _ _ _ (same-at _ _ (λ g. at-change f g gateway_cut t.gateways e)) refl
seen-did t (Answered f n i a) e = same-state _ _ _ _ _ _ _ (same-at _ _ (λ g. at-change f g (gateway_answered i) t.gateways e)) refl
seen-did t (Heard f s n) e = refl
seen-did t (Ordered f n i o) e = same-state _ _ _ _ _ _ _ (same-at _ _ (λ g. at-change f g (gateway_ordered o) t.gateways e)) refl
seen-did t (Accepted c) e = same-state _ _ _ _ _ _ _ (same-at _ _ (λ g. at-told c g t.gateways e)) refl
seen-did t (Refused w) e = refl
