-- What a reading of the clock does is what the law of a gateway does.
use Rattle.std.proofs.Common.{◌≡◌, ℕ, Bool, true, false, max, nat_lt, List, [], ◌∷◌, ◌++◌, None, refl, sym, ap, ◌∙◌, arith, subst, if◌then◌else◌}
use Rattle.ikeless_tree.specs.declared.order.Notice.{Notice}
use Rattle.ikeless_tree.specs.declared.ends.GoneWhy.TheVariants as gone
use Rattle.life_count.specs.Lifetime.{counts_of, event_at, expiry, is_reached}
use Rattle.sad_store.specs.declared.half.Half.{Half}
use Rattle.hist_acts.specs.declared.act.Act.{Act}
use Rattle.hist_acts.specs.declared.act.Act.TheVariants as acts
use Rattle.hist_gateway.specs.Look.{given_by}
use Rattle.hist_gateway.specs.State.{GatewayState, with_clock}
use Rattle.hist_gateway.specs.Machine.{expiries_of, goings_of, look_of}
use Rattle.hist_gateway.specs.Places.{names_reached}
use Rattle.hist_gateway.proofs.LooksLemmas.{look-at-all}
use Rattle.gw_tables.specs.Kept as tables
use Rattle.gw_packets.specs.Outcome.{Outcome, outcome}
use Rattle.gw_packets.specs.Looks.{clock_read, expiries, looked}
use Rattle.gw_law.specs.Told.{ends_told, kept_of}
use Rattle.gw_law.specs.Orderly.{IsOrderly}
use Rattle.gw_law.proofs.Used.{IsTold}

ends-if : (g : List ℕ) (name : List ℕ) (xs : List Act) (names : List (List ℕ)) (b : Bool) → xs ≡ ends_told g names →
    (if b then acts.Gone g name gone.Hard ∷ xs else xs) ≡ ends_told g (if b then name ∷ names else names)
ends-if g name xs names true p = ap (λ zs. acts.Gone g name gone.Hard ∷ zs) p
ends-if g name xs names false p = p

ends-are : (g : List ℕ) (now : ℕ) (xs : List Half) → goings_of g now xs ≡ ends_told g (names_reached now xs)
ends-are g now [] = refl
ends-are g now (x ∷ xs) = ends-if g x.entry.name (goings_of g now xs) (names_reached now xs) (is_reached x.life.hard (counts_of now x.life))
    (ends-are g now xs)

given-more : (g : List ℕ) (session : ℕ) (ns ms : List Notice) → given_by g session ns
    ++ given_by g session ms ≡ given_by g session (ns ++ ms)
given-more g session [] ms = refl
given-more g session (n ∷ ns) ms = ap (λ zs. acts.Notice g session n ∷ zs) (given-more g session ns ms)

expiries-are : (g : List ℕ) (session now : ℕ) (xs : List Half) → expiries_of g session now xs ≡ given_by g session (expiries now xs)
expiries-are g session now [] = refl
expiries-are g session now (x ∷ xs) =
    let own : List Notice = expiry x.entry.name (counts_of now x.life) (event_at now x.life) in
    ap (λ zs. given_by g session own ++ zs) (expiries-are g session now xs) ∙ given-more g session own (expiries now xs)

look-told : (g : List ℕ) (session now : ℕ) (xs : List Half) →
    look_of g session now xs ≡ ends_told g (names_reached now xs) ++ given_by g session (expiries now xs)
look-told g session now xs = ap (λ zs. zs ++ expiries_of g session now xs) (ends-are g now xs)
    ∙ ap (λ zs. ends_told g (names_reached now xs) ++ zs) (expiries-are g session now xs)

-- a reading of the clock: what is then the clock, and the acts behind it
pub record IsRead (g : List ℕ) (s : GatewayState) (now : ℕ) (xs : List Act) (out : Outcome) : Type 0 where
  pub clock : now ≡ out.kept.clock
  pub told : IsTold g s (with_clock (max now s.clock) s) xs out

raised : (t now : ℕ) → nat_lt now t ≡ true → max t now ≡ t
raised t now p = grind arith

same : (t now : ℕ) → nat_lt now t ≡ false → max t now ≡ now
same t now p = grind arith

own-max : (t : ℕ) → max t t ≡ t
own-max t = grind arith

read-on : (g : List ℕ) (s : GatewayState) (t : ℕ) → IsOrderly s → nat_lt s.clock t ≡ true →
    IsRead g s t (look_of g s.session t s.halves) (looked (tables.with_clock t (kept_of s)))
read-on g s t k p =
    let s1 : GatewayState = with_clock t s in
    let now : max t s.clock ≡ t = raised t s.clock p in
    let told : IsTold g s (with_clock t s) (look_of g s.session t s.halves) (looked (tables.with_clock t (kept_of s))) =
    record { acts = look-told g s.session t s.halves; kept = look-at-all g s.session s1 k.apart k.few_spis } in
    record {
      clock = refl;
      told = subst (λ m. IsTold g s (with_clock m s) (look_of g s.session t s.halves) (looked (tables.with_clock t (kept_of s)))) (sym now)
          told;
    }

read-off : (g : List ℕ) (s : GatewayState) → IsRead g s s.clock [] (outcome None [] [] (kept_of s))
read-off g s =
    let told : IsTold g s (with_clock s.clock s) [] (outcome None [] [] (kept_of s)) = record { acts = refl; kept = refl } in
    record {
      clock = refl;
      told = subst (λ m. IsTold g s (with_clock m s) [] (outcome None [] [] (kept_of s))) (sym (own-max s.clock))
          told;
    }

read-by : (g : List ℕ) (s : GatewayState) (t : ℕ) (b : Bool) → IsOrderly s → nat_lt s.clock t ≡ b →
    IsRead g s (max t s.clock) (if b then look_of g s.session (max t s.clock) s.halves else [])
    (if b then looked (tables.with_clock t (kept_of s)) else outcome None [] [] (kept_of s))
read-by g s t true k p =
    subst (λ m. IsRead g s m (look_of g s.session m s.halves) (looked (tables.with_clock t (kept_of s)))) (sym (raised t s.clock p))
    (read-on g s t k p)
read-by g s t false k p = subst (λ m. IsRead g s m [] (outcome None [] [] (kept_of s))) (sym (same t s.clock p)) (read-off g s)

pub clock-told : (g : List ℕ) (s : GatewayState) (t : ℕ) → IsOrderly s →
    IsRead g s (max t s.clock) (if nat_lt s.clock t then look_of g s.session (max t s.clock) s.halves else []) (clock_read t (kept_of s))
clock-told g s t k = read-by g s t (nat_lt s.clock t) k refl
