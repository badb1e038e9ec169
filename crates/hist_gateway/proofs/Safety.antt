-- A past in which each act may follow those before it is safe.
use Rattle.std.proofs.Common.{◌≡◌, ◌≤◌, ℕ, ◌+◌, ◌==◌, Bool, true, false, List, [], ◌∷◌, refl, sym, ◌∙◌, ap, subst, arith, if◌then◌else◌}
use Rattle.std.proofs.lemmas.Bool.{and_parts}
use Rattle.std.specs.Str.{bytes_eq}
use Rattle.replay_win.specs.declared.verdict.Verdict.TheVariants as verdicts
use Rattle.replay_win.specs.Marks.{is_among, is_below, greatest, verdict_by, verdict_over}
use Rattle.hist_acts.specs.declared.act.Act.{Act}
use Rattle.hist_acts.specs.declared.act.Act.TheVariants as acts
use Rattle.hist_acts.specs.Past.{after}
use Rattle.ikeless_tree.specs.declared.sad.SadEntry.{SadEntry}
use Rattle.hist_halves.specs.Sealed.{number_of}
use Rattle.hist_halves.specs.Halves.{is_half, sent, numbers_taken}
use Rattle.hist_gateway.specs.Block.{Gateway, GatewayEvent, gw_block, gw_history}
use Rattle.hist_gateway.specs.May.{GatewayMayAct, IsGatewayPast}
use Rattle.hist_gateway.specs.Safe.{numbers, IsGatewaySafe}
use Rattle.hist_gateway.proofs.KeepsLemmas.{same-is}
use Rattle.hist_gateway.proofs.MayAct.{AllFit, may-block}
use Rattle.hist_gateway.proofs.KeptSteps.{after-append}
use Rattle.hist_gateway.proofs.LiveHalves.{lawful-after}

-- ---- numbers are at most the count

abbrev pub AllUpTo : ℕ → List ℕ → Type 0
AllUpTo m [] = Unit {0}
AllUpTo m (x ∷ xs) = (x ≤ m) × AllUpTo m xs

more : (m : ℕ) (xs : List ℕ) → AllUpTo m xs → AllUpTo (m + 1) xs
more m [] p = tt
more m (x ∷ xs) p = (omega (arith, p.0), more m xs p.1)

unused : (m : ℕ) (xs : List ℕ) → AllUpTo m xs → is_among (m + 1) xs ≡ false
unused m [] p = refl
unused m (x ∷ xs) p = let ih = unused m xs p.1 in let q : x ≤ m = p.0 in grind arith

few-put : (b : Bool) (m : ℕ) (xs : List ℕ) → AllUpTo m xs → AllUpTo (if b then 0 else m) (if b then [] else xs)
few-put true m xs p = tt
few-put false m xs p = p

few-sent : (b : Bool) (m k : ℕ) (xs : List ℕ) → AllUpTo m xs → (b ≡ true → k ≤ m + 1)
    → AllUpTo (if b then m + 1 else m) (if b then k ∷ xs else xs)
few-sent true m k xs p q = (q refl, more m xs p)
few-sent false m k xs p q = p

same-sent : (h : List Act) (f y g x : List ℕ) (n : ℕ) → n ≡ sent f y h + 1 → is_half f y g x ≡ true → n ≤ sent g x h + 1
same-sent h f y g x n e own =
    let both = and_parts (bytes_eq f g) (bytes_eq y x) own in
    let same : sent f y h ≡ sent g x h = ap (λ t. sent t y h) (same-is f g both.0) ∙ ap (λ t. sent g t h) (same-is y x both.1) in
    omega (arith, e, same)

record Good (h : List Act) : Type 0 where
  pub few : (g x : List ℕ) → AllUpTo (sent g x h) (numbers g x h)
  pub safe : IsGatewaySafe h

-- ---- a number that is fresh was not taken

fresh-by : (size top s : ℕ) (is_taken zero old : Bool) → (s == 0) ≡ zero → is_below size top s ≡ old
    → verdict_by size top is_taken s ≡ verdicts.Fresh → is_taken ≡ false
fresh-by size top s false zero old z o e = refl
fresh-by size top s true true old z o e = let p : verdicts.Zero ≡ verdicts.Fresh =
    subst (λ b. (if b then verdicts.Zero else if is_below size top s then verdicts.Old else verdicts.Seen) ≡ verdicts.Fresh) z e in cc
fresh-by size top s true false true z o e = let p : verdicts.Old ≡ verdicts.Fresh =
    subst (λ b. (if b then verdicts.Old else verdicts.Seen) ≡ verdicts.Fresh) o
    (subst (λ b. (if b then verdicts.Zero else if is_below size top s then verdicts.Old else verdicts.Seen) ≡ verdicts.Fresh) z e) in cc
fresh-by size top s true false false z o e = let p : verdicts.Seen ≡ verdicts.Fresh =
    subst (λ b. (if b then verdicts.Old else verdicts.Seen) ≡ verdicts.Fresh) o
    (subst (λ b. (if b then verdicts.Zero else if is_below size top s then verdicts.Old else verdicts.Seen) ≡ verdicts.Fresh) z e) in cc

pub fresh-is : (size : ℕ) (ns : List ℕ) (s : ℕ) → verdict_over size ns s ≡ verdicts.Fresh → is_among s ns ≡ false
fresh-is size ns s e = fresh-by size (greatest ns) s (is_among s ns) (s == 0) (is_below size (greatest ns) s) refl refl e

-- ---- each act

good : (q : Gateway) (h : List Act) (a : Act) → GatewayMayAct q h a → Good h → Good (a ∷ h)
good q h (acts.Clear f o) m k = record { few = k.few; safe = (m, k.safe) }
good q h (acts.Pass f o) m k = record { few = k.few; safe = (m, k.safe) }
good q h (acts.Put f e) m k = record {
  few = λ g x. few-put (is_half f e.name g x) (sent g x h) (numbers g x h) (k.few g x);
  safe =
      (tt, k.safe);
}
good q h (acts.Sent f y n o) m k = record {
  few = λ g x. few-sent (is_half f y g x) (sent g x h) n (numbers g x h) (k.few g x) (same-sent h f y g x n m.number);
  safe = (subst (λ t. is_among t (numbers f y h) ≡ false) (sym m.number) (unused (sent f y h) (numbers f y h) (k.few f y)), k.safe);
}
good q h (acts.Gave f y n o) m k =
    let e : SadEntry = m.opens.half in
    let b : List ℕ = m.opens.outer.payload in
    let own : verdict_over e.window (numbers_taken f y h) (number_of e (numbers_taken f y h) b) ≡ verdicts.Fresh =
    subst (λ x. verdict_over e.window (numbers_taken f x h) (number_of e (numbers_taken f x h) b) ≡ verdicts.Fresh) (sym m.name)
    m.opens.fresh in
    let fresh : verdict_over e.window (numbers_taken f y h) n ≡ verdicts.Fresh =
    subst (λ s. verdict_over e.window (numbers_taken f y h) s ≡ verdicts.Fresh) (sym m.number) own in
    record { few = k.few; safe = (fresh-is e.window (numbers_taken f y h) n fresh, k.safe) }
good q h a m k = record { few = k.few; safe = (tt, k.safe) }

good-lawful : (q : Gateway) (h : List Act) → IsGatewayPast q h → Good h
good-lawful q [] l = record { few = λ g x. tt; safe = tt }
good-lawful q (a ∷ h) l = good q h a l.0 (good-lawful q h l.1)

pub safe-lawful : (q : Gateway) (h : List Act) → IsGatewayPast q h → IsGatewaySafe h
safe-lawful q h l = (good-lawful q h l).safe

pub lawful-block : AllFit → (c : Gateway) (h : List Act) (e : GatewayEvent) → IsGatewayPast c h → IsGatewayPast c (after h (gw_block c h e))
lawful-block fits c h e l = lawful-after c h (gw_block c h e) l (may-block fits c h e)

lawful-on : AllFit → (c : Gateway) (h : List Act) (es : List GatewayEvent) → IsGatewayPast c h
    → IsGatewayPast c (after h (gw_history c h es))
lawful-on fits c h [] l = l
lawful-on fits c h (e ∷ es) l =
    rw (after-append h (gw_block c h e) (gw_history c (after h (gw_block c h e)) es))
    (lawful-on fits c (after h (gw_block c h e)) es (lawful-block fits c h e l))

pub lawful-history : AllFit → (c : Gateway) (es : List GatewayEvent) → IsGatewayPast c (after [] (gw_history c [] es))
lawful-history fits c es = lawful-on fits c [] es tt

pub safe-history : AllFit → (c : Gateway) (es : List GatewayEvent) → IsGatewaySafe (after [] (gw_history c [] es))
safe-history fits c es = safe-lawful c (after [] (gw_history c [] es)) (lawful-history fits c es)
