-- What is kept of every lawful past without a fault has none.
use Rattle.std.proofs.Common.{◌≡◌, ◌≤◌, ◌<◌, ℕ, zero, suc, ◌+◌, Bool, true, false, nat_le, List, [], ◌∷◌, All, length, map, take, None, refl, ap, ◌∙◌, arith, if◌then◌else◌}
use Rattle.std.proofs.lemmas.Bool.{and_parts}
use Rattle.std.proofs.lemmas.List.Elements.{All-head, All-tail}
use Rattle.std.specs.Str.{bytes_eq}
use Rattle.ikeless_tree.specs.Check.{sad_fault, spd_fault}
use Rattle.ikeless_tree.specs.declared.entry.SpdEntry.{SpdEntry}
use Rattle.ikeless_tree.specs.declared.sad.SadEntry.{SadEntry}
use Rattle.replay_win.specs.Marks.{no_marks}
use Rattle.hist_acts.specs.declared.act.Act.{Act}
use Rattle.hist_acts.specs.declared.act.Act.TheVariants as acts
use Rattle.hist_acts.specs.Past.{force}
use Rattle.hist_halves.specs.Halves.{is_half, live, numbers_taken, sent}
use Rattle.hist_gateway.specs.Block.{Gateway}
use Rattle.hist_gateway.specs.May.{IsGatewayPast}
use Rattle.hist_gateway.specs.Stands.{bad_spis}
use Rattle.hist_gateway.specs.State.{half_of, state_of}
use Rattle.hist_gateway.proofs.LiveHalves.{halves-are}
use Rattle.hist_gateway.proofs.KeepsLemmas.{same-is}
use Rattle.hist_gateway.proofs.MayAct.{lawful-installed}
use Rattle.gw_tables.specs.Sound.{AreHalves, IsHalf, IsSound}
use Rattle.gw_law.specs.Told.{kept_of}
use Rattle.gw_law.specs.Faultless.{HasNoFault}
use Rattle.gw_law.proofs.Pasts.{apart-is, few-halves, live-all, size-is}

-- ---- policies

none-of-none : spd_fault [] ≡ None
unfolding spd_fault
none-of-none = refl

list-if : (b : Bool) (xs ys : List SpdEntry) → spd_fault xs ≡ None → spd_fault ys ≡ None → spd_fault (if b then xs else ys) ≡ None
list-if true xs ys p q = p
list-if false xs ys p q = q

force-sound : (g : List ℕ) (h : List Act) → All HasNoFault h → spd_fault (force g h) ≡ None
force-sound g [] l = none-of-none
force-sound g (acts.Policy f list ∷ h) l =
    list-if (bytes_eq f g) list (force g h) (All-head HasNoFault (acts.Policy f list) h l)
    (force-sound g h (All-tail HasNoFault (acts.Policy f list) h l))
force-sound g (acts.Boot f ∷ h) l = list-if (bytes_eq f g) [] (force g h) none-of-none
    (force-sound g h (All-tail HasNoFault (acts.Boot f) h l))
force-sound g (a ∷ h) l = force-sound g h (All-tail HasNoFault a h l)

-- ---- numbers

few-put : (b : Bool) (n m : ℕ) → n ≤ m → (if b then 0 else n) ≤ m
few-put true n m p = omega arith
few-put false n m p = p

below : (n m : ℕ) → nat_le m n ≡ false → n + 1 ≤ m
below n m p = grind arith

few-sent : (b : Bool) (n m : ℕ) → n ≤ m → (b ≡ true → n + 1 ≤ m) → (if b then n + 1 else n) ≤ m
few-sent true n m p q = q refl
few-sent false n m p q = p

same-sent : (h : List Act) (f y g x : List ℕ) (m : ℕ) → sent f y h + 1 ≤ m → is_half f y g x ≡ true → sent g x h + 1 ≤ m
same-sent h f y g x m p own =
    let both = and_parts (bytes_eq f g) (bytes_eq y x) own in
    let same : sent f y h ≡ sent g x h = ap (λ t. sent t y h) (same-is f g both.0) ∙ ap (λ t. sent g t h) (same-is y x both.1) in
    omega (arith, p, same)

-- no half sends a number above the last one
sent-few : (c : Gateway) (g x : List ℕ) (h : List Act) → IsGatewayPast c h → sent g x h ≤ c.seq_last
sent-few c g x [] l = omega arith
sent-few c g x (acts.Put f e ∷ h) l = few-put (is_half f e.name g x) (sent g x h) c.seq_last (sent-few c g x h l.1)
sent-few c g x (acts.Sent f y n o ∷ h) l =
    few-sent (is_half f y g x) (sent g x h) c.seq_last (sent-few c g x h l.1)
    (same-sent h f y g x c.seq_last (below (sent f y h) c.seq_last l.0.in_limit))
sent-few c g x (a ∷ h) l = sent-few c g x h l.1

-- ---- halves

abbrev HalfHasNone : SadEntry → Type 0
HalfHasNone e = sad_fault e ≡ None

halves-sound : (c : Gateway) (g : List ℕ) (h : List Act) (es : List SadEntry) → IsGatewayPast c h → c.seq_last < 4294967296
    → All HalfHasNone es → AreHalves (map (half_of g h) es)
halves-sound c g h [] l m all = tt
halves-sound c g h (e ∷ es) l m all =
    let few = sent-few c g e.name h l in
    let half : IsHalf (half_of g h e) = record {
      entry = All-head HalfHasNone e es all;
      window = size-is (no_marks e.window) (numbers_taken g e.name h);
      sent = omega (arith, few, m);
    } in
    (half, halves-sound c g h es l m (All-tail HalfHasNone e es all))

length-take : (n : ℕ) (xs : List ℕ) → length (take n xs) ≤ n
length-take zero xs = omega arith
length-take (suc n) [] = omega arith
length-take (suc n) (x ∷ xs) = let ih = length-take n xs in omega (arith, ih)

pub sound-past : (c : Gateway) (g : List ℕ) (h : List Act) → IsGatewayPast c h → c.seq_last < 4294967296 → All HasNoFault h
    → IsSound (kept_of (state_of g h))
sound-past c g h l m none =
    let are = halves-are g h (lawful-installed c g h l) in
    record {
      policies = force-sound g h none;
      halves = halves-sound c g h (live g h) l m (live-all HalfHasNone HasNoFault (λ f e p. p) g h none);
      apart = apart-is g h (live g h) ∙ are.apart;
      few = few-halves g h are;
      bad_spis = length-take 64 (bad_spis g h);
    }
