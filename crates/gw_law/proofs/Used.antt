-- What an answer, a notice and the use of a half make of what is kept.
use Rattle.std.proofs.Common.{◌≡◌, ℕ, zero, suc, Bool, true, false, not, ◌&&◌, List, [], ◌∷◌, ◌++◌, Some, None, All, map, take, refl, ap, ◌∙◌, subst, if◌then◌else◌}
use Rattle.std.proofs.lemmas.List.{append-nil}
use Rattle.std.proofs.lemmas.List.Elements.{All-head, All-tail}
use Rattle.std.specs.Prelude.{slice_get}
use Rattle.std.specs.Str.{bytes_eq}
use Rattle.ikeless_tree.specs.declared.order.Notice.{Notice}
use Rattle.ikeless_tree.specs.declared.drops.DropWhy.{DropWhy}
use Rattle.ikeless_tree.specs.declared.ends.GoneWhy.TheVariants as gone
use Rattle.life_count.specs.declared.event.LifeEvent.TheVariants as events
use Rattle.life_count.specs.Lifetime.{counts_of, event_at, expiry, is_reached}
use Rattle.sad_store.specs.declared.half.Half.{Half}
use Rattle.sad_store.specs.Halves.{changed, look_at, names_of}
use Rattle.sad_store.specs.Kept.{are_names_apart}
use Rattle.hist_acts.specs.declared.act.Act.{Act}
use Rattle.hist_acts.specs.declared.act.Act.TheVariants as acts
use Rattle.hist_halves.specs.Sealed.{is_opened}
use Rattle.hist_gateway.specs.Look.{given_by}
use Rattle.hist_gateway.specs.Let.{unless}
use Rattle.hist_gateway.specs.State.{GatewayState, did, did_all, note, number_opened, quiet, with_acquire, with_halves, with_notice}
use Rattle.hist_gateway.specs.Stands.{with_spi}
use Rattle.hist_gateway.specs.Machine.{look_of, tells_of}
use Rattle.hist_gateway.specs.Places.{without_all}
use Rattle.hist_gateway.proofs.KeepsLemmas.{same-refl}
use Rattle.hist_gateway.proofs.LooksLemmas.{look-at-one}
use Rattle.gw_tables.specs.Kept.{Kept}
use Rattle.gw_packets.specs.declared.done.PacketAnswer.{PacketAnswer}
use Rattle.gw_packets.specs.Outcome.{Outcome, answered, dropped, dropped_and_told}
use Rattle.gw_packets.specs.Looks.{gone_by, left_by, used}
use Rattle.gw_law.specs.Told.{acts_told, answer_told, ends_told, kept_of, naming_of}
use Rattle.gw_law.specs.Orderly.{IsOrderly}

-- this is kept in place of what a state keeps, and nothing that arrived waits
abbrev pub with_kept : Kept → GatewayState → GatewayState
with_kept k s = record {
  spd = k.spd;
  halves = k.halves;
  acquires = k.acquires;
  bad_spis = k.bad_spis;
  clock = k.clock;
  openings = s.openings;
  session = s.session;
  requests = s.requests;
  arrival = None;
}

-- the acts, begun in the state t, are those told of the outcome over what s keeps, and leave what is kept then
pub record IsTold (g : List ℕ) (s t : GatewayState) (xs : List Act) (out : Outcome) : Type 0 where
  pub acts : xs ≡ acts_told (naming_of g s) out.done
  pub kept : did_all g t xs ≡ with_kept out.kept s

pub told-if : (g : List ℕ) (s t : GatewayState) (xs ys : List Act) (p q : Outcome) (b : Bool) → IsTold g s t xs p → IsTold g s t ys q →
    IsTold g s t (if b then xs else ys) (if b then p else q)
told-if g s t xs ys p q true a b = a
told-if g s t xs ys p q false a b = b

-- ---- answers

pub told-answer : (g : List ℕ) (s t : GatewayState) (a : PacketAnswer) → did g t (answer_told g a) ≡ quiet s →
    IsTold g s t (answer_told g a ∷ []) (answered a (kept_of s))
told-answer g s t a p = record { acts = refl; kept = p }

both-if : (b c : Bool) (x y : GatewayState) → c ≡ false → (if b then (if c then x else y) else y) ≡ y
both-if true true x y p = let q : true ≡ false = p in cc
both-if true false x y p = refl
both-if false c x y p = refl

pub drop-quiet : (g : List ℕ) (t : GatewayState) (w : DropWhy) → is_opened w ≡ false → did g t (acts.Drop g w) ≡ quiet t
drop-quiet g t w p = both-if (bytes_eq g g) (is_opened w) (number_opened t) (quiet t) p

pub told-drop : (g : List ℕ) (s t : GatewayState) (w : DropWhy) → is_opened w ≡ false → quiet t ≡ quiet s →
    IsTold g s t (acts.Drop g w ∷ []) (dropped w (kept_of s))
told-drop g s t w p q = record { acts = refl; kept = drop-quiet g t w p ∙ q }

-- ---- notices

noticed : (s : GatewayState) (n : Notice) (b : Bool) (hs : List Half) (spis : List ℕ) → b ≡ true → map (note n) s.halves ≡ hs
    → take 64 (with_spi n s.bad_spis) ≡ spis →
    (if b then with_notice (map (note n) s.halves) (with_acquire n s.acquires) (take 64 (with_spi n s.bad_spis)) (quiet s) else quiet s)
    ≡ with_notice hs (with_acquire n s.acquires) spis s
noticed s n b hs spis p q r = rw (p, q, r) refl

pub told-notice : (g : List ℕ) (s t : GatewayState) (w : DropWhy) (n : Notice) (hs : List Half) (spis : List ℕ) → is_opened w ≡ false
    → quiet t ≡ quiet s →
    map (note n) s.halves ≡ hs → take 64 (with_spi n s.bad_spis) ≡ spis →
    IsTold g s t (acts.Drop g w ∷ tells_of g s n)
    (dropped_and_told w n (record { spd = s.spd; halves = hs; acquires = with_acquire n s.acquires; bad_spis = spis; clock = s.clock }))
told-notice g s t w n hs spis p q m r = record {
  acts = refl;
  kept = ap (λ z. did g z (acts.Notice g s.session n)) (drop-quiet g t w p ∙ q) ∙ noticed s n (bytes_eq g g) hs spis (same-refl g) m r;
}

pub told-unless : (g : List ℕ) (s t : GatewayState) (w : DropWhy) (xs : List Act) (out : Outcome) (b : Bool) →
    IsTold g s t (acts.Drop g w ∷ []) (dropped w (kept_of s)) → IsTold g s t (acts.Drop g w ∷ xs) out →
    IsTold g s t (acts.Drop g w ∷ unless b xs) (if b then dropped w (kept_of s) else out)
told-unless g s t w xs out true a b = a
told-unless g s t w xs out false a b = b

-- ---- one half

pub half-at : (P : Half → Type 0) (xs : List Half) (i : ℕ) (x : Half) → All P xs → slice_get xs i ≡ Some x → P x
half-at P [] i x all at = let c : None ≡ Some x = at in cc
half-at P (y ∷ ys) zero x all at =
    let c : Some y ≡ Some x = at in
    let e : y ≡ x = cc in
    subst P e (All-head P y ys all)
half-at P (y ∷ ys) (suc i) x all at = half-at P ys i x (All-tail P y ys all) at

pub changed-there : (f : Half → Half) (xs : List Half) (i : ℕ) (x : Half) → slice_get xs i ≡ Some x
    → slice_get (changed f i xs) i ≡ Some (f x)
changed-there f [] i x at = let c : None ≡ Some x = at in cc
changed-there f (y ∷ ys) zero x at =
    let c : Some y ≡ Some x = at in
    let e : y ≡ x = cc in
    ap (λ z. Some (f z)) e
changed-there f (y ∷ ys) (suc i) x at = changed-there f ys i x at

pub changed-twice : (f k : Half → Half) (xs : List Half) (i : ℕ) → changed f i (changed k i xs) ≡ changed (λ y. f (k y)) i xs
changed-twice f k [] i = refl
changed-twice f k (y ∷ ys) zero = refl
changed-twice f k (y ∷ ys) (suc i) = ap (λ zs. y ∷ zs) (changed-twice f k ys i)

pub changed-names : (f : Half → Half) → ((x : Half) → (f x).entry ≡ x.entry) → (xs : List Half) (i : ℕ)
    → names_of (changed f i xs) ≡ names_of xs
changed-names f keeps [] i = refl
changed-names f keeps (y ∷ ys) zero = ap (λ e. e.name ∷ names_of ys) (keeps y)
changed-names f keeps (y ∷ ys) (suc i) = ap (λ ns. y.entry.name ∷ ns) (changed-names f keeps ys i)

-- ---- a look at it

ends-by : (name : List ℕ) (zs : List Half) (hard soft : Bool) →
    without_all (if hard then name ∷ [] else []) zs ≡ left_by name (if hard then events.Hard else if soft then events.Soft
    else events.Nothing) zs
ends-by name zs true soft = refl
ends-by name zs false true = refl
ends-by name zs false false = refl

look-by : (g name : List ℕ) (ns : List Act) (hard soft : Bool) →
    (if hard then acts.Gone g name gone.Hard ∷ [] else []) ++ (ns ++ [])
    ≡ ends_told g (gone_by name (if hard then events.Hard else if soft then events.Soft else events.Nothing)) ++ ns
look-by g name ns true soft = ap (λ zs. acts.Gone g name gone.Hard ∷ zs) (append-nil ns)
look-by g name ns false true = append-nil ns
look-by g name ns false false = append-nil ns

pub look-told : (g : List ℕ) (session now : ℕ) (y : Half) →
    look_of g session now (y ∷ []) ≡ ends_told g (gone_by y.entry.name (event_at now y.life))
    ++ given_by g session (expiry y.entry.name (counts_of now y.life) (event_at now y.life))
look-told g session now y =
    look-by g y.entry.name (given_by g session (expiry y.entry.name (counts_of now y.life) (event_at now y.life)))
    (is_reached y.life.hard (counts_of now y.life)) (is_reached y.life.soft (counts_of now y.life) && not y.life.is_told)

pub told-use : (g : List ℕ) (s t : GatewayState) (a : PacketAnswer) (i : ℕ) (f : Half → Half) (x : Half) → IsOrderly s
    → slice_get s.halves i ≡ Some x →
    ((z : Half) → (f z).entry ≡ z.entry) → did g t (answer_told g a) ≡ with_halves (changed f i s.halves) s →
    IsTold g s t (answer_told g a ∷ look_of g s.session s.clock (f x ∷ [])) (used a i f (f x) (kept_of s))
told-use g s t a i f x o at keeps did-it =
    let now : ℕ = s.clock in
    let y : Half = f x in
    let used-halves : List Half = changed f i s.halves in
    let s1 : GatewayState = with_halves used-halves s in
    let apart : are_names_apart (names_of used-halves) ≡ true = ap are_names_apart (changed-names f keeps s.halves i) ∙ o.apart in
    let looked = look-at-one g s.session i y s1 apart o.few_spis (changed-there f s.halves i x at) in
    let ends = ends-by y.entry.name (changed (look_at now) i used-halves) (is_reached y.life.hard (counts_of now y.life))
    (is_reached y.life.soft (counts_of now y.life) && not y.life.is_told) in
    let twice = changed-twice (look_at now) f s.halves i in
    record {
      acts = ap (λ zs. answer_told g a ∷ zs) (look-told g s.session now y);
      kept = ap (λ z. did_all g z (look_of g s.session now (y ∷ []))) did-it
          ∙ (looked ∙ ap (λ hs. with_halves hs s) (ends ∙ ap (left_by y.entry.name (event_at now y.life)) twice));
    }
