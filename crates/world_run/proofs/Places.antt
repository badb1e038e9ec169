-- Gateways by their places and by their names.
use Rattle.std.proofs.Common.{◌≡◌, ℕ, zero, suc, ◌+◌, ◌<◌, ◌≤◌, Bool, true, false, List, [], ◌∷◌, length, map, get_or, set, Option, Some, None, slice_get, refl, sym, ap, subst, ◌∙◌, arith}
use Rattle.std.specs.Prelude.{find, position}
use Rattle.std.specs.List.{position_or_len}
use Rattle.std.specs.Str.{bytes_eq}
use Rattle.std.proofs.lemmas.List.Folds.{find_at}
use Rattle.std.proofs.lemmas.List.Quantifiers.{position-Some}
use Rattle.std.proofs.lemmas.List.Sums.{position_or_len_is}
use Rattle.std.proofs.lemmas.Option.{slice_get-get_or, slice_get_past}
use Rattle.std.proofs.lemmas.Grind.{common_steps}
use Rattle.std.proofs.lemmas.List.{set-get_or}
use Rattle.session_pipe.proofs.Names.{same_name}
use Rattle.world_steps.specs.Nodes.{Node}
use Rattle.world_steps.specs.Worlds.{World, node_at, number_of, placed}
use Rattle.world_steps.specs.Conditions.{at}
use Rattle.world_run.specs.Taken.{IsPlace}

-- the gateway at the place of a name
pub record IsAt (g : List ℕ) (i : ℕ) (w : World) (n : Node) : Type 0 where
  pub within : i < length w.nodes
  pub get : slice_get w.nodes i ≡ Some n
  pub node : node_at g w ≡ Some n
  pub number : number_of g w ≡ i
  pub name : n.name ≡ g
  pub stay : set w.nodes i n ≡ w.nodes
  pub put : (m : Node) → m.name ≡ n.name → placed m w.nodes ≡ set w.nodes i m

-- it is put in the place of its name
placed-at : (g : List ℕ) (m : Node) (ns : List Node) (i : ℕ) (d : Node) → i < length ns → bytes_eq (get_or ns i d).name g ≡ true
    → ((k : ℕ) → k < i → bytes_eq (get_or ns k d).name g ≡ false) → m.name ≡ g → placed m ns ≡ set ns i m
placed-at g m [] i d lt here before e = absurd (omega (arith, lt))
placed-at g m (n ∷ ns) zero d lt here before e =
    let this : bytes_eq n.name m.name ≡ true = ap (λ z. bytes_eq n.name z) e ∙ here in
    rw this refl
placed-at g m (n ∷ ns) (suc i) d lt here before e =
    let first : bytes_eq n.name m.name ≡ false = ap (λ z. bytes_eq n.name z) e ∙ before 0 (omega arith) in
    let later : placed m (n ∷ ns) ≡ n ∷ placed m ns = rw first refl in
    later ∙ ap (λ z. n ∷ z) (placed-at g m ns i d (omega (arith, lt)) here (λ k l. before (suc k) (omega (arith, l))) e)

pub at-place : (g : List ℕ) (i : ℕ) (w : World) (d : Node) → IsPlace g i w → IsAt g i w (get_or w.nodes i d)
at-place g i w d e =
    let s = position-Some (λ n. bytes_eq n.name g) w.nodes i d e in
    let num : position_or_len (λ n. bytes_eq n.name g) w.nodes ≡ i = position_or_len_is (λ n. bytes_eq n.name g) w.nodes i d
    (omega (arith, s.0)) s.2 (λ l. s.1) in
    let got : slice_get w.nodes i ≡ Some (get_or w.nodes i d) = slice_get-get_or w.nodes i d s.0 in
    let same : (get_or w.nodes i d).name ≡ g = same_name (get_or w.nodes i d).name g s.1 in
    record {
      within = s.0;
      get = got;
      node = find_at (λ n. bytes_eq n.name g) w.nodes ∙ ap (slice_get w.nodes) num ∙ got;
      number = num;
      name = same;
      stay = set-get_or w.nodes i d;
      put = λ m e2. placed-at g m w.nodes i d s.0 s.1 s.2 (e2 ∙ same);
    }

-- no gateway has the name
pub no-place : (g : List ℕ) (w : World) → position (λ n. bytes_eq n.name g) w.nodes ≡ None → node_at g w ≡ None
no-place g w e = none-found w.nodes e where
  none-found : (ns : List Node) → position (λ n. bytes_eq n.name g) ns ≡ None → find (λ n. bytes_eq n.name g) ns ≡ None
  none-found ns e =
      let past : length ns ≤ position_or_len (λ n. bytes_eq n.name g) ns = grind (arith, common_steps) in
      find_at (λ n. bytes_eq n.name g) ns ∙ slice_get_past ns (position_or_len (λ n. bytes_eq n.name g) ns) past

-- the same as code finds them: the world w, with its fields u, and the gateway x that stands there
pub at-index : (g : List ℕ) (i : ℕ) (u w : World) (x : Node) → u ≡ w → IsPlace g i w → x ≡ get_or u.nodes i x → IsAt g i u x
at-index g i u w x e p v =
    let q : IsPlace g i u = subst (λ (z : World). IsPlace g i z) (sym e) p in
    subst (λ (z : Node). IsAt g i u z) (sym v) (at-place g i u x q)

pub unplaced : (g : List ℕ) (u w : World) (ns : List Node) → None ≡ position (λ (n : Node). bytes_eq n.name g) ns → ns ≡ u.nodes → u ≡ w
    → node_at g w ≡ None
unplaced g u w ns e f h =
    no-place g w (sym (e ∙ ap (λ (z : List Node). position (λ (n : Node). bytes_eq n.name g) z) f
    ∙ ap (λ (z : World). position (λ (n : Node). bytes_eq n.name g) z.nodes) h))

pub placed-found : (g : List ℕ) (i : ℕ) (u w : World) (ns : List Node) → Some i ≡ position (λ (n : Node). bytes_eq n.name g) ns
    → ns ≡ u.nodes → u ≡ w → IsPlace g i w
placed-found g i u w ns e f h =
    sym (e ∙ ap (λ (z : List Node). position (λ (n : Node). bytes_eq n.name g) z) f
    ∙ ap (λ (z : World). position (λ (n : Node). bytes_eq n.name g) z.nodes) h)

-- by the gateway of a name
pub at-found : {A : Type 0} → (P : A → Node → Type 0) (o : Option Node) (n : Node) → o ≡ Some n → ((x : A) × at (P x) o) → (x : A) × P x n
at-found P o n e (x, a) = (x, subst (at (P x)) e a)

pub number-placed : (g : List ℕ) (i : ℕ) (w : World) → IsPlace g i w → number_of g w ≡ i
number-placed g i w e = by-list w.nodes e where
  by-list : (ns : List Node) → position (λ (n : Node). bytes_eq n.name g) ns ≡ Some i
      → position_or_len (λ (n : Node). bytes_eq n.name g) ns ≡ i
  by-list ns e = grind (arith, common_steps)

-- a place has a gateway
pub record IsSomeAt (g : List ℕ) (i : ℕ) (w : World) : Type 0 where
  pub gateway : Node
  pub here : IsAt g i w gateway

pub placed-some : (g : List ℕ) (i : ℕ) (w : World) → IsPlace g i w → IsSomeAt g i w
placed-some g i w e = by-list w.nodes refl where
  by-list : (ns : List Node) → w.nodes ≡ ns → IsSomeAt g i w
  by-list [] f =
      let empty : None ≡ Some i = sym (ap (λ (z : List Node). position (λ (n : Node). bytes_eq n.name g) z) f) ∙ e in
      absurd (cc)
  by-list (m ∷ ms) f = record { gateway = get_or w.nodes i m; here = at-place g i w m e }
