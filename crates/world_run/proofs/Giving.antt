-- What the controller gives, one after the other.
use Rattle.std.proofs.Common.{◌≡◌, ℕ, ◌+◌, ◌<◌, false, List, [], ◌∷◌, ◌++◌, Option, Some, None, length, get_or, set, slice_get, position, refl, sym, ap, subst, ◌∙◌, arith}
use Rattle.std.specs.List.{position_or_len}
use Rattle.std.specs.Str.{bytes_eq}
use Rattle.std.proofs.lemmas.Grind.{common_steps}
use Rattle.std.proofs.lemmas.Option.{get_or_from_slice_get, slice_get_within}
use Rattle.hist_acts.specs.declared.act.Act.{Act}
use Rattle.hist_acts.specs.declared.act.Act.TheVariants as acts
use Rattle.ikeless_tree.specs.declared.order.Order.{Order}
use Rattle.ctl_core.specs.Core.{Core}
use Rattle.ctl_core.specs.Step.{stepped}
use Rattle.ctl_core.specs.declared.acts.CtlEvent.{CtlEvent}
use Rattle.ctl_core.specs.declared.acts.CtlAct.{CtlAct}
use Rattle.ctl_core.specs.declared.acts.CtlAct.TheVariants as given
use Rattle.world_steps.specs.Nodes.{Node, ordered}
use Rattle.world_steps.specs.Worlds.{World, number_of, with_node}
use Rattle.world_steps.specs.Steps.{Done, behind, controlled, did, giving, order_at}
use Rattle.std.specs.List.{All}
use Rattle.std.proofs.lemmas.List.Elements.{All-head, All-set, All-tail, All-weaker}
use Rattle.world_steps.specs.Conditions.{AreNamed, IsGiven}
use Rattle.world_run.proofs.Shapes.{AreAlike, alike-back, alike-refl, alike-set, config_of, name_of}
use Rattle.world_run.specs.declared.go.Go.TheVariants as gos
use Rattle.world_run.specs.Taken.{IsDone, IsPlace, go_of}
use Rattle.world_run.proofs.Done.{kept_with}
use Rattle.world_run.proofs.Places.{IsAt, at-place}

-- some, and then one more
pub record IsMore (xs : List CtlAct) (x : CtlAct) (w : World) (all first : Done) : Type 0 where
  pub world : all.world ≡ (giving (x ∷ []) first.world).world
  pub acts : all.acts ≡ first.acts ++ (giving (x ∷ []) first.world).acts

pub giving-more : (xs : List CtlAct) (x : CtlAct) (w : World) → IsMore xs x w (giving (xs ++ x ∷ []) w) (giving xs w)
giving-more [] x w = record { world = refl; acts = refl }
giving-more (given.Refused why ∷ xs) x w =
    let ih = giving-more xs x w in
    record { world = ih.world; acts = ap (λ z. acts.Refused why ∷ z) ih.acts }
giving-more (given.Order i o ∷ xs) x w = by-node (slice_get w.nodes i) (λ v. giving-more xs x v) where
  by-node : (n : Option Node) → ((v : World) → IsMore xs x v (giving (xs ++ x ∷ []) v) (giving xs v))
      → IsMore (given.Order i o ∷ xs) x w (order_at o (xs ++ x ∷ []) w n (giving (xs ++ x ∷ []))) (order_at o xs w n (giving xs))
  by-node None more =
      let ih = more w in
      record { world = ih.world; acts = ih.acts }
  by-node (Some n) more =
      let ih = more (with_node (ordered o n) w) in
      record { world = ih.world; acts = ap (λ z. acts.Order n.name n.pipe.openings (n.orders + 1) o ∷ z) ih.acts }

-- ---- an order at the place that the controller names

pub place-named : (w : World) (i : ℕ) (n : Node) → slice_get w.nodes i ≡ Some n → number_of n.name w ≡ i → IsPlace n.name i w
place-named w i n e f = at-place-of w.nodes e f where
  at-place-of : (ns : List Node) → slice_get ns i ≡ Some n → position_or_len (λ (m : Node). bytes_eq m.name n.name) ns ≡ i
      → position (λ (m : Node). bytes_eq m.name n.name) ns ≡ Some i
  at-place-of ns e f =
      let within : i < length ns = slice_get_within ns i n e in
      grind (arith, common_steps)

pub order-here : (w : World) (i : ℕ) (n : Node) → slice_get w.nodes i ≡ Some n → number_of n.name w ≡ i → IsAt n.name i w n
order-here w i n e f =
    let same : get_or w.nodes i n ≡ n = get_or_from_slice_get w.nodes i n n e in
    subst (λ (z : Node). IsAt n.name i w z) same (at-place n.name i w n (place-named w i n e f))

pub order-world : (w v : World) (i : ℕ) (n m : Node) (o : Order) → slice_get w.nodes i ≡ Some n → number_of n.name w ≡ i → m ≡ ordered o n
    → v ≡ kept_with w (set w.nodes i m) w.sent → v ≡ (giving (given.Order i o ∷ []) w).world
order-world w v i n m o e f g x =
    let here = order-here w i n e f in
    let done : v ≡ with_node (ordered o n) w =
    x ∙ ap (λ z. kept_with w (set w.nodes i z) w.sent) g ∙ ap (λ z. kept_with w z w.sent) (sym (here.put (ordered o n) refl))
    in
    subst (λ (z : Option Node). v ≡ (order_at o [] w z (giving [])).world) (sym e) done

pub order-acts : (w : World) (i : ℕ) (n : Node) (o : Order) (before after : List Act) → slice_get w.nodes i ≡ Some n
    → after ≡ before ++ acts.Order n.name n.pipe.openings (n.orders + 1) o ∷ [] → after ≡ before ++ (giving (given.Order i o ∷ []) w).acts
order-acts w i n o before after e a = subst (λ (z : Option Node). after ≡ before ++ (order_at o [] w z (giving [])).acts) (sym e) a

-- what is given has a gateway
pub given-within : (w : World) (i : ℕ) (o : Order) → IsGiven w.nodes (given.Order i o) → i < length w.nodes
given-within w i o (n, e, s) = slice_get_within w.nodes i n e

-- ---- what stays

pub giving-genuine : (xs : List CtlAct) (w : World) → (giving xs w).is_forged ≡ false
giving-genuine [] w = refl
giving-genuine (given.Refused why ∷ xs) w = giving-genuine xs w
giving-genuine (given.Order i o ∷ xs) w = by-node (slice_get w.nodes i) (λ v. giving-genuine xs v) where
  by-node : (n : Option Node) → ((v : World) → (giving xs v).is_forged ≡ false) → (order_at o xs w n (giving xs)).is_forged ≡ false
  by-node None f = f w
  by-node (Some n) f = f (with_node (ordered o n) w)

-- one more is given: the gateways are the same, and each has at most one order more
pub record IsKept (k : ℕ) (w v : World) : Type 0 where
  pub alike : AreAlike w.nodes v.nodes
  pub back : AreAlike v.nodes w.nodes
  pub few : All (λ n. n.orders < k + 1) v.nodes

less : (k : ℕ) (n : Node) → n.orders < k → n.orders < k + 1
less k n l = omega (arith, l)

pub one-kept : (k : ℕ) (x : CtlAct) (w : World) → AreNamed w → IsGiven w.nodes x → All (λ n. n.orders < k) w.nodes
    → IsKept k w (giving (x ∷ []) w).world
one-kept k (given.Refused why) w named g few = record {
  alike = alike-refl w.nodes;
  back = alike-refl w.nodes;
  few = All-weaker (λ n. n.orders < k) (λ n. n.orders < k + 1) (less k) w.nodes few;
}
one-kept k (given.Order i o) w named (n, e, s) few =
    let here = order-here w i n e (named i n e) in
    let same : get_or w.nodes i n ≡ n = get_or_from_slice_get w.nodes i n n e in
    let m : Node = ordered o n in
    let nodes : (with_node (ordered o n) w).nodes ≡ set w.nodes i (ordered o n) = here.put (ordered o n) refl in
    let alike : AreAlike (set w.nodes i (ordered o n)) w.nodes =
    alike-set w.nodes i (ordered o n) n (ap name_of (sym same)) (ap config_of (sym same))
    in
    let one : n.orders < k = subst (λ (z : Node). z.orders < k) same (few i n here.within) in
    let more : All (λ z. z.orders < k + 1) (set w.nodes i (ordered o n)) =
    All-set (λ z. z.orders < k + 1) w.nodes i (ordered o n) (omega (arith, one))
    (All-weaker (λ z. z.orders < k) (λ z. z.orders < k + 1) (less k) w.nodes few)
    in
    let kept : IsKept k w (with_node (ordered o n) w) = record {
      alike = subst (λ z. AreAlike w.nodes z) (sym nodes) (alike-back (set w.nodes i (ordered o n)) w.nodes alike);
      back = subst (λ z. AreAlike z w.nodes) (sym nodes) alike;
      few = subst (λ z. All (λ y. y.orders < k + 1) z) (sym nodes) more;
    } in
    subst (λ (z : Option Node). IsKept k w (order_at o [] w z (giving [])).world) (sym e) kept

-- one of a list
pub all-middle : (P : CtlAct → Type 0) (xs ys : List CtlAct) (x : CtlAct) → All P (xs ++ x ∷ ys) → P x
all-middle P [] ys x a = All-head P x ys a
all-middle P (z ∷ zs) ys x a = all-middle P zs ys x (All-tail P z (zs ++ x ∷ ys) a)

pub controlled-done : (e : CtlEvent) (w v : World) (core : Core) (xs : List CtlAct) (before after : List Act)
    → core ≡ (stepped w.controller e).core → xs ≡ (stepped w.controller e).acts
    → v ≡ (giving xs (record w { controller = core })).world → after ≡ before ++ (giving xs (record w { controller = core })).acts
    → IsDone (controlled e w) before after v gos.On
controlled-done e w v core xs before after f g h a = record {
  acts = a ∙ ap (λ z. before ++ (giving z (record w { controller = core })).acts) g
      ∙ ap (λ z. before ++ (giving (stepped w.controller e).acts (record w { controller = z })).acts) f;
  go = sym (ap go_of (giving-genuine (stepped w.controller e).acts (record w { controller = (stepped w.controller e).core })));
  world = λ _. h ∙ ap (λ z. (giving z (record w { controller = core })).world) g
      ∙ ap (λ z. (giving (stepped w.controller e).acts (record w { controller = z })).world) f;
}
