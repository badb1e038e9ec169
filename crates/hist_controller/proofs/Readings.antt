-- The oldest waiting order is the one whose number is answered.
use Rattle.std.proofs.Common.{◌≡◌, ℕ, ◌+◌, ◌-◌, ◌<◌, Bool, true, false, ◌==◌, List, [], ◌∷◌, Option, Some, None, length, inl, inr, refl, sym, subst, ◌∙◌, ap, arith, if◌then◌else◌}
use Rattle.ikeless_tree.specs.declared.order.Answer.{Answer}
use Rattle.hist_controller.specs.Acts.{ControllerOrder, ControllerAct, Opened, Cut, Answered, Heard, Ordered, Accepted, Refused}
use Rattle.hist_controller.specs.Past.{is_open, openings, orders, answered, oldest, rest, queue}
use Rattle.hist_controller.specs.Machine.{place}
use Rattle.hist_controller.specs.Clauses.{IsControllerPast}
use Rattle.hist_controller.specs.Numbers.{numbered}
use Rattle.hist_controller.proofs.Lists.{length-more, place-old}

pub record Queued (g : ℕ) (h : List ControllerAct) : Type 0 where
  pub find : (j : ℕ) (o : ControllerOrder) → place j (queue g h) ≡ Some o → numbered g (openings g h) (answered g h + 1 + j) h ≡ Some o
  pub count : is_open g h ≡ true → orders g h ≡ answered g h + length (queue g h)

abbrev No : ControllerOrder → Type 0
No o = ◌≡◌ {A = Option ControllerOrder} None (Some o)

place-rest : (j : ℕ) (q : List ControllerOrder) (o : ControllerOrder) → place j (rest q) ≡ Some o → place (j + 1) q ≡ Some o
place-rest j [] o e = e
place-rest j (x ∷ q) o e = let t : (j + 1 == 0) ≡ false = grind arith in let u : j + 1 - 1 ≡ j = omega arith in rw (t, u) e

length-rest : (q : List ControllerOrder) (o : ControllerOrder) → oldest q ≡ Some o → length (rest q) + 1 ≡ length q
length-rest [] o e = cc
length-rest (x ∷ q) o e = grind arith

number-place : (q : List ControllerOrder) (o : ControllerOrder) → oldest q ≡ Some o → place 0 q ≡ Some o
number-place [] o e = e
number-place (x ∷ q) o e = e

no : (o : ControllerOrder) → No o → ⊥
no o e = cc

queued-opened : (g : ℕ) (h : List ControllerAct) (f s : ℕ) (b : Bool) → (g == f) ≡ b → Queued g h → Queued g (Opened f s ∷ h)
queued-opened g h f s true e k = record { find = λ j o w. absurd (no o (rw e at w)); count = λ w. rw e refl }
queued-opened g h f s false e k = record {
  find = λ j o w. subst (λ b. numbered g (if b then openings g h + 1 else openings g h) ((if b then 0 else answered g h) + 1 + j) h ≡ Some
      o) (sym e) (k.find j o (rw e at w));
  count = λ w. rw e (k.count (rw e at w));
}

queued-cut : (g : ℕ) (h : List ControllerAct) (f s : ℕ) (b : Bool) → (g == f) ≡ b → Queued g h → Queued g (Cut f s ∷ h)
queued-cut g h f s true e k = record {
  find = λ j o w. absurd (no o (rw e at w));
  count = λ w. absurd (let w' : false ≡ true = rw e at w in
      cc);
}
queued-cut g h f s false e k = record { find = λ j o w. k.find j o (rw e at w); count = λ w. rw e (k.count (rw e at w)) }

queued-answered : (g : ℕ) (h : List ControllerAct) (f s i : ℕ) (a : Answer) (z : ControllerOrder) → oldest (queue f h) ≡ Some z → (b : Bool)
    → (g == f) ≡ b → Queued g h → Queued g (Answered f s i a ∷ h)
queued-answered g h f s i a z m true e k =
    let q : g ≡ f = grind arith in
    let m' : oldest (queue g h) ≡ Some z = rw q m in
    record {
      find = λ j o w.
          let w' = k.find (j + 1) o (place-rest j (queue g h) o (rw e at w)) in
          let n : answered g h + 1 + 1 + j ≡ answered g h + 1 + (j + 1) = omega arith in
          subst (λ b. numbered g (openings g h) ((if b then answered g h + 1 else answered g h) + 1 + j) h ≡ Some o) (sym e) (rw n w');
      count = λ w. let c = k.count w in let r = length-rest (queue g h) z m' in rw e (omega arith);
    }
queued-answered g h f s i a z m false e k = record {
  find = λ j o w. subst (λ b. numbered g (openings g h) ((if b then answered g h + 1 else answered g h) + 1 + j) h ≡ Some o) (sym e)
      (k.find j o (rw e at w));
  count = λ w. rw e (k.count w);
}

queued-ordered : (g : ℕ) (h : List ControllerAct) (f s i : ℕ) (z : ControllerOrder) → s ≡ openings f h → i ≡ orders f h + 1
    → is_open f h ≡ true → (b : Bool) → (g == f) ≡ b → Queued g h → Queued g (Ordered f s i z ∷ h)
queued-ordered g h f s i z es ei v true e k =
    let q : g ≡ f = grind arith in
    let es' : s ≡ openings g h = rw q es in
    let ei' : i ≡ orders g h + 1 = rw q ei in
    let v' : is_open g h ≡ true = rw q v in
    let c = k.count v' in
    record {
      find = λ j o w. elim (place-old j (queue g h) z o (rw e at w)) as (λ t. numbered g (openings g h) (answered g h + 1 + j)
          (Ordered f s i z ∷ h) ≡ Some o) [
            | inl p ↦
                let a : j < length (queue g h) = p.0 in
                let n : (answered g h + 1 + j == i) ≡ false = grind arith in
                let r = k.find j o p.1 in
                let u : (openings g h == s) ≡ true = grind arith in
                rw (e, u, n) r
            | inr p ↦
                let a : j ≡ length (queue g h) = p.0 in
                let n : (answered g h + 1 + j == i) ≡ true = grind arith in
                let u : (openings g h == s) ≡ true = grind arith in
                rw (e, u, n) (ap Some p.1)
          ];
      count = λ w. let l = length-more (queue g h) z in rw e (omega arith);
    }
queued-ordered g h f s i z es ei v false e k = record { find = λ j o w. rw e (k.find j o (rw e at w)); count = λ w. rw e (k.count w) }

pub queued : (p g : ℕ) (h : List ControllerAct) → IsControllerPast p h → Queued g h
queued p g [] l = record { find = λ j o w. cc; count = λ w. cc }
queued p g (Opened f s ∷ h) l = queued-opened g h f s (g == f) refl (queued p g h l.1)
queued p g (Cut f s ∷ h) l = queued-cut g h f s (g == f) refl (queued p g h l.1)
queued p g (Answered f s i a ∷ h) l = queued-answered g h f s i a l.0.0 l.0.1 (g == f) refl (queued p g h l.1)
queued p g (Heard f s t ∷ h) l = let k = queued p g h l.1 in record { find = k.find; count = k.count }
queued p g (Ordered f s i z ∷ h) l = queued-ordered g h f s i z l.0.0 l.0.1 l.0.2 (g == f) refl (queued p g h l.1)
queued p g (Accepted c ∷ h) l = let k = queued p g h l.1 in record { find = k.find; count = k.count }
queued p g (Refused w ∷ h) l = let k = queued p g h l.1 in record { find = k.find; count = k.count }

-- an answer is to the order of its session and number, and that is the oldest waiting
pub answers-number : (p g s n : ℕ) (a : Answer) (h : List ControllerAct) → IsControllerPast p (Answered g s n a ∷ h)
    → numbered g s n h ≡ oldest (queue g h)
answers-number p g s n a h l =
    let k = queued p g h l.1 in
    let o = l.0.1 in
    let r = k.find 0 l.0.0 (number-place (queue g h) l.0.0 o) in
    let z : answered g h + 1 + 0 ≡ n = let q = l.0.3 in omega arith in
    let r' : numbered g (openings g h) n h ≡ Some l.0.0 = rw z at r in
    rw l.0.2 (r' ∙ sym o)
