-- Which tunnels are there, and how many.
use Rattle.std.proofs.Common.{◌≡◌, ℕ, ◌+◌, Bool, true, false, cond, ◌==◌, not, ◌&&◌, ◌||◌, List, [], ◌∷◌, ◌++◌, Option, Some, None, refl, sym, ap, ◌∙◌, arith, if◌then◌else◌}
use Rattle.std.proofs.lemmas.List.Sums.{sum_by-cons}
use Rattle.std.specs.List.{list_any}
use Rattle.std.specs.Option.{option_map}
use Rattle.hist_controller.specs.Acts.{Way, Association, ControllerAct}
use Rattle.hist_controller.specs.Past.{is_over, left}
use Rattle.hist_controller.specs.Law as law
use Rattle.hist_controller.specs.Spent.{is_spent}
use Rattle.hist_controller.specs.Clauses.{IsControllerPast}
use Rattle.hist_controller.specs.Halves.{PlainAnswers}
use Rattle.hist_controller.specs.Left.{listed, newest_left, older_left}
use Rattle.hist_controller.proofs.Left.{older-newest as left-two}
use Rattle.ctl_tunnels.specs.declared.tunnel.Direction.{Direction}
use Rattle.ctl_tunnels.specs.declared.tunnel.Pair.{Pair}
use Rattle.ctl_tunnels.specs.declared.tunnel.Tunnel.{Tunnel}
use Rattle.ctl_tunnels.specs.Steps as steps
use Rattle.ctl_core.specs.Changes as changes
use Rattle.ctl_law.specs.Stands.{life_of, progress_of, TunnelsStand, no_more, left_out, stands}
use Rattle.ctl_law.proofs.Spends.{and-both, spent-parts}

-- ## a tunnel of a reqid

gone-both : (x y z : Bool) → ((x && false) || ((y && false) || z)) ≡ z
gone-both true true z = refl
gone-both true false z = refl
gone-both false true z = refl
gone-both false false z = refl

either-way : (x a b z : Bool) → ((x && not (a && b)) || z) ≡ ((x && not a) || ((x && not b) || z))
either-way false a b z = refl
either-way true true b z = refl
either-way true false true z = refl
either-way true false false z = refl

known-one : (r a b c : ℕ) (m n x z : Bool) → b ≡ a → c ≡ a → x ≡ z → (((a == r) && not (m && n)) || x) ≡ (((b == r) && not m)
    || (((c == r) && not n) || z))
known-one r a b c m n x z e f g = rw (e, f, g) (either-way (a == r) m n z)

pub tunnel-known : (h : List ControllerAct) (r : ℕ) (ds : List Way) (ts : List Tunnel) (qs : List Pair) → TunnelsStand h ds ts qs
    → changes.has_tunnel r ts qs ≡ list_any (λ d. (d.tunnel.reqid == r) && not (is_over d h)) ds
tunnel-known h r _ _ _ no_more = refl
tunnel-known h r _ _ _ (left_out d e ds ts qs a b k) =
    let u : is_over d h ≡ true = (spent-parts h d a).over in
    let v : is_over e h ≡ true = (spent-parts h e b).over in
    tunnel-known h r ds ts qs k
    ∙ sym (rw (u, v) (gone-both (d.tunnel.reqid == r) (e.tunnel.reqid == r) (list_any (λ d. (d.tunnel.reqid == r) && not (is_over d h))
    ds)))
tunnel-known h r _ _ _ (stands d e ds t ts qs a k) =
    let ih : changes.has_tunnel r ts qs ≡ list_any (λ d. (d.tunnel.reqid == r) && not (is_over d h)) ds = tunnel-known h r ds ts qs k in
    let u : d.tunnel.reqid ≡ t.reqid = ap (λ (z : Direction). z.reqid) (sym a.forth) in
    let v : e.tunnel.reqid ≡ t.reqid = ap (λ (z : Direction). z.reqid) (sym a.back) in
    known-one r t.reqid d.tunnel.reqid e.tunnel.reqid (is_over d h) (is_over e h) _ _ u v ih

-- ## spent ones

none-listed : (h : List ControllerAct) (a b : Option Association)
    → law.is_none (listed a ++ listed b) ≡ (steps.is_none (option_map (life_of h) a) && steps.is_none (option_map (life_of h) b))
none-listed h None None = refl
none-listed h None (Some x) = refl
none-listed h (Some y) b = refl

and-last : (a b c : Bool) → ((a && b) && c) ≡ (a && (b && c))
and-last true b c = refl
and-last false b c = refl

spent-is : (p : ℕ) (h : List ControllerAct) (d : Way) → IsControllerPast p h → PlainAnswers h
    → steps.is_spent (progress_of h d) ≡ (is_over d h && law.is_none (left d h))
spent-is p h d l y = and-last (is_over d h) _ _
    ∙ ap (λ b. is_over d h && b) (sym (ap law.is_none (left-two p h l y d) ∙ none-listed h (older_left d h) (newest_left d h)))

spent-there : (p : ℕ) (h : List ControllerAct) (d : Way) → IsControllerPast p h → PlainAnswers h → steps.is_spent (progress_of h d) ≡ true
    → is_spent d h ≡ true
spent-there p h d l y e = sym (spent-is p h d l y) ∙ e

pub unspent-stand : (p : ℕ) (h : List ControllerAct) (ds : List Way) (ts : List Tunnel) (qs : List Pair) → IsControllerPast p h
    → PlainAnswers h → TunnelsStand h ds ts qs → TunnelsStand h ds (changes.unspent_tunnels ts qs) (changes.unspent_pairs ts qs)
unspent-stand p h _ _ _ l y no_more = no_more
unspent-stand p h _ _ _ l y (left_out d e ds ts qs a b k) = left_out d e ds _ _ a b (unspent-stand p h ds ts qs l y k)
unspent-stand p h _ _ _ l y (stands d e ds t ts qs a k) =
    case (changes.is_spent (record { forth = progress_of h d; back = progress_of h e })) refl (unspent-stand p h ds ts qs l y k)
  where
    case : (b : Bool) → changes.is_spent (record { forth = progress_of h d; back = progress_of h e }) ≡ b
        → TunnelsStand h ds (changes.unspent_tunnels ts qs) (changes.unspent_pairs ts qs)
        → TunnelsStand h (d ∷ e ∷ ds) (if b then changes.unspent_tunnels ts qs else t ∷ changes.unspent_tunnels ts qs)
        (if b then changes.unspent_pairs ts qs else record { forth = progress_of h d; back = progress_of h e }
        ∷ changes.unspent_pairs ts qs)
    case true u ih =
        let q = and-both (steps.is_spent (progress_of h d)) (steps.is_spent (progress_of h e)) u in
        left_out d e ds _ _ (spent-there p h d l y q.0) (spent-there p h e l y q.1) ih
    case false u ih = stands d e ds t _ _ a ih

-- ## how many

counted-is : (a b c e : Bool) → not ((a && b) && (c && e)) ≡ ((not a || not b) || (not c || not e))
counted-is true true true e = refl
counted-is true true false e = refl
counted-is true false c e = refl
counted-is false b c e = refl

pub tunnels-count : (p : ℕ) (h : List ControllerAct) (ds : List Way) (ts : List Tunnel) (qs : List Pair) → IsControllerPast p h
    → PlainAnswers h → TunnelsStand h ds ts qs → changes.count_tunnels qs ≡ law.tunnels h ds
tunnels-count p h _ _ _ l y no_more = refl
tunnels-count p h _ _ _ l y (left_out d e ds ts qs a b k) =
    let u : is_over d h ≡ true = (spent-parts h d a).over in
    let v : is_over e h ≡ true = (spent-parts h e b).over in
    let m : left d h ≡ [] = (spent-parts h d a).left in
    let n : left e h ≡ [] = (spent-parts h e b).left in
    tunnels-count p h ds ts qs l y k ∙ sym (rw (u, v, m, n) refl)
tunnels-count p h _ _ _ l y (stands d e ds t ts qs a k) =
    let ih : changes.count_tunnels qs ≡ law.tunnels h ds = tunnels-count p h ds ts qs l y k in
    let u : not (steps.is_spent (progress_of h d) && steps.is_spent (progress_of h e)) ≡ (law.is_counted h d || law.is_counted h e) =
    ap (λ b. not (b && steps.is_spent (progress_of h e))) (spent-is p h d l y)
    ∙ ap (λ b. not ((is_over d h && law.is_none (left d h)) && b)) (spent-is p h e l y)
    ∙ counted-is (is_over d h) (law.is_none (left d h)) (is_over e h) (law.is_none (left e h)) in
    sum_by-cons (λ (q : Pair). cond (not (changes.is_spent q)) 1 0) (record { forth = progress_of h d; back = progress_of h e }) qs
    ∙ ap (λ b. cond b 1 0 + changes.count_tunnels qs) u
    ∙ ap (λ n. cond (law.is_counted h d || law.is_counted h e) 1 0 + n) ih
    ∙ by-count (law.is_counted h d || law.is_counted h e) (law.tunnels h ds)
  where
    by-count : (b : Bool) (n : ℕ) → cond b 1 0 + n ≡ (if b then n + 1 else n)
    by-count true n = omega arith
    by-count false n = omega arith
