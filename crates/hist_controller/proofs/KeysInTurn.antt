-- Keys are used in the order in which they were accepted, and what an open session has given it has answered or waits for.
use Rattle.std.proofs.Common.{◌≡◌, ℕ, ◌+◌, ◌-◌, ◌<◌, ◌≤◌, Bool, true, false, ◌==◌, ◌&&◌, ◌||◌, not, List, ◌∷◌, [], Some, ◌⊎◌, inl, inr, length, drop, refl, sym, ◌∙◌, ap, arith, if◌then◌else◌}
use Rattle.std.proofs.Math.Seq.{drop-append_seam}
use Rattle.hist_controller.specs.Acts.{Way, Association, ControllerAct, Opened, Cut, Answered, Heard, Ordered, Accepted, Refused}
use Rattle.hist_controller.specs.Past.{is_open, orders, answered, queue, is_first_answered, keys, serials, spare, left}
use Rattle.hist_controller.specs.Machine.{place}
use Rattle.hist_controller.specs.Clauses.{Has, IsControllerPast}
use Rattle.hist_controller.proofs.Accepts.{few-keys, few-serials}
use Rattle.hist_controller.proofs.Often.{keyed}
use Rattle.hist_controller.proofs.Readings.{queued}
use Rattle.hist_controller.proofs.Left.{left-serials}

pub spare-keys : (p : ℕ) (h : List ControllerAct) → IsControllerPast p h → spare h ≡ drop (serials h) (keys h)
spare-keys p h l =
    let k = keyed p h l in
    sym (ap (λ n. drop n (keys h)) (sym k.many) ∙ (ap (drop (length k.gone)) k.split ∙ drop-append_seam k.gone (spare h)))

pub left-key : (p : ℕ) (h : List ControllerAct) → IsControllerPast p h → (d : Way) (x : Association) → Has x (left d h)
    → place (x.serial - 1) (keys h) ≡ Some x.key
left-key p h l d x i = (keyed p h l).right d x i

pub left-serial : (p : ℕ) (h : List ControllerAct) → IsControllerPast p h → (d : Way) (x : Association) → Has x (left d h) → (0 < x.serial)
    × (x.serial ≤ 1048576)
left-serial p h l d x i =
    let a = left-serials p h l d x i in
    let a0 : 1 ≤ x.serial = a.0 in
    let a1 : x.serial ≤ serials h = a.1 in
    let b = few-serials p h l in
    let c = few-keys p h l in
    (omega arith, omega arith)

pub open-queue : (p : ℕ) (h : List ControllerAct) → IsControllerPast p h → (g : ℕ) → is_open g h ≡ true
    → orders g h ≡ answered g h + length (queue g h)
open-queue p h l g o = (queued p g h l).count o

-- ## the first answer of a session

opened-first : (b r : Bool) (n : ℕ) → (r ≡ true) ⊎ (n ≡ 0) → ((not b && r) ≡ true) ⊎ ((if b then 0 else n) ≡ 0)
opened-first true r n k = inr refl
opened-first false r n k = k

answered-first : (g f n : ℕ) (h : List ControllerAct) → n ≡ answered f h + 1 → (b : Bool) → (g == f) ≡ b → (is_first_answered g h ≡ true)
    ⊎ (answered g h ≡ 0) → (((b && (n == 1)) || is_first_answered g h) ≡ true) ⊎ ((if b then answered g h + 1 else answered g h) ≡ 0)
answered-first g f n h e true t (inl k) = inl (or-true (n == 1) (is_first_answered g h) k)
  where
    or-true : (a b : Bool) → b ≡ true → (a || b) ≡ true
    or-true true b e = refl
    or-true false b e = e
answered-first g f n h e true t (inr k) =
    let q : g ≡ f = grind arith in
    let w : answered g h ≡ answered f h = ap (λ z. answered z h) q in
    let u : (n == 1) ≡ true = grind arith in
    inl (rw u refl)
answered-first g f n h e false t k = k

pub first-reading : (p : ℕ) (h : List ControllerAct) → IsControllerPast p h → (g : ℕ) → (is_first_answered g h ≡ true) ⊎ (answered g h ≡ 0)
first-reading p [] l g = inr refl
first-reading p (Opened f s ∷ h) l g = opened-first (g == f) (is_first_answered g h) (answered g h) (first-reading p h l.1 g)
first-reading p (Cut f s ∷ h) l g = first-reading p h l.1 g
first-reading p (Answered f s n a ∷ h) l g = answered-first g f n h l.0.3 (g == f) refl (first-reading p h l.1 g)
first-reading p (Heard f s t ∷ h) l g = first-reading p h l.1 g
first-reading p (Ordered f s n o ∷ h) l g = first-reading p h l.1 g
first-reading p (Accepted c ∷ h) l g = first-reading p h l.1 g
first-reading p (Refused w ∷ h) l g = first-reading p h l.1 g
