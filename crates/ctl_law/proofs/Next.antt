-- The order that a direction gets next is the one that the law gives it.
use Rattle.std.proofs.Common.{◌≡◌, ℕ, ◌+◌, Bool, true, false, not, ◌&&◌, nat_lt, List, [], ◌∷◌, ◌++◌, Option, Some, None, length, drop, length-drop, refl, sym, ap, ◌∙◌, arith, if◌then◌else◌}
use Rattle.std.specs.Option.{option_map}
use Rattle.hist_controller.specs.Acts.{Way, Association, ControllerOrder, PutIn, ControllerAct, Ordered}
use Rattle.hist_controller.specs.Past.{is_read, serials, spare, keys, is_over, is_wanted, left, is_busy}
use Rattle.hist_controller.specs.Law.{order, may_out_remove, may_in_remove, may_out_put, may_in_put, first, key_put, out_put, in_remove, out_remove, give}
use Rattle.hist_controller.specs.Clauses.{IsControllerPast}
use Rattle.hist_controller.specs.Halves.{PlainAnswers}
use Rattle.hist_controller.specs.Left.{listed, newest_left, older_left}
use Rattle.hist_controller.specs.Own.{own_orders}
use Rattle.hist_controller.proofs.KeysInTurn.{spare-keys}
use Rattle.hist_controller.proofs.Left.{older-newest as left-two}
use Rattle.hist_controller.proofs.Own.{busy-waiting}
use Rattle.ctl_tunnels.specs.declared.life.HalfOrder.{HalfOrder}
use Rattle.ctl_tunnels.specs.declared.life.Life.{Life}
use Rattle.ctl_tunnels.specs.declared.life.Task.{Task}
use Rattle.ctl_tunnels.specs.declared.life.Task.TheVariants as tasks
use Rattle.ctl_tunnels.specs.Lives as lives
use Rattle.ctl_tunnels.specs.Steps as steps
use Rattle.ctl_core.specs.Pass as passes
use Rattle.ctl_law.specs.Stands.{half_of, life_of, first_half, progress_of}
use Rattle.ctl_law.proofs.Own.{half, Awaits, nothing, at_sender, at_receiver}

-- the half of the order, where one is given
abbrev pub next_half : List ControllerAct → Option HalfOrder
next_half [] = None
next_half (Ordered g s n o ∷ more) = half_of o
next_half (_ ∷ more) = None

abbrev half_in : Task → Association → HalfOrder
half_in t x = record { task = t; serial = x.serial }

asked-first : (t : Task) (q : Life → Bool) (r : Association → Bool) (h : List ControllerAct) (a b : Option Association)
    → ((x : Association) → r x ≡ q (life_of h x))
    → steps.either (steps.asked t q (option_map (life_of h) a)) (steps.asked t q (option_map (life_of h) b)) ≡ option_map (half_in t)
    (first r (listed a ++ listed b))
asked-first t q r h None None e = refl
asked-first t q r h None (Some x) e = rw (e x) (one (q (life_of h x)))
  where
    one : (c : Bool) → (if c then half t x.serial else None) ≡ option_map (half_in t) (if c then Some x else None)
    one true = refl
    one false = refl
asked-first t q r h (Some y) None e = rw (e y) (one (q (life_of h y)))
  where
    one : (c : Bool) → steps.either (if c then half t y.serial else None) None ≡ option_map (half_in t) (if c then Some y else None)
    one true = refl
    one false = refl
asked-first t q r h (Some y) (Some x) e = rw (e y, e x) (two (q (life_of h y)) (q (life_of h x)))
  where
    two : (c d : Bool) → steps.either (if c then half t y.serial else None) (if d then half t x.serial else None) ≡ option_map (half_in t)
        (if c then Some y else if d then Some x else None)
    two true d = refl
    two false true = refl
    two false false = refl

-- ## the key of a new association

abbrev fresh_of : List (List ℕ) → ℕ → Option ℕ
fresh_of [] n = None
fresh_of (k ∷ ks) n = Some (n + 1)

key-left : (ks : List (List ℕ)) (n : ℕ) → (if nat_lt n (length ks) then Some (n + 1) else None) ≡ fresh_of (drop n ks) n
key-left ks n = case (drop n ks) refl
  where
    case : (rs : List (List ℕ)) → drop n ks ≡ rs → (if nat_lt n (length ks) then Some (n + 1) else None) ≡ fresh_of rs n
    case [] e = let m : length (drop n ks) ≡ 0 = ap length e in let t : nat_lt n (length ks) ≡ false = grind (arith, length-drop, m) in
        rw t refl
    case (k ∷ rs) e = let m : length (drop n ks) ≡ length (k ∷ rs) = ap length e in
        let t : nat_lt n (length ks) ≡ true = grind (arith, length-drop, m) in rw t refl

fresh-key : (p : ℕ) (h : List ControllerAct) → IsControllerPast p h → passes.fresh_serial (keys h) (serials h) ≡ fresh_of (spare h)
    (serials h)
fresh-key p h l = key-left (keys h) (serials h) ∙ ap (λ rs. fresh_of rs (serials h)) (sym (spare-keys p h l))

-- ## the next order

together : (w o s r : Bool) → (w && not o && s && r) ≡ ((w && not o) && s && r)
together true o s r = refl
together false o s r = refl

key-next : (h : List ControllerAct) (d : Way) (ks : List (List ℕ)) → steps.in_put (is_read d.sender h) (is_read d.receiver h)
    (progress_of h d) (fresh_of ks (serials h)) ≡ next_half (key_put h d ks)
key-next h d [] = refl
key-next h d (k ∷ ks) = rw (together (is_wanted d h) (is_over d h) (is_read d.sender h) (is_read d.receiver h)) (one (may_in_put h d))
  where
    one : (b : Bool) → (if b then half tasks.PutIn (serials h + 1) else None) ≡ next_half
        (if b then order h d.receiver (PutIn (record { serial = serials h + 1; key = k; way = d })) ∷ [] else [])
    one true = refl
    one false = refl

free-next : (p : ℕ) (h : List ControllerAct) (d : Way) → IsControllerPast p h → PlainAnswers h
    → steps.next_free (is_read d.sender h) (is_read d.receiver h) (passes.fresh_serial (keys h) (serials h)) (progress_of h d) ≡ next_half
    (out_remove h d (first (may_out_remove h d) (left d h)))
free-next p h d l y = rw (fresh-key p h l, out, inn, put) (by-out (first (may_out_remove h d) (left d h)))
  where
    two : left d h ≡ listed (older_left d h) ++ listed (newest_left d h)
    two = left-two p h l y d

    out : steps.either (steps.asked tasks.RemoveOut (lives.is_out_removable (is_read d.sender h)) (option_map (life_of h) (older_left d h)))
        (steps.asked tasks.RemoveOut (lives.is_out_removable (is_read d.sender h)) (option_map (life_of h) (newest_left d h))) ≡ option_map
        (half_in tasks.RemoveOut) (first (may_out_remove h d) (left d h))
    out = asked-first tasks.RemoveOut (lives.is_out_removable (is_read d.sender h)) (may_out_remove h d) h (older_left d h)
        (newest_left d h) (λ x. refl) ∙ ap (λ xs. option_map (half_in tasks.RemoveOut) (first (may_out_remove h d) xs)) (sym two)

    inn : steps.either (steps.asked tasks.RemoveIn (lives.is_in_removable (is_read d.receiver h)) (option_map (life_of h) (older_left d h)))
        (steps.asked tasks.RemoveIn (lives.is_in_removable (is_read d.receiver h)) (option_map (life_of h) (newest_left d h))) ≡ option_map
        (half_in tasks.RemoveIn) (first (may_in_remove h d) (left d h))
    inn = asked-first tasks.RemoveIn (lives.is_in_removable (is_read d.receiver h)) (may_in_remove h d) h (older_left d h) (newest_left d h)
        (λ x. refl) ∙ ap (λ xs. option_map (half_in tasks.RemoveIn) (first (may_in_remove h d) xs)) (sym two)

    put : steps.either (steps.asked tasks.PutOut (lives.is_out_puttable (is_read d.sender h) (is_read d.receiver h))
        (option_map (life_of h) (older_left d h)))
        (steps.asked tasks.PutOut (lives.is_out_puttable (is_read d.sender h) (is_read d.receiver h))
        (option_map (life_of h) (newest_left d h))) ≡ option_map (half_in tasks.PutOut) (first (may_out_put h d) (left d h))
    put = asked-first tasks.PutOut (lives.is_out_puttable (is_read d.sender h) (is_read d.receiver h)) (may_out_put h d) h (older_left d h)
        (newest_left d h) (λ x. refl) ∙ ap (λ xs. option_map (half_in tasks.PutOut) (first (may_out_put h d) xs)) (sym two)

    key : Option HalfOrder
    key = steps.in_put (is_read d.sender h) (is_read d.receiver h) (progress_of h d) (fresh_of (spare h) (serials h))

    by-put : (v : Option Association) → steps.either (option_map (half_in tasks.PutOut) v)
        (steps.in_put (is_read d.sender h) (is_read d.receiver h) (progress_of h d) (fresh_of (spare h) (serials h))) ≡ next_half
        (out_put h d v)
    by-put None = key-next h d (spare h)
    by-put (Some x) = refl

    by-in : (v : Option Association) → steps.either (option_map (half_in tasks.RemoveIn) v)
        (steps.either (option_map (half_in tasks.PutOut) (first (may_out_put h d) (left d h)))
        (steps.in_put (is_read d.sender h) (is_read d.receiver h) (progress_of h d) (fresh_of (spare h) (serials h)))) ≡ next_half
        (in_remove h d v)
    by-in None = by-put (first (may_out_put h d) (left d h))
    by-in (Some x) = refl

    by-out : (v : Option Association) → steps.either (option_map (half_in tasks.RemoveOut) v)
        (steps.either (option_map (half_in tasks.RemoveIn) (first (may_in_remove h d) (left d h)))
        (steps.either (option_map (half_in tasks.PutOut) (first (may_out_put h d) (left d h)))
        (steps.in_put (is_read d.sender h) (is_read d.receiver h) (progress_of h d) (fresh_of (spare h) (serials h))))) ≡ next_half
        (out_remove h d v)
    by-out None = by-in (first (may_in_remove h d) (left d h))
    by-out (Some x) = refl

pub next-is : (p : ℕ) (h : List ControllerAct) (d : Way) → IsControllerPast p h → PlainAnswers h → Awaits h d
    → steps.next (is_read d.sender h) (is_read d.receiver h) (passes.fresh_serial (keys h) (serials h)) (progress_of h d) ≡ next_half
    (give h d)
next-is p h d l y w = by w
  where
    busy : (xs : List ControllerOrder) → own_orders d h ≡ xs → is_busy d h ≡ is_busy d h
    busy xs e = refl

    none : first_half (own_orders d h) ≡ None → is_busy d h ≡ false → steps.next (is_read d.sender h) (is_read d.receiver h)
        (passes.fresh_serial (keys h) (serials h)) (progress_of h d) ≡ next_half (give h d)
    none e b =
        ap (steps.next_waits (is_read d.sender h) (is_read d.receiver h) (passes.fresh_serial (keys h) (serials h)) (progress_of h d)) e
        ∙ free-next p h d l y
        ∙ ap (λ c. next_half (if c then [] else out_remove h d (first (may_out_remove h d) (left d h)))) (sym b)

    some : (t : Task) (n : ℕ) → first_half (own_orders d h) ≡ half t n → is_busy d h ≡ true
        → steps.next (is_read d.sender h) (is_read d.receiver h) (passes.fresh_serial (keys h) (serials h)) (progress_of h d) ≡ next_half
        (give h d)
    some t n e b =
        ap (steps.next_waits (is_read d.sender h) (is_read d.receiver h) (passes.fresh_serial (keys h) (serials h)) (progress_of h d)) e
        ∙ ap (λ c. next_half (if c then [] else out_remove h d (first (may_out_remove h d) (left d h)))) (sym b)

    by : Awaits h d → steps.next (is_read d.sender h) (is_read d.receiver h) (passes.fresh_serial (keys h) (serials h)) (progress_of h d) ≡
        next_half (give h d)
    by (nothing e g) = none (rw (e, g) refl) (busy-waiting d h ∙ rw (e, g) refl)
    by (at_sender o t x e g u c j m v) = some t x.serial (rw e u) (busy-waiting d h ∙ rw e refl)
    by (at_receiver o t x e g u c j m v) = some t x.serial (rw (e, g) u) (busy-waiting d h ∙ rw (e, g) refl)
