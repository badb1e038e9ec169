-- What commands, openings and notices make of a direction.
use Rattle.std.proofs.Common.{◌≡◌, ℕ, ◌<◌, ◌≤◌, ◌^◌, Bool, true, false, ◌==◌, not, ◌&&◌, ◌||◌, nat_lt, List, [], ◌∷◌, ◌++◌, Option, Some, None, length, map, refl, sym, ap, ◌∙◌, arith, if◌then◌else◌}
use Rattle.std.specs.List.{filter, list_any}
use Rattle.std.specs.Option.{option_map}
use Rattle.std.specs.Str.{bytes_eq}
use Rattle.ikeless_tree.specs.declared.command.Refusal.{Refusal}
use Rattle.ikeless_tree.specs.declared.entry.SpdEntry.{SpdEntry}
use Rattle.ikeless_tree.specs.declared.order.Notice.{Notice}
use Rattle.ikeless_tree.specs.declared.order.Notice.TheVariants as notices
use Rattle.std.proofs.Math.Bool.{or-false, and-false}
use Rattle.hist_controller.specs.Acts.{Way, Association, ControllerOrder, Read, Policy, PutIn, PutOut, RemoveIn, RemoveOut, PlacedTunnel, SetPolicy, Tunnel, End, Rekey, Keys, ControllerAct, Opened, Heard, Accepted, Refused}
use Rattle.hist_controller.specs.Past.{is_open, queue, directions, is_made_by, left, newest_serial, is_own, is_cause_notice, has_entry, newest_list, is_half_at, is_of_newest, is_in_progress, is_ended}
use Rattle.hist_controller.specs.Clauses.{Has, IsControllerPast}
use Rattle.hist_controller.specs.Halves.{PlainAnswers}
use Rattle.hist_controller.proofs.KeptState.{made-no, rising}
use Rattle.hist_controller.proofs.Serials.{upto}
use Rattle.hist_controller.proofs.Waits.{shut-queue}
use Rattle.hist_controller.proofs.Homes.{own-way}
use Rattle.hist_controller.proofs.Gives.{first-some}
use Rattle.ctl_tunnels.specs.declared.half.HalfName.{HalfName}
use Rattle.ctl_tunnels.specs.declared.half.Side.{Side}
use Rattle.ctl_tunnels.specs.declared.half.Side.TheVariants as sides
use Rattle.ctl_tunnels.specs.declared.life.Life.{Life}
use Rattle.ctl_tunnels.specs.Halves.{half_named, IsHalfName, names_in, names_out, is_in, is_out}
use Rattle.ctl_tunnels.specs.Lives as lives
use Rattle.ctl_tunnels.specs.Steps as steps
use Rattle.ctl_tunnels.proofs.HalfNames.{half-is}
use Rattle.ctl_core.specs.Changes.{reqids_in, has_reqid}
use Rattle.ctl_core.specs.Step.{notice_effect, worn_effect, end_effect, rekey_effect}
use Rattle.hist_controller.specs.Left.{listed, newest_left, older_left}
use Rattle.hist_controller.specs.Own.{own_orders}
use Rattle.ctl_law.specs.Stands.{life_of, first_half, progress_of, direction_of}
use Rattle.hist_controller.proofs.Left.{older-newest as left-two}
use Rattle.hist_controller.proofs.KeysInTurn.{left-serial}
use Rattle.hist_controller.proofs.Own.{waiting-left}
use Rattle.ctl_law.proofs.Lists.{filter-none}
use Rattle.ctl_law.proofs.Progresses.{same-progress, made-first, same-first, older-left, newest-left, any-two}

-- ## an opening

queue-opened : (p : ℕ) (h : List ControllerAct) (f s g : ℕ) → IsControllerPast p h → is_open f h ≡ false
    → queue g (Opened f s ∷ h) ≡ queue g h
queue-opened p h f s g l e = case (g == f) refl
  where
    case : (b : Bool) → (g == f) ≡ b → (if b then [] else queue g h) ≡ queue g h
    case true t = let w : g ≡ f = grind arith in sym (ap (λ z. queue z h) w ∙ shut-queue p h f l e)
    case false t = refl

pub progress-opened : (p : ℕ) (h : List ControllerAct) (f s : ℕ) (d : Way) → IsControllerPast p h → is_open f h ≡ false
    → progress_of (Opened f s ∷ h) d ≡ progress_of h d
progress-opened p h f s d l e =
    let a : queue d.sender (Opened f s ∷ h) ≡ queue d.sender h = queue-opened p h f s d.sender l e in
    let b : queue d.receiver (Opened f s ∷ h) ≡ queue d.receiver h = queue-opened p h f s d.receiver l e in
    let q : own_orders d (Opened f s ∷ h) ≡ own_orders d h = rw (a, b) refl in
    same-progress _ _ _ _ _ _ _ _ _ _ refl refl (ap first_half q) refl refl

-- ## a refusal, a list, a key, a rekey, and the end of a tunnel

pub progress-refused : (h : List ControllerAct) (w : Refusal) (d : Way) → progress_of (Refused w ∷ h) d ≡ progress_of h d
progress-refused h w d = refl

pub progress-policy : (h : List ControllerAct) (g : ℕ) (l : List SpdEntry) (d : Way)
    → progress_of (Accepted (SetPolicy g l) ∷ h) d ≡ progress_of h d
progress-policy h g l d = refl

pub progress-keys : (h : List ControllerAct) (k : List ℕ) (d : Way) → progress_of (Accepted (Keys k) ∷ h) d ≡ progress_of h d
progress-keys h k d = refl

pub progress-rekey : (h : List ControllerAct) (r : ℕ) (d : Way) → progress_of (Accepted (Rekey r) ∷ h) d ≡ rekey_effect r (direction_of d)
    (progress_of h d)
progress-rekey h r d = refl

pub progress-end : (p : ℕ) (h : List ControllerAct) (r : ℕ) (d : Way) → IsControllerPast p h → Has d (directions h)
    → progress_of (Accepted (End r) ∷ h) d ≡ end_effect r (direction_of d) (progress_of h d)
progress-end p h r d l i = case (d.tunnel.reqid == r) refl
  where
    own : (x : Association) → Has x (left d h) → x.way.tunnel.reqid ≡ d.tunnel.reqid
    own x j = ap (λ (z : Way). z.tunnel.reqid) (sym (own-way p h l d x i j))

    life : Bool → Association → Life
    life b x = record {
      serial = x.serial;
      in_done = (life_of h x).in_done;
      out_sent = (life_of h x).out_sent;
      out_done =
          (life_of h x).out_done;
      out_gone = (life_of h x).out_gone;
      ended = b || is_ended x h;
    }

    after-end : (x : Association) → Has x (left d h) → (b : Bool) → (d.tunnel.reqid == r) ≡ b → life b x ≡ life_of (Accepted (End r) ∷ h) x
    after-end x j b t = let e : (x.way.tunnel.reqid == r) ≡ b = (rw (own x j) t) in rw e refl

    case : (b : Bool) → (d.tunnel.reqid == r) ≡ b → progress_of (Accepted (End r) ∷ h) d ≡ (if b then steps.ended (progress_of h d)
        else progress_of h d)
    case true t = same-progress _ _ _ _ _ _ _ _ _ _ (rw t refl) refl refl
        (sym (made-first (lives.ended_if true) (life_of h) (life_of (Accepted (End r) ∷ h)) (older_left d h)
        (λ x e. after-end x (older-left d h x e) true t)))
        (sym (made-first (lives.ended_if true) (life_of h) (life_of (Accepted (End r) ∷ h)) (newest_left d h)
        (λ x e. after-end x (newest-left d h x e) true t)))
    case false t = same-progress _ _ _ _ _ _ _ _ _ _ (rw t refl) refl refl
        (same-first (life_of (Accepted (End r) ∷ h)) (life_of h) (older_left d h) (λ x e. sym (after-end x (older-left d h x e) false t)))
        (same-first (life_of (Accepted (End r) ∷ h)) (life_of h) (newest_left d h) (λ x e. sym (after-end x (newest-left d h x e) false t)))

-- ## a tunnel

pub progress-tunnel : (h : List ControllerAct) (t : PlacedTunnel) (d : Way) → Has d (directions h)
    → progress_of (Accepted (Tunnel t) ∷ h) d ≡ progress_of h d
progress-tunnel h t d i =
    let u : d.id < length (directions h) = (let v = upto 0 (directions h) d (rising h) i in omega arith) in
    let m : is_made_by (Tunnel t) (length (directions h)) d ≡ false = made-no (Tunnel t) (length (directions h)) d u in
    rw m refl

new-id : (h : List ControllerAct) (d e : Way) → length (directions h) ≤ d.id → Has e (directions h) → (d.id == e.id) ≡ false
new-id h d e u i = let v = upto 0 (directions h) e (rising h) i in grind arith

not-own : (p : ℕ) (h : List ControllerAct) (d : Way) → IsControllerPast p h → length (directions h) ≤ d.id → (g : ℕ) (o : ControllerOrder)
    → Has o (queue g h) → is_own d [] o ≡ false
not-own p h d l u g Read i = refl
not-own p h d l u g (Policy q) i = refl
not-own p h d l u g (PutIn y) i = new-id h d y.way u (waiting-left p h l g (PutIn y) i).0
not-own p h d l u g (PutOut y) i = new-id h d y.way u (waiting-left p h l g (PutOut y) i).0
not-own p h d l u g (RemoveIn n) i = refl
not-own p h d l u g (RemoveOut n) i = refl

pub progress-new : (p : ℕ) (h : List ControllerAct) (t : PlacedTunnel) (d : Way) → IsControllerPast p h → length (directions h) ≤ d.id
    → progress_of (Accepted (Tunnel t) ∷ h) d ≡ steps.begun t.spec.now
progress-new p h t d l u =
    let m : is_made_by (Tunnel t) (length (directions h)) d ≡ true = grind arith in
    let a : filter (is_own d []) (queue d.sender h) ≡ [] = filter-none (is_own d []) (queue d.sender h) (not-own p h d l u d.sender) in
    let b : filter (is_own d []) (queue d.receiver h) ≡ [] = filter-none (is_own d []) (queue d.receiver h) (not-own p h d l u d.receiver)
    in
    rw (m, a, b) refl

-- ## a notice

pub progress-heard : (h : List ControllerAct) (f s : ℕ) (t : Notice) (d : Way) → progress_of (Heard f s t ∷ h) d ≡ steps.wanted_if
    (is_cause_notice h d f t) (progress_of h d)
progress-heard h f s t d = refl

-- an entry of this name has the reqid
has-reqid : (name : List ℕ) (r : ℕ) (l : List SpdEntry) → has_entry name r (Some l) ≡ has_reqid (reqids_in name (Some l)) r
has-reqid name r [] = refl
has-reqid name r (e ∷ l) = let ih = has-reqid name r l in case (bytes_eq e.name name) refl ih
  where
    case : (b : Bool) → bytes_eq e.name name ≡ b → has_entry name r (Some l) ≡ has_reqid (reqids_in name (Some l)) r
        → ((b && (e.reqid == r)) || has_entry name r (Some l)) ≡ has_reqid
        (map (λ (z : SpdEntry). z.reqid) (if b then e ∷ filter (λ z. bytes_eq z.name name) l else filter (λ z. bytes_eq z.name name) l)) r
    case true t ih = rw ih refl
    case false t ih = ih

has-entry : (name : List ℕ) (r : ℕ) (l : Option (List SpdEntry)) → has_entry name r l ≡ has_reqid (reqids_in name l) r
has-entry name r None = refl
has-entry name r (Some l) = has-reqid name r l

no-one : (a b : Bool) → not (a || b) ≡ (not a && not b)
no-one true b = refl
no-one false b = refl

settled : (p : ℕ) (h : List ControllerAct) (d : Way) → IsControllerPast p h → PlainAnswers h
    → not (list_any (is_in_progress h) (left d h)) ≡ steps.is_settled (progress_of h d)
settled p h d l a =
    let e = left-two p h l a d in
    let f = any-two (is_in_progress h) lives.is_open (life_of h) (older_left d h) (newest_left d h) (λ x. refl) in
    ap (λ xs. not (list_any (is_in_progress h) xs)) e ∙ ap not f ∙ no-one _ _

small : (n : ℕ) → n ≤ 1048576 → n < 2 ^ 32
small n e = omega arith

-- ### wear

-- the half of a serial that the gateway has in the direction has this name
side : (d : Way) (g : ℕ) (name : List ℕ) (n : ℕ) (half : Option HalfName) → IsHalfName name half → n < 2 ^ 32
    → is_half_at d g name n ≡ (((d.receiver == g) && names_in half n) || ((d.sender == g) && names_out half n))
side d g name n half k u = rw (k.inbound n u, k.outbound n u) refl

no-half : (d : Way) (g : ℕ) (n : ℕ) → (((d.receiver == g) && names_in None n) || ((d.sender == g) && names_out None n)) ≡ false
no-half d g n = grind arith

in-half : (a b t e : Bool) → (((a && t) || (b && false)) && e) ≡ (a && t && e)
in-half a b true e = grind arith
in-half a b false e = grind arith

out-half : (a b t e : Bool) → (((a && false) || (b && t)) && e) ≡ (b && t && e)
out-half a b true e = grind arith
out-half a b false e = grind arith

by-side : (a b : Bool) (s : Side) (n m : ℕ) (e : Bool) → (((a && is_in s n m) || (b && is_out s n m)) && e) ≡ (steps.is_side b a s
    && (n == m) && e)
by-side a b sides.In n m e = in-half a b (n == m) e
by-side a b sides.Out n m e = out-half a b (n == m) e

pub older-below : (d : Way) (h : List ControllerAct) (y : Association) → older_left d h ≡ Some y → (y.serial == newest_serial d h) ≡ false
older-below d h y e = let t : nat_lt y.serial (newest_serial d h) ≡ true =
    (first-some (λ x. nat_lt x.serial (newest_serial d h)) (left d h) y e).1 in grind arith

pub newest-is : (d : Way) (h : List ControllerAct) (x : Association) → newest_left d h ≡ Some x → (x.serial == newest_serial d h) ≡ true
newest-is d h x e = (first-some (λ z. z.serial == newest_serial d h) (left d h) x e).1

alive : (p : ℕ) (h : List ControllerAct) (d : Way) → IsControllerPast p h → PlainAnswers h
    → list_any (λ x. (x.serial == newest_serial d h) && not (is_ended x h)) (left d h) ≡ steps.when (λ x. not x.ended)
    (option_map (life_of h) (newest_left d h))
alive p h d l a = ap (list_any (λ x. (x.serial == newest_serial d h) && not (is_ended x h))) (left-two p h l a d)
    ∙ case (older_left d h) (newest_left d h) refl refl
  where
    case : (o m : Option Association) → older_left d h ≡ o → newest_left d h ≡ m
        → list_any (λ x. (x.serial == newest_serial d h) && not (is_ended x h)) (listed o ++ listed m) ≡ steps.when (λ x. not x.ended)
        (option_map (life_of h) m)
    case None None e f = refl
    case None (Some x) e f = let t = newest-is d h x f in rw t (or-false (not (is_ended x h)))
    case (Some y) None e f = let t = older-below d h y e in rw t refl
    case (Some y) (Some x) e f = let t = newest-is d h x f in let u = older-below d h y e in rw (t, u) (or-false (not (is_ended x h)))

-- a half of the association put last, which is not ended
abbrev worn_half : List ControllerAct → Way → ℕ → Option HalfName → Option Association → Bool
worn_half h d g None m = false
worn_half h d g (Some half) m = steps.when (λ x. steps.is_side (d.sender == g) (d.receiver == g) half.side && (x.serial == half.serial)
    && not x.ended) (option_map (life_of h) m)

by-half : (h : List ControllerAct) (d : Way) (g : ℕ) (half : Option HalfName) → worn_effect g half (direction_of d) (progress_of h d) ≡
    steps.wanted_if (worn_half h d g half (newest_left d h)) (progress_of h d)
by-half h d g None = refl
by-half h d g (Some half) = refl

worn : (p : ℕ) (h : List ControllerAct) (d : Way) (g : ℕ) (name : List ℕ) → IsControllerPast p h → PlainAnswers h
    → worn_effect g (half_named name) (direction_of d) (progress_of h d) ≡ steps.wanted_if (is_of_newest h d g name) (progress_of h d)
worn p h d g name l a = by-half h d g (half_named name)
    ∙ ap (λ b. steps.wanted_if b (progress_of h d)) (ap (worn_half h d g (half_named name)) refl
    ∙ case (half_named name) (newest_left d h) refl (half-is name) (alive p h d l a))
  where
    is-newest : (x : Association) → newest_left d h ≡ Some x → newest_serial d h ≡ x.serial
    is-newest x e = let t = newest-is d h x e in grind arith

    is-small : (x : Association) → newest_left d h ≡ Some x → newest_serial d h < 2 ^ 32
    is-small x e = rw (is-newest x e) (small x.serial (left-serial p h l d x (newest-left d h x e)).1)

    case : (half : Option HalfName) (m : Option Association) → newest_left d h ≡ m → IsHalfName name half
        → list_any (λ x. (x.serial == newest_serial d h) && not (is_ended x h)) (left d h) ≡ steps.when (λ x. not x.ended)
        (option_map (life_of h) m)
        → worn_half h d g half m ≡ (is_half_at d g name (newest_serial d h)
        && list_any (λ x. (x.serial == newest_serial d h) && not (is_ended x h)) (left d h))
    case None None e k u = rw u (sym (and-false (is_half_at d g name (newest_serial d h))))
    case None (Some x) e k u = rw (side d g name (newest_serial d h) None k (is-small x e), no-half d g (newest_serial d h)) refl
    case (Some half) None e k u = rw u (sym (and-false (is_half_at d g name (newest_serial d h))))
    case (Some half) (Some x) e k u =
        rw (u, side d g name (newest_serial d h) (Some half) k (is-small x e), is-newest x e)
        (sym (by-side (d.receiver == g) (d.sender == g) half.side x.serial half.serial (not (is_ended x h))))

pub progress-noticed : (p : ℕ) (h : List ControllerAct) (g s : ℕ) (t : Notice) (d : Way) → IsControllerPast p h → PlainAnswers h
    → progress_of (Heard g s t ∷ h) d ≡ notice_effect g (newest_list g h) t (direction_of d) (progress_of h d)
progress-noticed p h g s (notices.Acquire name q) d l a =
    let e = has-entry name d.tunnel.reqid (newest_list g h) in
    let f = settled p h d l a in
    rw (e, f) refl
progress-noticed p h g s (notices.Expire name soft q) d l a = sym (worn p h d g name l a)
progress-noticed p h g s (notices.SeqOverflow name) d l a = sym (worn p h d g name l a)
progress-noticed p h g s (notices.BadSpi n) d l a = refl
