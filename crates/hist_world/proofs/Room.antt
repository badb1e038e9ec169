-- Where puts are answered with 201 or refused, a gateway has room for the put that it handles next: each live half and the
-- new one are of associations left there, and these are few.
use Rattle.std.proofs.Common.{◌≡◌, ℕ, suc, ◌+◌, ◌<◌, ◌≤◌, Bool, true, false, ◌==◌, nat_le, not, List, [], ◌∷◌, ◌++◌, length, map, decimal, Some, refl, sym, ◌∙◌, ap, subst, inl, inr, ◌⊎◌, arith, if◌then◌else◌}
use Rattle.std.proofs.lemmas.Bool.{or_right, or_left, and_from, not-true}
use Rattle.std.specs.Str.{bytes_eq}
use Rattle.ikeless_tree.specs.declared.sad.SadEntry.{SadEntry}
use Rattle.ikeless_tree.specs.declared.command.Peer.{Peer}
use Rattle.ikeless_tree.specs.declared.order.Order.TheVariants as asks
use Rattle.ikeless_tree.specs.Half.{in_name, out_name, in_half}
use Rattle.reply_table.specs.Reply.{is_sad_full}
use Rattle.hist_acts.specs.declared.act as happened
use Rattle.hist_acts.specs.Sessions.{handled, next_request, session_taken}
use Rattle.hist_halves.specs.Halves.{is_live, live}
use Rattle.hist_gateway.specs.May.{are_apart, has_half}
use Rattle.hist_gateway.specs.Rows.{row_of, tree_of}
use Rattle.hist_gateway.proofs.PlainReadings.{live-is}
use Rattle.hist_controller.specs.Acts.{Way, Association, PutIn, PutOut, ControllerAct}
use Rattle.hist_controller.specs.Past.{RemovingIn, directions, has_answer, left}
use Rattle.hist_controller.specs.Clauses.{Has, IsControllerPast}
use Rattle.hist_controller.specs.Halves.{PlainAnswers, half_count, is_at_gateway}
use Rattle.hist_controller.specs.Orders.{WasOrdered}
use Rattle.hist_controller.specs.Told.{Named, peer_name, past_told}
use Rattle.hist_controller.proofs.Accepts.{placings}
use Rattle.hist_controller.proofs.Few.{few-halves}
use Rattle.hist_controller.proofs.Homes.{in-home, out-home}
use Rattle.hist_controller.proofs.KeptState.{length-map}
use Rattle.hist_controller.proofs.Lists.{has-left, length-both, right-in}
use Rattle.hist_safety.specs.Kept.{Dead, IsOneOf}
use Rattle.hist_safety.specs.Law.{IsLawful, is_ready}
use Rattle.hist_safety.specs.Orders as world
use Rattle.hist_safety.proofs.Basics.{no, both-left, both-right, eq-nat, if-new, if-old, name-true, self}
use Rattle.hist_safety.proofs.Halves.{last}
use Rattle.hist_safety.proofs.Live.{stands}
use Rattle.hist_safety.proofs.Once.{too-far}
use Rattle.hist_safety.proofs.Orders.{place, put-order}
use Rattle.hist_safety.proofs.Pairs.{order-ordered}
use Rattle.hist_safety.proofs.Removal.{left-off, off-dead}
use Rattle.hist_safety.proofs.Sessions.{next-is}
use Rattle.hist_world.specs.Stands.{Meet}
use Rattle.hist_world.proofs.Fresh.{live-apart, name-free}
use Rattle.hist_world.proofs.Owners.{IsHalfOf, in-left-told, left-or-gone, owner}
use Rattle.hist_world.proofs.Parts.{left-part, order-of-part, site-part}
use Rattle.hist_world.proofs.Told.{in-half, in-order, inbound-given, out-half, out-site}

-- ---- the halves of the associations left

-- the half of an association at a gateway of its direction
abbrev half_at : ℕ → Way → Association → List ℕ
half_at g d x = if d.receiver == g then in_name x.serial else out_name x.serial

-- the halves at a gateway of the associations left in these directions
abbrev names_at : ℕ → List ControllerAct → List Way → List (List ℕ)
names_at g h [] = []
names_at g h (d ∷ ds) = if is_at_gateway g d then map (half_at g d) (left d h) ++ names_at g h ds else names_at g h ds

count-if : (b : Bool) (xs ys : List (List ℕ)) (m n : ℕ) → length xs ≡ m → length ys ≡ n
    → length (if b then xs ++ ys else ys) ≡ (if b then m + n else n)
count-if true xs ys m n p q = let e = length-both xs ys in omega (arith, e, p, q)
count-if false xs ys m n p q = q

names-count : (g : ℕ) (h : List ControllerAct) (ds : List Way) → length (names_at g h ds) ≡ half_count g h ds
names-count g h [] = refl
names-count g h (d ∷ ds) =
    count-if (is_at_gateway g d) (map (half_at g d) (left d h)) (names_at g h ds) (length (left d h)) (half_count g h ds)
    (length-map (half_at g d) (left d h)) (names-count g h ds)

has-map : {A B : Type 0} (f : A → B) (x : A) (xs : List A) → Has x xs → Has (f x) (map f xs)
has-map f x [] i = absurd i
has-map f x (y ∷ xs) (inl e) = inl (ap f e)
has-map f x (y ∷ xs) (inr i) = inr (has-map f x xs i)

names-new : (b : Bool) (x : List ℕ) (xs ys : List (List ℕ)) → b ≡ true → Has x xs → Has x (if b then xs ++ ys else ys)
names-new true x xs ys e i = has-left x xs ys i
names-new false x xs ys e i = absurd (no e)

names-old : (b : Bool) (x : List ℕ) (xs ys : List (List ℕ)) → Has x ys → Has x (if b then xs ++ ys else ys)
names-old true x xs ys i = right-in x xs ys i
names-old false x xs ys i = i

names-has : (g : ℕ) (h : List ControllerAct) (ds : List Way) (d : Way) (x : Association) → Has d ds → is_at_gateway g d ≡ true
    → Has x (left d h) → Has (half_at g d x) (names_at g h ds)
names-has g h [] d x i t j = absurd i
names-has g h (c ∷ ds) d x (inl e) t j =
    names-new (is_at_gateway g c) (half_at g d x) (map (half_at g c) (left c h)) (names_at g h ds)
    (subst (λ (z : Way). is_at_gateway g z ≡ true) e t)
    (subst (λ (z : Way). Has (half_at g d x) (map (half_at g z) (left z h))) e (has-map (half_at g d) x (left d h) j))
names-has g h (c ∷ ds) d x (inr i) t j = names-old (is_at_gateway g c) (half_at g d x) (map (half_at g c) (left c h)) (names_at g h ds)
    (names-has g h ds d x i t j)

-- ---- where a half stands that isn't gone for good

-- the number of its gateway, and its name among those there
record Spot (ps : List Peer) (x : List ℕ) (w : List happened.Act.Act) (c : List ControllerAct) : Type 0 where
  pub number : ℕ
  pub known : number < length ps
  pub site : world.site x w ≡ peer_name ps number
  pub has : Has x (names_at number c (directions c))

still-left : {A : Type 0} (r : Bool) → (r ≡ true → ⊥) → A ⊎ (r ≡ true) → A
still-left r q (inl j) = j
still-left r q (inr e) = absurd (q e)

-- the removal of an inbound half that was answered was handled
gone-dead : (ps : List Peer) (w : List happened.Act.Act) (c : List ControllerAct) (x : Association) → IsLawful ps w → Meet ps w c → Named ps
    → WasOrdered (PutIn x) x.way.receiver c
    → has_answer RemovingIn x.serial c ≡ true → Dead (in_name x.serial) w
gone-dead ps w c x l m names put e =
    let low = inbound-given ps (length ps) x c m.past put in
    let told = in-left-told ps (length ps) x.serial c low m.past names m.fit e in
    off-dead ps (in_name x.serial) w l (left-off ps (in_name x.serial) w l (left-part (in_name x.serial) w
    ∙ ap (world.is_removal_answered (in_name x.serial)) m.part ∙ told))

in-spot : (ps : List Peer) (w : List happened.Act.Act) (c : List ControllerAct) (x : Association) → IsLawful ps w → Meet ps w c → Named ps
    → WasOrdered (PutIn x) x.way.receiver c
    → (Dead (in_name x.serial) w → ⊥) → Spot ps (in_name x.serial) w c
in-spot ps w c x l m names put q =
    let y : List ℕ = in_name x.serial in
    let g : ℕ = x.way.receiver in
    let low = inbound-given ps (length ps) x c m.past put in
    let known = (in-home (length ps) c m.past g x put).known in
    let o = in-order ps (length ps) x c low m.past put in
    let kept : Has x (left x.way c) = still-left (has_answer RemovingIn x.serial c) (λ e. q (gone-dead ps w c x l m names put e))
    (left-or-gone (length ps) x c m.past put) in
    let one = self g in
    let there = names-has g c (directions c) x.way x known (or_right (x.way.sender == g) (g == g) one) kept in
    record {
      number = g;
      known = (placings (length ps) c m.past x.way known).receiver;
      site = site-part y w ∙ ap (world.site y) m.part ∙ o.site;
      has = subst (λ (z : List ℕ). Has z (names_at g c (directions c))) (if-new (g == g) y (out_name x.serial) one) there;
    }

turned : (m n : ℕ) → (m == n) ≡ false → (n == m) ≡ false
turned m n e = grind (arith, e)

out-gone : (ps : List Peer) (w : List happened.Act.Act) (n : ℕ) → IsLawful ps w → world.was_order_given (out_name n) w ≡ true
    → (Dead (out_name n) w → ⊥) → Dead (in_name n) w → ⊥
out-gone ps w n l o q d =
    let doomed : world.is_removal_ordered (in_half (decimal n)) w ≡ true = subst (λ (z : List ℕ). world.is_removal_ordered z w ≡ true)
    (in-half n) d.0 in
    elim (last ps (decimal n) w l doomed) as (λ z. ⊥) [
      | inl e ↦ no (sym e ∙ subst (λ (z : List ℕ). world.was_order_given z w ≡ true) (out-half n) o)
      | inr e ↦ q (off-dead ps (out_name n) w l (subst (λ (z : List ℕ). world.is_removal_handled z w ≡ true) (sym (out-half n)) e))
    ]

out-spot : (ps : List Peer) (w : List happened.Act.Act) (c : List ControllerAct) (x : Association) → IsLawful ps w → Meet ps w c → Named ps
    → WasOrdered (PutOut x) x.way.sender c
    → world.was_order_given (out_name x.serial) w ≡ true → (Dead (out_name x.serial) w → ⊥) → Spot ps (out_name x.serial) w c
out-spot ps w c x l m names sent order q =
    let y : List ℕ = out_name x.serial in
    let g : ℕ = x.way.sender in
    let put = (out-home (length ps) c m.past g x sent).1 in
    let low = inbound-given ps (length ps) x c m.past put in
    let known = (in-home (length ps) c m.past x.way.receiver x put).known in
    let place = placings (length ps) c m.past x.way known in
    let kept : Has x (left x.way c) =
    still-left (has_answer RemovingIn x.serial c) (λ e. out-gone ps w x.serial l order q (gone-dead ps w c x l m names put e))
    (left-or-gone (length ps) x c m.past put) in
    let there = names-has g c (directions c) x.way x known (or_left (g == g) (x.way.receiver == g) (self g)) kept in
    record {
      number = g;
      known = place.sender;
      site = site-part y w ∙ ap (world.site y) m.part ∙ out-site ps (length ps) g x c low m.past sent;
      has = subst (λ (z : List ℕ). Has z (names_at g c (directions c))) (if-old (x.way.receiver == g) (in_name x.serial) y
          (turned g x.way.receiver place.apart)) there;
    }

spot-of : (ps : List Peer) (w : List happened.Act.Act) (c : List ControllerAct) (e : SadEntry) (x : Association) → IsLawful ps w
    → Meet ps w c → Named ps → world.was_order_given e.name w ≡ true
    → (Dead e.name w → ⊥) → IsHalfOf ps e x c → Spot ps e.name w c
spot-of ps w c e x l m names o q (inl i) =
    let y : e.name ≡ in_name x.serial = ap (λ (z : SadEntry). z.name) i.0 in
    subst (λ (z : List ℕ). Spot ps z w c) (sym y) (in-spot ps w c x l m names i.1 (λ d. q (subst (λ (z : List ℕ). Dead z w) (sym y) d)))
spot-of ps w c e x l m names o q (inr i) =
    let y : e.name ≡ out_name x.serial = ap (λ (z : SadEntry). z.name) i.0 in
    subst (λ (z : List ℕ). Spot ps z w c) (sym y)
    (out-spot ps w c x l m names i.1 (subst (λ (z : List ℕ). world.was_order_given z w ≡ true) y o)
    (λ d. q (subst (λ (z : List ℕ). Dead z w) (sym y) d)))

spot : (ps : List Peer) (w : List happened.Act.Act) (c : List ControllerAct) (e : SadEntry) → IsLawful ps w → Meet ps w c → Named ps
    → world.order_of e.name w ≡ Some e
    → (Dead e.name w → ⊥) → Spot ps e.name w c
spot ps w c e l m names o q =
    let told : world.order_of e.name (past_told ps c) ≡ Some e = ap (world.order_of e.name) (sym m.part) ∙ sym (order-of-part e.name w)
    ∙ o in
    let h = owner ps (length ps) e.name e c m.past told in
    spot-of ps w c e h.0 l m names (order-ordered e.name e w o) q h.1

-- ---- no more halves than names

has-half : (d : SadEntry) (x : List ℕ) (es : List SadEntry) → IsOneOf d es → d.name ≡ x → has_half x es ≡ true
has-half d x [] i q = absurd i
has-half d x (e ∷ es) (inl p) q = or_left (bytes_eq e.name x) (has_half x es) (name-true e.name x (ap (λ (z : SadEntry). z.name) p ∙ q))
has-half d x (e ∷ es) (inr i) q = or_right (bytes_eq e.name x) (has_half x es) (has-half d x es i q)

-- the names but one
abbrev Others : List ℕ → List (List ℕ) → Type 0
Others x ys = (zs : List (List ℕ)) × (length ys ≡ length zs + 1) × ((z : List ℕ) → Has z ys → (z ≡ x → ⊥) → Has z zs)

other-here : (x y z : List ℕ) (ys : List (List ℕ)) → x ≡ y → (z ≡ y) ⊎ Has z ys → (z ≡ x → ⊥) → Has z ys
other-here x y z ys e (inl q) n = absurd (n (q ∙ sym e))
other-here x y z ys e (inr j) n = j

other-there : (x y z : List ℕ) (ys zs : List (List ℕ)) → (Has z ys → (z ≡ x → ⊥) → Has z zs) → (z ≡ y) ⊎ Has z ys → (z ≡ x → ⊥) → (z ≡ y)
    ⊎ Has z zs
other-there x y z ys zs f (inl q) n = inl q
other-there x y z ys zs f (inr j) n = inr (f j n)

others : (x : List ℕ) (ys : List (List ℕ)) → Has x ys → Others x ys
others x [] i = absurd i
others x (y ∷ ys) (inl e) = (ys, grind arith, λ z j n. other-here x y z ys e j n)
others x (y ∷ ys) (inr i) = let t = others x ys i in let m = t.1 in
    (y ∷ t.0, grind (arith, m), λ z j n. other-there x y z ys t.0 (t.2 z) j n)

fit : (es : List SadEntry) (ys : List (List ℕ)) → are_apart es ≡ true → ((d : SadEntry) → IsOneOf d es → Has d.name ys)
    → length es ≤ length ys
fit [] ys a f = omega arith
fit (e ∷ es) ys a f =
    let t = others e.name ys (f e (inl refl)) in
    let new : has_half e.name es ≡ false = not-true (has_half e.name es) (both-left (not (has_half e.name es)) (are_apart es) a) in
    let more : (d : SadEntry) → IsOneOf d es → Has d.name t.0 =
    λ d j. t.2 d.name (f d (inr j)) (λ q. no (sym new ∙ has-half d e.name es j q)) in
    let i = fit es t.0 (both-right (not (has_half e.name es)) (are_apart es) a) more in
    let n = t.1 in
    grind (arith, i, n)

-- ---- room

full-not : (k m n : ℕ) → k ≡ m → suc m ≤ n → n ≤ 4096 → nat_le 4096 k ≡ false
full-not k m n e p q = grind (arith, e, p, q)

same-number : (ps : List Peer) (m n : ℕ) → Named ps → m < length ps → n < length ps → peer_name ps m ≡ peer_name ps n → m ≡ n
same-number ps m n names i j e = sym (eq-nat n m (sym (names m n i j) ∙ name-true (peer_name ps m) (peer_name ps n) e))

-- a live half was ordered put where it is live
live-site : (ps : List Peer) (w : List happened.Act.Act) (g : List ℕ) (d : SadEntry) → IsLawful ps w → IsOneOf d (live g w)
    → world.site d.name w ≡ g
live-site ps w g d l j = (put-order ps g d.name d w l (stands ps g d w l j).0).2

live-spot : (ps : List Peer) (w : List happened.Act.Act) (c : List ControllerAct) (g : List ℕ) (d : SadEntry) → IsLawful ps w → Meet ps w c
    → Named ps → IsOneOf d (live g w) → Spot ps d.name w c
live-spot ps w c g d l m names j =
    let st = stands ps g d w l j in
    let p = put-order ps g d.name d w l st.0 in
    let here : is_live (world.site d.name w) d.name w ≡ true = subst (λ (z : List ℕ). is_live z d.name w ≡ true) (sym p.2) st.1 in
    spot ps w c d l m names p.3 (λ q. no (sym q.2 ∙ here))

-- so it is among the halves at that gateway
live-has : (ps : List Peer) (w : List happened.Act.Act) (c : List ControllerAct) (g : List ℕ) (n : ℕ) (d : SadEntry) → IsLawful ps w
    → Meet ps w c → Named ps → n < length ps → peer_name ps n ≡ g
    → IsOneOf d (live g w) → Has d.name (names_at n c (directions c))
live-has ps w c g n d l m names i e j =
    let t = live-spot ps w c g d l m names j in
    let k : t.number ≡ n = same-number ps t.number n names t.known i (sym t.site ∙ live-site ps w g d l j ∙ sym e) in
    subst (λ (z : ℕ). Has d.name (names_at z c (directions c))) k t.has

few-names : (p : ℕ) (c : List ControllerAct) (g : ℕ) → IsControllerPast p c → PlainAnswers c → length (names_at g c (directions c)) ≤ 4096
few-names p c g l plain = subst (λ (z : ℕ). z ≤ 4096) (sym (names-count g c (directions c))) (few-halves p c l plain g)

few-of : (ps : List Peer) (w : List happened.Act.Act) (c : List ControllerAct) (g : List ℕ) (es : List SadEntry) → IsLawful ps w
    → Meet ps w c → Named ps → PlainAnswers c → live g w ≡ es → length es ≤ 4096
few-of ps w c g [] l m names plain e = omega arith
few-of ps w c g (d ∷ es) l m names plain e =
    let j : IsOneOf d (live g w) = subst (IsOneOf d) (sym e) (inl refl) in
    let s = live-spot ps w c g d l m names j in
    let name : peer_name ps s.number ≡ g = sym s.site ∙ live-site ps w g d l j in
    let ys : List (List ℕ) = names_at s.number c (directions c) in
    let apart : are_apart (d ∷ es) ≡ true = subst (λ (z : List SadEntry). are_apart z ≡ true) e (live-apart ps g w l) in
    let each : (x : SadEntry) → IsOneOf x (d ∷ es) → Has x.name ys = λ x i. live-has ps w c g s.number x l m names s.known name
    (subst (IsOneOf x) (sym e) i) in
    at-most (fit (d ∷ es) ys apart each) (few-names (length ps) c s.number m.past plain) where
      at-most : {k n : ℕ} → k ≤ n → n ≤ 4096 → k ≤ 4096
      at-most p q = omega arith

-- at most 4,096 halves are live at a gateway
pub few-live : (ps : List Peer) (w : List happened.Act.Act) (c : List ControllerAct) (g : List ℕ) → IsLawful ps w → Meet ps w c → Named ps
    → PlainAnswers c → length (live g w) ≤ 4096
few-live ps w c g l m names plain = few-of ps w c g (live g w) l m names plain refl

-- and fewer where a put is handled next
pub room : (ps : List Peer) (w : List happened.Act.Act) (c : List ControllerAct) (g : List ℕ) (e : SadEntry) → IsLawful ps w → Meet ps w c
    → Named ps → PlainAnswers c → is_ready w ≡ true
    → next_request g w ≡ Some (asks.Put e) → is_sad_full (tree_of g w).sad ≡ false
room ps w c g e l m names plain r next =
    let p = place ps g (session_taken g w) (handled g (session_taken g w) w + 1) e w l (next-is g (asks.Put e) w next) in
    let open_session : session_taken (world.site e.name w) w ≡ world.session_of e.name w = ap (λ (z : List ℕ). session_taken z w) p.1
    ∙ sym p.2 in
    let s = spot ps w c e l m names p.4 (λ q. too-far g e.name (session_taken g w) w p.1 p.2 p.3 (q.1 open_session)) in
    let name : peer_name ps s.number ≡ g = sym s.site ∙ p.1 in
    let ys : List (List ℕ) = names_at s.number c (directions c) in
    let each : (d : SadEntry) → IsOneOf d (e ∷ live g w) → Has d.name ys = λ d i.
    elim i as (λ z. Has d.name ys) [
      | inl q ↦ subst (λ (z : SadEntry). Has z.name ys) q s.has
      | inr j ↦ live-has ps w c g s.number d l m
          names s.known name j
    ] in
    let new : not (has_half e.name (live g w)) ≡ true = ap not (live-is g e.name w ∙ name-free ps g g e w l r next) in
    let apart : are_apart (e ∷ live g w) ≡ true = and_from (not (has_half e.name (live g w))) (are_apart (live g w)) new
    (live-apart ps g w l) in
    full-not (length (map (row_of g w) (live g w))) (length (live g w)) (length ys) (length-map (row_of g w) (live g w))
    (fit (e ∷ live g w) ys apart each) (few-names (length ps) c s.number m.past plain)
