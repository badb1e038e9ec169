-- What is kept of a past, one act later, is what the act makes of what was kept.
use Rattle.std.proofs.Common.{◌≡◌, ℕ, ◌+◌, ◌<◌, ◌≤◌, Bool, true, false, ◌==◌, not, ◌&&◌, ◌||◌, List, [], ◌∷◌, ◌++◌, Option, Some, None, map, length, refl, sym, subst, ◌∙◌, ap, arith, if◌then◌else◌, leb}
use Rattle.std.specs.List.{filter, list_any}
use Rattle.ikeless_tree.specs.declared.order.Answer.{Answer}
use Rattle.ikeless_tree.specs.declared.order.Notice.{Notice}
use Rattle.ikeless_tree.specs.declared.order.Notice.TheVariants as notices
use Rattle.hist_controller.specs.Acts.{Way, Association, ControllerOrder, Read, Policy, PutIn, PutOut, RemoveIn, RemoveOut, PlacedCommand, SetPolicy, Tunnel, End, Rekey, Keys, ControllerAct, Opened, Cut, Answered, Heard, Ordered, Accepted, Refused}
use Rattle.hist_controller.specs.Past.{rest, oldest, queue, newest_list, new_ways, directions, is_made_by, RemovingIn, is_answer_to, inbound_put, left, newest_serial, has_entry, is_half_at, is_of_newest, is_cause_notice, is_cause_reading}
use Rattle.hist_controller.specs.State.{KeptGateway, KeptAssociation, KeptWay, ControllerState, gateway_of, association_of, way_of, state_of, gateway_opened, gateway_cut, gateway_answered, gateway_ordered, fresh, kept_told, kept_cut, kept_answered, kept_ordered, way_told, fresh_way, way_cut, is_unseen_of, is_cause_reading_of, way_answered, is_newest_of, is_kept_in_progress, is_cause_notice_of, way_heard, way_ordered, did}

-- ## lists

pub map-via : {A B C : Type 0} (f : A → C) (g : A → B) (k : B → C) → ((x : A) → f x ≡ k (g x)) → (xs : List A) → map f xs ≡ map k (map g xs)
map-via f g k e [] = refl
map-via f g k e (x ∷ xs) = rw (e x, map-via f g k e xs) refl

pub map-more : {A B : Type 0} (f : A → B) (xs ys : List A) → map f (xs ++ ys) ≡ map f xs ++ map f ys
map-more f [] ys = refl
map-more f (x ∷ xs) ys = ap (λ t. f x ∷ t) (map-more f xs ys)

pub any-via : {A B : Type 0} (g : A → B) (p : B → Bool) (xs : List A) → list_any p (map g xs) ≡ list_any (λ x. p (g x)) xs
any-via g p [] = refl
any-via g p (x ∷ xs) = ap (λ t. p (g x) || t) (any-via g p xs)

filter-one : {A B : Type 0} (g : A → B) (b : Bool) (x : A) (xs : List A) (ys : List B) → map g xs ≡ ys
    → map g (if b then x ∷ xs else xs) ≡ (if b then g x ∷ ys else ys)
filter-one g true x xs ys e = ap (λ t. g x ∷ t) e
filter-one g false x xs ys e = e

pub filter-via : {A B : Type 0} (g : A → B) (p : B → Bool) (xs : List A) → map g (filter (λ x. p (g x)) xs) ≡ filter p (map g xs)
filter-via g p [] = refl
filter-via g p (x ∷ xs) = filter-one g (p (g x)) x (filter (λ y. p (g y)) xs) (filter p (map g xs)) (filter-via g p xs)

pub length-map : {A B : Type 0} (f : A → B) (xs : List A) → length (map f xs) ≡ length xs
length-map f [] = refl
length-map f (x ∷ xs) = grind (arith, length-map f xs)

pub eq-own : (n : ℕ) → (n == n) ≡ true
eq-own n = grind arith

-- ## gateways

gate-opened : (b : Bool) (x : KeptGateway) → record {
  up = b || x.up;
  session = if b then x.session + 1 else x.session;
  orders =
      if b then 0 else x.orders;
  answers = if b then 0 else x.answers;
  queue = if b then [] else x.queue;
  read = not b && x.read;
  list =
      x.list;
} ≡ (if b then gateway_opened x else x)
gate-opened true x = refl
gate-opened false x = refl

gate-cut : (b : Bool) (x : KeptGateway) → record x { up = not b && x.up; queue = if b then [] else x.queue } ≡
    (if b then gateway_cut x else x)
gate-cut true x = refl
gate-cut false x = refl

gate-answered : (b : Bool) (n : ℕ) (x : KeptGateway) → record x {
  answers = if b then x.answers + 1 else x.answers;
  queue =
      if b then rest x.queue else x.queue;
  read = (b && (n == 1)) || x.read;
} ≡ (if b then gateway_answered n x else x)
gate-answered true n x = refl
gate-answered false n x = refl

gate-ordered : (b : Bool) (o : ControllerOrder) (x : KeptGateway) → record x {
  orders = if b then x.orders + 1 else x.orders;
  queue =
      if b then x.queue ++ o ∷ [] else x.queue;
} ≡ (if b then gateway_ordered o x else x)
gate-ordered true o x = refl
gate-ordered false o x = refl

pub same-at : {A : Type 0} (f g : ℕ → A) → ((n : ℕ) → f n ≡ g n) → f ≡ g
same-at f g e = λ i n. e n i

-- ## directions

-- the ids are the places
abbrev pub Rising : ℕ → List Way → Type 0
Rising m [] = Unit {0}
Rising m (d ∷ ds) = (d.id ≡ m) × Rising (m + 1) ds

Rising-more : (m k : ℕ) (xs ys : List Way) → k ≡ m + length xs → Rising m xs → Rising k ys → Rising m (xs ++ ys)
Rising-more m k [] ys e p q = let e' : k ≡ m = grind arith in subst (λ n. Rising n ys) e' q
Rising-more m k (x ∷ xs) ys e p q = (p.0, Rising-more (m + 1) k xs ys (grind arith) p.1 q)

Rising-born : (n : ℕ) (c : PlacedCommand) → Rising n (new_ways n c)
Rising-born n (SetPolicy g l) = tt
Rising-born n (Tunnel t) = (refl, (refl, tt))
Rising-born n (End r) = tt
Rising-born n (Rekey r) = tt
Rising-born n (Keys k) = tt

pub rising : (h : List ControllerAct) → Rising 0 (directions h)
rising [] = tt
rising (Opened g s ∷ h) = rising h
rising (Cut g s ∷ h) = rising h
rising (Answered g s n a ∷ h) = rising h
rising (Heard g s t ∷ h) = rising h
rising (Ordered g s n o ∷ h) = rising h
rising (Accepted c ∷ h) = Rising-more 0 (length (directions h)) (directions h) (new_ways (length (directions h)) c) (grind arith) (rising h)
    (Rising-born (length (directions h)) c)
rising (Refused w ∷ h) = rising h

pub made-no : (c : PlacedCommand) (n : ℕ) (d : Way) → d.id < n → is_made_by c n d ≡ false
made-no (SetPolicy g l) n d e = refl
made-no (Tunnel t) n d e = grind arith
made-no (End r) n d e = refl
made-no (Rekey r) n d e = refl
made-no (Keys k) n d e = refl

abbrev way : Way → Bool → Bool → ℕ → List KeptAssociation → KeptWay
way d o w n xs = record { way = d; over = o; wanted = w; newest = n; associations = xs }

same-way : (d : Way) (o w : Bool) (n : ℕ) (xs ys : List KeptAssociation) → xs ≡ ys → way d o w n xs ≡ way d o w n ys
same-way d o w n xs ys e = ap (way d o w n) e

pub way-told : (h : List ControllerAct) (c : PlacedCommand) (d : Way) → is_made_by c (length (directions h)) d ≡ false
    → way_of (Accepted c ∷ h) d ≡ way_told c (way_of h d)
way-told h c d e = rw e (same-way d _ _ _ _ _ (map-via (association_of (Accepted c ∷ h)) (association_of h) (kept_told c) (λ x. refl)
    (left d h)))

told-ways : (h : List ControllerAct) (c : PlacedCommand) (m : ℕ) (ds : List Way) → Rising m ds → m + length ds ≤ length (directions h)
    → map (way_of (Accepted c ∷ h)) ds ≡ map (way_told c) (map (way_of h) ds)
told-ways h c m [] r e = refl
told-ways h c m (d ∷ ds) r e =
    let i : d.id ≡ m = r.0 in
    let a = way-told h c d (made-no c (length (directions h)) d (grind arith)) in
    let ih = told-ways h c (m + 1) ds r.1 (grind arith) in
    rw (a, ih) refl

fresh-ways : (h : List ControllerAct) (c : PlacedCommand) → map (way_of (Accepted c ∷ h)) (new_ways (length (directions h)) c) ≡ map
    (fresh_way c) (new_ways (length (directions h)) c)
fresh-ways h (SetPolicy g l) = refl
fresh-ways h (Tunnel t) =
    let n : ℕ = length (directions h) in
    let e1 : leb (length (directions h)) (length (directions h)) ≡ true = grind arith in
    let e2 : leb (length (directions h)) (length (directions h) + 1) ≡ true = grind arith in
    rw (e1, e2) refl
fresh-ways h (End r) = refl
fresh-ways h (Rekey r) = refl
fresh-ways h (Keys k) = refl

pub way-cut : (h : List ControllerAct) (g s : ℕ) (d : Way) → way_of (Cut g s ∷ h) d ≡ way_cut (queue g h) (way_of h d)
way-cut h g s d = same-way d _ _ _ _ _ (map-via (association_of (Cut g s ∷ h)) (association_of h) (kept_cut (queue g h)) (λ x. refl)
    (left d h))

same-misses : (h : List ControllerAct) (d : Way) (g : ℕ) (o : Option ControllerOrder) (a : Answer)
    → is_cause_reading h d g o a ≡ is_cause_reading_of (way_of h d) g o a
same-misses h d g None a = refl
same-misses h d g (Some Read) a = sym (any-via (association_of h) (is_unseen_of d g a.names) (left d h))
same-misses h d g (Some (Policy l)) a = refl
same-misses h d g (Some (PutIn x)) a = refl
same-misses h d g (Some (PutOut x)) a = refl
same-misses h d g (Some (RemoveIn n)) a = refl
same-misses h d g (Some (RemoveOut n)) a = refl

pub way-answered : (h : List ControllerAct) (g s n : ℕ) (a : Answer) (d : Way) → way_of (Answered g s n a ∷ h) d ≡ way_answered g
    (oldest (queue g h)) a (way_of h d)
way-answered h g s n a d =
    let o : Option ControllerOrder = oldest (queue g h) in
    rw (same-misses h d g (oldest (queue g h)) a)
    (same-way d _ _ _ _ _
    (filter-via (association_of (Answered g s n a ∷ h)) (λ k. not (is_answer_to RemovingIn k.association.serial (oldest (queue g h))))
    (left d h)
    ∙ ap (filter (λ k. not (is_answer_to RemovingIn k.association.serial (oldest (queue g h)))))
    (map-via (association_of (Answered g s n a ∷ h)) (association_of h) (kept_answered g (oldest (queue g h)) a) (λ x. refl)
    (left d h))))

same-newest : (h : List ControllerAct) (d : Way) (g : ℕ) (name : List ℕ) → is_of_newest h d g name ≡ is_newest_of (way_of h d) g name
same-newest h d g name = ap (λ b. is_half_at d g name (newest_serial d h) && b)
    (sym (any-via (association_of h) (λ k. (k.association.serial == newest_serial d h) && not k.ended) (left d h)))

same-calls : (h : List ControllerAct) (d : Way) (g : ℕ) (t : Notice) → is_cause_notice h d g t ≡ is_cause_notice_of (newest_list g h)
    (way_of h d) g t
same-calls h d g (notices.Acquire p f) = ap (λ b. (d.sender == g) && has_entry p d.tunnel.reqid (newest_list g h) && not b)
    (sym (any-via (association_of h) is_kept_in_progress (left d h)))
same-calls h d g (notices.Expire m b c) = same-newest h d g m
same-calls h d g (notices.SeqOverflow m) = same-newest h d g m
same-calls h d g (notices.BadSpi s) = refl

pub way-heard : (h : List ControllerAct) (g s : ℕ) (t : Notice) (d : Way) → way_of (Heard g s t ∷ h) d ≡ way_heard (newest_list g h) g t
    (way_of h d)
way-heard h g s t d = rw (same-calls h d g t) (same-way d _ _ _ _ _ refl)

fresh-if : (h : List ControllerAct) (g s n : ℕ) (x : Association) (b : Bool) → map (association_of (Ordered g s n (PutIn x) ∷ h))
    (if b then x ∷ [] else []) ≡ map fresh (if b then x ∷ [] else [])
fresh-if h g s n x true = rw (eq-own x.serial) refl
fresh-if h g s n x false = refl

fresh-put : (h : List ControllerAct) (g s n : ℕ) (d : Way) (o : ControllerOrder)
    → map (association_of (Ordered g s n o ∷ h)) (inbound_put d o) ≡ map fresh (inbound_put d o)
fresh-put h g s n d Read = refl
fresh-put h g s n d (Policy l) = refl
fresh-put h g s n d (PutIn x) = fresh-if h g s n x (d.id == x.way.id)
fresh-put h g s n d (PutOut x) = refl
fresh-put h g s n d (RemoveIn m) = refl
fresh-put h g s n d (RemoveOut m) = refl

pub way-ordered : (h : List ControllerAct) (g s n : ℕ) (o : ControllerOrder) (d : Way)
    → way_of (Ordered g s n o ∷ h) d ≡ way_ordered o (way_of h d)
way-ordered h g s n o d =
    let m = map-more (association_of (Ordered g s n o ∷ h)) (left d h) (inbound_put d o) in
    let v = map-via (association_of (Ordered g s n o ∷ h)) (association_of h) (kept_ordered o) (λ x. refl) (left d h) in
    let f = fresh-put h g s n d o in
    same-way d _ _ _ _ _ (m ∙ (ap (λ t. t ++ map (association_of (Ordered g s n o ∷ h)) (inbound_put d o)) v
    ∙ ap (λ t. map (kept_ordered o) (map (association_of h) (left d h)) ++ t) f))

-- ## the whole

abbrev pub state : (ℕ → KeptGateway) → List KeptWay → List (List ℕ) → List (List ℕ) → ℕ → ControllerState
state f xs ks ss n = record { gateway = f; ways = xs; keys = ks; spare = ss; serials = n }

pub same-state : (f g : ℕ → KeptGateway) (xs ys : List KeptWay) (ks ss : List (List ℕ)) (n : ℕ) → f ≡ g → xs ≡ ys
    → state f xs ks ss n ≡ state g ys ks ss n
same-state f g xs ys ks ss n e d = ap (λ t. state t xs ks ss n) e ∙ ap (λ t. state g t ks ss n) d

ways-told : (h : List ControllerAct) (c : PlacedCommand)
    → map (way_of (Accepted c ∷ h)) (directions h ++ new_ways (length (directions h)) c) ≡ map (way_told c) (map (way_of h) (directions h))
    ++ map (fresh_way c) (new_ways (length (map (way_of h) (directions h))) c)
ways-told h c =
    rw (length-map (way_of h) (directions h))
    (map-more (way_of (Accepted c ∷ h)) (directions h) (new_ways (length (directions h)) c)
    ∙ (ap (λ t. t ++ map (way_of (Accepted c ∷ h)) (new_ways (length (directions h)) c))
    (told-ways h c 0 (directions h) (rising h) (grind arith))
    ∙ ap (λ t. map (way_told c) (map (way_of h) (directions h)) ++ t) (fresh-ways h c)))

pub keeps : (h : List ControllerAct) (a : ControllerAct) → state_of (a ∷ h) ≡ did (state_of h) a
keeps h (Opened f n) = same-state _ _ _ _ _ _ _ (same-at _ _ (λ g. gate-opened (g == f) (gateway_of h g))) refl
keeps h (Cut f n) = same-state _ _ _ _ _ _ _ (same-at _ _ (λ g. gate-cut (g == f) (gateway_of h g)))
    (map-via (way_of (Cut f n ∷ h)) (way_of h) (way_cut (queue f h)) (way-cut h f n) (directions h))
keeps h (Answered f n i a) = same-state _ _ _ _ _ _ _ (same-at _ _ (λ g. gate-answered (g == f) i (gateway_of h g)))
    (map-via (way_of (Answered f n i a ∷ h)) (way_of h) (way_answered f (oldest (queue f h)) a) (way-answered h f n i a) (directions h))
keeps h (Heard f s t) = same-state _ _ _ _ _ _ _ refl (map-via (way_of (Heard f s t ∷ h)) (way_of h) (way_heard (newest_list f h) f t)
    (way-heard h f s t) (directions h))
keeps h (Ordered f n i o) = same-state _ _ _ _ _ _ _ (same-at _ _ (λ g. gate-ordered (g == f) o (gateway_of h g)))
    (map-via (way_of (Ordered f n i o ∷ h)) (way_of h) (way_ordered o) (way-ordered h f n i o) (directions h))
keeps h (Accepted c) = same-state _ _ _ _ _ _ _ refl (ways-told h c)
keeps h (Refused w) = refl
