-- What a look makes of the halves: those that reached a hard limit are gone, and what was told of the others is kept.
use Rattle.std.proofs.Common.{◌≡◌, ℕ, zero, suc, Bool, true, false, ◌||◌, List, [], ◌∷◌, ◌++◌, Some, map, take, refl, sym, ap, ◌∙◌, subst, if◌then◌else◌}
use Rattle.std.proofs.lemmas.Bool.{or_parts}
use Rattle.std.specs.Prelude.{slice_get}
use Rattle.std.specs.List.{list_any}
use Rattle.std.specs.Str.{bytes_eq}
use Rattle.ikeless_tree.specs.declared.sad.Limits.{Limits}
use Rattle.ikeless_tree.specs.declared.order.Notice.TheVariants as notices
use Rattle.ikeless_tree.specs.declared.ends.GoneWhy.TheVariants as gone
use Rattle.life_count.specs.declared.event.LifeEvent.{LifeEvent}
use Rattle.life_count.specs.declared.event.LifeEvent.TheVariants as events
use Rattle.life_count.specs.Lifetime.{counts_of, event_at, expiry, is_reached, is_soft, with_told}
use Rattle.sad_store.specs.declared.half.Half.{Half}
use Rattle.sad_store.specs.Halves.{changed, halves_without, look_at, names_of, with_life}
use Rattle.sad_store.specs.Kept.{are_names_apart}
use Rattle.hist_acts.specs.declared.act.Act.{Act}
use Rattle.hist_acts.specs.declared.act.Act.TheVariants as acts
use Rattle.hist_gateway.specs.Look.{given_by}
use Rattle.hist_gateway.specs.State.{GatewayState, did, did_all, note, quiet, with_halves, with_notice}
use Rattle.hist_gateway.specs.Machine.{expiries_of, goings_of, look_of}
use Rattle.hist_gateway.specs.Places.{names_reached, softly_told, under, without_all}
use Rattle.hist_gateway.proofs.KeepsLemmas.{same-refl}
use Rattle.hist_gateway.proofs.PlacesLemmas.{apart-parts, away, changed-as, hard-at, map-as, map-own, placed, soft-as}

pub done-more : (g : List ℕ) (s : GatewayState) (xs ys : List Act) → did_all g s (xs ++ ys) ≡ did_all g (did_all g s xs) ys
done-more g s [] ys = refl
done-more g s (x ∷ xs) ys = done-more g (did g s x) xs ys

-- ---- the ends

goings-step : (g : List ℕ) (now : ℕ) (y : Half) (ys : List Half) (s : GatewayState) (b : Bool) →
    did_all g (quiet (with_halves (halves_without y.entry.name s.halves) s)) (goings_of g now ys) ≡ with_halves
    (without_all (names_reached now ys) (halves_without y.entry.name s.halves)) s →
    did_all g (quiet s) (goings_of g now ys) ≡ with_halves (without_all (names_reached now ys) s.halves) s →
    did_all g (quiet s) (if b then acts.Gone g y.entry.name gone.Hard ∷ goings_of g now ys else goings_of g now ys)
    ≡ with_halves (without_all (if b then y.entry.name ∷ names_reached now ys else names_reached now ys) s.halves) s
goings-step g now y ys s true p q =
    let k : GatewayState = with_halves (halves_without y.entry.name s.halves) s in
    subst (λ b. did_all g (if b then k else quiet s) (goings_of g now ys) ≡ with_halves
    (without_all (names_reached now ys) (halves_without y.entry.name s.halves)) s) (sym (same-refl g)) p
goings-step g now y ys s false p q = q

goings-done : (g : List ℕ) (now : ℕ) (ys : List Half) (s : GatewayState) →
    did_all g (quiet s) (goings_of g now ys) ≡ with_halves (without_all (names_reached now ys) s.halves) s
goings-done g now [] s = refl
goings-done g now (y ∷ ys) s =
    goings-step g now y ys s (is_reached y.life.hard (counts_of now y.life))
    (goings-done g now ys (with_halves (halves_without y.entry.name s.halves) s)) (goings-done g now ys s)

-- ---- the notices

-- what the notices of a look at these halves make of a half
abbrev told_by : ℕ → List Half → Half → Half
told_by now [] z = z
told_by now (y ∷ ys) z = told_by now ys (if is_soft (event_at now y.life) then under y.entry.name softly_told z else z)

map-twice : (f g : Half → Half) (xs : List Half) → map f (map g xs) ≡ map (λ z. f (g z)) xs
map-twice f g [] = refl
map-twice f g (x ∷ xs) = ap (λ zs. f (g x) ∷ zs) (map-twice f g xs)

noted : (name : List ℕ) (counts : Limits) (xs : List Half) → map (note (notices.Expire name true counts)) xs ≡ map (under name softly_told)
    xs
noted name counts xs = map-as (note (notices.Expire name true counts)) (under name softly_told)
    (λ z. soft-as z (bytes_eq name z.entry.name)) xs

noticed : (s : GatewayState) (b : Bool) (hs ks : List Half) (spis : List ℕ) → b ≡ true → hs ≡ ks → spis ≡ s.bad_spis →
    (if b then with_notice hs s.acquires spis (quiet s) else quiet s) ≡ with_halves ks s
noticed s b hs ks spis p q r = rw (p, q, r) refl

expiries-step : (g : List ℕ) (t now : ℕ) (y : Half) (ys : List Half) (s : GatewayState) (e : LifeEvent) → take 64 s.bad_spis ≡ s.bad_spis →
    ((z : GatewayState) → take 64 z.bad_spis ≡ z.bad_spis → did_all g (quiet z) (expiries_of g t now ys) ≡ with_halves
    (map (told_by now ys) z.halves) z) →
    did_all g (quiet s) (given_by g t (expiry y.entry.name (counts_of now y.life) e) ++ expiries_of g t now ys)
    ≡ with_halves (map (λ z. told_by now ys (if is_soft e then under y.entry.name softly_told z else z)) s.halves) s
expiries-step g t now y ys s events.Nothing p ih = ih s p
expiries-step g t now y ys s events.Soft p ih =
    let n = notices.Expire y.entry.name true (counts_of now y.life) in
    let m = noted y.entry.name (counts_of now y.life) s.halves in
    let f : Half → Half = under y.entry.name softly_told in
    let k : GatewayState = with_halves (map f s.halves) s in
    ap (λ z. did_all g z (expiries_of g t now ys)) (noticed s (bytes_eq g g) (map (note n) s.halves) (map f s.halves) (take 64 s.bad_spis)
    (same-refl g) m p)
    ∙ (ih k p ∙ ap (λ zs. with_halves zs s) (map-twice (told_by now ys) f s.halves))
expiries-step g t now y ys s events.Hard p ih =
    let n = notices.Expire y.entry.name false (counts_of now y.life) in
    let m = hard-at y.entry.name (counts_of now y.life) s.halves in
    ap (λ z. did_all g z (expiries_of g t now ys)) (noticed s (bytes_eq g g) (map (note n) s.halves) s.halves (take 64 s.bad_spis)
    (same-refl g) m p)
    ∙ ih s p

expiries-done : (g : List ℕ) (t now : ℕ) (ys : List Half) (s : GatewayState) → take 64 s.bad_spis ≡ s.bad_spis →
    did_all g (quiet s) (expiries_of g t now ys) ≡ with_halves (map (told_by now ys) s.halves) s
expiries-done g t now [] s p = rw (map-own (λ z. z) (λ z. refl) s.halves) refl
expiries-done g t now (y ∷ ys) s p = expiries-step g t now y ys s (event_at now y.life) p (λ z q. expiries-done g t now ys z q)

-- ---- both

told-entry-if : (b : Bool) (f : Half → Half) → ((z : Half) → (f z).entry ≡ z.entry) → (z : Half) → (if b then f z else z).entry ≡ z.entry
told-entry-if true f keeps z = keeps z
told-entry-if false f keeps z = refl

under-entry : (name : List ℕ) (z : Half) → (under name softly_told z).entry ≡ z.entry
under-entry name z = told-entry-if (bytes_eq name z.entry.name) softly_told (λ x. refl) z

told-entry : (now : ℕ) (ys : List Half) (z : Half) → (told_by now ys z).entry ≡ z.entry
told-entry now [] z = refl
told-entry now (y ∷ ys) z =
    told-entry now ys (if is_soft (event_at now y.life) then under y.entry.name softly_told z else z)
    ∙ told-entry-if (is_soft (event_at now y.life)) (under y.entry.name softly_told) (under-entry y.entry.name) z

same-if : (b : Bool) (z : Half) → (if b then z else z) ≡ z
same-if true z = refl
same-if false z = refl

-- a half that none of these has the name of is left as it is
told-away : (now : ℕ) (ys : List Half) (z : Half) → list_any (λ n. bytes_eq n z.entry.name) (names_of ys) ≡ false → told_by now ys z ≡ z
told-away now [] z p = refl
told-away now (y ∷ ys) z p =
    let r = or_parts (bytes_eq y.entry.name z.entry.name) (list_any (λ n. bytes_eq n z.entry.name) (names_of ys)) p in
    let ih = told-away now ys z r.1 in
    rw (r.0, same-if (is_soft (event_at now y.life)) z) ih

told-if : (y : Half) (e : LifeEvent) → (if is_soft e then softly_told y else y) ≡ with_life (with_told (is_soft e || y.life.is_told) y.life)
    y
told-if y events.Nothing = refl
told-if y events.Soft = refl
told-if y events.Hard = refl

away-if : (name : List ℕ) (ys : List Half) (b : Bool) → list_any (λ z. bytes_eq z name) (names_of ys) ≡ false
    → map (λ z. if b then under name softly_told z else z) ys ≡ ys
away-if name ys true p = away name softly_told ys p
away-if name ys false p = map-own (λ z. z) (λ z. refl) ys

head-is : (now : ℕ) (y : Half) (ys : List Half) → list_any (λ n. bytes_eq n y.entry.name) (names_of ys) ≡ false
    → told_by now (y ∷ ys) y ≡ look_at now y
head-is now y ys p = rw (same-refl y.entry.name, told-if y (event_at now y.life)) (told-away now ys (look_at now y) p)

looked-all : (now : ℕ) (xs : List Half) → are_names_apart (names_of xs) ≡ true → map (told_by now xs) xs ≡ map (look_at now) xs
looked-all now [] a = refl
looked-all now (y ∷ ys) a =
    let r = apart-parts (list_any (λ z. bytes_eq z y.entry.name) (names_of ys)) (are_names_apart (names_of ys)) a in
    let b : Bool = is_soft (event_at now y.life) in
    let head = head-is now y ys r.0 in
    let tail : map (told_by now (y ∷ ys)) ys ≡ map (look_at now) ys =
    sym (map-twice (told_by now ys) (λ z. if b then under y.entry.name softly_told z else z) ys)
    ∙ (ap (map (told_by now ys)) (away-if y.entry.name ys b r.0) ∙ looked-all now ys r.1) in
    ap (λ z. z ∷ map (told_by now (y ∷ ys)) ys) head ∙ ap (λ zs. look_at now y ∷ zs) tail

without-step : (f : Half → Half) (x : Half) (xs ys : List Half) (b : Bool) → map f xs ≡ ys
    → map f (if b then xs else x ∷ xs) ≡ (if b then ys else f x ∷ ys)
without-step f x xs ys true p = p
without-step f x xs ys false p = ap (λ zs. f x ∷ zs) p

without-map : (f : Half → Half) → ((z : Half) → (f z).entry ≡ z.entry) → (name : List ℕ) (xs : List Half)
    → map f (halves_without name xs) ≡ halves_without name (map f xs)
without-map f keeps name [] = refl
without-map f keeps name (x ∷ xs) =
    without-step f x (halves_without name xs) (halves_without name (map f xs)) (bytes_eq x.entry.name name) (without-map f keeps name xs)
    ∙ ap (λ e. if bytes_eq e.name name then halves_without name (map f xs) else f x ∷ halves_without name (map f xs)) (sym (keeps x))

without-all-map : (f : Half → Half) → ((z : Half) → (f z).entry ≡ z.entry) → (names : List (List ℕ)) (xs : List Half)
    → map f (without_all names xs) ≡ without_all names (map f xs)
without-all-map f keeps [] xs = refl
without-all-map f keeps (name ∷ names) xs =
    without-all-map f keeps names (halves_without name xs) ∙ ap (without_all names) (without-map f keeps name xs)

look-at-these : (g : List ℕ) (t : ℕ) (ys : List Half) (s : GatewayState) → take 64 s.bad_spis ≡ s.bad_spis →
    did_all g (quiet s) (look_of g t s.clock ys) ≡ with_halves (without_all (names_reached s.clock ys) (map (told_by s.clock ys) s.halves))
    s
look-at-these g t ys s p =
    let now : ℕ = s.clock in
    let names : List (List ℕ) = names_reached now ys in
    let k : GatewayState = with_halves (without_all names s.halves) s in
    done-more g (quiet s) (goings_of g now ys) (expiries_of g t now ys)
    ∙ (ap (λ z. did_all g z (expiries_of g t now ys)) (goings-done g now ys s)
    ∙ (expiries-done g t now ys k p
    ∙ ap (λ zs. with_halves zs s) (without-all-map (told_by now ys) (told-entry now ys) names s.halves)))

pub look-at-all : (g : List ℕ) (t : ℕ) (s : GatewayState) → are_names_apart (names_of s.halves) ≡ true → take 64 s.bad_spis ≡ s.bad_spis →
    did_all g (quiet s) (look_of g t s.clock s.halves) ≡ with_halves
    (without_all (names_reached s.clock s.halves) (map (look_at s.clock) s.halves)) s
look-at-all g t s a p =
    look-at-these g t s.halves s p
    ∙ ap (λ zs. with_halves (without_all (names_reached s.clock s.halves) zs) s) (looked-all s.clock s.halves a)

-- ---- one half

changed-own : (xs : List Half) (i : ℕ) → xs ≡ changed (λ z. z) i xs
changed-own [] i = refl
changed-own (y ∷ ys) zero = refl
changed-own (y ∷ ys) (suc i) = ap (λ zs. y ∷ zs) (changed-own ys i)

one-if : (xs : List Half) (i : ℕ) (x : Half) (b : Bool) → are_names_apart (names_of xs) ≡ true → slice_get xs i ≡ Some x →
    map (λ z. if b then under x.entry.name softly_told z else z) xs ≡ changed (λ z. if b then softly_told z else z) i xs
one-if xs i x true a q = placed softly_told xs i x a q
one-if xs i x false a q = map-own (λ z. z) (λ z. refl) xs ∙ changed-own xs i

pub look-at-one : (g : List ℕ) (t i : ℕ) (x : Half) (s : GatewayState) → are_names_apart (names_of s.halves) ≡ true
    → take 64 s.bad_spis ≡ s.bad_spis → slice_get s.halves i ≡ Some x →
    did_all g (quiet s) (look_of g t s.clock (x ∷ [])) ≡ with_halves
    (without_all (names_reached s.clock (x ∷ [])) (changed (look_at s.clock) i s.halves)) s
look-at-one g t i x s a p q =
    let b : Bool = is_soft (event_at s.clock x.life) in
    look-at-these g t (x ∷ []) s p
    ∙ ap (λ zs. with_halves (without_all (names_reached s.clock (x ∷ [])) zs) s)
    (one-if s.halves i x b a q ∙ changed-as (λ z. if b then softly_told z else z) (look_at s.clock) s.halves i x q
    (told-if x (event_at s.clock x.life)))
