-- What is kept of a past, one act later, is what the act makes of what was kept.
use Rattle.std.proofs.Common.{◌≡◌, ℕ, ◌+◌, zero, suc, ◌≤◌, Bool, true, false, ◌&&◌, List, [], ◌∷◌, ◌++◌, Option, Some, None, ◌⊎◌, inl, inr, max, fold, map, take, length, refl, sym, ◌∙◌, ap, arith, if◌then◌else◌}
use Rattle.std.proofs.lemmas.Bool.{or_parts, and_right, and_left}
use Rattle.std.specs.Str.{bytes_eq}
use Rattle.ikeless_tree.specs.declared.entry.SpdEntry.{SpdEntry}
use Rattle.ikeless_tree.specs.declared.sad.SadEntry.{SadEntry}
use Rattle.ikeless_tree.specs.declared.order.Notice.{Notice}
use Rattle.replay_win.specs.Marks.{Marks, greatest, marked, no_marks}
use Rattle.life_count.specs.Lifetime.{Lifetime, counted}
use Rattle.life_count.proofs.CountLemmas.{life-with, counted-life}
use Rattle.sad_store.specs.declared.half.Half.{Half}
use Rattle.sad_store.specs.Halves.{fresh, hushed, take_number, entries_of, halves_without}
use Rattle.hist_acts.specs.declared.act.Act.{Act}
use Rattle.hist_acts.specs.declared.act.Act.TheVariants as acts
use Rattle.hist_acts.specs.Past.{clock}
use Rattle.hist_halves.specs.Sealed.{esp_of, is_opened}
use Rattle.hist_halves.specs.Halves.{is_half, live, sent, numbers_taken, without}
use Rattle.hist_gateway.specs.Uses.{arrival, is_for, octets_in, octets_used, times_used, installed_at, last_used}
use Rattle.hist_gateway.specs.State.{GatewayState, life_of, half_of, state_of, quiet, with_halves, did, did_at, is_at, sent_under, given_under, opened_under, take_if, note, window_of}
use Rattle.hist_gateway.specs.May.{has_half, IsNewHalf}
use Rattle.std.proofs.lemmas.Slice.Eq.{bytes_eq-Decides}
use Rattle.std.proofs.lemmas.List.Sums.{fold-append}
use Rattle.ikeless_tree.specs.declared.drops.DropWhy.{DropWhy}
use Rattle.ikeless_tree.specs.declared.ends.GoneWhy.{GoneWhy}
use Rattle.esp_frame.specs.Esp.{spi_of}
use Rattle.hist_halves.specs.Sealed.{by_spi, number_from}
use Rattle.hist_halves.specs.Halves.{number_if, number_for, arrival_number}
use Rattle.hist_gateway.specs.Uses.{is_named_half}
use Rattle.ikeless_tree.specs.declared.order.Answer.{Answer}
use Rattle.ikeless_tree.specs.declared.order.Notice.TheVariants as notices
use Rattle.hist_gateway.specs.Stands.{with_spi, bad_spis, was_soft_given, was_overflow_given}
use Rattle.hist_gateway.specs.State.{with_put, with_session, with_notice, wanted_after, with_acquire, acquires}

-- ---- lists

pub map-step : (p q : SadEntry → Half) (f : Half → Half) → ((e : SadEntry) → q e ≡ f (p e)) → (es : List SadEntry)
    → map q es ≡ map f (map p es)
map-step p q f same [] = refl
map-step p q f same (e ∷ es) = let ih = map-step p q f same es in let s = same e in cc

pub map-same : (p q : SadEntry → Half) → ((e : SadEntry) → q e ≡ p e) → (es : List SadEntry) → map q es ≡ map p es
map-same p q same [] = refl
map-same p q same (e ∷ es) = let ih = map-same p q same es in let s = same e in cc

pub if-true : {A : Type 0} (b : Bool) (x y : A) → b ≡ true → x ≡ (if b then x else y)
if-true true x y e = refl
if-true false x y e = cc

pub if-false : {A : Type 0} (b : Bool) (x y : A) → b ≡ false → y ≡ (if b then x else y)
if-false true x y e = cc
if-false false x y e = refl

take-short : (n m : ℕ) (xs : List ℕ) → n ≤ m → take n xs ≡ take n (take m xs)
take-short zero m xs e = refl
take-short (suc n) zero xs e = absurd (omega (arith, e))
take-short (suc n) (suc m) [] e = refl
take-short (suc n) (suc m) (x ∷ xs) e = ap (λ t. x ∷ t) (take-short n m xs (omega (arith, e)))

pub take-once : (n : ℕ) (xs : List ℕ) → take n xs ≡ take n (take (n + 1) xs)
take-once n xs = take-short n (n + 1) xs (omega arith)

pub take-once-64 : (xs : List ℕ) → take 64 xs ≡ take 64 (take 64 xs)
take-once-64 xs = take-short 64 64 xs (omega arith)

-- ---- names

pub same-refl : (x : List ℕ) → bytes_eq x x ≡ true
same-refl x = (bytes_eq-Decides x x).1 refl

pub same-is : (x y : List ℕ) → bytes_eq x y ≡ true → x ≡ y
same-is x y e = (bytes_eq-Decides x y).0 e

same-back : (x y : List ℕ) (b c : Bool) → bytes_eq x y ≡ b → bytes_eq y x ≡ c → b ≡ c
same-back x y true c p q = let e : y ≡ x = sym (same-is x y p) in sym ((bytes_eq-Decides y x).1 e) ∙ q
same-back x y false true p q = let e : x ≡ y = sym (same-is y x q) in sym p ∙ (bytes_eq-Decides x y).1 e
same-back x y false false p q = refl

pub same-sym : (x y : List ℕ) → bytes_eq x y ≡ bytes_eq y x
same-sym x y = same-back x y (bytes_eq x y) (bytes_eq y x) refl refl

-- ---- the effect on a half

window-end : (size n : ℕ) (ns : List ℕ) → window_of size (ns ++ n ∷ []) ≡ marked (window_of size ns) n
window-end size n ns = fold-append marked (no_marks size) ns (n ∷ [])

top-is : (w : Marks) (ns : List ℕ) → (fold marked w ns).top ≡ max w.top (greatest ns)
top-is w [] = omega arith
top-is w (n ∷ ns) = let ih = top-is (marked w n) ns in omega (arith, ih)

-- the window's top is the greatest number taken
pub window-top : (size : ℕ) (ns : List ℕ) → (window_of size ns).top ≡ greatest ns
window-top size ns = let t = top-is (no_marks size) ns in omega (arith, t)

abbrev half-with : SadEntry → ℕ → Marks → Lifetime → Bool → Half
half-with e n w l o = record { entry = e; sent = n; window = w; life = l; overflow = o }

-- the lifetime of a half after one more use
used-life : (g : List ℕ) (h : List Act) (e : SadEntry) (size : ℕ) →
    life-with e.hard e.soft (installed_at g e.name h) (clock h) (octets_used g e.name h + size) (times_used g e.name h + 1)
    (was_soft_given g e.name h)
    ≡ counted size (clock h) (life_of g h e)
used-life g h e size =
    counted-life e.hard e.soft (installed_at g e.name h) (last_used g e.name h) (clock h) (octets_used g e.name h) (times_used g e.name h)
    size (was_soft_given g e.name h)

-- a half after one more number was taken
used-half : (g : List ℕ) (h : List Act) (e : SadEntry) (n size : ℕ) →
    half-with e (sent g e.name h) (window_of e.window (numbers_taken g e.name h ++ n ∷ []))
    (life-with e.hard e.soft (installed_at g e.name h) (clock h) (octets_used g e.name h + size) (times_used g e.name h + 1)
    (was_soft_given g e.name h))
    (was_overflow_given g e.name h)
    ≡ take_number (clock h) size n (half_of g h e)
used-half g h e n size =
    ap (λ w. half-with e (sent g e.name h) w (life-with e.hard e.soft (installed_at g e.name h) (clock h) (octets_used g e.name h + size)
    (times_used g e.name h + 1) (was_soft_given g e.name h)) (was_overflow_given g e.name h))
    (window-end e.window n (numbers_taken g e.name h))
    ∙ ap (λ l. half-with e (sent g e.name h) (marked (window_of e.window (numbers_taken g e.name h)) n) l (was_overflow_given g e.name h))
    (used-life g h e size)

pub sent-split : (g f y o : List ℕ) (n : ℕ) (h : List Act) (e : SadEntry) (b : Bool) → bytes_eq f g ≡ true → bytes_eq y e.name ≡ b →
    half_of g (acts.Sent f y n o ∷ h) e ≡ sent_under y (clock h) (octets_in (Some o)) (half_of g h e)
sent-split g f y o n h e true at own =
    rw (at, own) (ap (λ l. half-with e (sent g e.name h + 1) (window_of e.window (numbers_taken g e.name h)) l
    (was_overflow_given g e.name h)) (used-life g h e (length (esp_of o))))
sent-split g f y o n h e false at own = rw (at, own) refl

sent-away : (g f y o : List ℕ) (n : ℕ) (h : List Act) (e : SadEntry) → bytes_eq f g ≡ false
    → half_of g (acts.Sent f y n o ∷ h) e ≡ half_of g h e
sent-away g f y o n h e at = rw at refl

pub gave-split : (g f y o : List ℕ) (n : ℕ) (h : List Act) (e : SadEntry) (b : Bool) → bytes_eq f g ≡ true → bytes_eq y e.name ≡ b →
    half_of g (acts.Gave f y n o ∷ h) e ≡ given_under y (clock h) (octets_in (arrival g h)) n (half_of g h e)
gave-split g f y o n h e true at own = rw (at, own) (used-half g h e n (octets_in (arrival g h)))
gave-split g f y o n h e false at own = rw (at, own) refl

gave-away : (g f y o : List ℕ) (n : ℕ) (h : List Act) (e : SadEntry) → bytes_eq f g ≡ false
    → half_of g (acts.Gave f y n o ∷ h) e ≡ half_of g h e
gave-away g f y o n h e at = rw at refl

-- the datagram is for the half, and has a number for it, or neither
abbrev pub NumberFor : List ℕ → ℕ → List SadEntry → List ℕ → Type 0
NumberFor x top es o =
    ((is_for x es (Some o) ≡ false) × (number_for x top es (esp_of o) ≡ None))
    ⊎ ((n : ℕ) × (is_for x es (Some o) ≡ true) × (number_for x top es (esp_of o) ≡ Some n))

pub number-either : (x : List ℕ) (top : ℕ) (es : List SadEntry) (o : List ℕ) → NumberFor x top es o
number-either x top es o = by-found (by_spi (spi_of (esp_of o)) es)
  where
    by-name : (e : SadEntry) (b : Bool) → bytes_eq e.name x ≡ b →
        ((is_named_half x (Some e) ≡ false) × (number_if x top (esp_of o) (Some e) ≡ None))
        ⊎ ((n : ℕ) × (is_named_half x (Some e) ≡ true) × (number_if x top (esp_of o) (Some e) ≡ Some n))
    by-name e true p = inr (number_from e top (esp_of o), p, rw p refl)
    by-name e false p = inl (p, rw p refl)

    by-found : (found : Option SadEntry) →
        ((is_named_half x found ≡ false) × (number_if x top (esp_of o) found ≡ None))
        ⊎ ((n : ℕ) × (is_named_half x found ≡ true) × (number_if x top (esp_of o) found ≡ Some n))
    by-found None = inl (refl, refl)
    by-found (Some e) = by-name e (bytes_eq e.name x) refl

-- the number of the arrival for a half, where there is an arrival
abbrev pub arrived_for : List ℕ → ℕ → List SadEntry → Option (List ℕ) → Option ℕ
arrived_for x top es None = None
arrived_for x top es (Some o) = number_for x top es (esp_of o)

number-at : (g x numbers f o : List ℕ) (h : List Act) (b : Bool) → bytes_eq f g ≡ b →
    arrival_number g x numbers (acts.Arrived f o ∷ h) ≡ arrived_for x (greatest numbers) (live g h) (arrival g (acts.Arrived f o ∷ h))
number-at g x numbers f o h true at = rw at refl
number-at g x numbers f o h false at = rw at refl

number-is : (g x numbers : List ℕ) (h : List Act) → arrival_number g x numbers h ≡ arrived_for x (greatest numbers) (live g h) (arrival g h)
number-is g x numbers [] = refl
number-is g x numbers (acts.Arrived f o ∷ h) = number-at g x numbers f o h (bytes_eq f g) refl
number-is g x numbers (a ∷ h) = refl

pub opened-split : (g f : List ℕ) (w : DropWhy) (h : List Act) (e : SadEntry) → bytes_eq f g ≡ true → is_opened w ≡ true →
    half_of g (acts.Drop f w ∷ h) e ≡ opened_under (live g h) (arrival g h) (clock h) (half_of g h e)
opened-split g f w h e at op = by-arrival (arrival g h) refl
  where
    taken : ℕ
    taken = greatest (numbers_taken g e.name h)

    by-number : (o : List ℕ) → arrival g h ≡ Some o → NumberFor e.name taken (live g h) o →
        half_of g (acts.Drop f w ∷ h) e ≡ take_if (clock h) (octets_in (Some o)) (number_for e.name taken (live g h) (esp_of o))
        (half_of g h e)
    by-number o q (inl p) = rw (number-is g e.name (numbers_taken g e.name h) h, at, op, q, p.0, p.1) refl
    by-number o q (inr (n, p, r)) = rw (number-is g e.name (numbers_taken g e.name h) h, at, op, q, p, r)
        (used-half g h e n (octets_in (Some o)))

    by-arrival : (a : Option (List ℕ)) → arrival g h ≡ a → half_of g (acts.Drop f w ∷ h) e ≡ opened_under (live g h) a (clock h)
        (half_of g h e)
    by-arrival None q = rw (number-is g e.name (numbers_taken g e.name h) h, at, op, q) refl
    by-arrival (Some o) q =
        by-number o q (number-either e.name taken (live g h) o)
        ∙ ap (λ top. take_if (clock h) (octets_in (Some o)) (number_for e.name top (live g h) (esp_of o)) (half_of g h e))
        (sym (window-top e.window (numbers_taken g e.name h)))

dropped-half : (g f : List ℕ) (w : DropWhy) (h : List Act) (e : SadEntry) → (bytes_eq f g && is_opened w) ≡ false →
    half_of g (acts.Drop f w ∷ h) e ≡ half_of g h e
dropped-half g f w h e away = rw away refl

note-half : (g f : List ℕ) (s : ℕ) (n : Notice) (h : List Act) (e : SadEntry) → bytes_eq f g ≡ true →
    half_of g (acts.Notice f s n ∷ h) e ≡ note n (half_of g h e)
note-half g f s n h e at = rw at refl

note-away : (g f : List ℕ) (s : ℕ) (n : Notice) (h : List Act) (e : SadEntry) → bytes_eq f g ≡ false →
    half_of g (acts.Notice f s n ∷ h) e ≡ half_of g h e
note-away g f s n h e at = rw at refl

opened-half : (g f : List ℕ) (s : ℕ) (h : List Act) (e : SadEntry) → bytes_eq f g ≡ true →
    half_of g (acts.Opened f s ∷ h) e ≡ hushed (half_of g h e)
opened-half g f s h e at = rw at refl

opened-away : (g f : List ℕ) (s : ℕ) (h : List Act) (e : SadEntry) → bytes_eq f g ≡ false →
    half_of g (acts.Opened f s ∷ h) e ≡ half_of g h e
opened-away g f s h e at = rw at refl

boot-away : (g f : List ℕ) (h : List Act) (e : SadEntry) → bytes_eq f g ≡ false → half_of g (acts.Boot f ∷ h) e ≡ half_of g h e
boot-away g f h e at = rw at refl

pub put-half : (g f : List ℕ) (x : SadEntry) (h : List Act) (e : SadEntry) → is_half f x.name g e.name ≡ false →
    half_of g (acts.Put f x ∷ h) e ≡ half_of g h e
put-half g f x h e away = rw away refl

pub put-fresh : (g f : List ℕ) (x : SadEntry) (h : List Act) → bytes_eq f g ≡ true → half_of g (acts.Put f x ∷ h) x ≡ fresh (clock h) x
put-fresh g f x h at = rw (at, same-refl x.name) refl

-- ---- lists of halves

pub no-half : (g f : List ℕ) (x e : SadEntry) → bytes_eq e.name x.name ≡ false → is_half f x.name g e.name ≡ false
no-half g f x e away = let s = same-sym x.name e.name in and_right (bytes_eq f g) (bytes_eq x.name e.name) (s ∙ away)

put-halves : (g f : List ℕ) (x : SadEntry) (h : List Act) (es : List SadEntry) → bytes_eq f g ≡ true → has_half x.name es ≡ false →
    map (half_of g (acts.Put f x ∷ h)) (es ++ x ∷ []) ≡ map (half_of g h) es ++ fresh (clock h) x ∷ []
put-halves g f x h [] at away = let p = put-fresh g f x h at in cc
put-halves g f x h (e ∷ es) at away =
    let parts = or_parts (bytes_eq e.name x.name) (has_half x.name es) away in
    let p = put-half g f x h e (no-half g f x e parts.0) in
    let ih = put-halves g f x h es at parts.1 in
    cc

gone-step : (g f : List ℕ) (w : GoneWhy) (h : List Act) (x : List ℕ) (e : SadEntry) (es : List SadEntry) (b : Bool) → bytes_eq e.name x ≡ b
    →
    map (half_of g (acts.Gone f x w ∷ h)) (without x es) ≡ halves_without x (map (half_of g h) es) →
    map (half_of g (acts.Gone f x w ∷ h)) (without x (e ∷ es)) ≡ halves_without x (map (half_of g h) (e ∷ es))
gone-step g f w h x e es true own ih = rw own ih
gone-step g f w h x e es false own ih = rw own (ap (λ t. half_of g h e ∷ t) ih)

gone-halves : (g f : List ℕ) (w : GoneWhy) (h : List Act) (x : List ℕ) (es : List SadEntry) →
    map (half_of g (acts.Gone f x w ∷ h)) (without x es) ≡ halves_without x (map (half_of g h) es)
gone-halves g f w h x [] = refl
gone-halves g f w h x (e ∷ es) = gone-step g f w h x e es (bytes_eq e.name x) refl (gone-halves g f w h x es)

pub entries-kept : (g : List ℕ) (h : List Act) (es : List SadEntry) → entries_of (map (half_of g h) es) ≡ es
entries-kept g h [] = refl
entries-kept g h (e ∷ es) = let ih = entries-kept g h es in cc

-- ---- the state

-- an act of this gateway, or of another
pub did-away : (g : List ℕ) (s : GatewayState) (a : Act) → is_at g a ≡ false → quiet s ≡ did g s a
did-away g s a at = if-false (is_at g a) (did_at s a) (quiet s) at

keeps-boot : (g f : List ℕ) (h : List Act) (b : Bool) → bytes_eq f g ≡ b → state_of g (acts.Boot f ∷ h) ≡ did g (state_of g h) (acts.Boot f)
keeps-boot g f h true at = rw at refl
keeps-boot g f h false at =
    let m = map-same (half_of g h) (half_of g (acts.Boot f ∷ h)) (λ e. boot-away g f h e at) (live g h) in
    rw at (ap (λ hs. with_halves hs (state_of g h)) m)

keeps-policy : (g f : List ℕ) (list : List SpdEntry) (h : List Act) (b : Bool) → bytes_eq f g ≡ b →
    state_of g (acts.Policy f list ∷ h) ≡ did g (state_of g h) (acts.Policy f list)
keeps-policy g f list h true at = rw at refl
keeps-policy g f list h false at = rw at refl

keeps-put : (g f : List ℕ) (x : SadEntry) (h : List Act) (b : Bool) → bytes_eq f g ≡ b
    → (bytes_eq f g ≡ true → has_half x.name (live g h) ≡ false) →
    state_of g (acts.Put f x ∷ h) ≡ did g (state_of g h) (acts.Put f x)
keeps-put g f x h true at new =
    let m = put-halves g f x h (live g h) at (new at) in
    rw at (ap (λ hs. with_put hs (wanted_after x (state_of g h)) (state_of g h)) m)
keeps-put g f x h false at new =
    let m = map-same (half_of g h) (half_of g (acts.Put f x ∷ h))
    (λ e. put-half g f x h e (and_left (bytes_eq f g) (bytes_eq x.name e.name) at)) (live g h) in
    rw at (ap (λ hs. with_halves hs (state_of g h)) m)

keeps-gone : (g f x : List ℕ) (w : GoneWhy) (h : List Act) (b : Bool) → bytes_eq f g ≡ b →
    state_of g (acts.Gone f x w ∷ h) ≡ did g (state_of g h) (acts.Gone f x w)
keeps-gone g f x w h true at = rw at (ap (λ hs. with_halves hs (state_of g h)) (gone-halves g f w h x (live g h)))
keeps-gone g f x w h false at = rw at refl

keeps-sent : (g f y o : List ℕ) (n : ℕ) (h : List Act) (b : Bool) → bytes_eq f g ≡ b →
    state_of g (acts.Sent f y n o ∷ h) ≡ did g (state_of g h) (acts.Sent f y n o)
keeps-sent g f y o n h true at =
    let m = map-step (half_of g h) (half_of g (acts.Sent f y n o ∷ h)) (sent_under y (clock h) (octets_in (Some o)))
    (λ e. sent-split g f y o n h e (bytes_eq y e.name) at refl) (live g h) in
    rw at (ap (λ hs. with_halves hs (state_of g h)) m)
keeps-sent g f y o n h false at =
    let m = map-same (half_of g h) (half_of g (acts.Sent f y n o ∷ h)) (λ e. sent-away g f y o n h e at) (live g h) in
    rw at (ap (λ hs. with_halves hs (state_of g h)) m)

keeps-gave : (g f y o : List ℕ) (n : ℕ) (h : List Act) (b : Bool) → bytes_eq f g ≡ b →
    state_of g (acts.Gave f y n o ∷ h) ≡ did g (state_of g h) (acts.Gave f y n o)
keeps-gave g f y o n h true at =
    let m = map-step (half_of g h) (half_of g (acts.Gave f y n o ∷ h)) (given_under y (clock h) (octets_in (arrival g h)) n)
    (λ e. gave-split g f y o n h e (bytes_eq y e.name) at refl) (live g h) in
    rw at (ap (λ hs. with_halves hs (state_of g h)) m)
keeps-gave g f y o n h false at =
    let m = map-same (half_of g h) (half_of g (acts.Gave f y n o ∷ h)) (λ e. gave-away g f y o n h e at) (live g h) in
    rw at (ap (λ hs. with_halves hs (state_of g h)) m)

keeps-opened : (g f : List ℕ) (w : DropWhy) (h : List Act) → bytes_eq f g ≡ true → is_opened w ≡ true →
    state_of g (acts.Drop f w ∷ h) ≡ did g (state_of g h) (acts.Drop f w)
keeps-opened g f w h at op =
    let m = map-step (half_of g h) (half_of g (acts.Drop f w ∷ h)) (opened_under (live g h) (arrival g h) (clock h))
    (λ e. opened-split g f w h e at op) (live g h) in
    let k = entries-kept g h (live g h) in
    rw (at, op, k) (ap (λ hs. with_halves hs (state_of g h)) m)

keeps-dropped : (g f : List ℕ) (w : DropWhy) (h : List Act) → (bytes_eq f g && is_opened w) ≡ false
    → state_of g (acts.Drop f w ∷ h) ≡ quiet (state_of g h)
keeps-dropped g f w h away =
    let m = map-same (half_of g h) (half_of g (acts.Drop f w ∷ h)) (λ e. dropped-half g f w h e away) (live g h) in
    ap (λ hs. with_halves hs (state_of g h)) m

keeps-drop : (g f : List ℕ) (w : DropWhy) (h : List Act) (b c : Bool) → bytes_eq f g ≡ b → is_opened w ≡ c →
    state_of g (acts.Drop f w ∷ h) ≡ did g (state_of g h) (acts.Drop f w)
keeps-drop g f w h true true at op = keeps-opened g f w h at op
keeps-drop g f w h true false at op = rw (at, op) (keeps-dropped g f w h (and_right (bytes_eq f g) (is_opened w) op))
keeps-drop g f w h false c at op = rw at (keeps-dropped g f w h (and_left (bytes_eq f g) (is_opened w) at))

keeps-arrived : (g f o : List ℕ) (h : List Act) (b : Bool) → bytes_eq f g ≡ b → state_of g (acts.Arrived f o ∷ h) ≡ did g (state_of g h)
    (acts.Arrived f o)
keeps-arrived g f o h true at = rw at refl
keeps-arrived g f o h false at = rw at refl

keeps-opening : (g f : List ℕ) (s : ℕ) (h : List Act) (b : Bool) → bytes_eq f g ≡ b
    → state_of g (acts.Opened f s ∷ h) ≡ did g (state_of g h) (acts.Opened f s)
keeps-opening g f s h true at =
    let m = map-step (half_of g h) (half_of g (acts.Opened f s ∷ h)) hushed (λ e. opened-half g f s h e at) (live g h) in
    rw at (ap (λ hs. with_session s hs (state_of g h)) m)
keeps-opening g f s h false at =
    let m = map-same (half_of g h) (half_of g (acts.Opened f s ∷ h)) (λ e. opened-away g f s h e at) (live g h) in
    rw at (ap (λ hs. with_halves hs (state_of g h)) m)

keeps-handled : (g f : List ℕ) (s k : ℕ) (a : Answer) (h : List Act) (b : Bool) → bytes_eq f g ≡ b →
    state_of g (acts.Handled f s k a ∷ h) ≡ did g (state_of g h) (acts.Handled f s k a)
keeps-handled g f s k a h true at = rw at refl
keeps-handled g f s k a h false at = rw at refl

take-spi : (n : Notice) (spis : List ℕ) → take 64 (with_spi n spis) ≡ take 64 (with_spi n (take 64 spis))
take-spi (notices.BadSpi spi) spis = ap (λ t. spi ∷ t) (take-once 63 spis)
take-spi (notices.Acquire p s) spis = take-once-64 spis
take-spi (notices.Expire x b c) spis = take-once-64 spis
take-spi (notices.SeqOverflow x) spis = take-once-64 spis

keeps-notice : (g f : List ℕ) (s : ℕ) (n : Notice) (h : List Act) (b : Bool) → bytes_eq f g ≡ b →
    state_of g (acts.Notice f s n ∷ h) ≡ did g (state_of g h) (acts.Notice f s n)
keeps-notice g f s n h true at =
    let m = map-step (half_of g h) (half_of g (acts.Notice f s n ∷ h)) (note n) (λ e. note-half g f s n h e at) (live g h) in
    let t = take-spi n (bad_spis g h) in
    rw at (ap (λ hs. with_notice hs (with_acquire n (acquires g h)) (take 64 (with_spi n (bad_spis g h))) (state_of g h)) m
    ∙ ap (λ spis. with_notice (map (note n) (state_of g h).halves) (with_acquire n (acquires g h)) spis (state_of g h)) t)
keeps-notice g f s n h false at =
    let m = map-same (half_of g h) (half_of g (acts.Notice f s n ∷ h)) (λ e. note-away g f s n h e at) (live g h) in
    rw at (ap (λ hs. with_halves hs (state_of g h)) m)

pub keeps : (g : List ℕ) (h : List Act) (a : Act) → IsNewHalf g h a → state_of g (a ∷ h) ≡ did g (state_of g h) a
keeps g h (acts.Now t) new = refl
keeps g h (acts.Boot f) new = keeps-boot g f h (bytes_eq f g) refl
keeps g h (acts.Policy f list) new = keeps-policy g f list h (bytes_eq f g) refl
keeps g h (acts.Put f x) new = keeps-put g f x h (bytes_eq f g) refl new
keeps g h (acts.Gone f x w) new = keeps-gone g f x w h (bytes_eq f g) refl
keeps g h (acts.Sent f y n o) new = keeps-sent g f y o n h (bytes_eq f g) refl
keeps g h (acts.Drop f w) new = keeps-drop g f w h (bytes_eq f g) (is_opened w) refl refl
keeps g h (acts.Arrived f o) new = keeps-arrived g f o h (bytes_eq f g) refl
keeps g h (acts.Gave f y n o) new = keeps-gave g f y o n h (bytes_eq f g) refl
keeps g h (acts.Opened f s) new = keeps-opening g f s h (bytes_eq f g) refl
keeps g h (acts.Handled f s k a) new = keeps-handled g f s k a h (bytes_eq f g) refl
keeps g h (acts.Notice f s n) new = keeps-notice g f s n h (bytes_eq f g) refl
keeps g h a new = refl
