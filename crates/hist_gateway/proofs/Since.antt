-- What is counted since the installation of a half, and which SPIs stand, read plainly.
use Rattle.std.proofs.Common.{◌≡◌, ℕ, zero, suc, ◌+◌, ◌<◌, ◌==◌, Bool, true, false, ◌&&◌, ◌||◌, List, [], ◌∷◌, ◌++◌, filter, take, length, refl, sym, ◌∙◌, ap, subst, arith, if◌then◌else◌}
use Rattle.std.proofs.lemmas.Bool.{false≢true, or_parts, or_left, or_right, eqb-true, eq-eqb}
use Rattle.std.proofs.lemmas.List.Sums.{sum_by-cons}
use Rattle.std.specs.List.{list_any, sum}
use Rattle.std.specs.Str.{bytes_eq}
use Rattle.ikeless_tree.specs.declared.sad.SadEntry.{SadEntry}
use Rattle.ikeless_tree.specs.declared.order.Notice.{Notice}
use Rattle.ikeless_tree.specs.declared.order.Notice.TheVariants as notices
use Rattle.hist_acts.specs.declared.act.Act.{Act}
use Rattle.hist_acts.specs.declared.act.Act.TheVariants as acts
use Rattle.hist_acts.specs.Past.{clock}
use Rattle.hist_halves.specs.Halves.{is_half}
use Rattle.hist_gateway.specs.Uses.{installed_at, is_use, last_used, octets_used, times_used, use_octets}
use Rattle.hist_gateway.specs.Stands.{bad_spis, does_bad_spi_stand, with_spi}
use Rattle.hist_gateway.specs.Since.{is_put_at, uses_among, is_fresh_start, is_any_bad_spi, is_spi_telling, WasSpiTold}
use Rattle.hist_gateway.proofs.KeepsLemmas.{same-refl, same-is}

-- ---- since the installation

abbrev Installs : List ℕ → List ℕ → List ℕ → SadEntry → Type 0
Installs g x f e = is_half f e.name g x ≡ true

-- each word passes over an act that installs another half
pub installed-since : (g x f : List ℕ) (e : SadEntry) (recent old : List Act) → Installs g x f e → list_any (is_put_at g x) recent ≡ false
    → installed_at g x (recent ++ acts.Put f e ∷ old) ≡ clock old
installed-since g x f e [] old i n = rw i refl
installed-since g x f e (acts.Put y d ∷ recent) old i n = let r = or_parts (is_half y d.name g x) (list_any (is_put_at g x) recent) n in
    rw r.0 (installed-since g x f e recent old i r.1)
installed-since g x f e (a ∷ recent) old i n = installed-since g x f e recent old i n

octets-step : (b : Bool) (m n : ℕ) (us : List ℕ) → m ≡ sum us → (if b then m + n else m) ≡ sum (if b then n ∷ us else us)
octets-step true m n us e = let q : m + n ≡ n + sum us = omega (arith, e) in q ∙ sym (sum_by-cons (λ x. x) n us)
octets-step false m n us e = e

pub octets-since : (g x f : List ℕ) (e : SadEntry) (recent old : List Act) → Installs g x f e → list_any (is_put_at g x) recent ≡ false
    → octets_used g x (recent ++ acts.Put f e ∷ old) ≡ sum (uses_among g x recent (acts.Put f e ∷ old))
octets-since g x f e [] old i n = rw i refl
octets-since g x f e (acts.Put y d ∷ recent) old i n = let r = or_parts (is_half y d.name g x) (list_any (is_put_at g x) recent) n in
    rw r.0 (octets-since g x f e recent old i r.1)
octets-since g x f e (a ∷ recent) old i n =
    octets-step (is_use g x a (recent ++ acts.Put f e ∷ old)) (octets_used g x (recent ++ acts.Put f e ∷ old))
    (use_octets g a (recent ++ acts.Put f e ∷ old)) (uses_among g x recent (acts.Put f e ∷ old)) (octets-since g x f e recent old i n)

times-step : (b : Bool) (m n : ℕ) (us : List ℕ) → m ≡ length us → (if b then m + 1 else m) ≡ length (if b then n ∷ us else us)
times-step true m n us e = let q : m + 1 ≡ suc (length us) = omega (arith, e) in q
times-step false m n us e = e

pub times-since : (g x f : List ℕ) (e : SadEntry) (recent old : List Act) → Installs g x f e → list_any (is_put_at g x) recent ≡ false
    → times_used g x (recent ++ acts.Put f e ∷ old) ≡ length (uses_among g x recent (acts.Put f e ∷ old))
times-since g x f e [] old i n = rw i refl
times-since g x f e (acts.Put y d ∷ recent) old i n = let r = or_parts (is_half y d.name g x) (list_any (is_put_at g x) recent) n in
    rw r.0 (times-since g x f e recent old i r.1)
times-since g x f e (a ∷ recent) old i n =
    times-step (is_use g x a (recent ++ acts.Put f e ∷ old)) (times_used g x (recent ++ acts.Put f e ∷ old))
    (use_octets g a (recent ++ acts.Put f e ∷ old)) (uses_among g x recent (acts.Put f e ∷ old)) (times-since g x f e recent old i n)

-- no use among the newer acts
unused-step : (b : Bool) (n : ℕ) (us : List ℕ) → (if b then n ∷ us else us) ≡ [] → (b ≡ false) × (us ≡ [])
unused-step true n us e = let q : n ∷ us ≡ [] = e in absurd (cc)
unused-step false n us e = (refl, e)

if-unused : (b : Bool) (m n : ℕ) → b ≡ false → (if b then m else n) ≡ n
if-unused b m n e = ap (λ z. if z then m else n) e

if-used : (b : Bool) (m n : ℕ) → b ≡ true → (if b then m else n) ≡ m
if-used b m n e = ap (λ z. if z then m else n) e

pub unused-since : (g x f : List ℕ) (e : SadEntry) (recent old : List Act) → Installs g x f e → list_any (is_put_at g x) recent ≡ false
    → uses_among g x recent (acts.Put f e ∷ old) ≡ [] → last_used g x (recent ++ acts.Put f e ∷ old) ≡ clock old
unused-since g x f e [] old i n u = rw i refl
unused-since g x f e (acts.Put y d ∷ recent) old i n u = let r = or_parts (is_half y d.name g x) (list_any (is_put_at g x) recent) n in
    rw r.0 (unused-since g x f e recent old i r.1 u)
unused-since g x f e (a ∷ recent) old i n u =
    let h : List Act = recent ++ acts.Put f e ∷ old in
    let r = unused-step (is_use g x a h) (use_octets g a h) (uses_among g x recent (acts.Put f e ∷ old)) u in
    if-unused (is_use g x a h) (clock h) (last_used g x h) r.0 ∙ unused-since g x f e recent old i n r.1

used-now : (g x : List ℕ) (a : Act) (old : List Act) → is_use g x a old ≡ true → last_used g x (a ∷ old) ≡ clock old
used-now g x (acts.Put f e) old u = absurd (false≢true u)
used-now g x a old u = if-used (is_use g x a old) (clock old) (last_used g x old) u

pub used-since : (g x : List ℕ) (a : Act) (recent old : List Act) → is_use g x a old ≡ true → list_any (is_put_at g x) recent ≡ false
    → uses_among g x recent (a ∷ old) ≡ [] → last_used g x (recent ++ a ∷ old) ≡ clock old
used-since g x a [] old i n u = used-now g x a old i
used-since g x a (acts.Put y d ∷ recent) old i n u = let r = or_parts (is_half y d.name g x) (list_any (is_put_at g x) recent) n in
    rw r.0 (used-since g x a recent old i r.1 u)
used-since g x a (b ∷ recent) old i n u =
    let h : List Act = recent ++ a ∷ old in
    let r = unused-step (is_use g x b h) (use_octets g b h) (uses_among g x recent (a ∷ old)) u in
    if-unused (is_use g x b h) (clock h) (last_used g x h) r.0 ∙ used-since g x a recent old i n r.1

-- ---- the SPIs that stand

abbrev stands-in : ℕ → List ℕ → Bool
stands-in spi spis = list_any (λ k. k == spi) spis

none-stands : (spi n : ℕ) → stands-in spi (take n []) ≡ false
none-stands spi zero = refl
none-stands spi (suc n) = refl

filter-one : (p : Act → Bool) (a : Act) (xs : List Act) (n : ℕ) (b : Bool) → p a ≡ b → length (filter p xs) < n
    → length (filter p (a ∷ xs)) < suc n
filter-one p a xs n true e l = rw e (let q : suc (length (filter p xs)) < suc n = omega (arith, l) in q)
filter-one p a xs n false e l = rw e (omega (arith, l))

-- an act that isn't a fresh start and tells no SPI, and one that tells another
later : (g : List ℕ) (spi n : ℕ) (a : Act) (h : List Act) → is_fresh_start g a ≡ false → is_spi_telling g a ≡ false → WasSpiTold g spi n h
    → WasSpiTold g spi n (a ∷ h)
later g spi n a h fresh telling r = record {
  recent = a ∷ r.recent;
  session = r.session;
  old = r.old;
  all = ap (λ z. a ∷ z) r.all;
  since = rw fresh r.since;
  few = rw telling r.few;
}

one-later : (g : List ℕ) (spi n : ℕ) (a : Act) (h : List Act) → is_fresh_start g a ≡ false → WasSpiTold g spi n h
    → WasSpiTold g spi (suc n) (a ∷ h)
one-later g spi n a h fresh r = record {
  recent = a ∷ r.recent;
  session = r.session;
  old = r.old;
  all = ap (λ z. a ∷ z) r.all;
  since = rw fresh r.since;
  few = filter-one (is_spi_telling g) a r.recent n (is_spi_telling g a) refl r.few;
}

abbrev Tells : List ℕ → ℕ → List Act → Type 0
Tells g spi h = (n : ℕ) → stands-in spi (take n (bad_spis g h)) ≡ true → WasSpiTold g spi n h

spi-told : (g f : List ℕ) (spi k s : ℕ) (h : List Act) → bytes_eq f g ≡ true → Tells g spi h → (n : ℕ)
    → stands-in spi (take n (k ∷ bad_spis g h)) ≡ true → WasSpiTold g spi n (acts.Notice f s (notices.BadSpi k) ∷ h)
spi-told g f spi k s h at ih zero t = absurd (false≢true t)
spi-told g f spi k s h at ih (suc n) t = by-same (k == spi) refl t
  where
    by-same : (b : Bool) → (k == spi) ≡ b → (b || stands-in spi (take n (bad_spis g h))) ≡ true
        → WasSpiTold g spi (suc n) (acts.Notice f s (notices.BadSpi k) ∷ h)
    by-same true e t =
        let here : f ≡ g = same-is f g at in
        let same : k ≡ spi = eqb-true k spi e in
        record {
          recent = [];
          session = s;
          old = h;
          all = (λ i. acts.Notice (here i) s (notices.BadSpi (same i)) ∷ h);
          since = refl;
          few =
              omega arith;
        }
    by-same false e t = one-later g spi n (acts.Notice f s (notices.BadSpi k)) h refl (ih n t)

notice-told : (g f : List ℕ) (spi s : ℕ) (m : Notice) (h : List Act) (b : Bool) → bytes_eq f g ≡ b → Tells g spi h → (n : ℕ) →
    stands-in spi (take n (if b then with_spi m (bad_spis g h) else bad_spis g h)) ≡ true → WasSpiTold g spi n (acts.Notice f s m ∷ h)
notice-told g f spi s m h false at ih n t = later g spi n (acts.Notice f s m) h refl (rw at refl) (ih n t)
notice-told g f spi s (notices.BadSpi k) h true at ih n t = spi-told g f spi k s h at ih n t
notice-told g f spi s (notices.Acquire p v) h true at ih n t = later g spi n (acts.Notice f s (notices.Acquire p v)) h refl (rw at refl)
    (ih n t)
notice-told g f spi s (notices.Expire p v c) h true at ih n t = later g spi n (acts.Notice f s (notices.Expire p v c)) h refl (rw at refl)
    (ih n t)
notice-told g f spi s (notices.SeqOverflow p) h true at ih n t = later g spi n (acts.Notice f s (notices.SeqOverflow p)) h refl (rw at refl)
    (ih n t)

start-told : (g : List ℕ) (spi : ℕ) (a : Act) (h : List Act) (b : Bool) → is_fresh_start g a ≡ b → is_spi_telling g a ≡ false
    → Tells g spi h → (n : ℕ) → stands-in spi (take n (if b then [] else bad_spis g h)) ≡ true → WasSpiTold g spi n (a ∷ h)
start-told g spi a h true start telling ih n t = absurd (false≢true (sym (none-stands spi n) ∙ t))
start-told g spi a h false start telling ih n t = later g spi n a h start telling (ih n t)

told-of : (g : List ℕ) (spi : ℕ) (h : List Act) → Tells g spi h
told-of g spi [] n t = absurd (false≢true (sym (none-stands spi n) ∙ t))
told-of g spi (acts.Notice f s m ∷ h) n t = notice-told g f spi s m h (bytes_eq f g) refl (told-of g spi h) n t
told-of g spi (acts.Opened f s ∷ h) n t = start-told g spi (acts.Opened f s) h (bytes_eq f g) refl refl (told-of g spi h) n t
told-of g spi (acts.Boot f ∷ h) n t = start-told g spi (acts.Boot f) h (bytes_eq f g) refl refl (told-of g spi h) n t
told-of g spi (a ∷ h) n t = later g spi n a h refl refl (told-of g spi h n t)

pub stands-told : (g : List ℕ) (spi : ℕ) (h : List Act) → does_bad_spi_stand g spi h ≡ true → WasSpiTold g spi 64 h
stands-told g spi h t = told-of g spi h 64 t

-- ---- and back

stands-head : (g : List ℕ) (spi s n : ℕ) (old : List Act) → 0 < n
    → stands-in spi (take n (bad_spis g (acts.Notice g s (notices.BadSpi spi) ∷ old))) ≡ true
stands-head g spi s zero old l = absurd (omega (arith, l))
stands-head g spi s (suc n) old l = rw (same-refl g) (or_left (spi == spi) (stands-in spi (take n (bad_spis g old))) (eq-eqb spi spi refl))

more-spi : (spi k c n : ℕ) (spis : List ℕ) → ((n : ℕ) → c < n → stands-in spi (take n spis) ≡ true) → suc c < n
    → stands-in spi (take n (k ∷ spis)) ≡ true
more-spi spi k c zero spis ih l = absurd (omega (arith, l))
more-spi spi k c (suc n) spis ih l = or_right (k == spi) (stands-in spi (take n spis)) (ih n (omega (arith, l)))

abbrev Stays : List ℕ → ℕ → List Act → ℕ → Type 0
Stays g spi h c = (n : ℕ) → c < n → stands-in spi (take n (bad_spis g h)) ≡ true

notice-stays : (g f : List ℕ) (spi s c : ℕ) (m : Notice) (h : List Act) (b : Bool) → bytes_eq f g ≡ b → Stays g spi h c
    → Stays g spi (acts.Notice f s m ∷ h) (if b && is_any_bad_spi m then suc c else c)
notice-stays g f spi s c m h false at ih n l = rw at (ih n l)
notice-stays g f spi s c (notices.BadSpi k) h true at ih n l = rw at (more-spi spi k c n (bad_spis g h) ih l)
notice-stays g f spi s c (notices.Acquire p v) h true at ih n l = rw at (ih n l)
notice-stays g f spi s c (notices.Expire p v d) h true at ih n l = rw at (ih n l)
notice-stays g f spi s c (notices.SeqOverflow p) h true at ih n l = rw at (ih n l)

length-if : (b : Bool) (a : Act) (xs : List Act) → (if b then suc (length xs) else length xs) ≡ length (if b then a ∷ xs else xs)
length-if true a xs = refl
length-if false a xs = refl

stays-of : (g : List ℕ) (spi s : ℕ) (recent old : List Act) → list_any (is_fresh_start g) recent ≡ false
    → Stays g spi (recent ++ acts.Notice g s (notices.BadSpi spi) ∷ old) (length (filter (is_spi_telling g) recent))
stays-of g spi s [] old e n l = stands-head g spi s n old l
stays-of g spi s (acts.Notice f t m ∷ recent) old e n l =
    let c : ℕ = length (filter (is_spi_telling g) recent) in
    let ih = stays-of g spi s recent old e in
    notice-stays g f spi t c m (recent ++ acts.Notice g s (notices.BadSpi spi) ∷ old) (bytes_eq f g) refl ih n
    (subst (λ (z : ℕ). z < n)
    (sym (length-if (bytes_eq f g && is_any_bad_spi m) (acts.Notice f t m) (filter (is_spi_telling g) recent))) l)
stays-of g spi s (acts.Opened f t ∷ recent) old e n l = let r = or_parts (bytes_eq f g) (list_any (is_fresh_start g) recent) e in
    rw r.0 (stays-of g spi s recent old r.1 n l)
stays-of g spi s (acts.Boot f ∷ recent) old e n l = let r = or_parts (bytes_eq f g) (list_any (is_fresh_start g) recent) e in
    rw r.0 (stays-of g spi s recent old r.1 n l)
stays-of g spi s (a ∷ recent) old e n l = stays-of g spi s recent old e n l

pub told-stands : (g : List ℕ) (spi : ℕ) (h : List Act) → WasSpiTold g spi 64 h → does_bad_spi_stand g spi h ≡ true
told-stands g spi h r = subst (λ z. does_bad_spi_stand g spi z ≡ true) (sym r.all) (stays-of g spi r.session r.recent r.old r.since 64
    r.few)
