-- One more call makes of the halves, looking back, what its contract says.
use Rattle.std.proofs.Common.{◌≡◌, ℕ, zero, suc, not, ◌&&◌, ◌||◌, Bool, true, false, List, [], ◌∷◌, ◌++◌, Option, Some, is_none, length, map, nat_le, slice_get, refl, sym, ap, ◌∙◌, if◌then◌else◌}
use Rattle.std.proofs.lemmas.Bool.{and_left, and_parts, and_right, or_parts}
use Rattle.std.proofs.lemmas.List.{length-map}
use Rattle.std.proofs.lemmas.Slice.Eq.{bytes_eq-Decides}
use Rattle.std.specs.List.{list_any}
use Rattle.std.specs.Str.{bytes_eq}
use Rattle.ikeless_tree.specs.Half.{is_inbound}
use Rattle.ikeless_tree.specs.declared.sad.SadEntry.{SadEntry}
use Rattle.life_count.specs.Lifetime.{counted, looked}
use Rattle.life_count.specs.Calls as lives
use Rattle.life_count.proofs.CallLemmas.{life-is}
use Rattle.sad_store.specs.declared.half.Half.{Half}
use Rattle.sad_store.specs.Halves.{changed, fresh, has_half_named, halves_without, hushed, is_half_of_spi, is_full, is_spi_taken, look_at, mark_number, names_of, number_next, use_half, with_overflow, with_life}
use Rattle.sad_store.specs.Install.{install_fault}
use Rattle.sad_store.specs.Kept.{are_names_apart}
use Rattle.store_law.specs.Calls.{Call, Install, Remove, Next_number, Mark, Use, Look, Overflow, Session, installed, did}
use Rattle.store_law.specs.Back.{befell, entries_without, half_of, has_entry_named, installed_at, is_entry_of_spi, is_named, is_put, life_of, may_join, stands_at, there}

-- ---- lists

abbrev pub names_in : List SadEntry → List (List ℕ)
names_in es = map (λ (e : SadEntry). e.name) es

pub names-back : (h : List Call) (es : List SadEntry) → names_of (map (half_of h) es) ≡ names_in es
names-back h [] = refl
names-back h (e ∷ es) = ap (λ ns. e.name ∷ ns) (names-back h es)

map-same : (p q : SadEntry → Half) → ((e : SadEntry) → q e ≡ p e) → (es : List SadEntry) → map q es ≡ map p es
map-same p q same [] = refl
map-same p q same (e ∷ es) = let ih = map-same p q same es in let s = same e in cc

chosen : {A : Type 0} (b : Bool) (x y : A) → b ≡ true → (if b then x else y) ≡ x
chosen true x y e = refl
chosen false x y e = cc

left : {A : Type 0} (b : Bool) (x y : A) → b ≡ false → (if b then x else y) ≡ y
left true x y e = cc
left false x y e = refl

not-true : (b : Bool) → not b ≡ true → b ≡ false
not-true true e = cc
not-true false e = refl

-- ---- names

name-refl : (x : List ℕ) → bytes_eq x x ≡ true
name-refl x = (bytes_eq-Decides x x).1 refl

name-back : (x y : List ℕ) (b c : Bool) → bytes_eq x y ≡ b → bytes_eq y x ≡ c → b ≡ c
name-back x y true c p q = let e : y ≡ x = sym ((bytes_eq-Decides x y).0 p) in sym ((bytes_eq-Decides y x).1 e) ∙ q
name-back x y false true p q = let e : x ≡ y = sym ((bytes_eq-Decides y x).0 q) in sym p ∙ (bytes_eq-Decides x y).1 e
name-back x y false false p q = refl

pub name-sym : (x y : List ℕ) → bytes_eq x y ≡ bytes_eq y x
name-sym x y = name-back x y (bytes_eq x y) (bytes_eq y x) refl refl

-- ---- a call on the half at a place

-- q makes f of the half that was found, and leaves the others as p has them
abbrev IsChange : (p q : SadEntry → Half) → (Half → Half) → Option SadEntry → Type 0
IsChange p q f found = (d : SadEntry) → q d ≡ (if is_named d.name found then f (p d) else p d)

others : (p q : SadEntry → Half) (f : Half → Half) (e : SadEntry) → IsChange p q f (Some e) → (es : List SadEntry) →
    list_any (λ y. bytes_eq y e.name) (names_in es) ≡ false → map q es ≡ map p es
others p q f e is [] away = refl
others p q f e is (d ∷ es) away =
    let parts = or_parts (bytes_eq d.name e.name) (list_any (λ y. bytes_eq y e.name) (names_in es)) away in
    let own : q d ≡ p d = is d ∙ left (bytes_eq e.name d.name) (f (p d)) (p d) (name-sym e.name d.name ∙ parts.0) in
    let ih = others p q f e is es parts.1 in
    cc

other : (name : List ℕ) (es : List SadEntry) (i : ℕ) → list_any (λ y. bytes_eq y name) (names_in es) ≡ false
    → is_named name (slice_get es i) ≡ false
other name [] i away = refl
other name (e ∷ es) zero away = (or_parts (bytes_eq e.name name) (list_any (λ y. bytes_eq y name) (names_in es)) away).0
other name (e ∷ es) (suc i) away = other name es i (or_parts (bytes_eq e.name name) (list_any (λ y. bytes_eq y name) (names_in es)) away).1

placed : (p q : SadEntry → Half) (f : Half → Half) (es : List SadEntry) (i : ℕ) → IsChange p q f (slice_get es i)
    → are_names_apart (names_in es) ≡ true →
    map q es ≡ changed f i (map p es)
placed p q f [] i is apart = refl
placed p q f (e ∷ es) zero is apart =
    let parts = and_parts (not (list_any (λ y. bytes_eq y e.name) (names_in es))) (are_names_apart (names_in es)) apart in
    let rest = others p q f e is es (not-true (list_any (λ y. bytes_eq y e.name) (names_in es)) parts.0) in
    let own : q e ≡ f (p e) = is e ∙ chosen (bytes_eq e.name e.name) (f (p e)) (p e) (name-refl e.name) in
    cc
placed p q f (e ∷ es) (suc i) is apart =
    let parts = and_parts (not (list_any (λ y. bytes_eq y e.name) (names_in es))) (are_names_apart (names_in es)) apart in
    let away = other e.name es i (not-true (list_any (λ y. bytes_eq y e.name) (names_in es)) parts.0) in
    let own : q e ≡ p e = is e ∙ left (is_named e.name (slice_get es i)) (f (p e)) (p e) away in
    let ih = placed p q f es i is parts.1 in
    cc

-- ---- what each call makes of one half

number-half : (h : List Call) (i : ℕ) (d : SadEntry) (b : Bool) → stands_at i d.name h ≡ b →
    half_of (Next_number i ∷ h) d ≡ (if b then number_next (half_of h d) else half_of h d)
number-half h i d true at = rw at refl
number-half h i d false at = rw at refl

mark-half : (h : List Call) (i n : ℕ) (d : SadEntry) (b : Bool) → stands_at i d.name h ≡ b →
    half_of (Mark i n ∷ h) d ≡ (if b then mark_number n (half_of h d) else half_of h d)
mark-half h i n d true at = rw at refl
mark-half h i n d false at = rw at refl

-- a lifetime, looking back, is the one that one call after the other gives
pub life-run : (h : List Call) (d : SadEntry) → life_of h d ≡ lives.life_after d.hard d.soft (installed_at d.name h) (befell d.name h)
life-run h d = sym (life-is d.hard d.soft (installed_at d.name h) (befell d.name h))

use-half : (h : List Call) (i size now : ℕ) (d : SadEntry) (b : Bool) → stands_at i d.name h ≡ b →
    half_of (Use i size now ∷ h) d ≡ (if b then use_half size now (half_of h d) else half_of h d)
use-half h i size now d true at =
    let before = life-is d.hard d.soft (installed_at d.name h) (befell d.name h) in
    let after = life-is d.hard d.soft (installed_at d.name h) (lives.Use size now ∷ befell d.name h) in
    rw at (ap (λ l. with_life l (half_of h d)) (sym after ∙ ap (λ l. looked now (counted size now l)) before))
use-half h i size now d false at = rw at refl

look-half : (h : List Call) (i now : ℕ) (d : SadEntry) (b : Bool) → stands_at i d.name h ≡ b →
    half_of (Look i now ∷ h) d ≡ (if b then look_at now (half_of h d) else half_of h d)
look-half h i now d true at =
    let before = life-is d.hard d.soft (installed_at d.name h) (befell d.name h) in
    let after = life-is d.hard d.soft (installed_at d.name h) (lives.Tick now ∷ befell d.name h) in
    rw at (ap (λ l. with_life l (half_of h d)) (sym after ∙ ap (looked now) before))
look-half h i now d false at = rw at refl

overflow-half : (h : List Call) (i : ℕ) (d : SadEntry) (b : Bool) → stands_at i d.name h ≡ b →
    half_of (Overflow i ∷ h) d ≡ (if b then with_overflow true (half_of h d) else half_of h d)
overflow-half h i d true at = rw at refl
overflow-half h i d false at = rw at refl

session-halves : (h : List Call) (es : List SadEntry) → map (half_of (Session ∷ h)) es ≡ map hushed (map (half_of h) es)
session-halves h [] = refl
session-halves h (e ∷ es) = ap (λ xs. hushed (half_of h e) ∷ xs) (session-halves h es)

removed-by : (h : List Call) (name : List ℕ) (e : SadEntry) (es : List SadEntry) (b : Bool) → bytes_eq e.name name ≡ b →
    map (half_of (Remove name ∷ h)) (entries_without name es) ≡ halves_without name (map (half_of h) es) →
    map (half_of (Remove name ∷ h)) (entries_without name (e ∷ es)) ≡ halves_without name (map (half_of h) (e ∷ es))
removed-by h name e es true own ih = rw own ih
removed-by h name e es false own ih = rw own (ap (λ xs. half_of h e ∷ xs) ih)

removed-halves : (h : List Call) (name : List ℕ) (es : List SadEntry) →
    map (half_of (Remove name ∷ h)) (entries_without name es) ≡ halves_without name (map (half_of h) es)
removed-halves h name [] = refl
removed-halves h name (e ∷ es) = removed-by h name e es (bytes_eq e.name name) refl (removed-halves h name es)

-- ---- an installation

kept-half : (h : List Call) (e : SadEntry) (now : ℕ) (d : SadEntry) → is_put e d.name h ≡ false
    → half_of (Install e now ∷ h) d ≡ half_of h d
kept-half h e now d away = rw away refl

fresh-half : (h : List Call) (e : SadEntry) (now : ℕ) → is_put e e.name h ≡ true → half_of (Install e now ∷ h) e ≡ fresh now e
fresh-half h e now put = rw put refl

and-true : (a b : Bool) → a ≡ true → b ≡ true → (a && b) ≡ true
and-true true b p q = q
and-true false b p q = cc

joined : (h : List Call) (e : SadEntry) (now : ℕ) (es : List SadEntry) → may_join e (there h) ≡ true → has_entry_named e.name es ≡ false →
    map (half_of (Install e now ∷ h)) (es ++ e ∷ []) ≡ map (half_of h) es ++ fresh now e ∷ []
joined h e now [] joins away =
    let own = fresh-half h e now (and-true (bytes_eq e.name e.name) (may_join e (there h)) (name-refl e.name) joins) in
    ap (λ x. x ∷ []) own
joined h e now (d ∷ es) joins away =
    let parts = or_parts (bytes_eq d.name e.name) (has_entry_named e.name es) away in
    let own = kept-half h e now d (and_left (bytes_eq e.name d.name) (may_join e (there h)) (name-sym e.name d.name ∙ parts.0)) in
    let ih = joined h e now es joins parts.1 in
    cc

put-halves : (h : List Call) (e : SadEntry) (now : ℕ) (b : Bool) → may_join e (there h) ≡ b →
    map (half_of (Install e now ∷ h)) (there (Install e now ∷ h)) ≡ (if may_join e (there h) then map (half_of h) (there h) ++ fresh now e
    ∷ [] else map (half_of h) (there h))
put-halves h e now true joins =
    let parts = and_parts (not (has_entry_named e.name (there h))) _ joins in
    ap (map (half_of (Install e now ∷ h))) (chosen (may_join e (there h)) (there h ++ e ∷ []) (there h) joins)
    ∙ (joined h e now (there h) joins (not-true (has_entry_named e.name (there h)) parts.0)
    ∙ sym (chosen (may_join e (there h)) (map (half_of h) (there h) ++ fresh now e ∷ []) (map (half_of h) (there h)) joins))
put-halves h e now false stays =
    ap (map (half_of (Install e now ∷ h))) (left (may_join e (there h)) (there h ++ e ∷ []) (there h) stays)
    ∙ (map-same (half_of h) (half_of (Install e now ∷ h))
    (λ d. kept-half h e now d (and_right (bytes_eq e.name d.name) (may_join e (there h)) stays)) (there h)
    ∙ sym (left (may_join e (there h)) (map (half_of h) (there h) ++ fresh now e ∷ []) (map (half_of h) (there h)) stays))

-- the reasons against it are the same of halves and of their entries
named-back : (h : List Call) (name : List ℕ) (es : List SadEntry) → has_half_named name (map (half_of h) es) ≡ has_entry_named name es
named-back h name [] = refl
named-back h name (e ∷ es) = ap (λ b. bytes_eq e.name name || b) (named-back h name es)

spis-back : (h : List Call) (spi : ℕ) (es : List SadEntry) → list_any (is_half_of_spi spi) (map (half_of h) es) ≡ list_any
    (is_entry_of_spi spi) es
spis-back h spi [] = refl
spis-back h spi (e ∷ es) = ap (λ b. is_entry_of_spi spi e || b) (spis-back h spi es)

installed-by : (e : SadEntry) (now : ℕ) (xs : List Half) (a b c : Bool) → has_half_named e.name xs ≡ a → is_spi_taken e xs ≡ b
    → is_full xs ≡ c →
    installed e now xs (install_fault e xs) ≡ (if not a && (not b && not c) then xs ++ fresh now e ∷ [] else xs)
installed-by e now xs true b c p q r = rw p refl
installed-by e now xs false true c p q r = rw (p, q) refl
installed-by e now xs false false true p q r = rw (p, q, r) refl
installed-by e now xs false false false p q r = rw (p, q, r) refl

installed-halves : (h : List Call) (e : SadEntry) (now : ℕ) (es : List SadEntry) →
    did (map (half_of h) es) (Install e now) ≡ (if may_join e es then map (half_of h) es ++ fresh now e ∷ [] else map (half_of h) es)
installed-halves h e now es =
    installed-by e now (map (half_of h) es) (has_entry_named e.name es) (is_inbound e.name && list_any (is_entry_of_spi e.spi) es)
    (nat_le 4096 (length es))
    (named-back h e.name es) (ap (λ b. is_inbound e.name && b) (spis-back h e.spi es)) (ap (nat_le 4096) (length-map es (half_of h)))

none-by : (e : SadEntry) (xs : List Half) (a b c : Bool) → has_half_named e.name xs ≡ a → is_spi_taken e xs ≡ b → is_full xs ≡ c →
    is_none (install_fault e xs) ≡ (not a && (not b && not c))
none-by e xs true b c p q r = rw p refl
none-by e xs false true c p q r = rw (p, q) refl
none-by e xs false false true p q r = rw (p, q, r) refl
none-by e xs false false false p q r = rw (p, q, r) refl

pub none-against : (h : List Call) (e : SadEntry) (es : List SadEntry) → is_none (install_fault e (map (half_of h) es)) ≡ may_join e es
none-against h e es =
    none-by e (map (half_of h) es) (has_entry_named e.name es) (is_inbound e.name && list_any (is_entry_of_spi e.spi) es)
    (nat_le 4096 (length es))
    (named-back h e.name es) (ap (λ b. is_inbound e.name && b) (spis-back h e.spi es)) (ap (nat_le 4096) (length-map es (half_of h)))

-- ---- one call

pub step : (h : List Call) → are_names_apart (names_in (there h)) ≡ true → (c : Call) →
    map (half_of (c ∷ h)) (there (c ∷ h)) ≡ did (map (half_of h) (there h)) c
step h apart (Install e now) = put-halves h e now (may_join e (there h)) refl ∙ sym (installed-halves h e now (there h))
step h apart (Remove name) = removed-halves h name (there h)
step h apart (Next_number i) = placed (half_of h) (half_of (Next_number i ∷ h)) number_next (there h) i
    (λ d. number-half h i d (stands_at i d.name h) refl) apart
step h apart (Mark i n) = placed (half_of h) (half_of (Mark i n ∷ h)) (mark_number n) (there h) i
    (λ d. mark-half h i n d (stands_at i d.name h) refl) apart
step h apart (Use i size now) = placed (half_of h) (half_of (Use i size now ∷ h)) (use_half size now) (there h) i
    (λ d. use-half h i size now d (stands_at i d.name h) refl) apart
step h apart (Look i now) = placed (half_of h) (half_of (Look i now ∷ h)) (look_at now) (there h) i
    (λ d. look-half h i now d (stands_at i d.name h) refl) apart
step h apart (Overflow i) = placed (half_of h) (half_of (Overflow i ∷ h)) (with_overflow true) (there h) i
    (λ d. overflow-half h i d (stands_at i d.name h) refl) apart
step h apart Session = session-halves h (there h)
