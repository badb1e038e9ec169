-- The list of live halves: each is the one that was put under its name, and an SPI names one of them.
use Rattle.std.proofs.Common.{◌≡◌, ℕ, Bool, true, false, ◌==◌, not, ◌&&◌, ◌||◌, List, [], ◌∷◌, ◌++◌, Some, ◌⊎◌, inl, inr, refl, sym, ◌∙◌, ap, subst, arith, if◌then◌else◌}
use Rattle.std.proofs.lemmas.Bool.{or_right, or_left, and_from}
use Rattle.std.specs.Prelude.{find}
use Rattle.std.specs.Str.{bytes_eq}
use Rattle.ikeless_tree.specs.declared.sad.SadEntry.{SadEntry}
use Rattle.ikeless_tree.specs.declared.command.Peer.{Peer}
use Rattle.ikeless_tree.specs.Half.{is_inbound, in_half}
use Rattle.hist_acts.specs.declared.act.Act.{Act}
use Rattle.hist_acts.specs.declared.act.Act.TheVariants as acts
use Rattle.hist_halves.specs.Sealed.{by_spi}
use Rattle.hist_halves.specs.Halves.{is_half, is_live, live, put_of, was_put, without}
use Rattle.hist_safety.specs.Orders.{order_of}
use Rattle.hist_safety.specs.Law.{IsLawful}
use Rattle.hist_safety.specs.Kept.{IsOneOf}
use Rattle.hist_safety.proofs.Basics.{no, both-left, both-right, eq-nat, half-true, if-new, if-old, name-is, name-not, name-true, self, some-is}
use Rattle.hist_safety.proofs.Orders.{put-order}
use Rattle.hist_safety.proofs.Once.{put-once}
use Rattle.hist_safety.proofs.Pairs.{inbound, numbered, one-spi}
use Rattle.hist_safety.proofs.Keys.{not-now}

member-split : (e d : SadEntry) (xs : List SadEntry) → IsOneOf e (xs ++ d ∷ []) → IsOneOf e xs ⊎ (d ≡ e)
member-split e d [] (inl p) = inr p
member-split e d [] (inr p) = absurd p
member-split e d (x ∷ xs) (inl p) = inl (inl p)
member-split e d (x ∷ xs) (inr p) = elim (member-split e d xs p) as (λ z. ((x ≡ e) ⊎ IsOneOf e xs) ⊎ (d ≡ e))
    [ inl q ↦ inl (inr q) | inr q ↦ inr q ]

member-first : (e d : SadEntry) (xs : List SadEntry) → IsOneOf e xs → IsOneOf e (xs ++ d ∷ [])
member-first e d [] p = absurd p
member-first e d (x ∷ xs) (inl p) = inl p
member-first e d (x ∷ xs) (inr p) = inr (member-first e d xs p)

member-last : (d : SadEntry) (xs : List SadEntry) → IsOneOf d (xs ++ d ∷ [])
member-last d [] = inl refl
member-last d (x ∷ xs) = inr (member-last d xs)

without-cases : (b : Bool) (x : List ℕ) (d e : SadEntry) (ds : List SadEntry) → bytes_eq d.name x ≡ b
    → (IsOneOf e (without x ds) → IsOneOf e ds × (e.name ≡ x → ⊥)) →
    IsOneOf e (if b then without x ds else d ∷ without x ds) → ((d ≡ e) ⊎ IsOneOf e ds) × (e.name ≡ x → ⊥)
without-cases true x d e ds q ih p = let i = ih p in (inr i.0, i.1)
without-cases false x d e ds q ih (inl p) = (inl p, λ r. no (sym q ∙ name-true d.name x (ap (λ (z : SadEntry). z.name) p ∙ r)))
without-cases false x d e ds q ih (inr p) = let i = ih p in (inr i.0, i.1)

member-without : (x : List ℕ) (e : SadEntry) (ds : List SadEntry) → IsOneOf e (without x ds) → IsOneOf e ds × (e.name ≡ x → ⊥)
member-without x e [] p = absurd p
member-without x e (d ∷ ds) p = without-cases (bytes_eq d.name x) x d e ds refl (member-without x e ds) p

kept-head : (b : Bool) (x : List ℕ) (e : SadEntry) (ds : List SadEntry) → b ≡ false
    → IsOneOf e (if b then without x ds else e ∷ without x ds)
kept-head true x e ds q = absurd (no (sym q))
kept-head false x e ds q = inl refl

kept-tail : (b : Bool) (x : List ℕ) (d e : SadEntry) (ds : List SadEntry) → IsOneOf e (without x ds)
    → IsOneOf e (if b then without x ds else d ∷ without x ds)
kept-tail true x d e ds p = p
kept-tail false x d e ds p = inr p

member-kept : (x : List ℕ) (e : SadEntry) (ds : List SadEntry) → (e.name ≡ x → ⊥) → IsOneOf e ds → IsOneOf e (without x ds)
member-kept x e [] n p = absurd p
member-kept x e (d ∷ ds) n (inl p) =
    let one = kept-head (bytes_eq d.name x) x d ds (name-not d.name x (λ r. n (ap (λ (z : SadEntry). z.name) (sym p) ∙ r))) in
    subst (λ z. IsOneOf z (if bytes_eq d.name x then without x ds else d ∷ without x ds)) p one
member-kept x e (d ∷ ds) n (inr p) = kept-tail (bytes_eq d.name x) x d e ds (member-kept x e ds n p)

-- ---- a live half is the one that was put
abbrev Stands : List ℕ → SadEntry → List Act → Type 0
Stands g e h = (put_of g e.name h ≡ Some e) × (is_live g e.name h ≡ true)

stands-new : (f g : List ℕ) (d e : SadEntry) (h : List Act) → f ≡ g → d ≡ e → Stands g e (acts.Put f d ∷ h)
stands-new f g d e h p q =
    let b : is_half f d.name g e.name ≡ true = half-true f d.name g e.name p (ap (λ (z : SadEntry). z.name) q) in (
      if-new (is_half f d.name g e.name) (Some d) (put_of g e.name h) b
          ∙ ap (λ (z : SadEntry). Some z) q,
      or_left (is_half f d.name g e.name) (is_live g e.name h) b,
    )

stands-old : (gs : List Peer) (f g : List ℕ) (d e : SadEntry) (h : List Act) → was_put g d.name h ≡ false → Stands g e h
    → Stands g e (acts.Put f d ∷ h)
stands-old gs f g d e h w s =
    let b = not-now gs g f e.name d e h w s.0 in
    (if-old (is_half f d.name g e.name) (Some d) (put_of g e.name h) b ∙ s.0, or_right (is_half f d.name g e.name) (is_live g e.name h) s.1)

stands-put : (gs : List Peer) (b : Bool) (f g : List ℕ) (d e : SadEntry) (h : List Act) → (b ≡ true → f ≡ g) → was_put g d.name h ≡ false
    → (IsOneOf e (live g h) → Stands g e h) →
    IsOneOf e (if b then live g h ++ d ∷ [] else live g h) → Stands g e (acts.Put f d ∷ h)
stands-put gs true f g d e h q w ih p =
    elim (member-split e d (live g h) p) as (λ z. Stands g e (acts.Put f d ∷ h)) [
      | inl r ↦ stands-old gs f g d e h w (ih r)
      | inr r ↦
          stands-new f g d e h (q refl) r
    ]
stands-put gs false f g d e h q w ih p = stands-old gs f g d e h w (ih p)

gone-other : (b c v : Bool) → (b ≡ true → c ≡ false) → v ≡ true → (not (b && c) && v) ≡ true
gone-other true true v q e = absurd (no (sym (q refl)))
gone-other true false v q e = e
gone-other false c v q e = e

stands-gone : (b c : Bool) (g x : List ℕ) (e : SadEntry) (h : List Act) → c ≡ bytes_eq x e.name → (IsOneOf e (live g h) → Stands g e h) →
    IsOneOf e (if b then without x (live g h) else live g h) → (put_of g e.name h ≡ Some e) × ((not (b && c) && is_live g e.name h) ≡ true)
stands-gone true c g x e h q ih p =
    let r = member-without x e (live g h) p in
    let s = ih r.0 in
    (s.0, gone-other true c (is_live g e.name h) (λ t. q ∙ name-not x e.name (λ u. r.1 (sym u))) s.1)
stands-gone false c g x e h q ih p = let s = ih p in (s.0, s.1)

stands-boot : (b : Bool) (g : List ℕ) (e : SadEntry) (h : List Act) → (IsOneOf e (live g h) → Stands g e h)
    → IsOneOf e (if b then [] else live g h) → (put_of g e.name h ≡ Some e) × ((not b && is_live g e.name h) ≡ true)
stands-boot true g e h ih p = absurd p
stands-boot false g e h ih p = ih p

pub stands : (gs : List Peer) (g : List ℕ) (e : SadEntry) (h : List Act) → IsLawful gs h → IsOneOf e (live g h) → Stands g e h
stands gs g e [] l p = absurd p
stands gs g e (acts.Put f d ∷ h) l p = stands-put gs (bytes_eq f g) f g d e h (name-is f g) (put-once gs g f d h l.1 l.0.0 l.0.1)
    (stands gs g e h l.1) p
stands gs g e (acts.Gone f x w ∷ h) l p = stands-gone (bytes_eq f g) (bytes_eq x e.name) g x e h refl (stands gs g e h l.1) p
stands gs g e (acts.Boot f ∷ h) l p = stands-boot (bytes_eq f g) g e h (stands gs g e h l.1) p
stands gs g e (a ∷ h) l p = stands gs g e h l.1 p

-- ---- a live half is in the list
abbrev There : List ℕ → List SadEntry → Type 0
There x ds = (e : SadEntry) × IsOneOf e ds × (e.name ≡ x)

there-first : (x : List ℕ) (d : SadEntry) (ds : List SadEntry) → There x ds → There x (ds ++ d ∷ [])
there-first x d ds t = (t.0, member-first t.0 d ds t.1, t.2)

there-put : (b c v : Bool) (x : List ℕ) (d : SadEntry) (ds : List SadEntry) → (c ≡ true → d.name ≡ x) → (v ≡ true → There x ds)
    → ((b && c) || v) ≡ true → There x (if b then ds ++ d ∷ [] else ds)
there-put true true v x d ds q ih p = (d, member-last d ds, q refl)
there-put true false v x d ds q ih p = there-first x d ds (ih p)
there-put false c v x d ds q ih p = ih p

there-gone : (b c v : Bool) (x y : List ℕ) (ds : List SadEntry) → (c ≡ false → x ≡ y → ⊥) → (v ≡ true → There x ds)
    → (not (b && c) && v) ≡ true → There x (if b then without y ds else ds)
there-gone true true v x y ds q ih p = absurd (no p)
there-gone true false v x y ds q ih p = let t = ih p in (t.0, member-kept y t.0 ds (λ r. q refl (sym t.2 ∙ r)) t.1, t.2)
there-gone false c v x y ds q ih p = ih p

there-boot : (b v : Bool) (x : List ℕ) (ds : List SadEntry) → (v ≡ true → There x ds) → (not b && v) ≡ true → There x (if b then [] else ds)
there-boot true v x ds ih p = absurd (no p)
there-boot false v x ds ih p = ih p

differ : (y x : List ℕ) → bytes_eq y x ≡ false → x ≡ y → ⊥
differ y x q e = no (sym q ∙ name-true y x (sym e))

pub there : (g x : List ℕ) (h : List Act) → is_live g x h ≡ true → There x (live g h)
there g x [] p = absurd (no p)
there g x (acts.Put f d ∷ h) p = there-put (bytes_eq f g) (bytes_eq d.name x) (is_live g x h) x d (live g h) (name-is d.name x)
    (there g x h) p
there g x (acts.Gone f y w ∷ h) p = there-gone (bytes_eq f g) (bytes_eq y x) (is_live g x h) x y (live g h) (differ y x) (there g x h) p
there g x (acts.Boot f ∷ h) p = there-boot (bytes_eq f g) (is_live g x h) x (live g h) (there g x h) p
there g x (a ∷ h) p = there g x h p

-- ---- what an SPI names
find-cases : (b : Bool) (test : SadEntry → Bool) (d e : SadEntry) (ds : List SadEntry) → test d ≡ b
    → (find test ds ≡ Some e → IsOneOf e ds × (test e ≡ true)) → (if b then Some d else find test ds) ≡ Some e → ((d ≡ e) ⊎ IsOneOf e ds)
    × (test e ≡ true)
find-cases true test d e ds q ih p = let r = some-is d e p in (inl r, ap test (sym r) ∙ q)
find-cases false test d e ds q ih p = let i = ih p in (inr i.0, i.1)

find-is : (test : SadEntry → Bool) (e : SadEntry) (ds : List SadEntry) → find test ds ≡ Some e → IsOneOf e ds × (test e ≡ true)
find-is test e [] p = absurd (grind arith)
find-is test e (d ∷ ds) p = find-cases (test d) test d e ds refl (find-is test e ds) p

find-some-cases : (b : Bool) (test : SadEntry → Bool) (d e : SadEntry) (ds : List SadEntry) → test d ≡ b → test e ≡ true
    → (IsOneOf e ds → (f : SadEntry) × (find test ds ≡ Some f)) → (d ≡ e) ⊎ IsOneOf e ds → (f : SadEntry)
    × ((if b then Some d else find test ds) ≡ Some f)
find-some-cases true test d e ds q t ih p = (d, refl)
find-some-cases false test d e ds q t ih (inl p) = absurd (no (sym q ∙ ap test p ∙ t))
find-some-cases false test d e ds q t ih (inr p) = ih p

find-some : (test : SadEntry → Bool) (e : SadEntry) (ds : List SadEntry) → test e ≡ true → IsOneOf e ds → (f : SadEntry)
    × (find test ds ≡ Some f)
find-some test e [] t p = absurd p
find-some test e (d ∷ ds) t p = find-some-cases (test d) test d e ds refl t (find-some test e ds t) p

abbrev spi_test : ℕ → SadEntry → Bool
spi_test spi e = is_inbound e.name && (e.spi == spi)

-- what an SPI names is live, inbound, and the one put under its name
pub spi-is : (gs : List Peer) (g : List ℕ) (spi : ℕ) (e : SadEntry) (h : List Act) → IsLawful gs h → by_spi spi (live g h) ≡ Some e →
    (put_of g e.name h ≡ Some e) × (is_live g e.name h ≡ true) × (is_inbound e.name ≡ true) × (e.spi ≡ spi)
spi-is gs g spi e h l p =
    let m = find-is (spi_test spi) e (live g h) p in
    let s = stands gs g e h l m.0 in
    (s.0, s.1, both-left (is_inbound e.name) (e.spi == spi) m.1, eq-nat e.spi spi (both-right (is_inbound e.name) (e.spi == spi) m.1))

same-half : (gs : List Peer) (g t : List ℕ) (spi : ℕ) (d e : SadEntry) (h : List Act) → IsLawful gs h → put_of g (in_half t) h ≡ Some e
    → e.spi ≡ spi → by_spi spi (live g h) ≡ Some d → d ≡ e
same-half gs g t spi d e h l p q r =
    let s = spi-is gs g spi d h l r in
    let o = put-order gs g d.name d h l s.0 in
    let u = inbound gs d.name h l o.1 s.2 in
    let a = numbered gs u.0 d h l (subst (λ z. order_of z h ≡ Some d) u.1 o.3) in
    let b = numbered gs t e h l (put-order gs g (in_half t) e h l p).3 in
    let w = one-spi u.0 t d e a b (s.3 ∙ sym q) in
    let n : d.name ≡ in_half t = u.1 ∙ ap in_half w in
    some-is d e (sym s.0 ∙ ap (λ (z : List ℕ). put_of g z h) n ∙ p)

pub spi-finds : (gs : List Peer) (g t : List ℕ) (spi : ℕ) (e : SadEntry) (h : List Act) → IsLawful gs h → is_live g (in_half t) h ≡ true
    → put_of g (in_half t) h ≡ Some e → e.spi ≡ spi → by_spi spi (live g h) ≡ Some e
spi-finds gs g t spi e h l v p q =
    let w = there g (in_half t) h v in
    let s = stands gs g w.0 h l w.1 in
    let same : w.0 ≡ e = some-is w.0 e (sym s.0 ∙ ap (λ (z : List ℕ). put_of g z h) w.2 ∙ p) in
    let m : IsOneOf e (live g h) = subst (λ z. IsOneOf z (live g h)) same w.1 in
    let name : e.name ≡ in_half t = ap (λ (z : SadEntry). z.name) (sym same) ∙ w.2 in
    let b : spi_test spi e ≡ true = and_from (is_inbound e.name) (e.spi == spi) (ap is_inbound name) (let r = self spi in
    ap (λ (z : ℕ). z == spi) q ∙ r) in
    let f = find-some (spi_test spi) e (live g h) b m in
    f.1 ∙ ap (λ (z : SadEntry). Some z) (same-half gs g t spi f.0 e h l p q f.1)
