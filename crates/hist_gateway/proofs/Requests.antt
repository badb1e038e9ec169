-- The requests counted since a session was taken are those handled in it.
use Rattle.std.proofs.Common.{◌≡◌, ◌≤◌, ◌<◌, ℕ, ◌+◌, ◌==◌, ◌&&◌, Bool, true, false, List, [], ◌∷◌, refl, sym, ◌∙◌, ap, arith, if◌then◌else◌}
use Rattle.std.specs.Str.{bytes_eq}
use Rattle.ikeless_tree.specs.declared.order.Answer.{Answer}
use Rattle.hist_acts.specs.declared.act.Act.{Act}
use Rattle.hist_acts.specs.declared.act.Act.TheVariants as acts
use Rattle.hist_acts.specs.Sessions.{openings, session_taken, handled}
use Rattle.hist_gateway.specs.Handle.{requests}
use Rattle.hist_gateway.specs.May.{AreNumbered}

taken-opened : (b : Bool) (s n t : ℕ) → (b ≡ true → s ≡ n + 1) → t ≤ n → (if b then s else t) ≤ (if b then n + 1 else n)
taken-opened true s n t new le = let e = new refl in omega (arith, e)
taken-opened false s n t new le = le

taken-boot : (b : Bool) (n t : ℕ) → t ≤ n → (if b then 0 else t) ≤ n
taken-boot true n t le = omega arith
taken-boot false n t le = le

pub taken-le : (g : List ℕ) (h : List Act) → AreNumbered g h → session_taken g h ≤ openings g h
taken-le g [] m = omega arith
taken-le g (acts.Opened f s ∷ h) m = taken-opened (bytes_eq f g) s (openings g h) (session_taken g h) m.0 (taken-le g h m.1)
taken-le g (acts.Boot f ∷ h) m = taken-boot (bytes_eq f g) (openings g h) (session_taken g h) (taken-le g h m.1)
taken-le g (a ∷ h) m = taken-le g h m.1

opened-before : (b : Bool) (n s : ℕ) → (if b then n + 1 else n) < s → n < s
opened-before true n s p = omega (arith, p)
opened-before false n s p = p

handled-other : (b : Bool) (t n s c : ℕ) → (b ≡ true → t ≤ n) → n < s → c ≡ 0 → (if b && (t == s) then c + 1 else c) ≡ 0
handled-other true t n s c le above none = let p = le refl in grind arith
handled-other false t n s c le above none = none

none-later : (g : List ℕ) (s : ℕ) (h : List Act) → AreNumbered g h → openings g h < s → handled g s h ≡ 0
none-later g s [] m above = refl
none-later g s (acts.Opened f t ∷ h) m above = none-later g s h m.1 (opened-before (bytes_eq f g) (openings g h) s above)
none-later g s (acts.Handled f t k a ∷ h) m above =
    handled-other (bytes_eq f g) t (openings g h) s (handled g s h) (λ at. let e = m.0 at in let le = taken-le g h m.1 in
    omega (arith, e, le)) above (none-later g s h m.1 above)
none-later g s (a ∷ h) m above = none-later g s h m.1 above

same-number : (m n : ℕ) → m ≡ n → (m == n) ≡ true
same-number m n e = grind arith

one-more : (g f : List ℕ) (s k : ℕ) (a : Answer) (h : List Act) (b : Bool) → bytes_eq f g ≡ b
    → (bytes_eq f g ≡ true → s ≡ session_taken g h) → requests g h ≡ handled g (session_taken g h) h →
    requests g (acts.Handled f s k a ∷ h) ≡ handled g (session_taken g h) (acts.Handled f s k a ∷ h)
one-more g f s k a h true at own ih = let e = own at in let same = same-number s (session_taken g h) e in rw (at, same) (ap (λ n. n + 1) ih)
one-more g f s k a h false at own ih = rw at ih

session-new : (g f : List ℕ) (s : ℕ) (h : List Act) (b : Bool) → bytes_eq f g ≡ b → (bytes_eq f g ≡ true → handled g s h ≡ 0)
    → requests g h ≡ handled g (session_taken g h) h →
    requests g (acts.Opened f s ∷ h) ≡ handled g (session_taken g (acts.Opened f s ∷ h)) (acts.Opened f s ∷ h)
session-new g f s h true at none ih =
    let first : requests g (acts.Opened f s ∷ h) ≡ 0 = rw at refl in
    let same : session_taken g (acts.Opened f s ∷ h) ≡ s = rw at refl in
    first ∙ (sym (none at) ∙ ap (λ t. handled g t h) (sym same))
session-new g f s h false at none ih =
    let first : requests g (acts.Opened f s ∷ h) ≡ requests g h = rw at refl in
    let same : session_taken g (acts.Opened f s ∷ h) ≡ session_taken g h = rw at refl in
    first ∙ (ih ∙ ap (λ t. handled g t h) (sym same))

session-lost : (g f : List ℕ) (h : List Act) (b : Bool) → bytes_eq f g ≡ b → (bytes_eq f g ≡ true → handled g 0 h ≡ 0)
    → requests g h ≡ handled g (session_taken g h) h →
    requests g (acts.Boot f ∷ h) ≡ handled g (session_taken g (acts.Boot f ∷ h)) (acts.Boot f ∷ h)
session-lost g f h true at none ih =
    let first : requests g (acts.Boot f ∷ h) ≡ 0 = rw at refl in
    let same : session_taken g (acts.Boot f ∷ h) ≡ 0 = rw at refl in
    first ∙ (sym (none at) ∙ ap (λ t. handled g t h) (sym same))
session-lost g f h false at none ih =
    let first : requests g (acts.Boot f ∷ h) ≡ requests g h = rw at refl in
    let same : session_taken g (acts.Boot f ∷ h) ≡ session_taken g h = rw at refl in
    first ∙ (ih ∙ ap (λ t. handled g t h) (sym same))

pub requests-are : (g : List ℕ) (h : List Act) → AreNumbered g h → requests g h ≡ handled g (session_taken g h) h
requests-are g [] m = refl
requests-are g (acts.Handled f s k a ∷ h) m = one-more g f s k a h (bytes_eq f g) refl m.0 (requests-are g h m.1)
requests-are g (acts.Opened f s ∷ h) m =
    session-new g f s h (bytes_eq f g) refl (λ at. none-later g s h m.1 (let e = m.0 at in omega (arith, e))) (requests-are g h m.1)
requests-are g (acts.Boot f ∷ h) m = session-lost g f h (bytes_eq f g) refl m.0 (requests-are g h m.1)
requests-are g (a ∷ h) m = requests-are g h m.1
