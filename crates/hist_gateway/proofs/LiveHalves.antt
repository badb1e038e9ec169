-- What the live halves of a lawful past are.
use Rattle.std.proofs.Common.{◌≡◌, ◌≤◌, ℕ, ◌+◌, ◌==◌, nat_le, Bool, true, false, not, ◌&&◌, ◌||◌, List, [], ◌∷◌, ◌++◌, length, find, Option, Some, None, refl, sym, ◌∙◌, ap, subst, arith, if◌then◌else◌}
use Rattle.std.proofs.lemmas.Bool.{and_parts, and_right, or_parts, not-true, or_right, le-leb, leb-true}
use Rattle.std.specs.Str.{bytes_eq}
use Rattle.ip_packet.specs.View.{Packet}
use Rattle.ikeless_tree.specs.declared.sad.SadEntry.{SadEntry}
use Rattle.ikeless_tree.specs.declared.entry.Direction.TheVariants.{Out}
use Rattle.ikeless_tree.specs.declared.ends.GoneWhy.{GoneWhy}
use Rattle.ikeless_tree.specs.Half.{is_inbound}
use Rattle.spd_match.specs.Match.{holds_packet}
use Rattle.sad_store.specs.Halves.{may_seal}
use Rattle.hist_acts.specs.declared.act.Act.{Act}
use Rattle.hist_acts.specs.declared.act.Act.TheVariants as acts
use Rattle.hist_acts.specs.Past.{after}
use Rattle.hist_halves.specs.Sealed.{by_spi}
use Rattle.hist_halves.specs.Halves.{is_half, live, put_of, without}
use Rattle.hist_gateway.specs.Let.{newer, newest}
use Rattle.hist_gateway.specs.Block.{Gateway}
use Rattle.hist_gateway.specs.May.{has_half, GatewayMayActAll, IsGatewayPast, IsInstallable, AreInstalled, are_apart, has_inbound_spi, are_spis_apart, ArePut, AreHalves, IsHalfFor, IsHalfOf}
use Rattle.hist_gateway.proofs.KeepsLemmas.{same-refl, same-sym}
use Rattle.hist_gateway.proofs.PlainReadings.{any-end, live-is, without-half}

-- ---- halves but one

put-kept : (g : List ℕ) (h : List Act) (x : List ℕ) (e : SadEntry) (es : List SadEntry) (b : Bool) → bytes_eq e.name x ≡ b
    → ArePut g h (e ∷ es) →
    ArePut g h (without x es) → ArePut g h (without x (e ∷ es))
put-kept g h x e es true own p ih = rw own ih
put-kept g h x e es false own p ih = rw own (p.0, ih)

put-without : (g : List ℕ) (h : List Act) (x : List ℕ) (es : List SadEntry) → ArePut g h es → ArePut g h (without x es)
put-without g h x [] p = tt
put-without g h x (e ∷ es) p = put-kept g h x e es (bytes_eq e.name x) refl p (put-without g h x es p.1)

none-without : (y x : List ℕ) (es : List SadEntry) → has_half y es ≡ false → has_half y (without x es) ≡ false
none-without y x es p = without-half y x es ∙ rw p (and_right (not (bytes_eq x y)) false refl)

apart-kept : (x : List ℕ) (e : SadEntry) (es : List SadEntry) (b : Bool) → bytes_eq e.name x ≡ b → has_half e.name es ≡ false →
    are_apart (without x es) ≡ true → are_apart (without x (e ∷ es)) ≡ true
apart-kept x e es true own new ih = rw own ih
apart-kept x e es false own new ih = rw (own, none-without e.name x es new) ih

pub apart-without : (x : List ℕ) (es : List SadEntry) → are_apart es ≡ true → are_apart (without x es) ≡ true
apart-without x [] p = refl
apart-without x (e ∷ es) p = let q = and_parts (not (has_half e.name es)) (are_apart es) p in
    apart-kept x e es (bytes_eq e.name x) refl (not-true (has_half e.name es) q.0) (apart-without x es q.1)

spi-kept : (x : List ℕ) (spi : ℕ) (e : SadEntry) (es : List SadEntry) (b : Bool) → bytes_eq e.name x ≡ b
    → (is_inbound e.name && (e.spi == spi)) ≡ false →
    has_inbound_spi spi (without x es) ≡ false → has_inbound_spi spi (without x (e ∷ es)) ≡ false
spi-kept x spi e es true own new ih = rw own ih
spi-kept x spi e es false own new ih = rw (own, new) ih

spi-without : (x : List ℕ) (spi : ℕ) (es : List SadEntry) → has_inbound_spi spi es ≡ false → has_inbound_spi spi (without x es) ≡ false
spi-without x spi [] p = refl
spi-without x spi (e ∷ es) p =
    let q = or_parts (is_inbound e.name && (e.spi == spi)) (has_inbound_spi spi es) p in
    spi-kept x spi e es (bytes_eq e.name x) refl q.0 (spi-without x spi es q.1)

own-kept : (x : List ℕ) (e : SadEntry) (es : List SadEntry) (b i : Bool) → bytes_eq e.name x ≡ b → is_inbound e.name ≡ i →
    (is_inbound e.name && has_inbound_spi e.spi es) ≡ false → are_spis_apart (without x es) ≡ true
    → are_spis_apart (without x (e ∷ es)) ≡ true
own-kept x e es true i own inb new ih = rw own ih
own-kept x e es false true own inb new ih =
    let free : has_inbound_spi e.spi es ≡ false = subst (λ b. (b && has_inbound_spi e.spi es) ≡ false) inb new in
    rw (own, inb, spi-without x e.spi es free) ih
own-kept x e es false false own inb new ih = rw (own, inb) ih

own-without : (x : List ℕ) (es : List SadEntry) → are_spis_apart es ≡ true → are_spis_apart (without x es) ≡ true
own-without x [] p = refl
own-without x (e ∷ es) p =
    let q = and_parts (not (is_inbound e.name && has_inbound_spi e.spi es)) (are_spis_apart es) p in
    own-kept x e es (bytes_eq e.name x) (is_inbound e.name) refl refl (not-true (is_inbound e.name && has_inbound_spi e.spi es) q.0)
    (own-without x es q.1)

fewer-kept : (x : List ℕ) (n : ℕ) (e : SadEntry) (es : List SadEntry) (b : Bool) → bytes_eq e.name x ≡ b → length (e ∷ es) ≤ n →
    length (without x es) ≤ length es → length (without x (e ∷ es)) ≤ n
fewer-kept x n e es true own p ih = rw own (omega (arith, p, ih))
fewer-kept x n e es false own p ih = rw own (omega (arith, p, ih))

fewer : (x : List ℕ) (es : List SadEntry) → length (without x es) ≤ length es
fewer x [] = omega arith
fewer x (e ∷ es) = fewer-kept x (length (e ∷ es)) e es (bytes_eq e.name x) refl (omega arith) (fewer x es)

fewer-without : (x : List ℕ) (n : ℕ) (es : List SadEntry) → length es ≤ n → length (without x es) ≤ n
fewer-without x n es p = let f = fewer x es in omega (arith, f, p)

-- ---- one half more

put-more : (g f : List ℕ) (x : SadEntry) (h : List Act) (es : List SadEntry) → bytes_eq f g ≡ true → has_half x.name es ≡ false
    → ArePut g h es → ArePut g (acts.Put f x ∷ h) (es ++ x ∷ [])
put-more g f x h [] at new p = (rw (at, same-refl x.name) refl, tt)
put-more g f x h (e ∷ es) at new p =
    let q = or_parts (bytes_eq e.name x.name) (has_half x.name es) new in
    let s = same-sym x.name e.name in
    let away : is_half f x.name g e.name ≡ false = and_right (bytes_eq f g) (bytes_eq x.name e.name) (s ∙ q.0) in
    (rw away p.0, put-more g f x h es at q.1 p.1)

pub apart-more : (x : SadEntry) (es : List SadEntry) → has_half x.name es ≡ false → are_apart es ≡ true → are_apart (es ++ x ∷ []) ≡ true
apart-more x [] new p = refl
apart-more x (e ∷ es) new p =
    let q = or_parts (bytes_eq e.name x.name) (has_half x.name es) new in
    let r = and_parts (not (has_half e.name es)) (are_apart es) p in
    let m = any-end (λ (z : SadEntry). bytes_eq z.name e.name) es x in
    let s = same-sym x.name e.name in
    let away : has_half e.name (es ++ x ∷ []) ≡ false = m ∙ rw (s ∙ q.0, not-true (has_half e.name es) r.0) refl in
    rw away (apart-more x es q.1 r.1)

flip-eq : (m n : ℕ) → (m == n) ≡ false → (n == m) ≡ false
flip-eq m n e = grind arith

own-one : (b : Bool) → (not (b && false) && true) ≡ true
own-one true = refl
own-one false = refl

own-step : (x e : SadEntry) (es : List SadEntry) (i j : Bool) → is_inbound e.name ≡ i → is_inbound x.name ≡ j →
    has_inbound_spi e.spi (es ++ x ∷ []) ≡ ((is_inbound x.name && (x.spi == e.spi)) || has_inbound_spi e.spi es) →
    (is_inbound e.name && has_inbound_spi e.spi es) ≡ false → (is_inbound x.name && has_inbound_spi x.spi (e ∷ es)) ≡ false →
    ((is_inbound x.name && has_inbound_spi x.spi es) ≡ false → are_spis_apart (es ++ x ∷ []) ≡ true)
    → are_spis_apart (e ∷ es ++ x ∷ []) ≡ true
own-step x e es true true inb inx m old new rest =
    let old' : has_inbound_spi e.spi es ≡ false = subst (λ b. (b && has_inbound_spi e.spi es) ≡ false) inb old in
    let new' : ((is_inbound e.name && (e.spi == x.spi)) || has_inbound_spi x.spi es) ≡ false =
    subst (λ b. (b && has_inbound_spi x.spi (e ∷ es)) ≡ false) inx new in
    let q = or_parts (is_inbound e.name && (e.spi == x.spi)) (has_inbound_spi x.spi es) new' in
    let differ : (e.spi == x.spi) ≡ false = subst (λ b. (b && (e.spi == x.spi)) ≡ false) inb q.0 in
    let away : (x.spi == e.spi) ≡ false = flip-eq e.spi x.spi differ in
    let free : has_inbound_spi e.spi (es ++ x ∷ []) ≡ false = m ∙ rw (inx, away, old') refl in
    rw (inb, free) (rest (rw (inx, q.1) refl))
own-step x e es true false inb inx m old new rest =
    let old' : has_inbound_spi e.spi es ≡ false = subst (λ b. (b && has_inbound_spi e.spi es) ≡ false) inb old in
    let free : has_inbound_spi e.spi (es ++ x ∷ []) ≡ false = m ∙ rw (inx, old') refl in
    rw (inb, free) (rest (rw inx refl))
own-step x e es false true inb inx m old new rest =
    let new' : ((is_inbound e.name && (e.spi == x.spi)) || has_inbound_spi x.spi es) ≡ false =
    subst (λ b. (b && has_inbound_spi x.spi (e ∷ es)) ≡ false) inx new in
    let q = or_parts (is_inbound e.name && (e.spi == x.spi)) (has_inbound_spi x.spi es) new' in
    rw inb (rest (rw (inx, q.1) refl))
own-step x e es false false inb inx m old new rest = rw inb (rest (rw inx refl))

own-more : (x : SadEntry) (es : List SadEntry) → (is_inbound x.name && has_inbound_spi x.spi es) ≡ false → are_spis_apart es ≡ true
    → are_spis_apart (es ++ x ∷ []) ≡ true
own-more x [] new p = own-one (is_inbound x.name)
own-more x (e ∷ es) new p =
    let r = and_parts (not (is_inbound e.name && has_inbound_spi e.spi es)) (are_spis_apart es) p in
    let m = any-end (λ (z : SadEntry). is_inbound z.name && (z.spi == e.spi)) es x in
    own-step x e es (is_inbound e.name) (is_inbound x.name) refl refl m (not-true (is_inbound e.name && has_inbound_spi e.spi es) r.0) new
    (λ q. own-more x es q r.1)

length-end : (xs : List SadEntry) (x : SadEntry) → length (xs ++ x ∷ []) ≡ length xs + 1
length-end [] x = refl
length-end (y ∷ xs) x = let ih = length-end xs x in omega (arith, ih)

-- ---- each act

put-same : (g : List ℕ) (h later : List Act) (es : List SadEntry) → ((e : SadEntry) → put_of g e.name later ≡ put_of g e.name h)
    → ArePut g h es → ArePut g later es
put-same g h later [] same p = tt
put-same g h later (e ∷ es) same p = (same e ∙ p.0, put-same g h later es same p.1)

-- an act that installs and ends no half
quiet-act : (g : List ℕ) (h later : List Act) → live g later ≡ live g h → ((e : SadEntry) → put_of g e.name later ≡ put_of g e.name h)
    → AreHalves g h → AreHalves g later
quiet-act g h later same puts k = record {
  put = rw same (put-same g h later (live g h) puts k.put);
  apart = rw same k.apart;
  own_spis = rw same k.own_spis;
  few = rw same k.few;
}

room-le : (n : ℕ) → nat_le 4096 n ≡ false → n + 1 ≤ 4096
room-le n p = grind arith

halves-put : (g f : List ℕ) (x : SadEntry) (h : List Act) (b : Bool) → bytes_eq f g ≡ b → (bytes_eq f g ≡ true → IsInstallable (live g h) x)
    → AreHalves g h → AreHalves g (acts.Put f x ∷ h)
halves-put g f x h true at may k =
    let here : IsInstallable (live g h) x = may at in
    let there : live g (acts.Put f x ∷ h) ≡ live g h ++ x ∷ [] = rw at refl in
    let e = length-end (live g h) x in
    let room = room-le (length (live g h)) here.room in
    record {
      put = rw there (put-more g f x h (live g h) at here.name k.put);
      apart = rw there (apart-more x (live g h) here.name k.apart);
      own_spis = rw there (own-more x (live g h) here.spi k.own_spis);
      few = rw there (le-leb (length (live g h ++ x ∷ [])) 4096 (omega (arith, e, room)));
    }
halves-put g f x h false at may k = quiet-act g h (acts.Put f x ∷ h) (rw at refl) (λ e. rw at refl) k

halves-gone : (g f y : List ℕ) (w : GoneWhy) (h : List Act) (b : Bool) → bytes_eq f g ≡ b → AreHalves g h
    → AreHalves g (acts.Gone f y w ∷ h)
halves-gone g f y w h true at k =
    let there : live g (acts.Gone f y w ∷ h) ≡ without y (live g h) = rw at refl in
    let few = leb-true (length (live g h)) 4096 k.few in
    record {
      put = rw there (put-same g h (acts.Gone f y w ∷ h) (without y (live g h)) (λ e. refl) (put-without g h y (live g h) k.put));
      apart = rw there (apart-without y (live g h) k.apart);
      own_spis = rw there (own-without y (live g h) k.own_spis);
      few = rw there (le-leb (length (without y (live g h))) 4096 (fewer-without y 4096 (live g h) few));
    }
halves-gone g f y w h false at k = quiet-act g h (acts.Gone f y w ∷ h) (rw at refl) (λ e. refl) k

halves-boot : (g f : List ℕ) (h : List Act) (b : Bool) → bytes_eq f g ≡ b → AreHalves g h → AreHalves g (acts.Boot f ∷ h)
halves-boot g f h true at k =
    let there : live g (acts.Boot f ∷ h) ≡ [] = rw at refl in
    record { put = rw there tt; apart = rw there refl; own_spis = rw there refl; few = rw there refl }
halves-boot g f h false at k = quiet-act g h (acts.Boot f ∷ h) (rw at refl) (λ e. refl) k

pub halves-are : (g : List ℕ) (h : List Act) → AreInstalled g h → AreHalves g h
halves-are g [] l = record { put = tt; apart = refl; own_spis = refl; few = refl }
halves-are g (acts.Put f x ∷ h) l = halves-put g f x h (bytes_eq f g) refl l.0 (halves-are g h l.1)
halves-are g (acts.Gone f y w ∷ h) l = halves-gone g f y w h (bytes_eq f g) refl (halves-are g h l.1)
halves-are g (acts.Boot f ∷ h) l = halves-boot g f h (bytes_eq f g) refl (halves-are g h l.1)
halves-are g (a ∷ h) l = quiet-act g h (a ∷ h) refl (λ e. refl) (halves-are g h l.1)

-- ---- a half that is found

-- it is one of them, and the test holds of it
found-step : (p : SadEntry → Bool) (x : SadEntry) (es : List SadEntry) (e : SadEntry) (b : Bool) → p x ≡ b → find p (x ∷ es) ≡ Some e →
    (find p es ≡ Some e → (p e ≡ true) × (has_half e.name es ≡ true)) → (p e ≡ true) × (has_half e.name (x ∷ es) ≡ true)
found-step p x es e true own f rest =
    let is : Some x ≡ Some e = subst (λ b. (if b then Some x else find p es) ≡ Some e) own f in
    let same : x ≡ e = cc in
    (subst (λ z. p z ≡ true) same own, ap (λ z. bytes_eq z.name e.name || has_half e.name es) same ∙ rw (same-refl e.name) refl)
found-step p x es e false own f rest =
    let is : find p es ≡ Some e = subst (λ b. (if b then Some x else find p es) ≡ Some e) own f in
    let r = rest is in
    (r.0, or_right (bytes_eq x.name e.name) (has_half e.name es) r.1)

found-has : (p : SadEntry → Bool) (es : List SadEntry) (e : SadEntry) → find p es ≡ Some e → (p e ≡ true) × (has_half e.name es ≡ true)
found-has p [] e f = cc
found-has p (x ∷ es) e f = found-step p x es e (p x) refl f (found-has p es e)

found-put-step : (g : List ℕ) (h : List Act) (p : SadEntry → Bool) (x : SadEntry) (es : List SadEntry) (e : SadEntry) (b : Bool) → p x ≡ b
    → ArePut g h (x ∷ es) →
    find p (x ∷ es) ≡ Some e → (find p es ≡ Some e → put_of g e.name h ≡ Some e) → put_of g e.name h ≡ Some e
found-put-step g h p x es e true own are f rest =
    let is : Some x ≡ Some e = subst (λ b. (if b then Some x else find p es) ≡ Some e) own f in
    let same : x ≡ e = cc in
    subst (λ z. put_of g z.name h ≡ Some z) same are.0
found-put-step g h p x es e false own are f rest = rest (subst (λ b. (if b then Some x else find p es) ≡ Some e) own f)

found-put : (g : List ℕ) (h : List Act) (p : SadEntry → Bool) (es : List SadEntry) (e : SadEntry) → ArePut g h es → find p es ≡ Some e
    → put_of g e.name h ≡ Some e
found-put g h p [] e are f = cc
found-put g h p (x ∷ es) e are f = found-put-step g h p x es e (p x) refl are f (found-put g h p es e are.1)

-- the newest half for a packet
newest-step : (g : List ℕ) (h : List Act) (r : ℕ) (v : Packet) (x : SadEntry) (es : List SadEntry) (e : SadEntry) (found : Option SadEntry)
    → newest r v es ≡ found →
    (b : Bool) → may_seal r v x ≡ b → ArePut g h (x ∷ es) → newer r v x found ≡ Some e →
    (newest r v es ≡ Some e → (may_seal r v e ≡ true) × (has_half e.name es ≡ true) × (put_of g e.name h ≡ Some e)) →
    (may_seal r v e ≡ true) × (has_half e.name (x ∷ es) ≡ true) × (put_of g e.name h ≡ Some e)
newest-step g h r v x es e (Some y) new b own are f rest =
    let n = rest (new ∙ f) in
    (n.0, or_right (bytes_eq x.name e.name) (has_half e.name es) n.1, n.2)
newest-step g h r v x es e None new true own are f rest =
    let is : Some x ≡ Some e = subst (λ b. (if b then Some x else None) ≡ Some e) own f in
    let same : x ≡ e = cc in (
      subst (λ z. may_seal r v z ≡ true) same own,
      ap (λ z. bytes_eq z.name e.name || has_half e.name es) same
          ∙ rw (same-refl e.name) refl,
      subst (λ z. put_of g z.name h ≡ Some z) same are.0,
    )
newest-step g h r v x es e None new false own are f rest =
    let is : None ≡ Some e = subst (λ b. (if b then Some x else None) ≡ Some e) own f in
    cc

newest-has : (g : List ℕ) (h : List Act) (r : ℕ) (v : Packet) (es : List SadEntry) (e : SadEntry) → ArePut g h es → newest r v es ≡ Some e →
    (may_seal r v e ≡ true) × (has_half e.name es ≡ true) × (put_of g e.name h ≡ Some e)
newest-has g h r v [] e are f = cc
newest-has g h r v (x ∷ es) e are f = newest-step g h r v x es e (newest r v es) refl (may_seal r v x) refl are f
    (newest-has g h r v es e are.1)

pub half-for : (g : List ℕ) (h : List Act) (r : ℕ) (v : Packet) (e : SadEntry) → AreInstalled g h → newest r v (live g h) ≡ Some e
    → IsHalfFor g h r v e
half-for g h r v e l f =
    let are = halves-are g h l in
    let n = newest-has g h r v (live g h) e are.put f in
    let s = and_parts (not (is_inbound e.name)) ((e.reqid == r) && holds_packet e.selector Out v) n.0 in
    let t = and_parts (e.reqid == r) (holds_packet e.selector Out v) s.1 in
    record { live = sym (live-is g e.name h) ∙ n.1; put = n.2; outbound = not-true (is_inbound e.name) s.0; own_reqid = t.0; holds = t.1 }

pub half-of-spi : (g : List ℕ) (h : List Act) (spi : ℕ) (e : SadEntry) → AreInstalled g h → by_spi spi (live g h) ≡ Some e
    → IsHalfOf g h spi e
half-of-spi g h spi e l f =
    let are = halves-are g h l in
    let p : SadEntry → Bool = λ x. is_inbound x.name && (x.spi == spi) in
    let n = found-has p (live g h) e f in
    let s = and_parts (is_inbound e.name) (e.spi == spi) n.0 in
    record { live = sym (live-is g e.name h) ∙ n.1; put = found-put g h p (live g h) e are.put f; inbound = s.0; own_spi = s.1 }

-- ---- histories

pub lawful-after : (q : Gateway) (h xs : List Act) → IsGatewayPast q h → GatewayMayActAll q h xs → IsGatewayPast q (after h xs)
lawful-after q h [] l m = l
lawful-after q h (a ∷ xs) l m = lawful-after q (a ∷ h) xs (m.0, l) m.1
