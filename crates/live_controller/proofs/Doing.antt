-- What is done at events, one after another.
use Rattle.std.proofs.Common.{◌≡◌, ◌==◌, ◌<◌, ◌≤◌, ℕ, ◌+◌, Bool, true, false, List, [], ◌∷◌, ◌++◌, length, take, get_or, Option, Some, None, Result, refl, sym, ap, subst, ◌∙◌, arith, if◌then◌else◌}
use Rattle.std.proofs.lemmas.List.{take_more}
use Rattle.ikl_base.specs.Outside.{HasCause, HasRisen}
use Rattle.ikeless_tree.specs.declared.command.Peer.{Peer}
use Rattle.ikeless_tree.specs.declared.command.Refusal.{Refusal}
use Rattle.ikeless_tree.specs.declared.order.Order.{Order}
use Rattle.live_devices.specs.Dialers.{Becomes, PeerHeld, StaysBut, wrote}
use Rattle.live_devices.specs.Reads.{Makes}
use Rattle.live_devices.proofs.Reading.{makes-as, makes-on, makes-same, none-some, some-same}
use Rattle.ctl_core.specs.declared.acts.CtlAct.{CtlAct}
use Rattle.ctl_core.specs.declared.acts.CtlAct.TheVariants as done
use Rattle.live_controller.specs.declared.desk.Desk.{Desk}
use Rattle.live_controller.specs.Standing.{order_text}
use Rattle.live_controller.specs.Found.{after_orders, ordered_by}
use Rattle.live_controller.proofs.Keeping.{other_number, same_number}
use Rattle.live_controller.specs.Doings.{AreCalm, AreLater, Carried, Orders}

-- ---- counts

pub risen-front : (a b c : ℕ) → b ≤ c → HasRisen a b → HasRisen a c
risen-front a b c later risen = omega (arith, later, risen)

pub risen-back : (a b c : ℕ) → a ≤ b → HasRisen b c → HasRisen a c
risen-back a b c later risen = omega (arith, later, risen)

pub calm-front : (f g h : ℕ → ℕ) → AreLater g h → AreCalm f h → AreCalm f g
calm-front f g h later calm = λ k risen. calm k (risen-front (f k) (g k) (h k) (later k) risen)

pub calm-back : (f g h : ℕ → ℕ) → AreLater f g → AreCalm f h → AreCalm g h
calm-back f g h later calm = λ k risen. calm k (risen-back (f k) (g k) (h k) (later k) risen)

pub later-on : (f g h : ℕ → ℕ) → AreLater f g → AreLater g h → AreLater f h
later-on f g h p q = λ k. at-most (f k) (g k) (h k) (p k) (q k)
  where
    at-most : (a b c : ℕ) → a ≤ b → b ≤ c → a ≤ c
    at-most a b c p q = omega (arith, p, q)

pub later-same : (f : ℕ → ℕ) → AreLater f f
later-same f = λ k. at-most (f k)
  where
    at-most : (a : ℕ) → a ≤ a
    at-most a = omega arith

pub later-as : (f g : ℕ → ℕ) → ((k : ℕ) → g k ≡ f k) → AreLater f g
later-as f g same = λ k. at-most (f k) (g k) (same k)
  where
    at-most : (a b : ℕ) → b ≡ a → a ≤ b
    at-most a b e = omega (arith, e)

-- one call on a peer
later-at : (f h : ℕ → ℕ) (g k : ℕ) (b : Bool) → (k == g) ≡ b → f g ≤ h g → StaysBut g f h → f k ≤ h k
later-at f h g k true e one others = let P : ℕ → Type 0 = λ i. f i ≤ h i in subst P (sym (same_number k g e)) one
later-at f h g k false e one others = let same = others k (other_number k g e) in omega (arith, same)

pub later-by : {T E : Type 0} (f h : ℕ → ℕ) (g : ℕ) (r : Result T E) → HasCause (f g) (h g) r → StaysBut g f h → AreLater f h
later-by f h g r cause others = λ k. later-at f h g k (k == g) refl cause.later others

-- ---- what is told

pub makes-is : {T : Type 0} (x y : Option T) → y ≡ x → Makes (λ z. z) x y
makes-is x y same = λ z e. same ∙ e

pub becomes-makes : (f : PeerHeld → PeerHeld) (a b : Option PeerHeld) → Becomes f a b → Makes f a b
becomes-makes f None b r = λ x e. absurd (none-some x e)
becomes-makes f (Some a) None r = absurd r
becomes-makes f (Some a) (Some b) r = λ x e. ap Some (r ∙ ap f (some-same a x e))

-- a call on one peer
at-peer : (f : PeerHeld → PeerHeld) (was is : ℕ → Option PeerHeld) (g k : ℕ) (b : Bool) → (k == g) ≡ b → Makes f (was g) (is g) → StaysBut g
    was is
    → Makes (λ p. if b then f p else p) (was k) (is k)
at-peer f was is g k true e one others =
    let P : ℕ → Type 0 = λ i. Makes f (was i) (is i) in subst P (sym (same_number k g e)) one
at-peer f was is g k false e one others = makes-is (was k) (is k) (others k (other_number k g e))

pub one-peer : (f : PeerHeld → PeerHeld) (was is : ℕ → Option PeerHeld) (g : ℕ) → Makes f (was g) (is g) → StaysBut g was is
    → (k : ℕ) → Makes (λ p. if k == g then f p else p) (was k) (is k)
one-peer f was is g one others k = at-peer f was is g k (k == g) refl one others

-- ---- orders that are written

after-more : (ps : List Peer) (g : ℕ) (xs ys : List CtlAct) (p : PeerHeld) → after_orders ps g (xs ++ ys) p ≡ after_orders ps g ys
    (after_orders ps g xs p)
after-more ps g [] ys p = refl
after-more ps g (x ∷ xs) ys p = after-more ps g xs ys (ordered_by ps g x p)

pub orders-none : (ps : List Peer) (was is : ℕ → Option PeerHeld) → ((g : ℕ) → is g ≡ was g) → Orders ps [] was is
orders-none ps was is same = λ g. makes-is (was g) (is g) (same g)

pub orders-on : (ps : List Peer) (xs ys : List CtlAct) (was mid is : ℕ → Option PeerHeld) → Orders ps xs was mid → Orders ps ys mid is →
    Orders ps (xs ++ ys) was is
orders-on ps xs ys was mid is p q = λ g.
    makes-as (λ w. after_orders ps g ys (after_orders ps g xs w)) (after_orders ps g (xs ++ ys)) (was g) (is g)
    (λ w. sym (after-more ps g xs ys w))
    (makes-on (after_orders ps g xs) (after_orders ps g ys) (was g) (mid g) (is g) (p g) (q g))

pub order-written : (ps : List Peer) (g : ℕ) (o : Order) (was is : ℕ → Option PeerHeld) (text : List ℕ) → text ≡ order_text ps g o
    → Becomes (wrote text) (was g) (is g) → StaysBut g was is → Orders ps (done.Order g o ∷ []) was is
order-written ps g o was is text same one others = λ k. texts k
  where
    written : Becomes (wrote (order_text ps g o)) (was g) (is g)
    written = subst (λ (t : List ℕ). Becomes (wrote t) (was g) (is g)) same one

    by : (k : ℕ) (b : Bool) → (k == g) ≡ b → Makes (λ p. if b then wrote (order_text ps k o) p else p) (was k) (is k)
    by k true e =
        let P : ℕ → Type 0 = λ i. Makes (wrote (order_text ps i o)) (was i) (is i) in
        subst P (sym (same_number k g e)) (becomes-makes (wrote (order_text ps g o)) (was g) (is g) written)
    by k false e = makes-is (was k) (is k) (others k (other_number k g e))

    texts : (k : ℕ) → Makes (λ p. if k == g then wrote (order_text ps k o) p else p) (was k) (is k)
    texts k = by k (k == g) refl

-- ---- acts that are carried out

pub carried-refused : (ps : List Peer) (w : Refusal) (d : Desk) (lost : List ℕ) (was : ℕ → Option PeerHeld)
    → Carried ps (done.Refused w ∷ []) d d lost lost was was
carried-refused ps w d lost was = record { links = refl; kept = refl; orders = λ g. makes-same (was g) }

pub carried-none : (ps : List Peer) (d : Desk) (lost : List ℕ) (was : ℕ → Option PeerHeld) → Carried ps [] d d lost lost was was
carried-none ps d lost was = record { links = refl; kept = refl; orders = λ g. makes-same (was g) }

pub carried-on : (ps : List Peer) (xs ys : List CtlAct) (a b c : Desk) (l m n : List ℕ) (was mid is : ℕ → Option PeerHeld)
    → Carried ps xs a b l m was mid → Carried ps ys b c m n mid is → Carried ps (xs ++ ys) a c l n was is
carried-on ps xs ys a b c l m n was mid is p q = record {
  links = q.links ∙ p.links;
  kept = q.kept ∙ p.kept;
  orders = orders-on ps xs ys was mid is p.orders q.orders;
}

front : (xs : List CtlAct) (i : ℕ) (x : CtlAct) → i < length xs → x ≡ get_or xs i x → take (i + 1) xs ≡ take i xs ++ x ∷ []
front xs i x lt at = take_more xs i x lt ∙ ap (λ z. take i xs ++ z ∷ []) (sym at)

pub carried-step : (ps : List Peer) (xs : List CtlAct) (i : ℕ) (x : CtlAct) (a b c : Desk) (l m n : List ℕ)
    (was mid is : ℕ → Option PeerHeld)
    → i < length xs → x ≡ get_or xs i x → Carried ps (take i xs) a b l m was mid → Carried ps (x ∷ []) b c m n mid is
    → Carried ps (take (i + 1) xs) a c l n was is
carried-step ps xs i x a b c l m n was mid is lt at p q =
    subst (λ (ys : List CtlAct). Carried ps ys a c l n was is) (sym (front xs i x lt at))
    (carried-on ps (take i xs) (x ∷ []) a b c l m n was mid is p q)
