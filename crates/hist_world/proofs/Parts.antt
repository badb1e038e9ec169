-- The words on sessions and orders read nothing but the controller's part of what happened.
use Rattle.std.proofs.Common.{◌≡◌, ℕ, ◌+◌, ◌≤◌, Bool, true, false, ◌==◌, not, ◌&&◌, ◌||◌, nat_lt, decimal, List, [], ◌∷◌, Option, Some, refl, sym, ◌∙◌, ap, subst, inl, inr, ◌⊎◌, if◌then◌else◌}
use Rattle.std.specs.Str.{bytes_eq}
use Rattle.ikeless_tree.specs.declared.sad.SadEntry.{SadEntry}
use Rattle.ikeless_tree.specs.declared.order.Order.{Order}
use Rattle.ikeless_tree.specs.declared.order.Order.TheVariants as asks
use Rattle.ikeless_tree.specs.Half.{is_inbound, aes_part, in_half, out_half}
use Rattle.hist_acts.specs.declared.act.Act.{Act}
use Rattle.hist_acts.specs.declared.act.Act.TheVariants as acts
use Rattle.hist_acts.specs.Sessions.{answered, is_open, is_session, openings, order_at, orders}
use Rattle.hist_safety.specs.Law.{OrderMayHappen, PutInMayHappen, PutOutMayHappen, RemoveInMayHappen, RemoveOutMayHappen}
use Rattle.hist_safety.specs.Orders.{inbounds, is_removal_ordered, is_key_used, is_removal_answered, is_put_accepted, is_put, is_removal, order_of, was_order_given, site}
use Rattle.hist_world.specs.Parts.{controllers_part}

if-both : {A : Type 0} (b : Bool) (x y z : A) → y ≡ z → (if b then x else y) ≡ (if b then x else z)
if-both true x y z e = refl
if-both false x y z e = e

if-add : (b : Bool) (m n : ℕ) → m ≡ n → (if b then m + 1 else m) ≡ (if b then n + 1 else n)
if-add true m n e = ap (λ (z : ℕ). z + 1) e
if-add false m n e = e

pub openings-part : (g : List ℕ) (h : List Act) → openings g h ≡ openings g (controllers_part h)
openings-part g [] = refl
openings-part g (acts.Opened f s ∷ h) = if-add (bytes_eq f g) _ _ (openings-part g h)
openings-part g (a ∷ h) = openings-part g h

pub open-part : (g : List ℕ) (h : List Act) → is_open g h ≡ is_open g (controllers_part h)
open-part g [] = refl
open-part g (acts.Opened f s ∷ h) = ap (λ b. bytes_eq f g || b) (open-part g h)
open-part g (acts.Cut f s ∷ h) = ap (λ b. not (bytes_eq f g) && b) (open-part g h)
open-part g (a ∷ h) = open-part g h

pub orders-part : (g : List ℕ) (s : ℕ) (h : List Act) → orders g s h ≡ orders g s (controllers_part h)
orders-part g s [] = refl
orders-part g s (acts.Order f t k o ∷ h) = if-add (is_session f t g s) _ _ (orders-part g s h)
orders-part g s (a ∷ h) = orders-part g s h

pub answered-part : (g : List ℕ) (s : ℕ) (h : List Act) → answered g s h ≡ answered g s (controllers_part h)
answered-part g s [] = refl
answered-part g s (acts.Answered f t k a ∷ h) = if-add (is_session f t g s) _ _ (answered-part g s h)
answered-part g s (a ∷ h) = answered-part g s h

pub order-at-part : (g : List ℕ) (s k : ℕ) (h : List Act) → order_at g s k h ≡ order_at g s k (controllers_part h)
order-at-part g s k [] = refl
order-at-part g s k (acts.Order f t j o ∷ h) = if-both (is_session f t g s && (j == k)) (Some o) _ _ (order-at-part g s k h)
order-at-part g s k (a ∷ h) = order-at-part g s k h

ordered-part : (x : List ℕ) (h : List Act) → was_order_given x h ≡ was_order_given x (controllers_part h)
ordered-part x [] = refl
ordered-part x (acts.Order f t j (asks.Put e) ∷ h) = ap (λ b. bytes_eq e.name x || b) (ordered-part x h)
ordered-part x (a ∷ h) = ordered-part x h

pub order-of-part : (x : List ℕ) (h : List Act) → order_of x h ≡ order_of x (controllers_part h)
order-of-part x [] = refl
order-of-part x (acts.Order f t j (asks.Put e) ∷ h) = if-both (bytes_eq e.name x) (Some e) _ _ (order-of-part x h)
order-of-part x (a ∷ h) = order-of-part x h

pub site-part : (x : List ℕ) (h : List Act) → site x h ≡ site x (controllers_part h)
site-part x [] = refl
site-part x (acts.Order f t j (asks.Put e) ∷ h) = if-both (bytes_eq e.name x) f _ _ (site-part x h)
site-part x (a ∷ h) = site-part x h

inbounds-part : (h : List Act) → inbounds h ≡ inbounds (controllers_part h)
inbounds-part [] = refl
inbounds-part (acts.Order f t j (asks.Put e) ∷ h) = if-add (is_inbound e.name) _ _ (inbounds-part h)
inbounds-part (a ∷ h) = inbounds-part h

key-part : (part : List ℕ) (h : List Act) → is_key_used part h ≡ is_key_used part (controllers_part h)
key-part part [] = refl
key-part part (acts.Order f t j (asks.Put e) ∷ h) = ap (λ b. bytes_eq (aes_part e.key) part || b) (key-part part h)
key-part part (a ∷ h) = key-part part h

doomed-part : (x : List ℕ) (h : List Act) → is_removal_ordered x h ≡ is_removal_ordered x (controllers_part h)
doomed-part x [] = refl
doomed-part x (acts.Order f t j (asks.Remove y) ∷ h) = ap (λ b. bytes_eq y x || b) (doomed-part x h)
doomed-part x (a ∷ h) = doomed-part x h

made-part : (x : List ℕ) (h : List Act) → is_put_accepted x h ≡ is_put_accepted x (controllers_part h)
made-part x [] = refl
made-part x (acts.Answered f s k a ∷ h) =
    ap (λ (o : Option Order). (is_put x o && nat_lt a.status 400) || is_put_accepted x h) (order-at-part f s k h)
    ∙ ap (λ b. (is_put x (order_at f s k (controllers_part h)) && nat_lt a.status 400) || b) (made-part x h)
made-part x (a ∷ h) = made-part x h

pub left-part : (x : List ℕ) (h : List Act) → is_removal_answered x h ≡ is_removal_answered x (controllers_part h)
left-part x [] = refl
left-part x (acts.Answered f s k a ∷ h) =
    ap (λ (o : Option Order). is_removal x o || is_removal_answered x h) (order-at-part f s k h)
    ∙ ap (λ b. is_removal x (order_at f s k (controllers_part h)) || b) (left-part x h)
left-part x (a ∷ h) = left-part x h

-- an order that may be given after the controller's part may be given
put-in-part : (e : SadEntry) (h : List Act) → PutInMayHappen e (controllers_part h) → PutInMayHappen e h
put-in-part e h m =
    let n = inbounds-part h in
    record {
      name = subst (λ (z : ℕ). e.name ≡ in_half (decimal (z + 1))) (sym n) m.name;
      few = subst (λ (z : ℕ). z + 1 ≤ 1048576) (sym n) m.few;
      spi = subst (λ (z : ℕ). e.spi ≡ 256 + (z + 1)) (sym n) m.spi;
      key = key-part (aes_part e.key) h ∙ m.key;
      ends = m.ends;
    }

put-out-part : (g : List ℕ) (e : SadEntry) (h : List Act) → PutOutMayHappen g e (controllers_part h) → PutOutMayHappen g e h
put-out-part g e h m = record {
  serial = m.serial;
  name = m.name;
  once = ordered-part (out_half m.serial) h ∙ m.once;
  inbound = m.inbound;
  order = order-of-part (in_half m.serial) h ∙ m.order;
  key = m.key;
  spi = m.spi;
  selector = m.selector;
  local = m.local;
  remote = m.remote;
  elsewhere = ap (λ (z : List ℕ). bytes_eq z g) (site-part (in_half m.serial) h) ∙ m.elsewhere;
  made = made-part (in_half m.serial) h ∙ m.made;
  stays = doomed-part (in_half m.serial) h ∙ m.stays;
}

last-part : (serial : List ℕ) (h : List Act) → (was_order_given (out_half serial) (controllers_part h) ≡ false)
    ⊎ (is_removal_answered (out_half serial) (controllers_part h) ≡ true)
    → (was_order_given (out_half serial) h ≡ false) ⊎ (is_removal_answered (out_half serial) h ≡ true)
last-part serial h (inl a) = inl (ordered-part (out_half serial) h ∙ a)
last-part serial h (inr a) = inr (left-part (out_half serial) h ∙ a)

remove-in-part : (g x : List ℕ) (h : List Act) → RemoveInMayHappen g x (controllers_part h) → RemoveInMayHappen g x h
remove-in-part g x h m = record {
  serial = m.serial;
  name = m.name;
  order = ordered-part x h ∙ m.order;
  here = m.here ∙ sym (site-part x h);
  last = last-part m.serial h m.last;
}

remove-out-part : (g x : List ℕ) (h : List Act) → RemoveOutMayHappen g x (controllers_part h) → RemoveOutMayHappen g x h
remove-out-part g x h m = record {
  serial = m.serial;
  name = m.name;
  order = ordered-part x h ∙ m.order;
  here = m.here
      ∙ sym (site-part x h);
}

put-part : (g : List ℕ) (e : SadEntry) (h : List Act) → PutInMayHappen e (controllers_part h) ⊎ PutOutMayHappen g e (controllers_part h)
    → PutInMayHappen e h ⊎ PutOutMayHappen g e h
put-part g e h (inl m) = inl (put-in-part e h m)
put-part g e h (inr m) = inr (put-out-part g e h m)

remove-part : (g x : List ℕ) (h : List Act) → RemoveInMayHappen g x (controllers_part h) ⊎ RemoveOutMayHappen g x (controllers_part h)
    → RemoveInMayHappen g x h ⊎ RemoveOutMayHappen g x h
remove-part g x h (inl m) = inl (remove-in-part g x h m)
remove-part g x h (inr m) = inr (remove-out-part g x h m)

pub order-part : (g : List ℕ) (o : Order) (h : List Act) → OrderMayHappen g o (controllers_part h) → OrderMayHappen g o h
order-part g asks.Read h m = tt
order-part g (asks.Policy list) h m = tt
order-part g (asks.Put e) h m = put-part g e h m
order-part g (asks.Remove x) h m = remove-part g x h m
