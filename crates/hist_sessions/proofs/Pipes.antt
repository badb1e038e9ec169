-- The pipe of a gateway, called as acts happen, is the one that the past stands for.
use Rattle.std.proofs.Common.{◌≡◌, ℕ, Bool, true, false, ◌==◌, List, [], ◌∷◌, ◌++◌, drop, map, zero, suc, refl, sym, ◌∙◌, ap, if◌then◌else◌}
use Rattle.ikeless_tree.specs.declared.order.Order.{Order}
use Rattle.ikeless_tree.specs.declared.order.Answer.{Answer}
use Rattle.ikeless_tree.specs.declared.order.Notice.{Notice}
use Rattle.hist_acts.specs.declared.act.Act.{Act}
use Rattle.hist_acts.specs.declared.act.Act.TheVariants as acts
use Rattle.hist_acts.specs.Past.{after}
use Rattle.hist_acts.specs.Sessions.{handled, is_session, orders_given, session_taken}
use Rattle.session_pipe.specs.Sessions.{KeepsSessions}
use Rattle.session_pipe.specs.Past.{pipe_of, requests}
use Rattle.session_pipe.proofs.Moves.{moves}
use Rattle.hist_sessions.specs.Pipes.{piped}

pub keeps-before : (h more : List Act) → KeepsSessions (after h more) → KeepsSessions h
keeps-before h [] l = l
keeps-before h (a ∷ more) l = (keeps-before (a ∷ h) more l).1

pub pipe-follows : (request : List Act → Order → List ℕ) (response : List Act → Answer → List ℕ) (line : List Act → Notice → List ℕ)
    (g : List ℕ) (h more : List Act) → KeepsSessions (after h more)
    → piped request response line g h more (pipe_of request response line g h) ≡ pipe_of request response line g (after h more)
pipe-follows request response line g h [] l = refl
pipe-follows request response line g h (a ∷ more) l =
    let one = moves request response line g a h (keeps-before (a ∷ h) more l) in
    ap (piped request response line g (a ∷ h) more) (sym one) ∙ pipe-follows request response line g (a ∷ h) more l

-- requests that don't look back are those of the orders
map-last : {A : Type 0} (f : A → List ℕ) (xs : List A) (x : A) → map f (xs ++ x ∷ []) ≡ map f xs ++ f x ∷ []
map-last f [] x = refl
map-last f (y ∷ xs) x = ap (λ z. f y ∷ z) (map-last f xs x)

more-mapped : (f : Order → List ℕ) (here : Bool) (xs : List Order) (x : Order) (ms : List (List ℕ)) → ms ≡ map f xs
    → (if here then ms ++ f x ∷ [] else ms) ≡ map f (if here then xs ++ x ∷ [] else xs)
more-mapped f true xs x ms e = ap (λ z. z ++ f x ∷ []) e ∙ sym (map-last f xs x)
more-mapped f false xs x ms e = e

requests-mapped : (f : Order → List ℕ) (g : List ℕ) (s : ℕ) (h : List Act) → requests (λ w o. f o) g s h ≡ map f (orders_given g s h)
requests-mapped f g s [] = refl
requests-mapped f g s (acts.Order e t k o ∷ h) = more-mapped f (is_session e t g s) (orders_given g s h) o (requests (λ w q. f q) g s h)
    (requests-mapped f g s h)
requests-mapped f g s (_ ∷ h) = requests-mapped f g s h

drop-map : {A : Type 0} (f : A → List ℕ) (n : ℕ) (xs : List A) → drop n (map f xs) ≡ map f (drop n xs)
drop-map f zero xs = refl
drop-map f (suc n) [] = refl
drop-map f (suc n) (x ∷ xs) = drop-map f n xs

where-taken : (z : Bool) (xs ys : List (List ℕ)) → xs ≡ ys → (if z then [] else xs) ≡ (if z then [] else ys)
where-taken z xs ys e = ap (λ l. if z then [] else l) e

pub down-is : (f : Order → List ℕ) (response : List Act → Answer → List ℕ) (line : List Act → Notice → List ℕ) (g : List ℕ) (h : List Act)
    → (pipe_of (λ w o. f o) response line g h).down ≡ (if session_taken g h == 0 then []
    else map f (drop (handled g (session_taken g h) h) (orders_given g (session_taken g h) h)))
down-is f response line g h =
    let s : ℕ = session_taken g h in
    where-taken (s == 0) (drop (handled g s h) (requests (λ w o. f o) g s h)) (map f (drop (handled g s h) (orders_given g s h)))
    (ap (drop (handled g s h)) (requests-mapped f g s h) ∙ drop-map f (handled g s h) (orders_given g s h))
