-- The answer of a gateway to a request of its session may happen in the world.
use Rattle.std.proofs.Common.{◌≡◌, ℕ, ◌+◌, ◌≤◌, Bool, true, false, ◌==◌, ◌&&◌, ◌||◌, List, [], ◌∷◌, map, Option, Some, None, Ok, refl, sym, ◌∙◌, ap, arith, if◌then◌else◌}
use Rattle.std.specs.List.{list_any}
use Rattle.std.specs.Str.{bytes_eq}
use Rattle.ikeless_tree.specs.declared.sad.SadEntry.{SadEntry}
use Rattle.ikeless_tree.specs.declared.sad.Tree.{Tree}
use Rattle.ikeless_tree.specs.declared.command.Peer.{Peer}
use Rattle.ikeless_tree.specs.declared.order.Order.{Order}
use Rattle.ikeless_tree.specs.declared.order.Order.TheVariants as asks
use Rattle.ikeless_tree.specs.Half.{is_inbound}
use Rattle.reply_table.specs.Order.{ask_of}
use Rattle.reply_table.specs.Reply.{Outcome, absent, delete_sad, exists, full, has_spi, is_row, is_sad_full, post_sad, reply, spi_taken}
use Rattle.hist_acts.specs.declared.act.Act.{Act}
use Rattle.hist_acts.specs.declared.act.Act.TheVariants as acts
use Rattle.hist_acts.specs.Past.{after}
use Rattle.hist_acts.specs.Sessions.{handled, is_session, next_request, order_at, session_taken}
use Rattle.hist_halves.specs.Halves.{is_live, live}
use Rattle.hist_gateway.specs.Rows.{row_of, tree_of}
use Rattle.hist_gateway.specs.May.{AreNumbered, has_half}
use Rattle.hist_gateway.specs.Handle.{answer_of, handle_acts, reply_acts, requests}
use Rattle.hist_gateway.proofs.PlainReadings.{live-is}
use Rattle.hist_gateway.proofs.Requests.{requests-are}
use Rattle.hist_safety.specs.Law.{IsLawful, AllMayHappen, is_ready}
use Rattle.hist_safety.proofs.Basics.{no, eq-nat, name-is}
use Rattle.hist_safety.proofs.Sessions.{openings-at}

-- ---- the number of a request

no-request : (t : ℕ) (o : Option Order) (q : Order) → t ≡ 0 → (if t == 0 then None else o) ≡ Some q → ⊥
no-request t o q z e = grind (arith, z, e)

idle-not : (b c : Bool) → (c ≡ true → ⊥) → (b && c) ≡ false
idle-not true true none = absurd (none refl)
idle-not true false none = refl
idle-not false c none = refl

plus-if : (b : Bool) (n : ℕ) → b ≡ false → n ≡ 0 → (if b then n + 1 else n) ≡ 0
plus-if true n p q = absurd (no (sym p))
plus-if false n p q = q

-- nothing is handled without a session
idle : (gs : List Peer) (g : List ℕ) (h : List Act) → IsLawful gs h → handled g 0 h ≡ 0
idle gs g [] l = refl
idle gs g (acts.Handled f t k a ∷ h) l =
    let some : t ≡ 0 → ⊥ = λ z. no-request (session_taken f h) (order_at f (session_taken f h) (handled f (session_taken f h) h + 1) h)
    l.0.2.0 (sym l.0.0 ∙ z) l.0.2.1 in
    plus-if (is_session f t g 0) (handled g 0 h) (idle-not (bytes_eq f g) (t == 0) (λ e. some (eq-nat t 0 e))) (idle gs g h l.1)
idle gs g (a ∷ h) l = idle gs g h l.1

-- a gateway numbers sessions as they are opened, and a request by the session that it has taken
pub numbered : (gs : List Peer) (g : List ℕ) (h : List Act) → IsLawful gs h → AreNumbered g h
numbered gs g [] l = tt
numbered gs g (acts.Handled f t k a ∷ h) l = ((λ e. l.0.0 ∙ ap (λ (z : List ℕ). session_taken z h) (name-is f g e)), numbered gs g h l.1)
numbered gs g (acts.Opened f s ∷ h) l = ((λ e. let p = l.0.1 in let q = openings-at f g h e in omega (arith, p, q)), numbered gs g h l.1)
numbered gs g (acts.Boot f ∷ h) l = ((λ e. idle gs g h l.1), numbered gs g h l.1)
numbered gs g (a ∷ h) l = (tt, numbered gs g h l.1)

-- ---- the answer

rows-have : (g x : List ℕ) (h : List Act) (es : List SadEntry) → list_any (is_row x) (map (row_of g h) es) ≡ has_half x es
rows-have g x h [] = refl
rows-have g x h (e ∷ es) = ap (λ b. bytes_eq e.name x || b) (rows-have g x h es)

pub row-is-live : (g x : List ℕ) (h : List Act) → list_any (is_row x) (tree_of g h).sad ≡ is_live g x h
row-is-live g x h = rows-have g x h (live g h) ∙ live-is g x h

-- what may happen after the number of an event, and leaves no question
abbrev pub Goes : List Peer → List Act → List Act → Type 0
Goes gs w xs = AllMayHappen gs w xs × (is_ready (after w xs) ≡ true)

goes-if : (gs : List Peer) (w : List Act) (b : Bool) (F : Outcome → List Act) (x y : Outcome) → (b ≡ true → Goes gs w (F x))
    → (b ≡ false → Goes gs w (F y)) → Goes gs w (F (if b then x else y))
goes-if gs w true F x y p q = p refl
goes-if gs w false F x y p q = q refl

-- the request that is handled, with its number
record IsHandled (g : List ℕ) (s k : ℕ) (o : Order) (w : List Act) : Type 0 where
  pub session : s ≡ session_taken g w
  pub number : k ≡ handled g s w + 1
  pub request : next_request g w ≡ Some o

put-refused : (gs : List Peer) (g : List ℕ) (s k n : ℕ) (e : SadEntry) (t : Tree) (h : List Act) (r : Outcome)
    → IsHandled g s k (asks.Put e) (acts.Took n ∷ h) → 400 ≤ r.status
    → Goes gs (acts.Took n ∷ h) (acts.Handled g s k (answer_of r) ∷ [])
put-refused gs g s k n e t h r i low = (((i.session, i.number, (asks.Put e, i.request, (refl, low))), tt), refl)

put-goes : (gs : List Peer) (g : List ℕ) (s k n : ℕ) (e : SadEntry) (t : Tree) (h : List Act)
    → IsHandled g s k (asks.Put e) (acts.Took n ∷ h)
    → Goes gs (acts.Took n ∷ h) (reply_acts g s k (post_sad t e))
put-goes gs g s k n e t h i =
    let w : List Act = acts.Took n ∷ h in
    goes-if gs w (list_any (is_row e.name) t.sad) (reply_acts g s k) (exists t) _
    (λ p. put-refused gs g s k n e t h (exists t) i (omega arith))
    (λ p. goes-if gs w (is_inbound e.name && has_spi e.spi t.sad) (reply_acts g s k) (spi_taken t) _
    (λ q. put-refused gs g s k n e t h (spi_taken t) i (omega arith))
    (λ q. goes-if gs w (is_sad_full t.sad) (reply_acts g s k) (full t) _
    (λ r. put-refused gs g s k n e t h (full t) i (omega arith))
    (λ r. (((refl, i.request), ((i.session, i.number, (asks.Put e, i.request, (refl, refl))), tt)), refl))))

remove-goes : (gs : List Peer) (g : List ℕ) (s k n : ℕ) (x : List ℕ) (h : List Act) → IsHandled g s k (asks.Remove x) (acts.Took n ∷ h)
    → Goes gs (acts.Took n ∷ h) (reply_acts g s k (delete_sad (tree_of g (acts.Took n ∷ h)) x))
remove-goes gs g s k n x h i =
    let w : List Act = acts.Took n ∷ h in
    let t : Tree = tree_of g w in
    goes-if gs w (list_any (is_row x) t.sad) (reply_acts g s k) _ (absent t)
    (λ p. (((refl, i.request), ((i.session, i.number, (asks.Remove x, i.request, (refl, refl))), tt)), refl))
    (λ p. (((i.session, i.number, (asks.Remove x, i.request, (refl, sym (row-is-live g x w) ∙ p))), tt), refl))

handle-goes : (gs : List Peer) (g : List ℕ) (s k n : ℕ) (o : Order) (h : List Act) → IsHandled g s k o (acts.Took n ∷ h)
    → Goes gs (acts.Took n ∷ h) (reply_acts g s k (reply (tree_of g (acts.Took n ∷ h)) (ask_of o)))
unfolding reply
handle-goes gs g s k n asks.Read h i = (((i.session, i.number, (asks.Read, i.request, (refl, tt))), tt), refl)
handle-goes gs g s k n (asks.Policy list) h i =
    (((refl, i.request), ((i.session, i.number, (asks.Policy list, i.request, refl)), tt)), refl)
handle-goes gs g s k n (asks.Put e) h i = put-goes gs g s k n e (tree_of g (acts.Took n ∷ h)) h i
handle-goes gs g s k n (asks.Remove x) h i = remove-goes gs g s k n x h i

-- the answer to the next request
pub handle-may : (gs : List Peer) (g : List ℕ) (n : ℕ) (o : Order) (h : List Act) → IsLawful gs (acts.Took n ∷ h)
    → next_request g (acts.Took n ∷ h) ≡ Some o
    → Goes gs (acts.Took n ∷ h) (handle_acts g (session_taken g (acts.Took n ∷ h)) (requests g (acts.Took n ∷ h) + 1) (acts.Took n ∷ h)
    (Ok (ask_of o)))
handle-may gs g n o h l next =
    let w : List Act = acts.Took n ∷ h in
    let m : requests g w + 1 ≡ handled g (session_taken g w) w + 1 = ap (λ (z : ℕ). z + 1) (requests-are g w (numbered gs g w l)) in
    handle-goes gs g (session_taken g w) (requests g w + 1) n o h (record { session = refl; number = m; request = next })
