-- What each act of the controller makes of the node of a gateway: of that at which it is, and of the others nothing.
use Rattle.std.proofs.Common.{◌≡◌, ℕ, ◌+◌, ◌<◌, ◌==◌, ◌&&◌, Bool, true, false, List, ◌∷◌, length, refl, sym, ◌∙◌, ap, arith, if◌then◌else◌}
use Rattle.std.proofs.lemmas.Bool.{and_from}
use Rattle.std.specs.Str.{bytes_eq}
use Rattle.ikeless_tree.specs.declared.command.Peer.{Peer}
use Rattle.ikeless_tree.specs.declared.command.Refusal.{Refusal}
use Rattle.ikeless_tree.specs.declared.order.Answer.{Answer}
use Rattle.ikeless_tree.specs.declared.order.Lane.TheVariants as lanes
use Rattle.ikeless_tree.specs.declared.order.Notice.{Notice}
use Rattle.ikeless_tree.specs.declared.order.Order.{Order}
use Rattle.hist_acts.specs.declared.act.Act.{Act}
use Rattle.hist_acts.specs.declared.act.Act.TheVariants as acts
use Rattle.hist_acts.specs.declared.event.Header.{Header}
use Rattle.hist_acts.specs.Sessions.{answered, openings, orders}
use Rattle.hist_gateway.specs.Handle.{requests}
use Rattle.hist_gateway.specs.State.{did_at, quiet, state_of}
use Rattle.hist_gateway.proofs.KeepsLemmas.{did-away, keeps}
use Rattle.hist_safety.proofs.Basics.{if-new, if-old, name-is, self}
use Rattle.session_pipe.specs.Sessions.{KeepsSessions}
use Rattle.session_pipe.specs.Past.{after_act, responses}
use Rattle.session_pipe.specs.UnderWay.{UnderWay, after_cut, after_open, after_push, after_take}
use Rattle.session_pipe.specs.Past as pipes
use Rattle.session_pipe.proofs.Counts.{answered_bound, count_requests, no_requests, no_responses}
use Rattle.session_pipe.proofs.Moves.{moves}
use Rattle.hist_wire.specs.Wire.{line_at, pipe_at, request_at, response_at}
use Rattle.gw_tables.specs.Kept.{Kept, session_taken}
use Rattle.gw_law.specs.Told.{kept_of}
use Rattle.world_steps.specs.Nodes.{Node, cut, heard_answer, heard_notice, opened, ordered}
use Rattle.world_law.specs.Stands.{node_of}

-- ---- a node by its parts

abbrev node_with : Header → Peer → Kept → UnderWay → ℕ → ℕ → ℕ → Node
node_with header p k u o n a = record {
  name = p.name;
  config = record { address = p.address; seq_last = header.seq_last };
  kept = k;
  pipe = u;
  orders = o;
  handled = n;
  answered = a;
}

same-parts : (header : Header) (p : Peer) (k l : Kept) (u v : UnderWay) (o q n m a b : ℕ) → k ≡ l → u ≡ v → o ≡ q → n ≡ m → a ≡ b
    → node_with header p k u o n a ≡ node_with header p l v q m b
same-parts header p k l u v o q n m a b e f g h i =
    ap (λ z. node_with header p z u o n a) e ∙ ap (λ z. node_with header p l z o n a) f ∙ ap (λ z. node_with header p l v z n a) g
    ∙ ap (λ z. node_with header p l v q z a) h ∙ ap (λ z. node_with header p l v q m z) i

abbrev Stays : Header → Act → List Act → Peer → Type 0
Stays header a h p = node_of header (a ∷ h) p ≡ node_of header h p

abbrev Becomes : Header → Act → List Act → Peer → (Node → Node) → Type 0
Becomes header a h p f = node_of header (a ∷ h) p ≡ f (node_of header h p)

-- ---- what is kept, and what is under way

abbrev KeptStays : Act → List Act → List ℕ → Type 0
KeptStays a h g = kept_of (state_of g (a ∷ h)) ≡ kept_of (state_of g h)

kept-took : (g : List ℕ) (k : ℕ) (h : List Act) → KeptStays (acts.Took k) h g
kept-took g k h = ap kept_of (keeps g h (acts.Took k) tt)

kept-cut : (g f : List ℕ) (s : ℕ) (h : List Act) → KeptStays (acts.Cut f s) h g
kept-cut g f s h = ap kept_of (keeps g h (acts.Cut f s) tt)

kept-order : (g f : List ℕ) (s k : ℕ) (o : Order) (h : List Act) → KeptStays (acts.Order f s k o) h g
kept-order g f s k o h = ap kept_of (keeps g h (acts.Order f s k o) tt)

kept-answered : (g f : List ℕ) (s k : ℕ) (a : Answer) (h : List Act) → KeptStays (acts.Answered f s k a) h g
kept-answered g f s k a h = ap kept_of (keeps g h (acts.Answered f s k a) tt)

kept-heard : (g f : List ℕ) (s : ℕ) (n : Notice) (h : List Act) → KeptStays (acts.Heard f s n) h g
kept-heard g f s n h = ap kept_of (keeps g h (acts.Heard f s n) tt)

kept-refused : (g : List ℕ) (w : Refusal) (h : List Act) → KeptStays (acts.Refused w) h g
kept-refused g w h = ap kept_of (keeps g h (acts.Refused w) tt)

kept-opened-away : (g f : List ℕ) (s : ℕ) (h : List Act) → bytes_eq f g ≡ false → KeptStays (acts.Opened f s) h g
kept-opened-away g f s h e = ap kept_of (keeps g h (acts.Opened f s) tt ∙ sym (did-away g (state_of g h) (acts.Opened f s) e))

kept-opened : (g f : List ℕ) (s : ℕ) (h : List Act) → bytes_eq f g ≡ true
    → kept_of (state_of g (acts.Opened f s ∷ h)) ≡ session_taken (kept_of (state_of g h))
kept-opened g f s h e =
    ap kept_of (keeps g h (acts.Opened f s) tt)
    ∙ ap kept_of (if-new (bytes_eq f g) (did_at (state_of g h) (acts.Opened f s)) (quiet (state_of g h)) e)

-- the pipe after an act at the gateway, and after one elsewhere
pipe-there : (p : Peer) (a : Act) (h : List Act) → KeepsSessions (a ∷ h) → pipes.is_at p.name a ≡ true
    → pipe_at p.name p.address (a ∷ h) ≡ after_act (request_at p.address) (response_at p.name) line_at a h (pipe_at p.name p.address h)
pipe-there p a h k e =
    moves (request_at p.address) (response_at p.name) line_at p.name a h k
    ∙ if-new (pipes.is_at p.name a) (after_act (request_at p.address) (response_at p.name) line_at a h (pipe_at p.name p.address h))
    (pipe_at p.name p.address h) e

pipe-away : (p : Peer) (a : Act) (h : List Act) → KeepsSessions (a ∷ h) → pipes.is_at p.name a ≡ false
    → pipe_at p.name p.address (a ∷ h) ≡ pipe_at p.name p.address h
pipe-away p a h k e =
    moves (request_at p.address) (response_at p.name) line_at p.name a h k
    ∙ if-old (pipes.is_at p.name a) (after_act (request_at p.address) (response_at p.name) line_at a h (pipe_at p.name p.address h))
    (pipe_at p.name p.address h) e

-- ---- acts at no gateway

pub took-stays : (header : Header) (k : ℕ) (h : List Act) (p : Peer) → KeepsSessions h → Stays header (acts.Took k) h p
took-stays header k h p keep =
    same-parts header p (kept_of (state_of p.name (acts.Took k ∷ h))) (kept_of (state_of p.name h))
    (pipe_at p.name p.address (acts.Took k ∷ h)) (pipe_at p.name p.address h)
    (orders p.name (openings p.name h) h) (orders p.name (openings p.name h) h) (requests p.name h) (requests p.name h)
    (answered p.name (openings p.name h) h) (answered p.name (openings p.name h) h)
    (kept-took p.name k h) (pipe-away p (acts.Took k) h (tt, keep) refl) refl refl refl

pub refused-stays : (header : Header) (w : Refusal) (h : List Act) (p : Peer) → KeepsSessions h → Stays header (acts.Refused w) h p
refused-stays header w h p keep =
    same-parts header p (kept_of (state_of p.name (acts.Refused w ∷ h))) (kept_of (state_of p.name h))
    (pipe_at p.name p.address (acts.Refused w ∷ h)) (pipe_at p.name p.address h)
    (orders p.name (openings p.name h) h) (orders p.name (openings p.name h) h) (requests p.name h) (requests p.name h)
    (answered p.name (openings p.name h) h) (answered p.name (openings p.name h) h)
    (kept-refused p.name w h) (pipe-away p (acts.Refused w) h (tt, keep) refl) refl refl refl

-- ---- acts at other gateways

pub opened-stays : (header : Header) (f : List ℕ) (s : ℕ) (h : List Act) (p : Peer) → KeepsSessions (acts.Opened f s ∷ h)
    → bytes_eq f p.name ≡ false → Stays header (acts.Opened f s) h p
opened-stays header f s h p keep e =
    same-parts header p (kept_of (state_of p.name (acts.Opened f s ∷ h))) (kept_of (state_of p.name h))
    (pipe_at p.name p.address (acts.Opened f s ∷ h)) (pipe_at p.name p.address h)
    (orders p.name (openings p.name (acts.Opened f s ∷ h)) h) (orders p.name (openings p.name h) h)
    (requests p.name (acts.Opened f s ∷ h)) (requests p.name h)
    (answered p.name (openings p.name (acts.Opened f s ∷ h)) h) (answered p.name (openings p.name h) h)
    (kept-opened-away p.name f s h e) (pipe-away p (acts.Opened f s) h keep e)
    (ap (λ n. orders p.name n h) number)
    (if-old (bytes_eq f p.name) 0 (requests p.name h) e)
    (ap (λ n. answered p.name n h) number)
  where
    number : openings p.name (acts.Opened f s ∷ h) ≡ openings p.name h
    number = if-old (bytes_eq f p.name) (openings p.name h + 1) (openings p.name h) e

pub cut-stays : (header : Header) (f : List ℕ) (s : ℕ) (h : List Act) (p : Peer) → KeepsSessions (acts.Cut f s ∷ h)
    → bytes_eq f p.name ≡ false → Stays header (acts.Cut f s) h p
cut-stays header f s h p keep e =
    same-parts header p (kept_of (state_of p.name (acts.Cut f s ∷ h))) (kept_of (state_of p.name h))
    (pipe_at p.name p.address (acts.Cut f s ∷ h)) (pipe_at p.name p.address h)
    (orders p.name (openings p.name h) h) (orders p.name (openings p.name h) h) (requests p.name h) (requests p.name h)
    (answered p.name (openings p.name h) h) (answered p.name (openings p.name h) h)
    (kept-cut p.name f s h) (pipe-away p (acts.Cut f s) h keep e) refl refl refl

no-more : (b c : Bool) (n : ℕ) → b ≡ false → (if b && c then n + 1 else n) ≡ n
no-more b c n e = ap (λ z. if z && c then n + 1 else n) e

pub order-stays : (header : Header) (f : List ℕ) (s k : ℕ) (o : Order) (h : List Act) (p : Peer) → KeepsSessions (acts.Order f s k o ∷ h)
    → bytes_eq f p.name ≡ false
    → Stays header (acts.Order f s k o) h p
order-stays header f s k o h p keep e =
    same-parts header p (kept_of (state_of p.name (acts.Order f s k o ∷ h))) (kept_of (state_of p.name h))
    (pipe_at p.name p.address (acts.Order f s k o ∷ h)) (pipe_at p.name p.address h)
    (orders p.name (openings p.name h) (acts.Order f s k o ∷ h)) (orders p.name (openings p.name h) h) (requests p.name h)
    (requests p.name h)
    (answered p.name (openings p.name h) h) (answered p.name (openings p.name h) h)
    (kept-order p.name f s k o h) (pipe-away p (acts.Order f s k o) h keep e)
    (no-more (bytes_eq f p.name) (s == openings p.name h) (orders p.name (openings p.name h) h) e) refl refl

pub answered-stays : (header : Header) (f : List ℕ) (s k : ℕ) (a : Answer) (h : List Act) (p : Peer)
    → KeepsSessions (acts.Answered f s k a ∷ h) → bytes_eq f p.name ≡ false
    → Stays header (acts.Answered f s k a) h p
answered-stays header f s k a h p keep e =
    same-parts header p (kept_of (state_of p.name (acts.Answered f s k a ∷ h))) (kept_of (state_of p.name h))
    (pipe_at p.name p.address (acts.Answered f s k a ∷ h)) (pipe_at p.name p.address h)
    (orders p.name (openings p.name h) h) (orders p.name (openings p.name h) h) (requests p.name h) (requests p.name h)
    (answered p.name (openings p.name h) (acts.Answered f s k a ∷ h)) (answered p.name (openings p.name h) h)
    (kept-answered p.name f s k a h) (pipe-away p (acts.Answered f s k a) h keep e) refl refl
    (no-more (bytes_eq f p.name) (s == openings p.name h) (answered p.name (openings p.name h) h) e)

pub heard-stays : (header : Header) (f : List ℕ) (s : ℕ) (n : Notice) (h : List Act) (p : Peer) → KeepsSessions (acts.Heard f s n ∷ h)
    → bytes_eq f p.name ≡ false
    → Stays header (acts.Heard f s n) h p
heard-stays header f s n h p keep e =
    same-parts header p (kept_of (state_of p.name (acts.Heard f s n ∷ h))) (kept_of (state_of p.name h))
    (pipe_at p.name p.address (acts.Heard f s n ∷ h)) (pipe_at p.name p.address h)
    (orders p.name (openings p.name h) h) (orders p.name (openings p.name h) h) (requests p.name h) (requests p.name h)
    (answered p.name (openings p.name h) h) (answered p.name (openings p.name h) h)
    (kept-heard p.name f s n h) (pipe-away p (acts.Heard f s n) h keep e) refl refl refl

-- ---- acts at the gateway

-- a session that was not opened yet has no orders and no answers
no-orders : (p : Peer) (h : List Act) → KeepsSessions h → orders p.name (openings p.name h + 1) h ≡ 0
no-orders p h keep =
    let next : openings p.name h < openings p.name h + 1 = omega arith in
    sym (count_requests (request_at p.address) p.name (openings p.name h + 1) h) ∙ ap length
    (no_requests (request_at p.address) p.name (openings p.name h + 1) h keep next)

no-answers : (p : Peer) (h : List Act) → KeepsSessions h → answered p.name (openings p.name h + 1) h ≡ 0
no-answers p h keep =
    let next : openings p.name h < openings p.name h + 1 = omega arith in
    let few = answered_bound (response_at p.name) p.name (openings p.name h + 1) h keep in
    let none : length (responses (response_at p.name) p.name (openings p.name h + 1) h) ≡ 0 = ap length
    (no_responses (response_at p.name) p.name (openings p.name h + 1) h keep next) in
    omega (arith, few, none)

pub opened-moves : (header : Header) (f : List ℕ) (s : ℕ) (h : List Act) (p : Peer) → KeepsSessions (acts.Opened f s ∷ h)
    → bytes_eq f p.name ≡ true
    → Becomes header (acts.Opened f s) h p opened
opened-moves header f s h p keep e =
    same-parts header p (kept_of (state_of p.name (acts.Opened f s ∷ h))) (session_taken (kept_of (state_of p.name h)))
    (pipe_at p.name p.address (acts.Opened f s ∷ h)) (after_open (pipe_at p.name p.address h))
    (orders p.name (openings p.name (acts.Opened f s ∷ h)) h) 0 (requests p.name (acts.Opened f s ∷ h)) 0
    (answered p.name (openings p.name (acts.Opened f s ∷ h)) h) 0
    (kept-opened p.name f s h e) (pipe-there p (acts.Opened f s) h keep e)
    (ap (λ n. orders p.name n h) number ∙ no-orders p h keep.1)
    (if-new (bytes_eq f p.name) 0 (requests p.name h) e)
    (ap (λ n. answered p.name n h) number ∙ no-answers p h keep.1)
  where
    number : openings p.name (acts.Opened f s ∷ h) ≡ openings p.name h + 1
    number = if-new (bytes_eq f p.name) (openings p.name h + 1) (openings p.name h) e

pub cut-moves : (header : Header) (f : List ℕ) (s : ℕ) (h : List Act) (p : Peer) → KeepsSessions (acts.Cut f s ∷ h)
    → bytes_eq f p.name ≡ true
    → Becomes header (acts.Cut f s) h p cut
cut-moves header f s h p keep e =
    same-parts header p (kept_of (state_of p.name (acts.Cut f s ∷ h))) (kept_of (state_of p.name h))
    (pipe_at p.name p.address (acts.Cut f s ∷ h)) (after_cut (pipe_at p.name p.address h))
    (orders p.name (openings p.name h) h) (orders p.name (openings p.name h) h) (requests p.name h) (requests p.name h)
    (answered p.name (openings p.name h) h) (answered p.name (openings p.name h) h)
    (kept-cut p.name f s h) (pipe-there p (acts.Cut f s) h keep e) refl refl refl

one-more : (b c : Bool) (n : ℕ) → b ≡ true → c ≡ true → (if b && c then n + 1 else n) ≡ n + 1
one-more b c n e f = if-new (b && c) (n + 1) n (and_from b c e f)

newest : (f g : List ℕ) (s : ℕ) (h : List Act) → bytes_eq f g ≡ true → s ≡ openings f h → (s == openings g h) ≡ true
newest f g s h e is = ap (λ z. z == openings g h) (is ∙ ap (λ z. openings z h) (name-is f g e)) ∙ self (openings g h)

pub order-moves : (header : Header) (f : List ℕ) (s k : ℕ) (o : Order) (h : List Act) (p : Peer) → KeepsSessions (acts.Order f s k o ∷ h)
    → bytes_eq f p.name ≡ true
    → Becomes header (acts.Order f s k o) h p (ordered o)
order-moves header f s k o h p keep e =
    same-parts header p (kept_of (state_of p.name (acts.Order f s k o ∷ h))) (kept_of (state_of p.name h))
    (pipe_at p.name p.address (acts.Order f s k o ∷ h)) (after_push lanes.Down (request_at p.address h o) (pipe_at p.name p.address h))
    (orders p.name (openings p.name h) (acts.Order f s k o ∷ h)) (orders p.name (openings p.name h) h + 1) (requests p.name h)
    (requests p.name h)
    (answered p.name (openings p.name h) h) (answered p.name (openings p.name h) h)
    (kept-order p.name f s k o h) (pipe-there p (acts.Order f s k o) h keep e)
    (one-more (bytes_eq f p.name) (s == openings p.name h) (orders p.name (openings p.name h) h) e
    (newest f p.name s h e keep.0.1)) refl refl

pub answered-moves : (header : Header) (f : List ℕ) (s k : ℕ) (a : Answer) (h : List Act) (p : Peer)
    → KeepsSessions (acts.Answered f s k a ∷ h) → bytes_eq f p.name ≡ true
    → Becomes header (acts.Answered f s k a) h p heard_answer
answered-moves header f s k a h p keep e =
    same-parts header p (kept_of (state_of p.name (acts.Answered f s k a ∷ h))) (kept_of (state_of p.name h))
    (pipe_at p.name p.address (acts.Answered f s k a ∷ h)) (after_take lanes.Up (pipe_at p.name p.address h))
    (orders p.name (openings p.name h) h) (orders p.name (openings p.name h) h) (requests p.name h) (requests p.name h)
    (answered p.name (openings p.name h) (acts.Answered f s k a ∷ h)) (answered p.name (openings p.name h) h + 1)
    (kept-answered p.name f s k a h) (pipe-there p (acts.Answered f s k a) h keep e) refl refl
    (one-more (bytes_eq f p.name) (s == openings p.name h) (answered p.name (openings p.name h) h) e (newest f p.name s h e keep.0.0))

pub heard-moves : (header : Header) (f : List ℕ) (s : ℕ) (n : Notice) (h : List Act) (p : Peer) → KeepsSessions (acts.Heard f s n ∷ h)
    → bytes_eq f p.name ≡ true
    → Becomes header (acts.Heard f s n) h p heard_notice
heard-moves header f s n h p keep e =
    same-parts header p (kept_of (state_of p.name (acts.Heard f s n ∷ h))) (kept_of (state_of p.name h))
    (pipe_at p.name p.address (acts.Heard f s n ∷ h)) (after_take lanes.Note (pipe_at p.name p.address h))
    (orders p.name (openings p.name h) h) (orders p.name (openings p.name h) h) (requests p.name h) (requests p.name h)
    (answered p.name (openings p.name h) h) (answered p.name (openings p.name h) h)
    (kept-heard p.name f s n h) (pipe-there p (acts.Heard f s n) h keep e) refl refl refl
