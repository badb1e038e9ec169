-- The answer that the controller hears next is that of the reply to the oldest order that waits, and is read as it.
use Rattle.std.proofs.Common.{◌≡◌, ℕ, zero, suc, ◌+◌, ◌<◌, ◌==◌, ◌&&◌, Bool, true, false, List, [], ◌∷◌, ◌++◌, drop, length, Some, None, Ok, slice_get, ◌⊎◌, inl, inr, refl, sym, ◌∙◌, ap, subst, arith, if◌then◌else◌}
use Rattle.std.specs.Option.{option_map}
use Rattle.ikeless_tree.specs.Typed.{IsTypedOrder}
use Rattle.ikeless_tree.specs.declared.command.Peer.{Peer}
use Rattle.ikeless_tree.specs.declared.order.Answer.{Answer}
use Rattle.ikeless_tree.specs.declared.order.Lane.TheVariants as lanes
use Rattle.ikeless_tree.specs.declared.order.Order.{Order}
use Rattle.ikeless_tree.specs.declared.order.Order.TheVariants as asks
use Rattle.ikeless_tree.specs.declared.sad.Tree.{Tree}
use Rattle.reply_table.specs.Order.{ask_of}
use Rattle.reply_table.specs.Reply.{reply}
use Rattle.rc_http.specs.Written.{response_text}
use Rattle.rc_answer.specs.Answers as reading
use Rattle.rc_answer.proofs.StatusLemmas.{answer_has}
use Rattle.rc_resource.specs.Messages.{IsOrder, reply_message}
use Rattle.rc_resource.specs.Replies.{reply_of}
use Rattle.rc_resource.proofs.AnswerLaws.{reply_again}
use Rattle.script_lines.specs.Spelling.{IsOrderSpelled}
use Rattle.hist_acts.specs.declared.act.Act.{Act}
use Rattle.hist_acts.specs.declared.act.Act.TheVariants as acts
use Rattle.hist_acts.specs.Sessions.{answer_at, answered, handled, is_open, is_session, next_answer, next_request, openings, order_at, orders_given, session_taken}
use Rattle.hist_gateway.specs.Handle.{answer_of}
use Rattle.hist_gateway.specs.Rows.{tree_of}
use Rattle.hist_controller.specs.Acts.{ControllerAct, ControllerOrder}
use Rattle.hist_controller.specs.Machine.{place}
use Rattle.hist_controller.specs.Numbers.{numbered}
use Rattle.hist_controller.specs.Past as controller
use Rattle.hist_controller.specs.Told.{Named, order_told, peer_name}
use Rattle.hist_controller.proofs.Transcript.{order-told}
use Rattle.hist_controller.proofs.WaitsFor.{queue-numbered}
use Rattle.hist_safety.proofs.Basics.{both-left, spot-is}
use Rattle.hist_world.specs.Stands.{Meet}
use Rattle.hist_world.proofs.Controls.{answered-meet, open-meet, openings-meet}
use Rattle.hist_world.proofs.Parts.{order-at-part}
use Rattle.session_pipe.specs.Sessions.{KeepsSessions}
use Rattle.session_pipe.specs.Past.{responses}
use Rattle.session_pipe.specs.UnderWay.{next_message}
use Rattle.session_pipe.proofs.Counts.{count_responses, else_none, where_none}
use Rattle.hist_sessions.proofs.Numbers.{order-at}
use Rattle.hist_wire.specs.Wire.{before_change, outcome_at, pipe_at, response_at, response_to}
use Rattle.hist_wire.specs.Replies.{AllReplied}
use Rattle.ctl_core.specs.Core.{Core, expected}
use Rattle.ctl_law.specs.Stands.{StandsFor}
use Rattle.ctl_law.specs.Told.{is_status_of, may_answer}
use Rattle.ctl_law.proofs.Steps.{expects}
use Rattle.world_law.proofs.Peers.{place-name}
use Rattle.world_law.proofs.Suffix.{Known, known-before, known-older}
use Rattle.world_law.proofs.Typed.{AreSpelled, rows-typed, spelled-head, spelled-tail, tree-stands}

-- ---- the answer at its place

abbrev response_for : List ℕ → List Act → Order → List ℕ
response_for g h o = response_text (reply_message (reply_of (outcome_at g h o)))

-- the request of this order was handled after these acts, as the one with this number in the session
pub record IsHandled (g : List ℕ) (s k : ℕ) (h : List Act) (a : Answer) : Type 0 where
  pub newer : List Act
  pub older : List Act
  pub order : Order
  pub all : h ≡ newer ++ older
  pub given : slice_get (orders_given g s h) k ≡ Some order
  pub says : a ≡ answer_of (outcome_at g older order)
  pub response : slice_get (responses (response_at g) g s h) k ≡ Some (response_for g older order)

some-answer : (a b : Answer) → Some a ≡ Some b → a ≡ b
some-answer a b e = cc

no-answer : (a : Answer) → None ≡ Some a → ⊥
no-answer a e = cc

pub pushed : {A : Type 0} (xs : List A) (y x : A) (k : ℕ) → slice_get xs k ≡ Some x → slice_get (xs ++ y ∷ []) k ≡ Some x
pushed [] y x k e = cc
pushed (z ∷ xs) y x zero e = e
pushed (z ∷ xs) y x (suc k) e = pushed xs y x k e

pushed-if : {A : Type 0} (b : Bool) (xs : List A) (y x : A) (k : ℕ) → slice_get xs k ≡ Some x
    → slice_get (if b then xs ++ y ∷ [] else xs) k ≡ Some x
pushed-if true xs y x k e = pushed xs y x k e
pushed-if false xs y x k e = e

-- an element of a list with one more is one of the list, or the last one
pub last-or : {A : Type 0} (xs : List A) (y x : A) (k : ℕ) → slice_get (xs ++ y ∷ []) k ≡ Some x
    → (slice_get xs k ≡ Some x) ⊎ ((k ≡ length xs) × (y ≡ x))
last-or [] y x zero e = inr (refl, some-is y x e) where
  some-is : {A : Type 0} (a b : A) → Some a ≡ Some b → a ≡ b
  some-is a b e = cc
last-or [] y x (suc k) e = absurd (none-is x e) where
  none-is : {A : Type 0} (a : A) → None ≡ Some a → ⊥
  none-is a e = cc
last-or (z ∷ xs) y x zero e = inl e
last-or (z ∷ xs) y x (suc k) e = next (last-or xs y x k e) where
  next : (slice_get xs k ≡ Some x) ⊎ ((k ≡ length xs) × (y ≡ x)) → (slice_get xs k ≡ Some x) ⊎ ((suc k ≡ suc (length xs)) × (y ≡ x))
  next (inl p) = inl p
  next (inr p) = inr (ap suc p.0, p.1)

pub at-end : {A : Type 0} (xs : List A) (x : A) → slice_get (xs ++ x ∷ []) (length xs) ≡ Some x
at-end [] x = refl
at-end (y ∷ xs) x = at-end xs x

end-if : {A : Type 0} (b : Bool) (xs : List A) (x : A) (k : ℕ) → b ≡ true → k ≡ length xs
    → slice_get (if b then xs ++ x ∷ [] else xs) k ≡ Some x
end-if true xs x k e n = ap (slice_get (xs ++ x ∷ [])) n ∙ at-end xs x
end-if false xs x k e n = cc

-- further acts
on : (g : List ℕ) (s k : ℕ) (b : Act) (h : List Act) (a : Answer) (i : IsHandled g s k h a)
    → slice_get (orders_given g s (b ∷ h)) k ≡ Some i.order
    → slice_get (responses (response_at g) g s (b ∷ h)) k ≡ Some (response_for g i.older i.order) → IsHandled g s k (b ∷ h) a
on g s k b h a i given response = record {
  newer = b ∷ i.newer;
  older = i.older;
  order = i.order;
  all = ap (λ z. b ∷ z) i.all;
  given = given;
  says = i.says;
  response = response;
}

-- the order of the next request has the number of its answer
next-given : (g : List ℕ) (s k : ℕ) (h : List Act) (o : Order) → KeepsSessions h → s ≡ session_taken g h → k ≡ handled g s h
    → next_request g h ≡ Some o
    → slice_get (orders_given g s h) k ≡ Some o
next-given g s k h o keep is count next =
    let t : ℕ = session_taken g h in
    let at = where_none (t == 0) (order_at g t (handled g t h + 1) h) o next in
    let there : order_at g s (handled g s h + 1) h ≡ Some o = ap (λ z. order_at g z (handled g z h + 1) h) is ∙ at.1 in
    sym (order-at g s k h keep) ∙ ap (λ z. order_at g s (z + 1) h) count ∙ there

handled-now : (f : List ℕ) (t j : ℕ) (b : Answer) (g : List ℕ) (s k : ℕ) (h : List Act) (a : Answer)
    → KeepsSessions (acts.Handled f t j b ∷ h) → AllReplied (acts.Handled f t j b ∷ h)
    → (is_session f t g s && (j == k + 1)) ≡ true → b ≡ a → IsHandled g s k (acts.Handled f t j b ∷ h) a
handled-now f t j b g s k h a keep replied e same =
    let is = spot-is f t j g s (k + 1) e in
    let o : Order = replied.0.0 in
    let next : next_request g h ≡ Some o = subst (λ z. next_request z h ≡ Some o) is.0 replied.0.1 in
    let taken : s ≡ session_taken g h = sym is.1 ∙ keep.0.0 ∙ ap (λ z. session_taken z h) is.0 in
    let number : j ≡ handled g s h + 1 = keep.0.1 ∙ ap (λ z. handled z t h + 1) is.0 ∙ ap (λ z. handled g z h + 1) is.1 in
    let count : k ≡ handled g s h = omega (arith, number, is) in
    let long : length (responses (response_at g) g s h) ≡ handled g s h = count_responses (response_at g) g s h in
    let last : k ≡ length (responses (response_at g) g s h) = count ∙ sym long in
    record {
      newer = acts.Handled f t j b ∷ [];
      older = h;
      order = o;
      all = refl;
      given = next-given g s k h o keep.1 taken count next;
      says = sym same ∙ replied.0.2 ∙ ap (λ z. answer_of (outcome_at z h o)) is.0;
      response = end-if (is_session f t g s) (responses (response_at g) g s h) (response_at g h b) k
          (both-left (is_session f t g s) (j == k + 1) e) last
          ∙ ap (λ z. Some (response_to g h z)) next;
    }

pub is-handled : (g : List ℕ) (s k : ℕ) (h : List Act) (a : Answer) → KeepsSessions h → AllReplied h → answer_at g s (k + 1) h ≡ Some a
    → IsHandled g s k h a
is-handled g s k [] a keep replied e = absurd (no-answer a e)
is-handled g s k (acts.Order f t j o ∷ h) a keep replied e =
    let i = is-handled g s k h a keep.1 replied.1 e in
    on g s k (acts.Order f t j o) h a i (pushed-if (is_session f t g s) (orders_given g s h) o i.order k i.given) i.response
is-handled g s k (acts.Handled f t j b ∷ h) a keep replied e = by-place (is_session f t g s && (j == k + 1)) refl e
    (is-handled g s k h a keep.1 replied.1) where
      by-place : (c : Bool) → (is_session f t g s && (j == k + 1)) ≡ c → (if c then Some b else answer_at g s (k + 1) h) ≡ Some a
          → (answer_at g s (k + 1) h ≡ Some a → IsHandled g s k h a) → IsHandled g s k (acts.Handled f t j b ∷ h) a
      by-place true here e ih = handled-now f t j b g s k h a keep replied here (some-answer b a e)
      by-place false here e ih =
          let i = ih e in
          on g s k (acts.Handled f t j b) h a i i.given
          (pushed-if (is_session f t g s) (responses (response_at g) g s h) (response_at g h b)
          (response_for g i.older i.order) k i.response)
is-handled g s k (b ∷ h) a keep replied e = let i = is-handled g s k h a keep.1 replied.1 e in on g s k b h a i i.given i.response

-- ---- the next answer

pub next-drop : (n : ℕ) (xs : List (List ℕ)) → slice_get (drop n xs) 0 ≡ slice_get xs n
next-drop zero xs = refl
next-drop (suc n) [] = refl
next-drop (suc n) (x ∷ xs) = next-drop n xs

-- what the next answer of a gateway is, and how it comes
pub record IsNext (ps : List Peer) (p : Peer) (i : ℕ) (h : List Act) (c : List ControllerAct) (a : Answer) : Type 0 where
  pub order : ControllerOrder
  pub rest : List ControllerOrder
  pub waits : controller.queue i c ≡ order ∷ rest
  pub tree : Tree
  pub known : Known ps h
  pub older : List Act
  pub there : Known ps older
  pub is : tree ≡ tree_of p.name older
  pub message : next_message lanes.Up (pipe_at p.name p.address h) ≡ Some
      (response_text (reply_message (reply_of (reply tree (ask_of (order_told ps order))))))
  pub says : a ≡ answer_of (reply tree (ask_of (order_told ps order)))
  pub order_is : IsOrder (order_told ps order)
  pub typed : IsTypedOrder (order_told ps order)

no-order : (o : Order) → None ≡ Some o → ⊥
no-order o e = cc

-- an order that was given has a line
abbrev pub IsGoodOrder : Order → Type 0
IsGoodOrder o = IsOrder o × IsTypedOrder o

pub order-good : (o : Order) → IsOrderSpelled o → IsTypedOrder o → IsGoodOrder o
order-good asks.Read s t = (tt, tt)
order-good (asks.Policy list) s t = (s.fits, t)
order-good (asks.Put e) s t = (s, t)
order-good (asks.Remove name) s t = (s, tt)

good-last : (xs : List Order) (q o : Order) (k : ℕ) → IsGoodOrder q → (slice_get xs k ≡ Some o → IsGoodOrder o)
    → (slice_get xs k ≡ Some o) ⊎ ((k ≡ length xs) × (q ≡ o)) → IsGoodOrder o
good-last xs q o k one ih (inl x) = ih x
good-last xs q o k one ih (inr x) = subst IsGoodOrder x.1 one

good-if : (b : Bool) (xs : List Order) (q o : Order) (k : ℕ) → IsGoodOrder q → (slice_get xs k ≡ Some o → IsGoodOrder o)
    → slice_get (if b then xs ++ q ∷ [] else xs) k ≡ Some o → IsGoodOrder o
good-if true xs q o k one ih e = good-last xs q o k one ih (last-or xs q o k e)
good-if false xs q o k one ih e = ih e

given-good : (gs : List Peer) (g : List ℕ) (s k : ℕ) (h : List Act) (o : Order) → AreSpelled gs h
    → slice_get (orders_given g s h) k ≡ Some o → IsGoodOrder o
given-good gs g s k [] o p e = absurd (no-order o e)
given-good gs g s k (acts.Order f t j q ∷ h) o p e =
    let a = spelled-head gs (acts.Order f t j q) h p in
    good-if (is_session f t g s) (orders_given g s h) q o k (order-good q a.0.1 a.1.2)
    (given-good gs g s k h o (spelled-tail gs (acts.Order f t j q) h p)) e
given-good gs g s k (a ∷ h) o p e = given-good gs g s k h o (spelled-tail gs a h p) e

-- the order that waits longest is the next one
oldest-given : (ps : List Peer) (i : ℕ) (h : List Act) (c : List ControllerAct) (o : Order) → Named ps → i < length ps → Meet ps h c
    → KeepsSessions h → controller.is_open i c ≡ true
    → slice_get (orders_given (peer_name ps i) (controller.openings i c) h) (controller.answered i c) ≡ Some o
    → option_map (order_told ps) (place 0 (controller.queue i c)) ≡ Some o
oldest-given ps i h c o names low meet keep live e =
    let g : List ℕ = peer_name ps i in
    let s : ℕ = controller.openings i c in
    let k : ℕ = controller.answered i c in
    let number : k + 1 + 0 ≡ k + 1 = omega arith in
    let waiting : place 0 (controller.queue i c) ≡ numbered i s (k + 1) c = queue-numbered (length ps) c meet.past i live 0 ∙ ap
    (λ z. numbered i s z c) number in
    ap (option_map (order_told ps)) waiting ∙ sym (order-told ps c names meet.fit i s (k + 1) low) ∙ ap (order_at g s (k + 1))
    (sym meet.part)
    ∙ sym (order-at-part g s (k + 1) h) ∙ order-at g s k h keep ∙ e

record Oldest (ps : List Peer) (q : List ControllerOrder) (o : Order) : Type 0 where
  order : ControllerOrder
  rest : List ControllerOrder
  waits : q ≡ order ∷ rest
  told : order_told ps order ≡ o

some-order : (o q : Order) → Some o ≡ Some q → o ≡ q
some-order o q e = cc

oldest-is : (ps : List Peer) (q : List ControllerOrder) (o : Order) → option_map (order_told ps) (place 0 q) ≡ Some o → Oldest ps q o
oldest-is ps [] o e = absurd (no-order o e)
oldest-is ps (x ∷ q) o e = record { order = x; rest = q; waits = refl; told = some-order (order_told ps x) o e }

pub next-is : (ps : List Peer) (p : Peer) (i : ℕ) (h : List Act) (c : List ControllerAct) (a : Answer) → Named ps → i < length ps
    → slice_get ps i ≡ Some p
    → Known ps h → Meet ps h c → KeepsSessions h → AllReplied h → next_answer p.name h ≡ Some a → IsNext ps p i h c a
next-is ps p i h c a names low at known meet keep replied e =
    let g : List ℕ = p.name in
    let s : ℕ = openings g h in
    let k : ℕ = answered g s h in
    let name : peer_name ps i ≡ g = place-name ps i p at in
    let live = else_none (is_open g h) (answer_at g s (k + 1) h) a e in
    let r = is-handled g s k h a keep replied live.1 in
    let session : s ≡ controller.openings i c = ap (λ z. openings z h) (sym name) ∙ openings-meet ps h c i names meet low in
    let count : k ≡ controller.answered i c =
    ap (λ z. answered g z h) session ∙ ap (λ z. answered z (controller.openings i c) h) (sym name)
    ∙ answered-meet ps h c i names meet low in
    let is_up : controller.is_open i c ≡ true = sym (open-meet ps h c i names meet low) ∙ ap (λ z. is_open z h) name ∙ live.0 in
    let given : slice_get (orders_given (peer_name ps i) (controller.openings i c) h) (controller.answered i c) ≡ Some r.order =
    ap (λ z. slice_get (orders_given z (controller.openings i c) h) (controller.answered i c)) name
    ∙ ap (λ z. slice_get (orders_given g z h) (controller.answered i c)) (sym session) ∙ ap (slice_get (orders_given g s h)) (sym count)
    ∙ r.given in
    let oldest = oldest-is ps (controller.queue i c) r.order (oldest-given ps i h c r.order names low meet keep is_up given) in
    let good = given-good ps g s k h r.order known.spelled r.given in
    let before : List Act = before_change r.older in
    let there : Known ps before = known-before ps r.older (known-older ps r.newer r.older (subst (Known ps) r.all known)) in
    let up : next_message lanes.Up (pipe_at g p.address h) ≡ Some (response_for g r.older r.order) =
    ap (λ b. slice_get (if b then drop k (responses (response_at g) g s h) else []) 0) live.0 ∙ next-drop k
    (responses (response_at g) g s h) ∙ r.response in
    record {
      order = oldest.order;
      rest = oldest.rest;
      waits = oldest.waits;
      tree = tree_of g before;
      known = known;
      older = before;
      there = there;
      is = refl;
      message = up ∙ ap (λ o. Some (response_for g r.older o)) (sym oldest.told);
      says = r.says ∙ ap (λ o. answer_of (outcome_at g r.older o)) (sym oldest.told);
      order_is = subst IsOrder (sym oldest.told) good.0;
      typed = subst IsTypedOrder (sym oldest.told) good.1;
    }

-- ---- how it is read

pub next-reads : (ps : List Peer) (p : Peer) (i : ℕ) (h : List Act) (c : List ControllerAct) (a : Answer) → Named ps
    → (n : IsNext ps p i h c a)
    → reading.answer_of (order_told ps n.order) (reply_message (reply_of (reply n.tree (ask_of (order_told ps n.order))))) ≡ Ok a
next-reads ps p i h c a names n =
    let k : Known ps n.older = n.there in
    let tree = tree-stands ps p.name n.older k.acts k.lawful k.meet names k.plain k.spelled in
    let typed = rows-typed ps p.name n.older k.lawful k.spelled in
    let o : Order = order_told ps n.order in
    let read = reply_again (tree_of p.name n.older) o tree typed in
    subst (λ t. reading.answer_of o (reply_message (reply_of (reply t (ask_of o)))) ≡ Ok (answer_of (reply t (ask_of o)))) (sym n.is) read
    ∙ ap (λ z. Ok z) (sym n.says)

same-status : (o : Order) (status : ℕ) → reading.is_status_of o status ≡ is_status_of o status
same-status asks.Read status = refl
same-status (asks.Policy list) status = refl
same-status (asks.Put e) status = refl
same-status (asks.Remove name) status = refl

-- the controller expects an answer to this order
pub next-expected : (ps : List Peer) (p : Peer) (i : ℕ) (h : List Act) (c : List ControllerAct) (a : Answer) (core : Core)
    → StandsFor ps c core → i < length ps → (n : IsNext ps p i h c a)
    → expected core i ≡ Some (order_told ps n.order)
next-expected ps p i h c a core s low n = expects ps c core i s low ∙ ap (λ q. option_map (order_told ps) (controller.oldest q)) n.waits

pub next-may : (ps : List Peer) (p : Peer) (i : ℕ) (h : List Act) (c : List ControllerAct) (a : Answer) (core : Core) → Named ps
    → StandsFor ps c core → i < length ps → (n : IsNext ps p i h c a)
    → may_answer (expected core i) a.status ≡ true
next-may ps p i h c a core names s low n =
    let o : Order = order_told ps n.order in
    let read = next-reads ps p i h c a names n in
    let status = answer_has o (reply_message (reply_of (reply n.tree (ask_of o)))) a read in
    ap (λ z. may_answer z a.status) (next-expected ps p i h c a core s low n) ∙ sym (same-status o a.status) ∙ status.1

pub next-waits : (ps : List Peer) (p : Peer) (i : ℕ) (h : List Act) (c : List ControllerAct) (a : Answer) → IsNext ps p i h c a
    → controller.queue i c ≡ [] → ⊥
next-waits ps p i h c a n e = empty n.order n.rest (sym n.waits ∙ e) where
  empty : (o : ControllerOrder) (os : List ControllerOrder) → o ∷ os ≡ [] → ⊥
  empty o os e = cc
