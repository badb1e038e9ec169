-- The next answer to a put is 201 or a refusal.
use Rattle.std.proofs.Common.{◌≡◌, ℕ, ◌+◌, ◌<◌, ◌==◌, ◌&&◌, ◌||◌, nat_le, Bool, true, false, List, [], ◌∷◌, ◌++◌, length, Option, Some, None, inl, inr, refl, sym, ◌∙◌, ap, subst, if◌then◌else◌}
use Rattle.std.specs.List.{list_any}
use Rattle.std.specs.Option.{option_map}
use Rattle.ikeless_tree.specs.Half.{is_inbound}
use Rattle.ikeless_tree.specs.declared.command.Peer.{Peer}
use Rattle.ikeless_tree.specs.declared.order as tree
use Rattle.ikeless_tree.specs.declared.order.Answer.{Answer}
use Rattle.ikeless_tree.specs.declared.order.Order.TheVariants as asks
use Rattle.ikeless_tree.specs.declared.sad.SadEntry.{SadEntry}
use Rattle.ikeless_tree.specs.declared.sad.Tree.{Tree}
use Rattle.reply_table.specs.Order.{ask_of}
use Rattle.reply_table.specs.Reply.{Outcome, At_half, exists, full, has_spi, is_row, is_sad_full, made, new_row, reply, spi_taken, with_sad}
use Rattle.reply_table.specs.declared.ask.Change.TheVariants as changes
use Rattle.hist_acts.specs.declared.act as happened
use Rattle.hist_acts.specs.declared.act.Act.TheVariants as acts
use Rattle.hist_acts.specs.Sessions.{answer_at, answered, handled, is_open, is_session, next_answer, next_request, openings, order_at, session_taken}
use Rattle.hist_gateway.specs.Handle.{answer_of}
use Rattle.hist_gateway.specs.Rows.{tree_of}
use Rattle.hist_controller.specs.Acts.{ControllerAct, ControllerOrder, Read, Policy, PutIn, PutOut, RemoveIn, RemoveOut, Answered}
use Rattle.hist_controller.specs.Clauses.{IsControllerPast}
use Rattle.hist_controller.specs.Halves.{is_plain}
use Rattle.hist_controller.specs.Past as controller_past
use Rattle.hist_controller.specs.Past.{oldest, queue}
use Rattle.hist_controller.specs.Told.{Named, in_entry, order_told, out_entry, peer_name}
use Rattle.hist_safety.specs.Law.{IsLawful}
use Rattle.hist_safety.proofs.Basics.{if-cases, some-is, spot-is}
use Rattle.hist_safety.proofs.Sessions.{next-at, told-order}
use Rattle.hist_world.specs.Stands.{Meet}
use Rattle.hist_world.proofs.Controls.{answered-meet, openings-meet}
use Rattle.hist_world.proofs.Parts.{order-at-part}
use Rattle.hist_world.proofs.Told.{told-at}
use Rattle.hist_wire.specs.Replies.{AllReplied}
use Rattle.hist_wire.specs.Wire.{before_change, outcome_at}

abbrev is_fine : ℕ → Bool
is_fine n = (n == 201) || nat_le 400 n

-- ---- the reply to a put

either-fine : (b : Bool) (x y : Outcome) → is_fine x.status ≡ true → is_fine y.status ≡ true
    → (let z : Outcome = if b then x else y in is_fine z.status ≡ true)
either-fine true x y p q = p
either-fine false x y p q = q

put-fine : (t : Tree) (e : SadEntry) → is_fine (reply t (ask_of (asks.Put e))).status ≡ true
unfolding reply
put-fine t e =
    either-fine (list_any (is_row e.name) t.sad) (exists t) _ refl
    (either-fine (is_inbound e.name && has_spi e.spi t.sad) (spi_taken t) _ refl
    (either-fine (is_sad_full t.sad) (full t) (made (At_half e.name) (changes.Put e) (with_sad t (t.sad ++ new_row e ∷ []))) refl refl))

-- ---- each answer that was given

abbrev IsFineAt : List ℕ → ℕ → ℕ → Answer → List happened.Act.Act → Type 0
IsFineAt g s k a h = (e : SadEntry) → order_at g s k h ≡ Some (asks.Put e) → is_fine a.status ≡ true

abbrev AllFine : List happened.Act.Act → Type 0
AllFine [] = Unit {0}
AllFine (acts.Handled g s k a ∷ h) = IsFineAt g s k a h × AllFine h
AllFine (_ ∷ h) = AllFine h

one-fine : (g : List ℕ) (s k : ℕ) (a : Answer) (h : List happened.Act.Act) (o : tree.Order.Order) → s ≡ session_taken g h
    → k ≡ handled g s h + 1 → next_request g h ≡ Some o → a ≡ answer_of (outcome_at g h o) → IsFineAt g s k a h
one-fine g s k a h o is count next says = λ e q.
    let same : o ≡ asks.Put e = some-is o (asks.Put e) (sym (next-at g s k o h is count next) ∙ q) in
    let status : a.status ≡ (outcome_at g h (asks.Put e)).status = ap (λ (z : Answer). z.status) says
    ∙ ap (λ (z : tree.Order.Order). (outcome_at g h z).status) same in
    ap is_fine status ∙ put-fine (tree_of g (before_change h)) e

all-fine : (gs : List Peer) (h : List happened.Act.Act) → IsLawful gs h → AllReplied h → AllFine h
all-fine gs [] l r = tt
all-fine gs (acts.Handled g s k a ∷ h) l r = (one-fine g s k a h r.0.0 l.0.0 l.0.1 r.0.1 r.0.2, all-fine gs h l.1 r.1)
all-fine gs (a ∷ h) l r = all-fine gs h l.1 r.1

fine-at : (g f : List ℕ) (s k t j : ℕ) (r a : Answer) (h : List happened.Act.Act) → (f ≡ g) × (t ≡ s) × (j ≡ k) → a ≡ r → IsFineAt f t j a h
    → IsFineAt g s k r h
fine-at g f s k t j r a h p q m = λ e o. ap (λ (z : Answer). is_fine z.status) (sym q) ∙ m e (rw (p.0, p.1, p.2) o)

-- the answer that is told of a put was given with it
told-fine : (gs : List Peer) (g : List ℕ) (s k : ℕ) (r : Answer) (h : List happened.Act.Act) → IsLawful gs h → AllFine h
    → answer_at g s k h ≡ Some r → IsFineAt g s k r h
told-fine gs g s k r [] l m p = cc
told-fine gs g s k r (acts.Handled f t j a ∷ h) l m p =
    elim (if-cases (is_session f t g s && (j == k)) a r (answer_at g s k h) p) as (λ z. IsFineAt g s k r h) [
      | inl w ↦ fine-at g f s k t j r a h (spot-is f t j g s k w.0) w.1 m.0
      | inr w ↦ told-fine gs g s k r h l.1 m.1 w
    ]
told-fine gs g s k r (acts.Order f t j o ∷ h) l m p =
    λ e q. told-fine gs g s k r h l.1 m p e (told-order gs g s k f t j o (asks.Put e) r h l.1 l.0.3 p q)
told-fine gs g s k r (a ∷ h) l m p = told-fine gs g s k r h l.1 m p

-- ---- what the controller hears

plain-one : (ps : List Peer) (o : Option ControllerOrder) (n : ℕ)
    → ((e : SadEntry) → option_map (order_told ps) o ≡ Some (asks.Put e) → is_fine n ≡ true) → is_plain o n ≡ true
plain-one ps None n m = refl
plain-one ps (Some Read) n m = refl
plain-one ps (Some (Policy list)) n m = refl
plain-one ps (Some (PutIn x)) n m = m (in_entry ps x) refl
plain-one ps (Some (PutOut x)) n m = m (out_entry ps x) refl
plain-one ps (Some (RemoveIn k)) n m = refl
plain-one ps (Some (RemoveOut k)) n m = refl

given-at : (b : Bool) (o : Option Answer) (a : Answer) → (if b then o else None) ≡ Some a → o ≡ Some a
given-at true o a e = e
given-at false o a e = cc

pub next-plain : (ps : List Peer) (w : List happened.Act.Act) (c : List ControllerAct) (g : ℕ) (a : Answer) → IsLawful ps w → AllReplied w
    → Meet ps w c → Named ps → g < length ps
    → next_answer (peer_name ps g) w ≡ Some a → is_plain (oldest (queue g c)) a.status ≡ true
next-plain ps w c g a l r m names i next = by-queue (queue g c) refl where
  by-queue : (q : List ControllerOrder) → queue g c ≡ q → is_plain (oldest (queue g c)) a.status ≡ true
  by-queue [] e = ap (λ (z : List ControllerOrder). is_plain (oldest z) a.status) e
  by-queue (o ∷ os) e =
      let s : ℕ = controller_past.openings g c in
      let k : ℕ = controller_past.answered g c + 1 in
      let past : IsControllerPast (length ps) (Answered g s k a ∷ c) = ((o, ap oldest e, refl, refl), m.past) in
      let asked = told-at ps (length ps) g s k a c past names m.fit i in
      let here : order_at (peer_name ps g) s k w ≡ option_map (order_told ps) (oldest (queue g c)) = order-at-part (peer_name ps g) s k w
      ∙ ap (λ z. order_at (peer_name ps g) s k z) m.part ∙ asked in
      let same : openings (peer_name ps g) w ≡ s = openings-meet ps w c g names m i in
      let n : answered (peer_name ps g) s w ≡ controller_past.answered g c = answered-meet ps w c g names m i in
      let was = given-at (is_open (peer_name ps g) w) (answer_at (peer_name ps g) (openings (peer_name ps g) w)
      (answered (peer_name ps g) (openings (peer_name ps g) w) w + 1) w) a next in
      let was2 : answer_at (peer_name ps g) s (answered (peer_name ps g) s w + 1) w ≡ Some a =
      subst (λ (z : ℕ). answer_at (peer_name ps g) z (answered (peer_name ps g) z w + 1) w ≡ Some a) same was in
      let was3 : answer_at (peer_name ps g) s k w ≡ Some a = subst (λ (z : ℕ). answer_at (peer_name ps g) s (z + 1) w ≡ Some a) n was2 in
      let fine = told-fine ps (peer_name ps g) s k a w l (all-fine ps w l r) was3 in
      plain-one ps (oldest (queue g c)) a.status (λ d q. fine d (here ∙ q))
