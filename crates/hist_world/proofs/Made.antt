-- Each put that a gateway handles is answered with 201, and so is each put whose answer the controller hears.
use Rattle.std.proofs.Common.{◌≡◌, ℕ, ◌+◌, true, false, ◌==◌, ◌&&◌, ◌||◌, nat_le, List, [], ◌∷◌, ◌++◌, length, Option, Some, None, refl, sym, ◌∙◌, ap, subst, inl, inr, arith}
use Rattle.std.specs.List.{list_any}
use Rattle.std.specs.Option.{option_map}
use Rattle.ikeless_tree.specs.declared.sad.SadEntry.{SadEntry}
use Rattle.ikeless_tree.specs.declared.sad.Tree.{Tree}
use Rattle.ikeless_tree.specs.declared.command.Peer.{Peer}
use Rattle.ikeless_tree.specs.declared.order as tree
use Rattle.ikeless_tree.specs.declared.order.Order.TheVariants as asks
use Rattle.ikeless_tree.specs.declared.order.Answer.{Answer}
use Rattle.ikeless_tree.specs.Half.{is_inbound}
use Rattle.reply_table.specs.Order.{ask_of}
use Rattle.reply_table.specs.Reply.{Outcome, has_spi, is_row, is_sad_full, reply}
use Rattle.reply_table.specs.declared.ask.Change.{Change}
use Rattle.reply_table.specs.declared.ask.Change.TheVariants as changes
use Rattle.hist_acts.specs.declared.act as happened
use Rattle.hist_acts.specs.declared.act.Act.TheVariants as acts
use Rattle.hist_acts.specs.Past as world_past
use Rattle.hist_acts.specs.Sessions.{answer_at, handled, is_session, next_request, session_taken}
use Rattle.hist_gateway.specs.Handle.{answer_of, change_acts, requests}
use Rattle.hist_gateway.specs.Rows.{tree_of}
use Rattle.hist_controller.specs.Acts.{ControllerAct, ControllerOrder, Read, Policy, PutIn, PutOut, RemoveIn, RemoveOut, Opened, Cut, Answered, Heard, Ordered, Accepted, Refused}
use Rattle.hist_controller.specs.Clauses.{IsControllerPast}
use Rattle.hist_controller.specs.Halves.{PlainAnswers, is_plain}
use Rattle.hist_controller.specs.Past.{oldest, queue}
use Rattle.hist_controller.specs.Table.{AllFit}
use Rattle.hist_controller.specs.Told.{Named, in_entry, order_told, out_entry, past_told}
use Rattle.hist_safety.specs.Law.{IsLawful, is_ready}
use Rattle.hist_safety.proofs.Basics.{if-cases, some-is, spot-is}
use Rattle.hist_safety.proofs.Sessions.{next-at, told-order}
use Rattle.hist_world.specs.Parts.{controllers_part}
use Rattle.hist_world.specs.Puts.{IsCreated, NoneRefused}
use Rattle.hist_world.specs.Stands.{Meet}
use Rattle.hist_world.proofs.Fresh.{name-free, spi-free}
use Rattle.hist_gateway.proofs.Requests.{requests-are}
use Rattle.hist_world.proofs.Handles.{numbered, row-is-live}
use Rattle.hist_world.proofs.Parts.{order-at-part}
use Rattle.hist_world.proofs.Room.{room}
use Rattle.hist_world.proofs.Told.{told-at}

-- ---- what is heard was handled

-- each put that was handled was answered with 201
abbrev pub AllCreated : List happened.Act.Act → Type 0
AllCreated [] = Unit {0}
AllCreated (acts.Handled g s k a ∷ h) = IsCreated g s k a h × AllCreated h
AllCreated (_ ∷ h) = AllCreated h

made-at : (g f : List ℕ) (s k t j : ℕ) (r a : Answer) (h : List happened.Act.Act) → (f ≡ g) × (t ≡ s) × (j ≡ k) → a ≡ r
    → IsCreated f t j a h → IsCreated g s k r h
made-at g f s k t j r a h p q m = λ e o. ap (λ (z : Answer). z.status) (sym q) ∙ m e (rw (p.0, p.1, p.2) o)

-- the answer that is told of a put was given with it
told-made : (gs : List Peer) (g : List ℕ) (s k : ℕ) (r : Answer) (h : List happened.Act.Act) → IsLawful gs h → AllCreated h
    → answer_at g s k h ≡ Some r → IsCreated g s k r h
told-made gs g s k r [] l m p = cc
told-made gs g s k r (acts.Handled f t j a ∷ h) l m p =
    elim (if-cases (is_session f t g s && (j == k)) a r (answer_at g s k h) p) as (λ z. IsCreated g s k r h) [
      | inl w ↦ made-at g f s k t j r a h (spot-is f t j g s k w.0) w.1 m.0
      | inr w ↦ told-made gs g s k r h l.1 m.1 w
    ]
told-made gs g s k r (acts.Order f t j o ∷ h) l m p =
    λ e q. told-made gs g s k r h l.1 m p e (told-order gs g s k f t j o (asks.Put e) r h l.1 l.0.3 p q)
told-made gs g s k r (a ∷ h) l m p = told-made gs g s k r h l.1 m p

pub none-refused : (gs : List Peer) (h : List happened.Act.Act) → IsLawful gs h → AllCreated h → NoneRefused h
none-refused gs [] l m = tt
none-refused gs (acts.Handled f t j a ∷ h) l m = (m.0, none-refused gs h l.1 m.1)
none-refused gs (acts.Answered f t j a ∷ h) l m = (told-made gs f t j a h l.1 m l.0.4, none-refused gs h l.1 m)
none-refused gs (a ∷ h) l m = none-refused gs h l.1 m

-- ---- so the controller hears no other answer to a put

none-part : (h : List happened.Act.Act) → NoneRefused h → NoneRefused (controllers_part h)
none-part [] n = tt
none-part (acts.Opened f s ∷ h) n = none-part h n
none-part (acts.Cut f s ∷ h) n = none-part h n
none-part (acts.Order f s k o ∷ h) n = none-part h n
none-part (acts.Heard f s t ∷ h) n = none-part h n
none-part (acts.Refused w ∷ h) n = none-part h n
none-part (acts.Handled f s k a ∷ h) n = none-part h n.1
none-part (acts.Answered f s k a ∷ h) n = (λ e q. n.0 e (order-at-part f s k h ∙ q), none-part h n.1)
none-part (a ∷ h) n = none-part h n

plain-made : (n : ℕ) → n ≡ 201 → ((n == 201) || nat_le 400 n) ≡ true
plain-made n e = grind (arith, e)

plain-one : (ps : List Peer) (o : Option ControllerOrder) (n : ℕ) → ((e : SadEntry) → option_map (order_told ps) o ≡ Some (asks.Put e)
    → n ≡ 201) → is_plain o n ≡ true
plain-one ps None n m = refl
plain-one ps (Some Read) n m = refl
plain-one ps (Some (Policy list)) n m = refl
plain-one ps (Some (PutIn x)) n m = plain-made n (m (in_entry ps x) refl)
plain-one ps (Some (PutOut x)) n m = plain-made n (m (out_entry ps x) refl)
plain-one ps (Some (RemoveIn k)) n m = refl
plain-one ps (Some (RemoveOut k)) n m = refl

plain-told : (ps : List Peer) (p : ℕ) (c : List ControllerAct) → IsControllerPast p c → Named ps → AllFit (length ps) c
    → NoneRefused (past_told ps c) → PlainAnswers c
plain-told ps p [] l names f n = tt
plain-told ps p (Opened g s ∷ c) l names f n = plain-told ps p c l.1 names f.1 n
plain-told ps p (Cut g s ∷ c) l names f n = plain-told ps p c l.1 names f.1 n
plain-told ps p (Heard g s t ∷ c) l names f n = plain-told ps p c l.1 names f.1 n
plain-told ps p (Ordered g s k o ∷ c) l names f n = plain-told ps p c l.1 names f.1 n
plain-told ps p (Accepted x ∷ c) l names f n = plain-told ps p c l.1 names f.1 n
plain-told ps p (Refused w ∷ c) l names f n = plain-told ps p c l.1 names f.1 n
plain-told ps p (Answered g s k a ∷ c) l names f n =
    let t = told-at ps p g s k a c l names f.1 f.0 in
    (plain-one ps (oldest (queue g c)) a.status (λ e q. n.0 e (t ∙ q)), plain-told ps p c l.1 names f.1 n.1)

pub plain : (ps : List Peer) (w : List happened.Act.Act) (c : List ControllerAct) → IsLawful ps w → Meet ps w c → Named ps → AllCreated w
    → PlainAnswers c
plain ps w c l m names all =
    plain-told ps (length ps) c m.past names m.fit (subst NoneRefused m.part (none-part w (none-refused ps w l all)))

-- ---- a put that is handled

made-reply : (t : Tree) (e : SadEntry) → list_any (is_row e.name) t.sad ≡ false → (is_inbound e.name && has_spi e.spi t.sad) ≡ false
    → is_sad_full t.sad ≡ false
    → (reply t (ask_of (asks.Put e))).status ≡ 201
unfolding reply
made-reply t e name spi full = rw (name, spi, full) refl

put-made : (ps : List Peer) (w : List happened.Act.Act) (c : List ControllerAct) (g : List ℕ) (e : SadEntry) → IsLawful ps w → Meet ps w c
    → Named ps → AllCreated w → is_ready w ≡ true
    → next_request g w ≡ Some (asks.Put e) → (reply (tree_of g w) (ask_of (asks.Put e))).status ≡ 201
put-made ps w c g e l m names all r next =
    made-reply (tree_of g w) e (row-is-live g e.name w ∙ name-free ps g g e w l r next) (spi-free ps g e w l r next)
    (room ps w c g e l m names (plain ps w c l m names all) r next)

-- the answer to the next request, whatever it is
pub next-made : (ps : List Peer) (w : List happened.Act.Act) (c : List ControllerAct) (g : List ℕ) (o : tree.Order.Order) → IsLawful ps w
    → Meet ps w c → Named ps → AllCreated w → is_ready w ≡ true
    → next_request g w ≡ Some o → IsCreated g (session_taken g w) (requests g w + 1) (answer_of (reply (tree_of g w) (ask_of o))) w
next-made ps w c g o l m names all r next = λ e q.
    let k : requests g w + 1 ≡ handled g (session_taken g w) w + 1 = ap (λ (z : ℕ). z + 1) (requests-are g w (numbered ps g w l)) in
    let same : o ≡ asks.Put e = some-is o (asks.Put e) (sym (next-at g (session_taken g w) (requests g w + 1) o w refl k next) ∙ q) in
    subst (λ (z : tree.Order.Order). (reply (tree_of g w) (ask_of z)).status ≡ 201) (sym same)
    (put-made ps w c g e l m names all r (next ∙ ap (λ (z : tree.Order.Order). Some z) same))

-- and nothing else of its block is an answer
pub reply-made : (g : List ℕ) (s k : ℕ) (r : Outcome) (a : Answer) (c : Change) (w : List happened.Act.Act) → IsCreated g s k a w
    → AllCreated w
    → AllCreated (world_past.after w (change_acts g r c ++ acts.Handled g s k a ∷ []))
reply-made g s k r a changes.Nothing w m all = (m, all)
reply-made g s k r a changes.Spd w m all = (m, all)
reply-made g s k r a (changes.Put e) w m all = (m, all)
reply-made g s k r a (changes.Gone x) w m all = (m, all)
