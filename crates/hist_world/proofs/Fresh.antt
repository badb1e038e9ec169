-- A put that a gateway handles next is of a half whose name and SPI no live half there has, and live halves have names of
-- their own.
use Rattle.std.proofs.Common.{◌≡◌, ℕ, ◌+◌, Bool, true, false, ◌==◌, ◌&&◌, List, [], ◌∷◌, ◌++◌, map, Some, refl, sym, ◌∙◌, ap, subst, inl, inr, if◌then◌else◌}
use Rattle.std.proofs.lemmas.Bool.{false_from_ne_true}
use Rattle.std.specs.Str.{bytes_eq}
use Rattle.ikeless_tree.specs.declared.sad.SadEntry.{SadEntry}
use Rattle.ikeless_tree.specs.declared.command.Peer.{Peer}
use Rattle.ikeless_tree.specs.declared.order.Order.TheVariants as asks
use Rattle.ikeless_tree.specs.Half.{is_inbound, in_half}
use Rattle.reply_table.specs.Reply.{has_spi}
use Rattle.hist_acts.specs.declared.act.Act.{Act}
use Rattle.hist_acts.specs.declared.act.Act.TheVariants as acts
use Rattle.hist_acts.specs.Sessions.{handled, next_request, session_taken}
use Rattle.hist_halves.specs.Halves.{is_live, live, put_of, without}
use Rattle.hist_gateway.specs.May.{are_apart, has_half}
use Rattle.hist_gateway.specs.Rows.{row_of, tree_of}
use Rattle.hist_gateway.proofs.LiveHalves.{apart-more, apart-without}
use Rattle.hist_gateway.proofs.PlainReadings.{live-is}
use Rattle.hist_safety.specs.Kept.{IsOneOf}
use Rattle.hist_safety.specs.Law.{IsLawful, is_ready}
use Rattle.hist_safety.specs.Orders.{order_of}
use Rattle.hist_safety.proofs.Basics.{no, both-left, both-right, eq-nat, or-split}
use Rattle.hist_safety.proofs.Halves.{live-was}
use Rattle.hist_safety.proofs.Live.{stands}
use Rattle.hist_safety.proofs.Once.{put-once}
use Rattle.hist_safety.proofs.Orders.{place, put-order, put-was}
use Rattle.hist_safety.proofs.Pairs.{inbound, numbered, one-spi}
use Rattle.hist_safety.proofs.Sessions.{next-is}

-- ---- the name

pub name-free : (gs : List Peer) (g f : List ℕ) (e : SadEntry) (h : List Act) → IsLawful gs h → is_ready h ≡ true
    → next_request f h ≡ Some (asks.Put e) → is_live g e.name h ≡ false
name-free gs g f e h l r n = false_from_ne_true (is_live g e.name h) (λ q. no (sym (put-once gs g f e h l r n) ∙ live-was g e.name h q))

-- ---- the SPI

-- one of the halves is inbound and has the SPI
abbrev IsTaken : ℕ → List SadEntry → Type 0
IsTaken spi es = (d : SadEntry) × IsOneOf d es × (is_inbound d.name ≡ true) × (d.spi ≡ spi)

spi-row : (g : List ℕ) (h : List Act) (spi : ℕ) (es : List SadEntry) → has_spi spi (map (row_of g h) es) ≡ true → IsTaken spi es
spi-row g h spi [] q = absurd (no q)
spi-row g h spi (d ∷ es) q =
    or-split {A = IsTaken spi (d ∷ es)} (is_inbound d.name && (d.spi == spi)) (has_spi spi (map (row_of g h) es))
    (λ b. (d, inl refl, both-left (is_inbound d.name) (d.spi == spi) b, eq-nat d.spi spi (both-right (is_inbound d.name) (d.spi == spi) b)))
    (λ b. let t = spi-row g h spi es b in (t.0, inr t.1, t.2, t.3)) q

-- two inbound halves with one SPI have one name, and that of the put is free
spi-not : (gs : List Peer) (g : List ℕ) (e : SadEntry) (h : List Act) → IsLawful gs h → is_ready h ≡ true
    → next_request g h ≡ Some (asks.Put e) → is_inbound e.name ≡ true
    → IsTaken e.spi (live g h) → ⊥
spi-not gs g e h l r n b t =
    let st = stands gs g t.0 h l t.1 in
    let w = put-order gs g t.0.name t.0 h l st.0 in
    let p = place gs g (session_taken g h) (handled g (session_taken g h) h + 1) e h l (next-is g (asks.Put e) h n) in
    let u = inbound gs t.0.name h l w.1 t.2 in
    let v = inbound gs e.name h l p.0 b in
    let i = numbered gs u.0 t.0 h l (subst (λ (z : List ℕ). order_of z h ≡ Some t.0) u.1 w.3) in
    let j = numbered gs v.0 e h l (subst (λ (z : List ℕ). order_of z h ≡ Some e) v.1 p.4) in
    let same : u.0 ≡ v.0 = one-spi u.0 v.0 t.0 e i j t.3 in
    let name : t.0.name ≡ e.name = u.1 ∙ ap in_half same ∙ sym v.1 in
    no (sym (put-once gs g g e h l r n) ∙ put-was g e.name t.0 h (subst (λ (z : List ℕ). put_of g z h ≡ Some t.0) name st.0))

pub spi-free : (gs : List Peer) (g : List ℕ) (e : SadEntry) (h : List Act) → IsLawful gs h → is_ready h ≡ true
    → next_request g h ≡ Some (asks.Put e)
    → (is_inbound e.name && has_spi e.spi (tree_of g h).sad) ≡ false
spi-free gs g e h l r n =
    false_from_ne_true (is_inbound e.name && has_spi e.spi (tree_of g h).sad) (λ q.
    spi-not gs g e h l r n (both-left (is_inbound e.name) (has_spi e.spi (tree_of g h).sad) q)
    (spi-row g h e.spi (live g h) (both-right (is_inbound e.name) (has_spi e.spi (tree_of g h).sad) q)))

-- ---- live halves have names of their own

apart-if : (b : Bool) (xs ys : List SadEntry) → are_apart xs ≡ true → are_apart ys ≡ true → are_apart (if b then xs else ys) ≡ true
apart-if true xs ys p q = p
apart-if false xs ys p q = q

pub live-apart : (gs : List Peer) (g : List ℕ) (h : List Act) → IsLawful gs h → are_apart (live g h) ≡ true
live-apart gs g [] l = refl
live-apart gs g (acts.Put f e ∷ h) l =
    let ih = live-apart gs g h l.1 in
    let new : has_half e.name (live g h) ≡ false = live-is g e.name h ∙ name-free gs g f e h l.1 l.0.0 l.0.1 in
    apart-if (bytes_eq f g) (live g h ++ e ∷ []) (live g h) (apart-more e (live g h) new ih) ih
live-apart gs g (acts.Gone f x w ∷ h) l =
    let ih = live-apart gs g h l.1 in
    apart-if (bytes_eq f g) (without x (live g h)) (live g h) (apart-without x (live g h) ih) ih
live-apart gs g (acts.Boot f ∷ h) l = apart-if (bytes_eq f g) [] (live g h) refl (live-apart gs g h l.1)
live-apart gs g (a ∷ h) l = live-apart gs g h l.1
