-- What may happen after what happened: the conditions that safety stands on, each weaker than or equal to what the laws
-- of gateways, sessions and the controller give. A past has its newest act first.
use Rattle.std.specs.Prelude.{◌≡◌, ℕ, ◌+◌, ◌≤◌, true, false, Bool, List, [], ◌∷◌, decimal, ◌⊎◌, Some}
use Rattle.std.specs.Str.{bytes_eq}
use Rattle.ikl_base.specs.Address.{AreOneFamily}
use Rattle.ikeless_tree.specs.declared.sad.SadEntry.{SadEntry}
use Rattle.ikeless_tree.specs.declared.command.Peer.{Peer}
use Rattle.ikeless_tree.specs.declared.order.Order.{Order}
use Rattle.ikeless_tree.specs.declared.order.Order.TheVariants as asks
use Rattle.ikeless_tree.specs.declared.order.Answer.{Answer}
use Rattle.ikeless_tree.specs.declared.drops.DropWhy.{DropWhy}
use Rattle.ikeless_tree.specs.declared.ends.GoneWhy.TheVariants as gone
use Rattle.ikeless_tree.specs.Half.{aes_part, in_half, out_half}
use Rattle.hist_acts.specs.declared.act.Act.{Act}
use Rattle.hist_acts.specs.declared.act.Act.TheVariants as acts
use Rattle.hist_acts.specs.Sessions.{answer_at, answered, handled, is_open, next_request, openings, orders, session_taken}
use Rattle.hist_halves.specs.Sealed.{is_opened}
use Rattle.hist_halves.specs.Halves.{is_live}
use Rattle.hist_safety.specs.Clear.{ClearIsLet}
use Rattle.hist_safety.specs.Orders.{inbounds, is_removal_ordered, is_key_used, is_removal_answered, is_put_accepted, mirrored, order_of, was_order_given, site}
use Rattle.hist_safety.specs.Carried.{Delivers, IsGenuine, IsOpened, IsUndelivered, Sends}

-- ---- orders

-- A put of an inbound half: the N-th has the serial number N, the SPI 256 + N and a key of its own. There are at most
-- 1,048,576 keys. Both ends of its tunnel have whole addresses of one family.
pub record PutInMayHappen (e : SadEntry) (h : List Act) : Type 0 where
  pub name : e.name ≡ in_half (decimal (inbounds h + 1))
  pub few : inbounds h + 1 ≤ 1048576
  pub spi : e.spi ≡ 256 + (inbounds h + 1)
  pub key : is_key_used (aes_part e.key) h ≡ false
  pub ends : AreOneFamily e.local e.remote

-- A put of an outbound half, once, at another gateway: the put of its inbound half was answered and not refused, and no removal of
-- that half was ordered. Both have one key and one SPI, and mirrored selectors and ends.
pub record PutOutMayHappen (g : List ℕ) (e : SadEntry) (h : List Act) : Type 0 where
  pub serial : List ℕ
  pub name : e.name ≡ out_half serial
  pub once : was_order_given (out_half serial) h ≡ false
  pub inbound : SadEntry
  pub order : order_of (in_half serial) h ≡ Some inbound
  pub key : e.key ≡ inbound.key
  pub spi : e.spi ≡ inbound.spi
  pub selector : inbound.selector ≡ mirrored e.selector
  pub local : e.local ≡ inbound.remote
  pub remote : e.remote ≡ inbound.local
  pub elsewhere : bytes_eq (site (in_half serial) h) g ≡ false
  pub made : is_put_accepted (in_half serial) h ≡ true
  pub stays : is_removal_ordered (in_half serial) h ≡ false

-- A removal of a half, at the gateway where its put was ordered. That of an inbound half comes only where its outbound
-- half was never ordered, or a removal of that was answered.
pub record RemoveOutMayHappen (g x : List ℕ) (h : List Act) : Type 0 where
  pub serial : List ℕ
  pub name : x ≡ out_half serial
  pub order : was_order_given x h ≡ true
  pub here : g ≡ site x h

-- the removal of an inbound half, once nothing more can be sealed under its outbound half
pub record RemoveInMayHappen (g x : List ℕ) (h : List Act) : Type 0 where
  pub serial : List ℕ
  pub name : x ≡ in_half serial
  pub order : was_order_given x h ≡ true
  pub here : g ≡ site x h
  pub last : (was_order_given (out_half serial) h ≡ false) ⊎ (is_removal_answered (out_half serial) h ≡ true)

-- Readings and lists of policies may be ordered at any time, halves only where the conditions above hold.
abbrev pub OrderMayHappen : List ℕ → Order → List Act → Type 0
OrderMayHappen g asks.Read h = Unit {0}
OrderMayHappen g (asks.Policy list) h = Unit {0}
OrderMayHappen g (asks.Put e) h = PutInMayHappen e h ⊎ PutOutMayHappen g e h
OrderMayHappen g (asks.Remove x) h = RemoveInMayHappen g x h ⊎ RemoveOutMayHappen g x h

-- ---- questions and answers

-- No question waits for its answer. A packet that came, and a change that a request made, have theirs directly after them.
abbrev pub is_ready : List Act → Bool
is_ready (acts.Let f o ∷ h) = false
is_ready (acts.Arrived f o ∷ h) = false
is_ready (acts.Policy f list ∷ h) = false
is_ready (acts.Put f e ∷ h) = false
is_ready (acts.Gone f x gone.Removed ∷ h) = false
is_ready _ = true

-- an answer with no change before it: a put is refused, and what is removed isn't there
abbrev pub IsPlainAnswer : List ℕ → Order → Answer → List Act → Type 0
IsPlainAnswer g asks.Read a h = Unit {0}
IsPlainAnswer g (asks.Policy list) a h = Unit {0}
IsPlainAnswer g (asks.Put e) a h = 400 ≤ a.status
IsPlainAnswer g (asks.Remove x) a h = is_live g x h ≡ false

-- the answer to an order: the change that it made stands directly before it, or it made none
abbrev pub IsAnswer : List ℕ → Order → Answer → List Act → Type 0
IsAnswer g (asks.Policy list) a (acts.Policy f l ∷ h) = f ≡ g
IsAnswer g (asks.Put e) a (acts.Put f d ∷ h) = (f ≡ g) × (d ≡ e)
IsAnswer g (asks.Remove x) a (acts.Gone f y gone.Removed ∷ h) = (f ≡ g) × (y ≡ x)
IsAnswer g o a h = (is_ready h ≡ true) × IsPlainAnswer g o a h

-- directly after the packet from inside that it answers
abbrev pub SendMayHappen : List ℕ → List ℕ → ℕ → List ℕ → List Act → Type 0
SendMayHappen g x n o (acts.Let f p ∷ h) = (f ≡ g) × Sends g x n p o h
SendMayHappen g x n o _ = ⊥

-- Directly after the datagram from outside that it answers. A forged one has no answer: what happens ends with it.
abbrev pub GiveMayHappen : List Peer → List ℕ → List ℕ → ℕ → List ℕ → List Act → Type 0
GiveMayHappen gateways g x n p (acts.Arrived f o ∷ h) = (f ≡ g) × IsGenuine gateways g o h × Delivers gateways g o x n p h
GiveMayHappen gateways g x n p _ = ⊥

-- a datagram from outside is given inside as it came, directly after its arrival, which isn't forged and delivers nothing
abbrev pub PassMayHappen : List Peer → List ℕ → List Act → Type 0
PassMayHappen gateways g (acts.Arrived f o ∷ h) = (f ≡ g) × IsGenuine gateways g o h × IsUndelivered gateways g o h
PassMayHappen gateways g _ = ⊥

-- its tag was right where the reason says so
abbrev pub DropMayHappen : List Peer → List ℕ → DropWhy → List Act → Type 0
DropMayHappen gateways g why (acts.Let f o ∷ h) = f ≡ g
DropMayHappen gateways g why (acts.Arrived f o ∷ h) =
    (f ≡ g) × IsGenuine gateways g o h × IsUndelivered gateways g o h × (is_opened why ≡ true → IsOpened gateways g o h)
DropMayHappen gateways g why _ = ⊥

-- ---- the law

-- The act may follow these, by its kind. One without a case of its own needs only that no question waits for its answer.
abbrev pub MayHappen : List Peer → Act → List Act → Type 0
MayHappen gateways (acts.Opened g s) h = (is_ready h ≡ true) × (s ≡ openings g h + 1)
MayHappen gateways (acts.Cut g s) h = (is_ready h ≡ true) × (is_open g h ≡ true) × (s ≡ openings g h)
MayHappen gateways (acts.Order g s k o) h = (is_ready h ≡ true) × (is_open g h ≡ true) × (s ≡ openings g h) × (k ≡ orders g s h + 1)
    × OrderMayHappen g o h
MayHappen gateways (acts.Handled g s k a) h = (s ≡ session_taken g h) × (k ≡ handled g s h + 1)
    × ((o : Order) × (next_request g h ≡ Some o) × IsAnswer g o a h)
MayHappen gateways (acts.Answered g s k a) h = (is_ready h ≡ true) × (is_open g h ≡ true) × (s ≡ openings g h) × (k ≡ answered g s h + 1)
    × (answer_at g s k h ≡ Some a)
MayHappen gateways (acts.Policy g list) h = (is_ready h ≡ true) × (next_request g h ≡ Some (asks.Policy list))
MayHappen gateways (acts.Put g e) h = (is_ready h ≡ true) × (next_request g h ≡ Some (asks.Put e))
MayHappen gateways (acts.Gone g x gone.Removed) h = (is_ready h ≡ true) × (next_request g h ≡ Some (asks.Remove x))
MayHappen gateways (acts.Gone g x gone.Hard) h = is_ready h ≡ true
MayHappen gateways (acts.Clear g o) h = ClearIsLet h g o
MayHappen gateways (acts.Sent g x n o) h = SendMayHappen g x n o h
MayHappen gateways (acts.Gave g x n p) h = GiveMayHappen gateways g x n p h
MayHappen gateways (acts.Pass g o) h = PassMayHappen gateways g h
MayHappen gateways (acts.Drop g why) h = DropMayHappen gateways g why h
MayHappen gateways _ h = is_ready h ≡ true

-- each act may happen after those before it
abbrev pub IsLawful : List Peer → List Act → Type 0
IsLawful gateways [] = Unit {0}
IsLawful gateways (a ∷ h) = MayHappen gateways a h × IsLawful gateways h

-- Acts that may happen in their order after a past, each after those before it.
abbrev pub AllMayHappen : List Peer → List Act → List Act → Type 0
AllMayHappen gateways h [] = Unit {0}
AllMayHappen gateways h (a ∷ more) = MayHappen gateways a h × AllMayHappen gateways (a ∷ h) more

-- What happened is whole: each question has its answer, but for a forged arrival at the end.
abbrev pub IsWhole : List Peer → List Act → Type 0
IsWhole gateways (acts.Arrived g o ∷ h) = IsGenuine gateways g o h → ⊥
IsWhole gateways h = is_ready h ≡ true
