-- What is ordered at an event has no fault, and is for a known peer.
use Rattle.std.proofs.Common.{◌≡◌, ℕ, ◌+◌, ◌≤◌, Bool, true, false, List, [], ◌∷◌, ◌++◌, length, Option, Some, None, inl, refl, sym, subst, if◌then◌else◌}
use Rattle.std.specs.Prelude.{All}
use Rattle.std.proofs.lemmas.List.Elements.{All-cons, All-nil}
use Rattle.ikeless_tree.specs.Check.{is_sad_name, sad_fault, spd_fault}
use Rattle.ikeless_tree.specs.Half.{in_name, out_name}
use Rattle.ikeless_tree.specs.declared.command.Peer.{Peer}
use Rattle.ikeless_tree.specs.declared.command.Refusal.{Refusal}
use Rattle.ikeless_tree.specs.declared.entry.SpdEntry.{SpdEntry}
use Rattle.ikeless_tree.specs.declared.order.Answer.{Answer}
use Rattle.hist_controller.specs.Acts.{Association, ControllerOrder, Read, Policy, PutIn, PutOut, RemoveIn, RemoveOut, PlacedCommand, ControllerAct, Opened, Cut, Answered, Heard, Ordered, Accepted, Refused, ControllerEvent, Told, Opens, Cuts, Answers, Notices}
use Rattle.hist_controller.specs.Clauses.{ControllerMayActAll, IsControllerPast}
use Rattle.hist_controller.specs.Entries.{OneFamily, SoundCommands}
use Rattle.hist_controller.specs.Law.{asked, asked_then, block, by_answer, by_refusal, going, placed_command, refusal}
use Rattle.hist_controller.specs.Orders.{WasOrdered}
use Rattle.hist_controller.specs.Past.{answered, is_open, openings, queue}
use Rattle.hist_controller.specs.Table.{AllFit, EventFits, Fits}
use Rattle.hist_controller.specs.Told.{in_entry, order_told, out_entry}
use Rattle.hist_controller.proofs.Clauses.{may-block}
use Rattle.hist_controller.proofs.Fitting.{OpenFits, act-fits}
use Rattle.hist_safety.proofs.Basics.{no}
use Rattle.hist_world.proofs.Controls.{are_orders, then-orders}
use Rattle.rc_resource.specs.Messages.{IsOrder}
use Rattle.ctl_core.specs.declared.acts.CtlAct.TheVariants as done
use Rattle.ctl_law.specs.Told.{all_done, done_at}
use Rattle.live_controller.specs.Standing.{IsGiven}
use Rattle.live_controller.proofs.Sounding.{IsSoundEvent}

-- what the laws say of orders
pub record Faultless : Type 0 where
  pub inbound : (ps : List Peer) (h : List ControllerAct) → IsControllerPast (length ps) h → SoundCommands h → OneFamily ps → (g : ℕ)
      (x : Association)
      → WasOrdered (PutIn x) g h → (sad_fault (in_entry ps x) ≡ None) × (257 ≤ (in_entry ps x).spi) × ((in_entry ps x).spi ≤ 1048832)
  pub outbound : (ps : List Peer) (h : List ControllerAct) → IsControllerPast (length ps) h → SoundCommands h → OneFamily ps → (g : ℕ)
      (x : Association)
      → WasOrdered (PutOut x) g h → (sad_fault (out_entry ps x) ≡ None) × (257 ≤ (out_entry ps x).spi) × ((out_entry ps x).spi ≤ 1048832)
  pub list : (p : ℕ) (h : List ControllerAct) → IsControllerPast p h → SoundCommands h → (g : ℕ) (l : List SpdEntry) → WasOrdered (Policy l)
      g h
      → spd_fault l ≡ None
  pub in_name : (p : ℕ) (h : List ControllerAct) → IsControllerPast p h → (g n : ℕ) → WasOrdered (RemoveIn n) g h → is_sad_name (in_name n)
      ≡ true
  pub out_name : (p : ℕ) (h : List ControllerAct) → IsControllerPast p h → (g n : ℕ) → WasOrdered (RemoveOut n) g h → is_sad_name
      (out_name n) ≡ true

order-good : Faultless → (ps : List Peer) (h : List ControllerAct) (g s n : ℕ) (o : ControllerOrder) → IsControllerPast (length ps)
    (Ordered g s n o ∷ h)
    → SoundCommands h → OneFamily ps → IsOrder (order_told ps o)
order-good laws ps h g s n Read past sound family = tt
order-good laws ps h g s n (Policy l) past sound family = laws.list (length ps) (Ordered g s n (Policy l) ∷ h) past sound g l
    (inl (refl, refl))
order-good laws ps h g s n (PutIn x) past sound family = (laws.inbound ps (Ordered g s n (PutIn x) ∷ h) past sound family g x
    (inl (refl, refl))).0
order-good laws ps h g s n (PutOut x) past sound family = (laws.outbound ps (Ordered g s n (PutOut x) ∷ h) past sound family g x
    (inl (refl, refl))).0
order-good laws ps h g s n (RemoveIn m) past sound family = laws.in_name (length ps) (Ordered g s n (RemoveIn m) ∷ h) past g m
    (inl (refl, refl))
order-good laws ps h g s n (RemoveOut m) past sound family = laws.out_name (length ps) (Ordered g s n (RemoveOut m) ∷ h) past g m
    (inl (refl, refl))

-- a past of the law, in which each command has no fault and each act speaks of a known peer
record Good (ps : List Peer) (h : List ControllerAct) : Type 0 where
  pub past : IsControllerPast (length ps) h
  pub fits : AllFit (length ps) h
  pub sound : SoundCommands h

orders-given : Faultless → (ps : List Peer) (h xs : List ControllerAct) → OneFamily ps → Good ps h → ControllerMayActAll (length ps) h xs
    → are_orders xs ≡ true → All (IsGiven ps) (all_done ps xs)
orders-given laws ps h [] family good may e = All-nil (IsGiven ps)
orders-given laws ps h (Ordered g s n o ∷ xs) family good may e =
    let past : IsControllerPast (length ps) (Ordered g s n o ∷ h) = (may.0, good.past) in
    let fit : Fits (length ps) (Ordered g s n o) = act-fits (length ps) h (Ordered g s n o) good.fits may.0 tt in
    All-cons (IsGiven ps) (done.Order g (order_told ps o)) (all_done ps xs) (fit, order-good laws ps h g s n o past good.sound family)
    (orders-given laws ps (Ordered g s n o ∷ h) xs family (record { past = past; fits = (fit, good.fits); sound = good.sound }) may.1 e)
orders-given laws ps h (Opened f k ∷ xs) family good may e = absurd (no e)
orders-given laws ps h (Cut f k ∷ xs) family good may e = absurd (no e)
orders-given laws ps h (Answered f k n a ∷ xs) family good may e = absurd (no e)
orders-given laws ps h (Heard f k t ∷ xs) family good may e = absurd (no e)
orders-given laws ps h (Accepted c ∷ xs) family good may e = absurd (no e)
orders-given laws ps h (Refused w ∷ xs) family good may e = absurd (no e)

-- an act by which nothing is done, and the orders behind it
going-given : Faultless → (ps : List Peer) (h : List ControllerAct) (a : ControllerAct) → OneFamily ps → Good ps h → SoundCommands (a ∷ h)
    → OpenFits (length ps) a → done_at ps a ≡ [] → ControllerMayActAll (length ps) h (going h a) → All (IsGiven ps)
    (all_done ps (going h a))
going-given laws ps h a family good sound unended none may =
    let rest : List ControllerAct = asked_then (a ∷ h) (asked (a ∷ h) a) in
    let next : Good ps (a ∷ h) = record {
      past = (may.0, good.past);
      fits = (act-fits (length ps) h a good.fits may.0 unended, good.fits);
      sound = sound;
    } in
    subst (λ z. All (IsGiven ps) (z ++ all_done ps rest)) (sym none) (orders-given laws ps (a ∷ h) rest family next may.1 (then-orders h a))

command-given : Faultless → (ps : List Peer) (h : List ControllerAct) (c : PlacedCommand) (r : Option Refusal) → OneFamily ps → Good ps h
    → SoundCommands (Accepted c ∷ h) → ControllerMayActAll (length ps) h (by_refusal h c r) → All (IsGiven ps)
    (all_done ps (by_refusal h c r))
command-given laws ps h c None family good sound may = going-given laws ps h (Accepted c) family good sound tt refl may
command-given laws ps h c (Some w) family good sound may = All-cons (IsGiven ps) (done.Refused w) [] tt (All-nil (IsGiven ps))

answer-given : Faultless → (ps : List Peer) (h : List ControllerAct) (g : ℕ) (a : Answer) (q : List ControllerOrder) → OneFamily ps → Good
    ps h
    → ControllerMayActAll (length ps) h (by_answer h g a q) → All (IsGiven ps) (all_done ps (by_answer h g a q))
answer-given laws ps h g a [] family good may = All-nil (IsGiven ps)
answer-given laws ps h g a (o ∷ os) family good may =
    going-given laws ps h (Answered g (openings g h) (answered g h + 1) a) family good good.sound tt refl may

else-given : Faultless → (ps : List Peer) (h : List ControllerAct) (a : ControllerAct) (b : Bool) → OneFamily ps → Good ps h → SoundCommands
    (a ∷ h)
    → OpenFits (length ps) a → done_at ps a ≡ [] → ControllerMayActAll (length ps) h (if b then [] else going h a)
    → All (IsGiven ps) (all_done ps (if b then [] else going h a))
else-given laws ps h a true family good sound unended none may = All-nil (IsGiven ps)
else-given laws ps h a false family good sound unended none may = going-given laws ps h a family good sound unended none may

then-given : Faultless → (ps : List Peer) (h : List ControllerAct) (a : ControllerAct) (b : Bool) → OneFamily ps → Good ps h → SoundCommands
    (a ∷ h)
    → OpenFits (length ps) a → done_at ps a ≡ [] → ControllerMayActAll (length ps) h (if b then going h a else [])
    → All (IsGiven ps) (all_done ps (if b then going h a else []))
then-given laws ps h a true family good sound unended none may = going-given laws ps h a family good sound unended none may
then-given laws ps h a false family good sound unended none may = All-nil (IsGiven ps)

block-by : Faultless → (ps : List Peer) (h : List ControllerAct) (e : ControllerEvent) → OneFamily ps → Good ps h → IsSoundEvent ps e
    → EventFits (length ps) e → All (IsGiven ps) (all_done ps (block ps h e))
block-by laws ps h (Told c) family good is fits =
    command-given laws ps h (placed_command ps c) (refusal (length ps) h (placed_command ps c)) family good (is, good.sound)
    (may-block ps h (Told c))
block-by laws ps h (Opens g) family good is fits =
    else-given laws ps h (Opened g (openings g h + 1)) (is_open g h) family good good.sound fits refl (may-block ps h (Opens g))
block-by laws ps h (Cuts g) family good is fits =
    then-given laws ps h (Cut g (openings g h)) (is_open g h) family good good.sound tt refl (may-block ps h (Cuts g))
block-by laws ps h (Answers g a) family good is fits = answer-given laws ps h g a (queue g h) family good (may-block ps h (Answers g a))
block-by laws ps h (Notices g t) family good is fits =
    then-given laws ps h (Heard g (openings g h) t) (is_open g h) family good good.sound tt refl (may-block ps h (Notices g t))

pub block-given : Faultless → (ps : List Peer) (h : List ControllerAct) (e : ControllerEvent) → OneFamily ps → IsControllerPast (length ps)
    h
    → AllFit (length ps) h → SoundCommands h → IsSoundEvent ps e → EventFits (length ps) e → All (IsGiven ps) (all_done ps (block ps h e))
block-given laws ps h e family past fits sound is fit = block-by laws ps h e family (record { past = past; fits = fits; sound = sound }) is
    fit
