-- The controller stands for a past at first, and after each event.
use Rattle.std.proofs.Common.{◌≡◌, ℕ, ◌+◌, ◌<◌, List, [], ◌∷◌, length, refl, sym, ◌∙◌, ap, subst}
use Rattle.std.specs.Prelude.{All}
use Rattle.ikeless_tree.specs.declared.command.Peer.{Peer}
use Rattle.hist_acts.specs.Past.{after}
use Rattle.hist_controller.specs.Acts.{ControllerAct}
use Rattle.hist_controller.specs.Clauses.{IsControllerPast}
use Rattle.hist_controller.specs.Entries.{OneFamily}
use Rattle.hist_controller.specs.Halves.{PlainAnswers}
use Rattle.hist_controller.specs.Law.{block}
use Rattle.hist_controller.specs.Table.{EventFits}
use Rattle.hist_controller.proofs.Fitting.{fit-block}
use Rattle.ctl_core.specs.declared.acts.CtlEvent.{CtlEvent}
use Rattle.ctl_core.specs.declared.acts.CtlEvent.TheVariants as events
use Rattle.ctl_core.specs.declared.peer.Station.{Station}
use Rattle.ctl_core.specs.Core.{Core, told_nothing}
use Rattle.ctl_core.specs.Step.{stepped}
use Rattle.ctl_law.specs.Stands.{StandsFor, numbered, station_of}
use Rattle.ctl_law.specs.Told.{MayBeTold, all_done, event_of}
use Rattle.live_controller.specs.Standing.{CanBeTold, IsGiven, IsStanding}
use Rattle.live_controller.proofs.Sounding.{IsSoundEvent, block-sound, command-sound}
use Rattle.live_controller.proofs.Ordering.{Faultless, block-given}

-- what the law of steps says
pub record Follows : Type 0 where
  pub acts : (ps : List Peer) (h : List ControllerAct) (c : Core) (e : CtlEvent) → IsControllerPast (length ps) h → PlainAnswers h →
      StandsFor ps h c
      → MayBeTold c e → (stepped c e).acts ≡ all_done ps (block ps h (event_of e))
  pub stands : (ps : List Peer) (h : List ControllerAct) (c : Core) (e : CtlEvent) → IsControllerPast (length ps) h → PlainAnswers h →
      StandsFor ps h c
      → MayBeTold c e → StandsFor ps (after h (block ps h (event_of e))) (stepped c e).core
  pub past : (ps : List Peer) (h : List ControllerAct) (e : CtlEvent) → IsControllerPast (length ps) h
      → IsControllerPast (length ps) (after h (block ps h (event_of e)))
  pub plain : (ps : List Peer) (h : List ControllerAct) (c : Core) (e : CtlEvent) → PlainAnswers h → StandsFor ps h c → MayBeTold c e
      → PlainAnswers (after h (block ps h (event_of e)))

pub begun-stands : ((ps : List Peer) → StandsFor ps [] (told_nothing ps)) → (ps : List Peer) → OneFamily ps → IsStanding ps
    (told_nothing ps)
begun-stands begins ps family = record { past = []; lawful = tt; plain = tt; sound = tt; fits = tt; family = family; stands = begins ps }

-- ---- events

numbered-length : {A : Type 0} (f : ℕ → Peer → A) (g : ℕ) (ps : List Peer) → length (numbered f g ps) ≡ length ps
numbered-length f g [] = refl
numbered-length f g (p ∷ ps) = let ih = numbered-length f (g + 1) ps in rw ih refl

pub stations-known : (ps : List Peer) (h : List ControllerAct) (c : Core) → StandsFor ps h c → length c.stations ≡ length ps
stations-known ps h c s = ap (λ (xs : List Station). length xs) s.gateways ∙ numbered-length (station_of ps h) 0 ps

pub may-be-told : (ps : List Peer) (c : Core) (e : CtlEvent) → IsStanding ps c → CanBeTold ps c e → MayBeTold c e
may-be-told ps c (events.Command command) s can = tt
may-be-told ps c (events.Opened g) s can = let n = stations-known ps s.past c s.stands in let P : ℕ → Type 0 = λ k. g < k in subst P (sym n)
    can
may-be-told ps c (events.Cut g) s can = let n = stations-known ps s.past c s.stands in let P : ℕ → Type 0 = λ k. g < k in subst P (sym n)
    can
may-be-told ps c (events.Answered g a) s can =
    let n = stations-known ps s.past c s.stands in let P : ℕ → Type 0 = λ k. g < k in (subst P (sym n) can.0, can.1)
may-be-told ps c (events.Noticed g n) s can =
    let k = stations-known ps s.past c s.stands in let P : ℕ → Type 0 = λ j. g < j in subst P (sym k) can

sound-event : (ps : List Peer) (c : Core) (e : CtlEvent) → CanBeTold ps c e → IsSoundEvent ps (event_of e)
sound-event ps c (events.Command command) can = command-sound ps command can
sound-event ps c (events.Opened g) can = tt
sound-event ps c (events.Cut g) can = tt
sound-event ps c (events.Answered g a) can = tt
sound-event ps c (events.Noticed g n) can = tt

event-fits : (ps : List Peer) (c : Core) (e : CtlEvent) → CanBeTold ps c e → EventFits (length ps) (event_of e)
event-fits ps c (events.Command command) can = tt
event-fits ps c (events.Opened g) can = can
event-fits ps c (events.Cut g) can = can
event-fits ps c (events.Answered g a) can = can.0
event-fits ps c (events.Noticed g n) can = can

-- ---- steps

pub step-stands : Follows → (ps : List Peer) (c : Core) (e : CtlEvent) → IsStanding ps c → CanBeTold ps c e → IsStanding ps
    (stepped c e).core
step-stands laws ps c e s can =
    let may = may-be-told ps c e s can in
    record {
      past = after s.past (block ps s.past (event_of e));
      lawful = laws.past ps s.past e s.lawful;
      plain = laws.plain ps s.past c e s.plain s.stands may;
      sound = block-sound ps s.past (event_of e) (sound-event ps c e can) s.sound;
      fits = fit-block ps s.past (event_of e) s.fits (event-fits ps c e can);
      family = s.family;
      stands = laws.stands ps s.past c e s.lawful s.plain s.stands may;
    }

pub step-given : Follows → Faultless → (ps : List Peer) (c : Core) (e : CtlEvent) → IsStanding ps c → CanBeTold ps c e
    → All (IsGiven ps) (stepped c e).acts
step-given laws faultless ps c e s can =
    subst (λ z. All (IsGiven ps) z) (sym (laws.acts ps s.past c e s.lawful s.plain s.stands (may-be-told ps c e s can)))
    (block-given faultless ps s.past (event_of e) s.family s.lawful s.fits s.sound (sound-event ps c e can) (event-fits ps c e can))
