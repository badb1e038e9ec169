-- What a gateway node served goes on turn by turn.
use Rattle.std.proofs.Common.{◌≡◌, ◌≤◌, ◌+◌, ℕ, List, [], ◌∷◌, ◌++◌, Option, Some, None, refl, sym, ap, subst, ◌∙◌, add-one}
use Rattle.ikl_base.specs.Outside.{HasRisen}
use Rattle.rc_http.specs.Feeding.{Feeding}
use Rattle.live_devices.specs.Clocks as clocks
use Rattle.live_devices.specs.Clocks.{reading, readings_after}
use Rattle.live_devices.proofs.Reading.{makes-same, some-same}
use Rattle.gw_packets.specs.declared.done.Config.{Config}
use Rattle.gw_core.specs.Machine.{Core, booted}
use Rattle.live_gateway.specs.Carried.{Devices}
use Rattle.live_gateway.specs.Past.{Accepted, Broken, Came_in, Inside, Item, Message, Outside, Seconds}
use Rattle.live_gateway.specs.Found.{AreReadings, readings_of}
use Rattle.live_gateway.specs.Stands.{AreTaken, AreTurns, Calls, IsHeld, Served, Stands, Stood, called}
use Rattle.live_gateway.proofs.Standing.{ReadersHold, calm-front, session-held, session-none}

-- ---- the clock

none-some : {T : Type 0} (b : T) → None ≡ Some b → ⊥
none-some b e = let no : ⊥ = cc in no

clock-on : (a b : Option (List ℕ)) (now : ℕ) → clocks.Tells a b now → (r : List ℕ) → a ≡ Some r → (now ≡ reading r)
    × (b ≡ Some (readings_after r))
clock-on None b now t r e = absurd (none-some r e)
clock-on (Some a) None now t r e = absurd t
clock-on (Some a) (Some b) now t r e =
    let same = some-same a r e in (t.0 ∙ ap reading same, ap Some (t.1 ∙ ap readings_after same))

readings-taken : (more past : List Item) (r : List ℕ) → AreTaken more → readings_of (more ++ past) r ≡ readings_of past r
readings-taken [] past r t = refl
readings-taken (Message m ∷ more) past r t = readings-taken more past r t
readings-taken (Broken f ∷ more) past r t = readings-taken more past r t
readings-taken (Seconds n ∷ more) past r t = absurd t
readings-taken (Inside d ∷ more) past r t = absurd t
readings-taken (Outside d ∷ more) past r t = absurd t
readings-taken (Accepted b ∷ more) past r t = absurd t
readings-taken (Came_in c ∷ more) past r t = absurd t

are-taken : (more past : List Item) (r : List ℕ) → AreTaken more → AreReadings past r → AreReadings (more ++ past) r
are-taken [] past r t a = a
are-taken (Message m ∷ more) past r t a = are-taken more past r t a
are-taken (Broken f ∷ more) past r t a = are-taken more past r t a
are-taken (Seconds n ∷ more) past r t a = absurd t
are-taken (Inside d ∷ more) past r t a = absurd t
are-taken (Outside d ∷ more) past r t a = absurd t
are-taken (Accepted b ∷ more) past r t a = absurd t
are-taken (Came_in c ∷ more) past r t a = absurd t

-- the readings so far, and what the clock tells then
abbrev pub IsRead : Option (List ℕ) → Option (List ℕ) → List Item → Type 0
IsRead start now past = (readings : List ℕ) → start ≡ Some readings → AreReadings past readings × (now ≡ Some (readings_of past readings))

pub reads-on : (start old new : Option (List ℕ)) (past more : List Item) (t : Calls) → IsRead start old past → clocks.Tells old new t.now
    → AreTaken more
    → IsRead start new (more ++ called t past)
reads-on start old new past more t so tells taken = λ r e.
    let before = so r e in
    let now = clock-on old new t.now tells (readings_of past r) before.1 in (
      are-taken more (called t past) r taken (now.0, before.0),
      now.1 ∙ ap Some (sym (readings-taken more (called t past) r taken)),
    )

-- ---- turns

-- what was served so far
pub record SoFar (c : Config) (turns : ℕ) (start now : Devices) (clock clock' : Option (List ℕ)) (gateway : Core)
    (session : Option Feeding) : Type 0 where
  pub past : List Item
  pub turned : AreTurns turns past
  pub readings : IsRead clock clock' past
  pub stood : Stood c start past [] now gateway session

pub turns-none : (c : Config) (start : Devices) (clock : Option (List ℕ)) → SoFar c 0 start start clock clock (booted c) None
turns-none c start clock = record {
  past = [];
  turned = refl;
  readings = λ r e. (tt, e);
  stood = record {
    core = refl;
    inside = makes-same start.inside;
    outside = makes-same start.outside;
    dock = makes-same start.dock;
    calls = tt;
    session = session-none;
  };
}

pub turns-first : (g : Core) (start : Devices) (clock : Option (List ℕ)) → g ≡ booted g.config
    → SoFar g.config 0 start start clock clock g None
turns-first g start clock e = subst (λ (h : Core). SoFar g.config 0 start start clock clock h None) (sym e)
    (turns-none g.config start clock)

-- one turn more
abbrev pub TurnGoes : Devices → Devices → Option (List ℕ) → Option (List ℕ) → Core → Core → Option Feeding → Option Feeding → Type 0
TurnGoes old new clock clock' g g' s s' = (c : Config) (start : Devices) (past : List Item) → Stands c start past [] old g s
    → (t : Calls) × (more : List Item) × AreTaken more × Stands c start (more ++ called t past) [] new g' s'
    × clocks.Tells clock clock' t.now

pub turns-on : ReadersHold → (c : Config) (n : ℕ) (start old new : Devices) (clock mid clock' : Option (List ℕ)) (g g' : Core)
    (s s' : Option Feeding)
    → start.faults ≤ old.faults → old.faults ≤ new.faults → TurnGoes old new mid clock' g g' s s'
    → ((HasRisen start.faults old.faults → ⊥) → SoFar c n start old clock mid g s)
    → (HasRisen start.faults new.faults → ⊥) → SoFar c (n + 1) start new clock clock' g' s'
turns-on law c n start old new clock mid clock' g g' s s' low on goes so calm =
    let before = so (calm-front start.faults old.faults new.faults on calm) in
    let step = goes c start before.past (record { later = low; stood = λ quiet. before.stood }) in
    let after = step.3.stood calm in
    let held : IsHeld (step.1 ++ called step.0 before.past) = session-held law s' (step.1 ++ called step.0 before.past) after.session in
    record {
      past = step.1 ++ called step.0 before.past;
      turned = subst (λ (k : ℕ). AreTurns k (step.1 ++ called step.0 before.past)) (sym (add-one n))
          (before.past, step.0, step.1, before.turned, refl, step.2, held);
      readings = reads-on clock mid clock' before.past step.1 step.0 before.readings step.4 step.2;
      stood = after;
    }

pub served : (c : Config) (n : ℕ) (start now : Devices) (clock clock' : Option (List ℕ)) (g : Core) (s : Option Feeding)
    → SoFar c n start now clock clock' g s → Served c n start now clock clock'
served c n start now clock clock' g s so = record {
  past = so.past;
  turned = so.turned;
  calls = so.stood.calls;
  readings = so.readings;
  inside = so.stood.inside;
  outside = so.stood.outside;
  dock = so.stood.dock;
}
