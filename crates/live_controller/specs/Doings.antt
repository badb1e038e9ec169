-- What is done at an event: orders are written to the peers, unless a call of theirs fails.
use Rattle.std.specs.Prelude.{◌≡◌, ◌<◌, ◌≤◌, ℕ, true, List, length, Option, Some, None, slice_get}
use Rattle.ikl_base.specs.Outside.{HasRisen}
use Rattle.ikeless_tree.specs.declared.command.Peer.{Peer}
use Rattle.live_devices.specs.Dialers.{PeerHeld}
use Rattle.live_devices.specs.Reads.{Makes}
use Rattle.ctl_core.specs.declared.acts.CtlAct.{CtlAct}
use Rattle.ctl_core.specs.declared.acts.CtlAct.TheVariants as done
use Rattle.ctl_core.specs.declared.acts.CtlEvent.{CtlEvent}
use Rattle.ctl_core.specs.Core.{Core, is_open_at}
use Rattle.ctl_core.specs.Step.{stepped}
use Rattle.live_controller.specs.declared.desk.Desk.{Desk}
use Rattle.live_controller.specs.declared.link.Link.{Link}
use Rattle.live_controller.specs.Links.{up_at}
use Rattle.live_controller.specs.Past.{open_by}
use Rattle.live_controller.specs.Found.{after_orders, hung_by}

-- ---- counts of faults, and what is told

-- no count has fallen, and none has risen
abbrev pub AreLater : (ℕ → ℕ) → (ℕ → ℕ) → Type 0
AreLater before now = (g : ℕ) → before g ≤ now g

abbrev pub AreCalm : (ℕ → ℕ) → (ℕ → ℕ) → Type 0
AreCalm before now = (g : ℕ) → HasRisen (before g) (now g) → ⊥

-- ---- links and the controller

-- each link is up exactly where the controller has the session open
abbrev pub Agrees : Desk → Type 0
Agrees d = (g : ℕ) → g < length d.peers → up_at d.links.items g ≡ is_open_at d.controller.stations g

-- as it will be once this has happened
abbrev pub AgreesBy : CtlEvent → Desk → Type 0
AgreesBy e d = (g : ℕ) → g < length d.peers → up_at d.links.items g ≡ open_by g (Some e) (is_open_at d.controller.stations g)

-- an order is for a peer whose link is up
abbrev pub IsReady : List Link → CtlAct → Type 0
IsReady links (done.Order g order) = up_at links g ≡ true
IsReady links (done.Refused why) = Unit {0}

-- whose session the controller has open
abbrev pub IsForOpen : Core → CtlAct → Type 0
IsForOpen c (done.Order g order) = is_open_at c.stations g ≡ true
IsForOpen c (done.Refused why) = Unit {0}

-- a session opens and is cut as the controller is told
abbrev pub OpensBy : ℕ → CtlEvent → Core → Core → Type 0
OpensBy count e old new = (g : ℕ) → g < count → is_open_at new.stations g ≡ open_by g (Some e) (is_open_at old.stations g)

-- ---- acts that are carried out

-- what is told of each peer before and after
abbrev pub Orders : List Peer → List CtlAct → (ℕ → Option PeerHeld) → (ℕ → Option PeerHeld) → Type 0
Orders ps acts was is = (g : ℕ) → Makes (after_orders ps g acts) (was g) (is g)

-- these acts are carried out: their orders are written, and no session is lost
pub record Carried (ps : List Peer) (acts : List CtlAct) (old new : Desk) (lost gone : List ℕ) (was is : ℕ → Option PeerHeld) : Type 0 where
  pub links : new.links ≡ old.links
  pub kept : gone ≡ lost
  pub orders : Orders ps acts was is

-- the controller is told this, and what it does is carried out
pub record Tells (e : CtlEvent) (old new : Desk) (was is : ℕ → Option PeerHeld) : Type 0 where
  pub peers : new.peers ≡ old.peers
  pub core : new.controller ≡ (stepped old.controller e).core
  pub links : new.links ≡ old.links
  pub agrees : Agrees new
  pub orders : Orders old.peers (stepped old.controller e).acts was is

-- this happens: a peer whose session is cut is hung up, the controller is told, and what it does is carried out
pub record Does (e : CtlEvent) (old new : Desk) (was is : ℕ → Option PeerHeld) : Type 0 where
  pub peers : new.peers ≡ old.peers
  pub core : new.controller ≡ (stepped old.controller e).core
  pub agrees : Agrees new
  pub links : (g : ℕ) → up_at new.links.items g ≡ true → slice_get new.links.items g ≡ slice_get old.links.items g
  pub up : (g : ℕ) → up_at new.links.items g ≡ open_by g (Some e) (up_at old.links.items g)
  pub orders : (g : ℕ) → Makes (λ p. after_orders old.peers g (stepped old.controller e).acts (hung_by g (Some e) p)) (was g) (is g)

-- the same of what happens, if anything does
abbrev pub DoesIf : Option CtlEvent → Desk → Desk → (ℕ → Option PeerHeld) → (ℕ → Option PeerHeld) → Type 0
DoesIf None old new was is = (new ≡ old) × ((g : ℕ) → is g ≡ was g)
DoesIf (Some e) old new was is = Does e old new was is
