-- What the acts of a gateway are to its devices: packets and datagrams are sent, replies and notices are written.
use Rattle.std.specs.Prelude.{◌≡◌, ◌≤◌, ℕ, List, [], ◌∷◌, ◌++◌, length, Option, Some, None}
use Rattle.ikl_base.specs.Outside.{HasRisen}
use Rattle.rc_http.specs.Feeding.{Feeding}
use Rattle.rc_http.specs.Written.{response_text}
use Rattle.rc_resource.specs.Messages.{reply_message}
use Rattle.hist_wire.specs.Dates.{line_text}
use Rattle.live_devices.specs.Docks.{DockHeld}
use Rattle.live_devices.specs.Wires.{WireHeld}
use Rattle.live_devices.specs.Reads.{Makes, with_reply}
use Rattle.gw_requests.specs.declared.act.GwAct.{GwAct}
use Rattle.gw_requests.specs.declared.act.GwAct.TheVariants as acts
use Rattle.gw_core.specs.Machine.{Core, Event, stepped, with_kept}

-- ---- one act

-- one more datagram was sent
abbrev pub with_datagram : List ℕ → WireHeld → WireHeld
with_datagram octets w = record w { sent = w.sent ++ octets; sizes = w.sizes ++ length octets ∷ [] }

-- a packet that is given or passed goes inside
abbrev pub inside_by : GwAct → WireHeld → WireHeld
inside_by (acts.Gave name number octets) w = with_datagram octets w
inside_by (acts.Pass octets) w = with_datagram octets w
inside_by _ w = w

-- a datagram, and a packet in clear, goes outside
abbrev pub outside_by : GwAct → WireHeld → WireHeld
outside_by (acts.Sent name number octets) w = with_datagram octets w
outside_by (acts.Clear octets) w = with_datagram octets w
outside_by _ w = w

-- octets written on the notice stream of the session
abbrev pub with_notice : List ℕ → DockHeld → DockHeld
with_notice octets d = record d { notices = d.notices ++ octets }

-- a reply goes to the session as its response, and a notice as its line, with the clock as it is
abbrev pub dock_by : ℕ → GwAct → DockHeld → DockHeld
dock_by now (acts.Reply reply) d = with_reply (response_text (reply_message reply)) d
dock_by now (acts.Notice notice) d = with_notice (line_text notice now) d
dock_by now _ d = d

-- ---- one act after another

-- what the acts make of something, from the first act to the last
abbrev pub after_all : {T : Type 0} → (GwAct → T → T) → List GwAct → T → T
after_all f [] x = x
after_all f (act ∷ more) x = after_all f more (f act x)

-- ---- what is told of devices

-- what the wires and the dock tell, and how often reads and writes of sessions have failed
pub record Devices : Type 0 where
  pub inside : Option WireHeld
  pub outside : Option WireHeld
  pub dock : Option DockHeld
  pub faults : ℕ

-- only while a session is there
abbrev pub while_there : Option Feeding → (DockHeld → DockHeld) → DockHeld → DockHeld
while_there None f d = d
while_there (Some reader) f d = f d

-- Unless a read or a write failed, the session is as before, and what is told of the dock becomes this while it is there. The count of
-- these faults never falls.
pub record Writes (old new : Option DockHeld) (before now : ℕ) (was is : Option Feeding) (f : DockHeld → DockHeld) : Type 0 where
  pub later : before ≤ now
  pub kept : (HasRisen before now → ⊥) → is ≡ was
  pub wrote : (HasRisen before now → ⊥) → Makes (while_there was f) old new

-- these acts are carried out, with the clock at this
pub record Carries (clock : ℕ) (xs : List GwAct) (was is : Option Feeding) (old new : Devices) : Type 0 where
  pub inside : Makes (after_all inside_by xs) old.inside new.inside
  pub outside : Makes (after_all outside_by xs) old.outside new.outside
  pub wrote : Writes old.dock new.dock old.faults new.faults was is (after_all (dock_by clock) xs)

-- something happens at the gateway, and what it does is carried out
pub record Does (e : Event) (old new : Core) (was is : Option Feeding) (before now : Devices) : Type 0 where
  pub core : new ≡ with_kept (stepped old.config e old.kept).kept old
  pub carries : Carries (stepped old.config e old.kept).kept.clock (stepped old.config e old.kept).acts was is before now
