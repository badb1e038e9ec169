-- What answers a packet from inside (RFC 4301 section 5.1), by the first line that applies. The past has the Let as its newest act.
use Rattle.std.specs.Prelude.{ℕ, ◌+◌, nat_le, nat_lt, Bool, true, false, List, [], ◌∷◌, length, Option, Some, None, Result, Ok, Err, if◌then◌else◌}
use Rattle.ip_packet.specs.declared.packet.NotPacket.{NotPacket}
use Rattle.ip_packet.specs.View.{Packet, view_of}
use Rattle.ikeless_tree.specs.declared.entry.SpdEntry.{SpdEntry}
use Rattle.ikeless_tree.specs.declared.entry.Action.{Action}
use Rattle.ikeless_tree.specs.declared.entry.Action.TheVariants as actions
use Rattle.ikeless_tree.specs.declared.entry.Direction.TheVariants.{Out}
use Rattle.ikeless_tree.specs.declared.sad.SadEntry.{SadEntry}
use Rattle.ikeless_tree.specs.declared.order.Notice.TheVariants as notices
use Rattle.ikeless_tree.specs.declared.drops.DropWhy.TheVariants as why
use Rattle.spd_match.specs.Match.{first_entry}
use Rattle.sad_store.specs.Halves.{may_seal}
use Rattle.hist_acts.specs.declared.act.Act.{Act}
use Rattle.hist_acts.specs.declared.act.Act.TheVariants as acts
use Rattle.hist_acts.specs.Past.{force}
use Rattle.hist_halves.specs.Halves.{live, sent}
use Rattle.hist_gateway.specs.Stands.{does_acquire_stand, was_overflow_given}
use Rattle.hist_gateway.specs.Datagram.{fault_why, datagram, flow_of}
use Rattle.hist_gateway.specs.Look.{look, tells}

-- the newest half for the packet: one among the later halves, or else this one
abbrev pub newer : ℕ → Packet → SadEntry → Option SadEntry → Option SadEntry
newer reqid v e (Some x) = Some x
newer reqid v e None = if may_seal reqid v e then Some e else None

-- the newest outbound half with this reqid whose selector holds the packet
abbrev pub newest : ℕ → Packet → List SadEntry → Option SadEntry
newest reqid v [] = None
newest reqid v (e ∷ es) = newer reqid v e (newest reqid v es)

-- nothing where this holds, else these acts
abbrev pub unless : Bool → List Act → List Act
unless true xs = []
unless false xs = xs

-- a datagram is sent under the half, and the half is looked at
abbrev pub send_acts : List ℕ → List Act → SadEntry → ℕ → List ℕ → List Act
send_acts g h e n d = acts.Sent g e.name n d ∷ look g (acts.Sent g e.name n d ∷ h) (e ∷ [])

-- a half seals the packet while its numbers last; where there is no half or no number, that is told unless it stands
abbrev pub let_by_half : List ℕ → ℕ → List Act → List ℕ → Packet → SpdEntry → Option SadEntry → List Act
let_by_half g seq_last h o v p None = acts.Drop g why.NoSa
    ∷ unless (does_acquire_stand g p.name h) (tells g h (notices.Acquire p.name (flow_of v)))
let_by_half g seq_last h o v p (Some e) =
    if nat_le seq_last (sent g e.name h) then acts.Drop g why.SeqLimit
    ∷ unless (was_overflow_given g e.name h) (tells g h (notices.SeqOverflow e.name))
    else send_acts g h e (sent g e.name h + 1) (datagram e (sent g e.name h + 1) v o)

-- what is done with a packet by the action of its policy (RFC 4301 section 5.1)
abbrev pub let_by_action : List ℕ → ℕ → List Act → List ℕ → Packet → SpdEntry → Action → List Act
let_by_action g seq_last h o v p actions.Protect = let_by_half g seq_last h o v p (newest p.reqid v (live g h))
let_by_action g seq_last h o v p actions.Bypass = acts.Clear g o ∷ []
let_by_action g seq_last h o v p actions.Discard = acts.Drop g why.Discard ∷ []

-- the first entry in force that holds the packet; where none does, it is dropped (RFC 4301 section 4.4.1)
abbrev pub let_by_entry : List ℕ → ℕ → List Act → List ℕ → Packet → Option SpdEntry → List Act
let_by_entry g seq_last h o v None = acts.Drop g why.NoPolicy ∷ []
let_by_entry g seq_last h o v (Some p) = let_by_action g seq_last h o v p p.action

-- octets that are no packet, or more than 65,000, are dropped
abbrev pub let_by_view : List ℕ → ℕ → List Act → List ℕ → Result Packet NotPacket → List Act
let_by_view g seq_last h o (Err fault) = acts.Drop g (fault_why fault) ∷ []
let_by_view g seq_last h o (Ok v) = if nat_lt 65000 (length o) then acts.Drop g why.TooLong
    ∷ [] else let_by_entry g seq_last h o v (first_entry (force g h) Out v)

-- the acts at gateway g for the packet o, where no half sends a number above the last one
unfoldable pub let_acts : List ℕ → ℕ → List Act → List ℕ → List Act
let_acts g seq_last h o = let_by_view g seq_last h o (view_of o)
