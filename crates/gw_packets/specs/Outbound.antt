-- What a gateway does at a packet from inside (RFC 4301 section 5.1).
use Rattle.std.specs.Prelude.{ℕ, ◌+◌, true, nat_le, nat_lt, List, [], ◌∷◌, ◌++◌, length, Option, Some, None, Result, Ok, Err, slice_get, if◌then◌else◌}
use Rattle.std.specs.List.{list_any}
use Rattle.std.specs.Str.{bytes_eq}
use Rattle.ip_packet.specs.declared.packet.NotPacket.{NotPacket}
use Rattle.ip_packet.specs.View.{Packet, view_of}
use Rattle.ikeless_tree.specs.declared.entry.SpdEntry.{SpdEntry}
use Rattle.ikeless_tree.specs.declared.entry.Action.{Action}
use Rattle.ikeless_tree.specs.declared.entry.Action.TheVariants as actions
use Rattle.ikeless_tree.specs.declared.entry.Direction.TheVariants.{Out}
use Rattle.ikeless_tree.specs.declared.order.Notice.TheVariants as notices
use Rattle.ikeless_tree.specs.declared.drops.DropWhy.TheVariants as why
use Rattle.esp_frame.specs.Esp.{esp_len}
use Rattle.spd_match.specs.Match.{first_entry}
use Rattle.sad_store.specs.declared.half.Half.{Half}
use Rattle.sad_store.specs.Halves.{changed, send, with_overflow, newest_place}
use Rattle.hist_gateway.specs.Datagram.{fault_why, datagram, flow_of}
use Rattle.gw_packets.specs.declared.done.PacketAnswer.TheVariants as answers
use Rattle.gw_tables.specs.Kept.{Kept, with_halves}
use Rattle.gw_packets.specs.Outcome.{Outcome, answered, dropped, dropped_and_told}
use Rattle.gw_packets.specs.Looks.{used}

-- no half seals for this policy: a notice, unless one stands
abbrev pub without_half : Packet → SpdEntry → Kept → Outcome
without_half v p k =
    if list_any (λ q. bytes_eq q p.name) k.acquires then dropped why.NoSa k
    else dropped_and_told why.NoSa (notices.Acquire p.name (flow_of v)) (record k { acquires = k.acquires ++ p.name ∷ [] })

-- the half x at place i has sent its last number: a notice, unless one stands
abbrev pub spent : ℕ → Half → Kept → Outcome
spent i x k =
    if x.overflow then dropped why.SeqLimit k
    else dropped_and_told why.SeqLimit (notices.SeqOverflow x.entry.name) (with_halves (changed (with_overflow true) i k.halves) k)

-- the packet o is sent under the half x at place i, with its next number
abbrev pub sent_under : List ℕ → Packet → ℕ → Half → Kept → Outcome
sent_under o v i x k =
    used (answers.Sent x.entry.name (x.sent + 1) (datagram x.entry (x.sent + 1) v o)) i (send k.clock (esp_len (length o)))
    (send k.clock (esp_len (length o)) x) k

-- the half x at place i seals the packet unless it has sent its last number
abbrev pub sealed_under : ℕ → List ℕ → Packet → ℕ → Half → Kept → Outcome
sealed_under seq_last o v i x k = if nat_le seq_last x.sent then spent i x k else sent_under o v i x k

-- the half at a place, where there is one
abbrev pub sealed_at : ℕ → List ℕ → Packet → SpdEntry → ℕ → Option Half → Kept → Outcome
sealed_at seq_last o v p i None k = without_half v p k
sealed_at seq_last o v p i (Some x) k = sealed_under seq_last o v i x k

-- the newest half for the packet, at its place, if there is one
abbrev pub protected_by : ℕ → List ℕ → Packet → SpdEntry → Option ℕ → Kept → Outcome
protected_by seq_last o v p None k = without_half v p k
protected_by seq_last o v p (Some i) k = sealed_at seq_last o v p i (slice_get k.halves i) k

-- what is done with a packet by the action of its policy
abbrev pub let_by_action : ℕ → List ℕ → Packet → SpdEntry → Action → Kept → Outcome
let_by_action seq_last o v p actions.Protect k = protected_by seq_last o v p (newest_place p.reqid v k.halves) k
let_by_action seq_last o v p actions.Bypass k = answered (answers.Clear o) k
let_by_action seq_last o v p actions.Discard k = dropped why.Discard k

-- the first policy that holds the packet; where none does, it is dropped
abbrev pub let_by_entry : ℕ → List ℕ → Packet → Option SpdEntry → Kept → Outcome
let_by_entry seq_last o v None k = dropped why.NoPolicy k
let_by_entry seq_last o v (Some p) k = let_by_action seq_last o v p p.action k

-- octets that are no packet, or more than 65,000, are dropped
abbrev pub let_by_view : ℕ → List ℕ → Result Packet NotPacket → Kept → Outcome
let_by_view seq_last o (Err fault) k = dropped (fault_why fault) k
let_by_view seq_last o (Ok v) k = if nat_lt 65000 (length o) then dropped why.TooLong k else let_by_entry seq_last o v
    (first_entry k.spd Out v) k

-- a packet from inside, where no half sends a number above the last one
abbrev pub let_in : ℕ → List ℕ → Kept → Outcome
let_in seq_last o k = let_by_view seq_last o (view_of o) k
