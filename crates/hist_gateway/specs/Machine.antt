-- The gateway as a machine over what it keeps: the acts of an event, and what it keeps after them.
use Rattle.std.specs.Prelude.{ℕ, ◌+◌, ◌==◌, nat_le, nat_lt, max, List, [], ◌∷◌, ◌++◌, length, map, Option, Some, None, Result, Ok, Err, if◌then◌else◌}
use Rattle.std.specs.List.{list_any}
use Rattle.std.specs.Str.{bytes_eq}
use Rattle.ikl_base.specs.declared.address.Addr.{Addr}
use Rattle.ip_packet.specs.declared.packet.NotPacket.{NotPacket}
use Rattle.ip_packet.specs.View.{Packet, view_of}
use Rattle.ikeless_tree.specs.declared.sad.SadRow.{SadRow}
use Rattle.ikeless_tree.specs.declared.sad.Tree.{Tree}
use Rattle.ikeless_tree.specs.declared.entry.SpdEntry.{SpdEntry}
use Rattle.ikeless_tree.specs.declared.entry.Action.{Action}
use Rattle.ikeless_tree.specs.declared.entry.Action.TheVariants as actions
use Rattle.ikeless_tree.specs.declared.entry.Direction.TheVariants.{In, Out}
use Rattle.ikeless_tree.specs.declared.order.Notice.{Notice}
use Rattle.ikeless_tree.specs.declared.order.Notice.TheVariants as notices
use Rattle.ikeless_tree.specs.declared.drops.DropWhy.TheVariants as why
use Rattle.ikeless_tree.specs.declared.ends.GoneWhy.TheVariants as gone
use Rattle.ikeless_tree.specs.Half.{is_inbound}
use Rattle.reply_table.specs.declared.ask.Ask.{Ask}
use Rattle.reply_table.specs.Reply.{reply}
use Rattle.replay_win.specs.declared.verdict.Verdict.{Verdict}
use Rattle.replay_win.specs.declared.verdict.Verdict.TheVariants as verdicts
use Rattle.replay_win.specs.Marks.{judged}
use Rattle.esp_frame.specs.Esp.{keying, spi_of}
use Rattle.esp_frame.specs.Open as esp
use Rattle.spd_match.specs.Match.{first_entry}
use Rattle.life_count.specs.Lifetime.{is_reached, expiry, counts_of, event_at}
use Rattle.sad_store.specs.declared.half.Half.{Half}
use Rattle.sad_store.specs.Halves.{send, take_number, newest_half, half_by_spi}
use Rattle.hist_acts.specs.declared.act.Act.{Act}
use Rattle.hist_acts.specs.declared.act.Act.TheVariants as acts
use Rattle.hist_halves.specs.Sealed.{number_from}
use Rattle.hist_gateway.specs.Uses.{octets_in}
use Rattle.hist_gateway.specs.Datagram.{fault_why, datagram, flow_of}
use Rattle.hist_gateway.specs.Look.{given_by}
use Rattle.hist_gateway.specs.Let.{unless}
use Rattle.hist_gateway.specs.Arrive as arrive
use Rattle.hist_gateway.specs.Handle.{Fault, reply_acts, fault_answer}
use Rattle.hist_gateway.specs.Block.{Gateway, GatewayEvent, Let, Arrive, Clock, Handle, Session_taken}
use Rattle.hist_gateway.specs.State.{GatewayState, did_all}

-- ---- looks

-- of these halves those that are gone at a hard limit, at this clock
abbrev pub goings_of : List ℕ → ℕ → List Half → List Act
goings_of g now [] = []
goings_of g now (x ∷ xs) = if is_reached x.life.hard (counts_of now x.life) then acts.Gone g x.entry.name gone.Hard
    ∷ goings_of g now xs else goings_of g now xs

-- the hard and the soft expiries of these halves, told in this session
abbrev pub expiries_of : List ℕ → ℕ → ℕ → List Half → List Act
expiries_of g session now [] = []
expiries_of g session now (x ∷ xs) = given_by g session (expiry x.entry.name (counts_of now x.life) (event_at now x.life))
    ++ expiries_of g session now xs

-- a look at these halves
abbrev pub look_of : List ℕ → ℕ → ℕ → List Half → List Act
look_of g session now xs = goings_of g now xs ++ expiries_of g session now xs

-- the notice in the session that the gateway has, or 0
abbrev pub tells_of : List ℕ → GatewayState → Notice → List Act
tells_of g s n = acts.Notice g s.session n ∷ []

-- ---- a packet from inside

-- a datagram is sent under the half, and the half is looked at
abbrev pub sends_of : List ℕ → GatewayState → Half → ℕ → List ℕ → List Act
sends_of g s x n d = acts.Sent g x.entry.name n d ∷ look_of g s.session s.clock (send s.clock (octets_in (Some d)) x ∷ [])

-- a half seals the packet while its numbers last; where there is no half or no number, that is told unless it stands
abbrev pub out_by_half : List ℕ → ℕ → GatewayState → List ℕ → Packet → SpdEntry → Option Half → List Act
out_by_half g seq_last s o v p None =
    acts.Drop g why.NoSa ∷ unless (list_any (λ q. bytes_eq q p.name) s.acquires) (tells_of g s (notices.Acquire p.name (flow_of v)))
out_by_half g seq_last s o v p (Some x) =
    if nat_le seq_last x.sent then acts.Drop g why.SeqLimit ∷ unless x.overflow (tells_of g s (notices.SeqOverflow x.entry.name))
    else sends_of g s x (x.sent + 1) (datagram x.entry (x.sent + 1) v o)

-- what is done with a packet by the action of its policy
abbrev pub out_by_action : List ℕ → ℕ → GatewayState → List ℕ → Packet → SpdEntry → Action → List Act
out_by_action g seq_last s o v p actions.Protect = out_by_half g seq_last s o v p (newest_half p.reqid v s.halves)
out_by_action g seq_last s o v p actions.Bypass = acts.Clear g o ∷ []
out_by_action g seq_last s o v p actions.Discard = acts.Drop g why.Discard ∷ []

-- the first policy that holds the packet; where none does, it is dropped
abbrev pub out_by_entry : List ℕ → ℕ → GatewayState → List ℕ → Packet → Option SpdEntry → List Act
out_by_entry g seq_last s o v None = acts.Drop g why.NoPolicy ∷ []
out_by_entry g seq_last s o v (Some p) = out_by_action g seq_last s o v p p.action

-- octets that are no packet, or more than 65,000, are dropped
abbrev pub out_by_view : List ℕ → ℕ → GatewayState → List ℕ → Result Packet NotPacket → List Act
out_by_view g seq_last s o (Err fault) = acts.Drop g (fault_why fault) ∷ []
out_by_view g seq_last s o (Ok v) =
    if nat_lt 65000 (length o) then acts.Drop g why.TooLong ∷ [] else out_by_entry g seq_last s o v (first_entry s.spd Out v)

-- ---- a datagram from outside

-- an answer after which the half has taken the number and is looked at
abbrev pub uses_of : List ℕ → GatewayState → List ℕ → Half → ℕ → Act → List Act
uses_of g s o x n a = a ∷ look_of g s.session s.clock (take_number s.clock (octets_in (Some o)) n x ∷ [])

-- the text that the octets open to; its number is taken, whatever is found in it
abbrev pub in_by_text : List ℕ → GatewayState → List ℕ → Half → ℕ → Option (List ℕ) → List Act
in_by_text g s o x n None = arrive.drops g why.Auth
in_by_text g s o x n (Some text) = uses_of g s o x n (arrive.by_packet g x.entry n (esp.inner_packet text))

-- what the window says of the number, before the octets are opened
abbrev pub in_by_verdict : List ℕ → GatewayState → List ℕ → List ℕ → Half → ℕ → Verdict → List Act
in_by_verdict g s o b x n verdicts.Zero = arrive.drops g why.Zero
in_by_verdict g s o b x n verdicts.Old = arrive.drops g why.Old
in_by_verdict g s o b x n verdicts.Seen = arrive.drops g why.Seen
in_by_verdict g s o b x n verdicts.Fresh = in_by_text g s o x n (esp.opened (keying x.entry.spi x.entry.key) b)

-- the window of the half judges the number
abbrev pub in_by_number : List ℕ → GatewayState → List ℕ → List ℕ → Half → ℕ → List Act
in_by_number g s o b x n = in_by_verdict g s o b x n (judged x.window n)

-- the half that the SPI names; where none has it, a notice tells of it unless one stands
abbrev pub in_by_half : List ℕ → GatewayState → List ℕ → List ℕ → Option Half → List Act
in_by_half g s o b None = acts.Drop g why.BadSpi ∷ unless (list_any (λ k. k == spi_of b) s.bad_spis)
    (tells_of g s (notices.BadSpi (spi_of b)))
in_by_half g s o b (Some x) = in_by_number g s o b x (number_from x.entry x.window.top b)

-- the acts for ESP octets, those of the datagram
abbrev pub in_esp : List ℕ → GatewayState → List ℕ → List ℕ → List Act
in_esp g s o b = if nat_lt (length b) 34 then arrive.drops g why.Short else in_by_half g s o b (half_by_spi (spi_of b) s.halves)

-- ESP for the gateway itself is opened, and all else comes in clear or not at all
abbrev pub in_by_view : List ℕ → Addr → GatewayState → List ℕ → Result Packet NotPacket → List Act
in_by_view g own s o (Err fault) = arrive.drops g (fault_why fault)
in_by_view g own s o (Ok v) = if arrive.is_sealed_for own v then in_esp g s o v.payload else arrive.arrive_by_entry g o
    (first_entry s.spd In v) ∷ []

-- ---- a request

-- the greatest number taken of an inbound half, the last one sent of an outbound half
abbrev pub top_of : Half → ℕ
top_of x = if is_inbound x.entry.name then x.window.top else x.sent

-- a half as a request sees it, with its counts at this clock
abbrev pub row_from : ℕ → Half → SadRow
row_from now x = record { entry = x.entry; state = record { current = counts_of now x.life; top = top_of x } }

-- both databases as requests see them
abbrev pub tree_from : GatewayState → Tree
tree_from s = record { spd = s.spd; sad = map (row_from s.clock) s.halves }

-- the acts for a request, the next one of the session that the gateway has
abbrev pub handles : List ℕ → GatewayState → Result Ask Fault → List Act
handles g s (Ok ask) = reply_acts g s.session (s.requests + 1) (reply (tree_from s) ask)
handles g s (Err fault) = acts.Handled g s.session (s.requests + 1) (fault_answer fault) ∷ []

-- ---- the whole

-- where a reading raises the clock, all halves are looked at
abbrev pub ticks : List ℕ → GatewayState → ℕ → List Act
ticks g s t = if nat_lt s.clock t then look_of g s.session (max t s.clock) s.halves else []

-- the acts of an event
abbrev pub acts_of : Gateway → GatewayState → GatewayEvent → List Act
acts_of c s (Let o) = acts.Let c.name o ∷ out_by_view c.name c.seq_last s o (view_of o)
acts_of c s (Arrive o) = acts.Arrived c.name o ∷ in_by_view c.name c.address s o (view_of o)
acts_of c s (Clock t) = acts.Now (max t s.clock) ∷ ticks c.name s t
acts_of c s (Handle request) = handles c.name s request
acts_of c s Session_taken = acts.Opened c.name (s.openings + 1) ∷ []

-- what is kept after it
abbrev pub next : Gateway → GatewayState → GatewayEvent → GatewayState
next c s e = did_all c.name s (acts_of c s e)

-- a gateway that was never started has kept nothing
abbrev pub empty : GatewayState
empty = record {
  spd = [];
  halves = [];
  acquires = [];
  bad_spis = [];
  clock = 0;
  openings = 0;
  session = 0;
  requests = 0;
  arrival = None;
}

-- the acts of events, one after another
abbrev pub run : Gateway → GatewayState → List GatewayEvent → List Act
run c s [] = []
run c s (e ∷ es) = acts_of c s e ++ run c (next c s e) es
