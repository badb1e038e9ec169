-- What answers a datagram from outside (RFC 4301 section 5.2, RFC 4303 section 3.4), by the first line that applies. The past has
-- the Arrived as its newest act. Whether it was sent is no matter of one gateway (`hist_world/specs/Arrivals`).
use Rattle.std.specs.Prelude.{ℕ, ◌==◌, ◌&&◌, ◌||◌, nat_lt, not, Bool, List, [], ◌∷◌, length, Option, Some, None, Result, Ok, Err, if◌then◌else◌}
use Rattle.ikl_base.specs.declared.address.Addr.{Addr}
use Rattle.ikl_base.specs.Address.{is_same_address}
use Rattle.ip_packet.specs.declared.packet.NotPacket.{NotPacket}
use Rattle.ip_packet.specs.Field.{version}
use Rattle.ip_packet.specs.View.{Packet, view_of}
use Rattle.ikeless_tree.specs.declared.entry.SpdEntry.{SpdEntry}
use Rattle.ikeless_tree.specs.declared.entry.Action.{Action}
use Rattle.ikeless_tree.specs.declared.entry.Action.TheVariants as actions
use Rattle.ikeless_tree.specs.declared.entry.Direction.TheVariants.{In}
use Rattle.ikeless_tree.specs.declared.sad.SadEntry.{SadEntry}
use Rattle.ikeless_tree.specs.declared.order.Notice.TheVariants as notices
use Rattle.ikeless_tree.specs.declared.drops.DropWhy.{DropWhy}
use Rattle.ikeless_tree.specs.declared.drops.DropWhy.TheVariants as why
use Rattle.esp_frame.specs.Esp.{keying, spi_of}
use Rattle.esp_frame.specs.Open as esp
use Rattle.replay_win.specs.declared.verdict.Verdict.{Verdict}
use Rattle.replay_win.specs.declared.verdict.Verdict.TheVariants as verdicts
use Rattle.replay_win.specs.Marks.{verdict_over}
use Rattle.spd_match.specs.Match.{first_entry, holds_packet}
use Rattle.hist_acts.specs.declared.act.Act.{Act}
use Rattle.hist_acts.specs.declared.act.Act.TheVariants as acts
use Rattle.hist_acts.specs.Past.{force}
use Rattle.hist_halves.specs.Sealed.{by_spi, number_of}
use Rattle.hist_halves.specs.Halves.{live, numbers_taken}
use Rattle.hist_gateway.specs.Stands.{does_bad_spi_stand}
use Rattle.hist_gateway.specs.Datagram.{fault_why}
use Rattle.hist_gateway.specs.Look.{look, tells}
use Rattle.hist_gateway.specs.Let.{unless}

-- the datagram is dropped for this reason, and nothing else is done
abbrev pub drops : List ℕ → DropWhy → List Act
drops g w = acts.Drop g w ∷ []

-- ---- what was found inside

-- an answer after which the half is looked at
abbrev pub use_acts : List ℕ → List Act → SadEntry → Act → List Act
use_acts g h e a = a ∷ look g (a ∷ h) (e ∷ [])

-- the inner octets are a packet of the version that the next header tells
abbrev pub is_told_version : ℕ → List ℕ → Bool
is_told_version next p = ((next == 4) && (version p == 4)) || ((next == 41) && (version p == 6))

-- a packet in tunnel mode is given where the half's selector holds it (RFC 4301 section 5.2 step 4)
abbrev pub by_inner : List ℕ → SadEntry → ℕ → ℕ → List ℕ → Result Packet NotPacket → Act
by_inner g e n next p (Err fault) = acts.Drop g why.Inner
by_inner g e n next p (Ok v) =
    if not (is_told_version next p) then acts.Drop g why.Inner
    else if holds_packet e.selector In v then acts.Gave g e.name n p
    else acts.Drop g why.Selector

-- the packet in an opened text; one with the next header 59 is a dummy (RFC 4303 section 2.6)
abbrev pub by_packet : List ℕ → SadEntry → ℕ → Option esp.InnerPacket → Act
by_packet g e n None = acts.Drop g why.Padding
by_packet g e n (Some p) = if p.next == 59 then acts.Drop g why.Dummy else by_inner g e n p.next p.octets (view_of p.octets)

-- ---- the ESP table

-- the text that the octets open to; its number is taken, whatever is found in it
abbrev pub by_text : List ℕ → List Act → SadEntry → ℕ → Option (List ℕ) → List Act
by_text g h e n None = drops g why.Auth
by_text g h e n (Some x) = use_acts g h e (by_packet g e n (esp.inner_packet x))

-- the window judges the number before the octets are opened (RFC 4303 section 3.4.3)
abbrev pub by_verdict : List ℕ → List Act → List ℕ → SadEntry → ℕ → Verdict → List Act
by_verdict g h b e n verdicts.Zero = drops g why.Zero
by_verdict g h b e n verdicts.Old = drops g why.Old
by_verdict g h b e n verdicts.Seen = drops g why.Seen
by_verdict g h b e n verdicts.Fresh = by_text g h e n (esp.opened (keying e.spi e.key) b)

-- the number is judged over those taken under the half since its installation
abbrev pub by_number : List ℕ → List Act → List ℕ → SadEntry → ℕ → List Act
by_number g h b e n = by_verdict g h b e n (verdict_over e.window (numbers_taken g e.name h) n)

-- the half that the SPI names; where none has it, a notice tells of it unless one stands
abbrev pub arrive_by_half : List ℕ → List Act → List ℕ → Option SadEntry → List Act
arrive_by_half g h b None = acts.Drop g why.BadSpi ∷ unless (does_bad_spi_stand g (spi_of b) h) (tells g h (notices.BadSpi (spi_of b)))
arrive_by_half g h b (Some e) = by_number g h b e (number_of e (numbers_taken g e.name h) b)

-- the acts for ESP octets
abbrev pub esp_acts : List ℕ → List Act → List ℕ → List Act
esp_acts g h b = if nat_lt (length b) 34 then drops g why.Short else arrive_by_half g h b (by_spi (spi_of b) (live g h))

-- ---- what comes in clear

-- a packet that a protect entry holds may not come in clear (RFC 4301 section 5.2 step 3b)
abbrev pub arrive_by_action : List ℕ → List ℕ → Action → Act
arrive_by_action g o actions.Protect = acts.Drop g why.ClearRefused
arrive_by_action g o actions.Bypass = acts.Pass g o
arrive_by_action g o actions.Discard = acts.Drop g why.Discard

-- the first entry in force that holds a datagram which isn't sealed; where none does, it is dropped
abbrev pub arrive_by_entry : List ℕ → List ℕ → Option SpdEntry → Act
arrive_by_entry g o None = acts.Drop g why.NoPolicy
arrive_by_entry g o (Some p) = arrive_by_action g o p.action

-- the datagram is ESP for the gateway's own address
abbrev pub is_sealed_for : Addr → Packet → Bool
is_sealed_for own v = (v.proto == 50) && is_same_address v.dst own

-- ESP for the gateway itself is opened, and all else comes in clear or not at all
abbrev pub arrive_by_view : List ℕ → Addr → List Act → List ℕ → Result Packet NotPacket → List Act
arrive_by_view g own h o (Err fault) = drops g (fault_why fault)
arrive_by_view g own h o (Ok v) = if is_sealed_for own v then esp_acts g h v.payload else arrive_by_entry g o (first_entry (force g h) In v)
    ∷ []

-- the acts at gateway g with its own address for the datagram o
unfoldable pub arrive_acts : List ℕ → Addr → List Act → List ℕ → List Act
arrive_acts g own h o = arrive_by_view g own h o (view_of o)
