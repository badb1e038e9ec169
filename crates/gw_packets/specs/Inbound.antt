-- What a gateway does at a datagram from outside (RFC 4301 section 5.2, RFC 4303 section 3.4).
use Rattle.std.specs.Prelude.{ℕ, ◌==◌, nat_lt, not, List, ◌∷◌, length, position, take, Option, Some, None, Result, Ok, Err, slice_get, if◌then◌else◌}
use Rattle.std.specs.List.{list_any}
use Rattle.ikl_base.specs.declared.address.Addr.{Addr}
use Rattle.ip_packet.specs.declared.packet.NotPacket.{NotPacket}
use Rattle.ip_packet.specs.View.{Packet, view_of}
use Rattle.ikeless_tree.specs.declared.entry.SpdEntry.{SpdEntry}
use Rattle.ikeless_tree.specs.declared.entry.Action.{Action}
use Rattle.ikeless_tree.specs.declared.entry.Action.TheVariants as actions
use Rattle.ikeless_tree.specs.declared.entry.Direction.TheVariants.{In}
use Rattle.ikeless_tree.specs.declared.sad.SadEntry.{SadEntry}
use Rattle.ikeless_tree.specs.declared.order.Notice.TheVariants as notices
use Rattle.ikeless_tree.specs.declared.drops.DropWhy.TheVariants as why
use Rattle.esp_frame.specs.Esp.{keying, spi_of}
use Rattle.esp_frame.specs.Open as esp
use Rattle.replay_win.specs.declared.verdict.Verdict.{Verdict}
use Rattle.replay_win.specs.declared.verdict.Verdict.TheVariants as verdicts
use Rattle.replay_win.specs.Marks.{judged}
use Rattle.spd_match.specs.Match.{first_entry, holds_packet}
use Rattle.sad_store.specs.declared.half.Half.{Half}
use Rattle.sad_store.specs.Halves.{take_number, is_half_of_spi}
use Rattle.hist_halves.specs.Sealed.{number_from}
use Rattle.hist_gateway.specs.Datagram.{fault_why}
use Rattle.hist_gateway.specs.Arrive.{is_told_version, is_sealed_for}
use Rattle.gw_packets.specs.declared.done.PacketAnswer.{PacketAnswer}
use Rattle.gw_packets.specs.declared.done.PacketAnswer.TheVariants as answers
use Rattle.gw_tables.specs.Kept.{Kept}
use Rattle.gw_packets.specs.Outcome.{Outcome, answered, dropped, dropped_and_told}
use Rattle.gw_packets.specs.Looks.{used}

-- ---- what was found inside

-- what was found inside is given where the half's selector holds it (RFC 4301 section 5.2 step 4)
abbrev pub answer_by_view : SadEntry → ℕ → ℕ → List ℕ → Result Packet NotPacket → PacketAnswer
answer_by_view e n next p (Err fault) = answers.Drop why.Inner
answer_by_view e n next p (Ok v) =
    if not (is_told_version next p) then answers.Drop why.Inner
    else if holds_packet e.selector In v then answers.Gave e.name n p
    else answers.Drop why.Selector

-- the packet in an opened text; one with the next header 59 is a dummy (RFC 4303 section 2.6)
abbrev pub answer_by_packet : SadEntry → ℕ → Option esp.InnerPacket → PacketAnswer
answer_by_packet e n None = answers.Drop why.Padding
answer_by_packet e n (Some p) = if p.next == 59 then answers.Drop why.Dummy else answer_by_view e n p.next p.octets (view_of p.octets)

-- ---- ESP for the gateway

-- the text that the octets open to; its number is taken, whatever is found in it
abbrev pub opened_by_text : List ℕ → ℕ → Half → ℕ → Option (List ℕ) → Kept → Outcome
opened_by_text b i x n None k = dropped why.Auth k
opened_by_text b i x n (Some text) k =
    used (answer_by_packet x.entry n (esp.inner_packet text)) i (take_number k.clock (length b) n) (take_number k.clock (length b) n x) k

-- what the window says of the number, before the octets are opened
abbrev pub opened_by_verdict : List ℕ → ℕ → Half → ℕ → Verdict → Kept → Outcome
opened_by_verdict b i x n verdicts.Zero k = dropped why.Zero k
opened_by_verdict b i x n verdicts.Old k = dropped why.Old k
opened_by_verdict b i x n verdicts.Seen k = dropped why.Seen k
opened_by_verdict b i x n verdicts.Fresh k = opened_by_text b i x n (esp.opened (keying x.entry.spi x.entry.key) b) k

-- the window of the half judges the number
abbrev pub opened_by_number : List ℕ → ℕ → Half → ℕ → Kept → Outcome
opened_by_number b i x n k = opened_by_verdict b i x n (judged x.window n) k

-- no inbound half has this SPI: a notice, unless one stands
abbrev pub without_half : ℕ → Kept → Outcome
without_half spi k =
    if list_any (λ s. s == spi) k.bad_spis then dropped why.BadSpi k
    else dropped_and_told why.BadSpi (notices.BadSpi spi) (record k { bad_spis = take 64 (spi ∷ k.bad_spis) })

-- the half at a place, where there is one
abbrev pub opened_at : List ℕ → ℕ → Option Half → Kept → Outcome
opened_at b i None k = without_half (spi_of b) k
opened_at b i (Some x) k = opened_by_number b i x (number_from x.entry x.window.top b) k

-- the half at the place that was found by the SPI, if one was found
abbrev pub opened_by_place : List ℕ → Option ℕ → Kept → Outcome
opened_by_place b None k = without_half (spi_of b) k
opened_by_place b (Some i) k = opened_at b i (slice_get k.halves i) k

-- ESP octets for the gateway; fewer than 34 are none
abbrev pub opened_esp : List ℕ → Kept → Outcome
opened_esp b k = if nat_lt (length b) 34 then dropped why.Short k else opened_by_place b (position (is_half_of_spi (spi_of b)) k.halves) k

-- ---- what comes in clear

-- a packet that a protect entry holds may not come in clear (RFC 4301 section 5.2 step 3b)
abbrev pub clear_by_action : List ℕ → Action → Kept → Outcome
clear_by_action o actions.Protect k = dropped why.ClearRefused k
clear_by_action o actions.Bypass k = answered (answers.Pass o) k
clear_by_action o actions.Discard k = dropped why.Discard k

-- the first policy that holds the packet; where none does, it is dropped
abbrev pub clear_by_entry : List ℕ → Option SpdEntry → Kept → Outcome
clear_by_entry o None k = dropped why.NoPolicy k
clear_by_entry o (Some p) k = clear_by_action o p.action k

-- ESP for the gateway itself is opened, and all else comes in clear or not at all
abbrev pub arrive_by_view : Addr → List ℕ → Result Packet NotPacket → Kept → Outcome
arrive_by_view own o (Err fault) k = dropped (fault_why fault) k
arrive_by_view own o (Ok v) k = if is_sealed_for own v then opened_esp v.payload k else clear_by_entry o (first_entry k.spd In v) k

-- a datagram from outside, at a gateway with its own address
abbrev pub arrive : Addr → List ℕ → Kept → Outcome
arrive own o k = arrive_by_view own o (view_of o) k
