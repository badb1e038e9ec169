-- What arrives at a gateway, and which arrivals are forged. A past has its newest act first.
use Rattle.std.specs.Prelude.{ℕ, ◌+◌, ◌-◌, ◌/◌, ◌%◌, ◌^◌, ◌==◌, ◌&&◌, nat_lt, not, Bool, true, false, List, [], ◌∷◌, length, Option, Some, None, Result, Ok, Err, if◌then◌else◌}
use Rattle.ikl_base.specs.declared.address.Addr.{Addr}
use Rattle.ip_packet.specs.declared.packet.NotPacket.{NotPacket}
use Rattle.ip_packet.specs.View.{Packet, view_of}
use Rattle.ikeless_tree.specs.declared.sad.SadEntry.{SadEntry}
use Rattle.esp_frame.specs.Esp.{keying, spi_of}
use Rattle.esp_frame.specs.Open.{opened}
use Rattle.replay_win.specs.declared.verdict.Verdict.{Verdict}
use Rattle.replay_win.specs.declared.verdict.Verdict.TheVariants.{Fresh}
use Rattle.replay_win.specs.Marks.{verdict_over}
use Rattle.ikeless_tree.specs.Half.{other_half}
use Rattle.hist_acts.specs.declared.act.Act.{Act}
use Rattle.hist_acts.specs.declared.act.Act.TheVariants as acts
use Rattle.hist_halves.specs.Sealed.{by_spi, number_of}
use Rattle.hist_halves.specs.Halves.{is_sealed, live, numbers_taken}
use Rattle.hist_gateway.specs.Arrive.{is_sealed_for}

-- ---- what was sent comes again, as it was or damaged

-- how many datagrams were sent, by all gateways together and under all halves
abbrev pub sent_count : List Act → ℕ
sent_count [] = 0
sent_count (acts.Sent f y n o ∷ h) = sent_count h + 1
sent_count (_ ∷ h) = sent_count h

-- the octets of the k-th datagram sent; none if there are fewer
abbrev pub sent_at : ℕ → List Act → List ℕ
sent_at k [] = []
sent_at k (acts.Sent f y n o ∷ h) = if k == sent_count h + 1 then o else sent_at k h
sent_at k (_ ∷ h) = sent_at k h

-- an octet with one bit changed, 0 the lowest
abbrev pub with_bit : ℕ → ℕ → ℕ
with_bit bit octet = if (octet / 2 ^ bit) % 2 == 0 then octet + 2 ^ bit else octet - 2 ^ bit

-- octets with one bit of one octet changed; unchanged if there is no such octet
abbrev pub flipped : ℕ → ℕ → List ℕ → List ℕ
flipped offset bit [] = []
flipped offset bit (b ∷ bs) = if offset == 0 then with_bit bit b ∷ bs else b ∷ flipped (offset - 1) bit bs

-- ---- forged arrivals

-- the anti-replay window lets the number pass (RFC 4303 section 3.4.3)
abbrev pub is_fresh : Verdict → Bool
is_fresh Fresh = true
is_fresh _ = false

-- a text was found, as the ICV is right
abbrev pub does_open : Option (List ℕ) → Bool
does_open None = false
does_open (Some x) = true

-- the number is fresh, the octets open, and no datagram with these octets was sent under the other half
abbrev pub is_half_forged : List ℕ → List Act → List ℕ → Option SadEntry → Bool
is_half_forged g h b None = false
is_half_forged g h b (Some e) =
    is_fresh (verdict_over e.window (numbers_taken g e.name h) (number_of e (numbers_taken g e.name h) b))
    && (does_open (opened (keying e.spi e.key) b) && not (is_sealed (other_half e.name) b h))

-- these are ESP octets for a live inbound half of g, and forged there; 34 octets are the least that can be opened
abbrev pub is_esp_forged : List ℕ → List Act → List ℕ → Bool
is_esp_forged g h b = not (nat_lt (length b) 34) && is_half_forged g h b (by_spi (spi_of b) (live g h))

-- a packet for the gateway's own address carries forged ESP octets; octets that aren't a packet are no forged arrival
abbrev pub is_view_forged : List ℕ → Addr → List Act → Result Packet NotPacket → Bool
is_view_forged g own h (Err fault) = false
is_view_forged g own h (Ok v) = is_sealed_for own v && is_esp_forged g h v.payload

-- The arrival of the datagram o at g is forged: it reaches the test of its tag and passes it, and its ESP octets were not sent
-- under the other half of the association. Nothing is said of what happens after it.
abbrev pub is_forged : List ℕ → Addr → List Act → List ℕ → Bool
is_forged g own h o = is_view_forged g own h (view_of o)
