-- What is sent has the ESP octets of its packet, and what must be given is given.
use Rattle.std.proofs.Common.{◌≡◌, ℕ, ◌==◌, true, false, List, ◌∷◌, ◌++◌, length, Some, Ok, refl, ◌∙◌, ap, arith}
use Rattle.ikl_base.specs.Address.{AreOneFamily}
use Rattle.ip_packet.specs.declared.outer.Outer.{Outer}
use Rattle.ip_packet.specs.View.{Packet, view_of}
use Rattle.ip_packet.specs.Outer.{outer_header, outer_view}
use Rattle.ip_packet.specs.Field.{next_header}
use Rattle.ikeless_tree.specs.declared.sad.SadEntry.{SadEntry}
use Rattle.esp_frame.specs.Esp.{esp, keying, spi_of}
use Rattle.esp_frame.specs.Open as open_esp
use Rattle.hist_acts.specs.declared.act.Act.{Act}
use Rattle.hist_acts.specs.declared.act.Act.TheVariants as acts
use Rattle.hist_halves.specs.Sealed.{by_spi, esp_of, number_of, payload_of}
use Rattle.hist_halves.specs.Halves.{live, numbers_taken}
use Rattle.hist_gateway.specs.Datagram.{datagram, outer_of}
use Rattle.hist_gateway.specs.Arrive as arrive
use Rattle.hist_gateway.specs.Block.{Gateway, Arrive, gw_block}
use Rattle.hist_gateway.specs.May.{IsDelivery}

-- what the view of an outer header before a payload is
abbrev pub AreSeen : Type 0
AreSeen = (o : Outer) (payload : List ℕ) → AreOneFamily o.src o.dst → length payload ≡ o.payload
    → view_of (outer_header o ++ payload) ≡ Ok (outer_view o payload)

pub sealed-is : AreSeen → (e : SadEntry) (n : ℕ) (v : Packet) (o : List ℕ) → AreOneFamily e.local e.remote →
    esp_of (datagram e n v o) ≡ esp (keying e.spi e.key) n (next_header o) o
unfolding datagram
sealed-is seen e n v o family =
    let b : List ℕ = esp (keying e.spi e.key) n (next_header o) o in
    ap payload_of (seen (outer_of e n v (length b)) b family refl)

told-next : (next : ℕ) (p : List ℕ) → arrive.is_told_version next p ≡ true → (next == 59) ≡ false
told-next next p told = grind arith

pub delivers-is : (c : Gateway) (h : List Act) (o : List ℕ) (outer inner : Packet) (e : SadEntry) (text p : List ℕ) (next : ℕ)
    → IsDelivery c h o outer inner e text next p →
    gw_block c h (Arrive o) ≡ acts.Arrived c.name o ∷ arrive.use_acts c.name (acts.Arrived c.name o ∷ h) e
    (acts.Gave c.name e.name (number_of e (numbers_taken c.name e.name h) outer.payload) p)
unfolding arrive.arrive_acts
delivers-is c h o outer inner e text p next d =
    let now : List Act = acts.Arrived c.name o ∷ h in
    let n : ℕ = number_of e (numbers_taken c.name e.name h) outer.payload in
    let q : open_esp.InnerPacket = record { next = next; octets = p } in
    let by-selector : arrive.by_inner c.name e n next p (Ok inner) ≡ acts.Gave c.name e.name n p = rw (d.version, d.held) refl in
    let by-inner : arrive.by_packet c.name e n (Some q) ≡ acts.Gave c.name e.name n p =
    rw (told-next next p d.version) (ap (λ r. arrive.by_inner c.name e n next p r) d.inner_view ∙ by-selector) in
    let by-packet : arrive.by_packet c.name e n (open_esp.inner_packet text) ≡ acts.Gave c.name e.name n p =
    ap (λ r. arrive.by_packet c.name e n r) d.packet ∙ by-inner in
    let by-text : arrive.by_text c.name now e n (open_esp.opened (keying e.spi e.key) outer.payload) ≡ arrive.use_acts c.name now e
    (acts.Gave c.name e.name n p) = ap (λ r. arrive.by_text c.name now e n r) d.opened
    ∙ ap (λ a. arrive.use_acts c.name now e a) by-packet in
    let by-number : arrive.by_number c.name now outer.payload e n ≡ arrive.use_acts c.name now e (acts.Gave c.name e.name n p) =
    ap (λ w. arrive.by_verdict c.name now outer.payload e n w) d.fresh ∙ by-text in
    let by-half : arrive.arrive_by_half c.name now outer.payload (by_spi (spi_of outer.payload) (live c.name h)) ≡ arrive.use_acts c.name
    now e (acts.Gave c.name e.name n p) = ap (λ f. arrive.arrive_by_half c.name now outer.payload f) d.spi ∙ by-number in
    let by-esp : arrive.esp_acts c.name now outer.payload ≡ arrive.use_acts c.name now e (acts.Gave c.name e.name n p) =
    rw d.whole by-half in
    let by-view : arrive.arrive_by_view c.name c.address now o (Ok outer) ≡ arrive.use_acts c.name now e (acts.Gave c.name e.name n p) =
    rw d.own by-esp in
    ap (λ t. acts.Arrived c.name o ∷ t) (ap (λ r. arrive.arrive_by_view c.name c.address now o r) d.view ∙ by-view)
