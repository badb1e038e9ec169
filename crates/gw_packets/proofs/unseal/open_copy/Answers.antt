use Rattle.std.proofs.Common.{◌≡◌, List, ℕ, Some, length, ap, sym, ◌∙◌, slice_range}
use Rattle.esp_frame.specs.Esp.{text_of}
use Rattle.esp_frame.specs.Key.{keying_of}
use Rattle.esp_frame.specs.Open.{inner_packet, opened}
use Rattle.std.proofs.lemmas.List.{with_items_is}
use Rattle.gw_packets.specs.declared.unseal.Unsealed.TheVariants as unsealed
use Rattle.gw_packets.specs.Opened.{unsealed_by, unsealed_by_packet}
use Rattle.gw_packets.proofs.unseal.open_copy.Goals as goal

pub returns : goal.returns
returns c =
    let key = keying_of c.args.key.now in
    let old : List ℕ = c.deref_mut.result.now in
    let new : List ℕ = c.open.new.esp in
    let packet : List ℕ = slice_range new c.in-Ok.place.start c.in-Ok.place.end in
    let said = c.in-Ok.ensures.by_definition in
    let text : opened key old ≡ Some (text_of new) = c.text_law.ensures.finds key old (text_of new) said.3 in
    let inner : inner_packet (text_of new) ≡ Some (record { next = c.in-Ok.place.next; octets = packet }) =
    c.packet_law.ensures.finds (text_of new) packet c.in-Ok.place.next said.4 in
    let same : opened key c.args.octets.now ≡ Some (text_of new) =
    ap (opened key) (sym c.in_ok-copy.ensures.items ∙ sym c.deref_mut.ensures.value) ∙ text in
    let found : unsealed_by (opened key c.args.octets.now) ≡ unsealed.Packet c.in-Ok.place.next packet = ap unsealed_by same
    ∙ ap unsealed_by_packet inner in
    let size : length new ≡ c.in_ok-copy.copy.len = c.open.auto.esp ∙ c.deref_mut.ensures.len in
    let cut : c.from_items.result ≡ packet =
    c.from_items.ensures ∙ (c.cut.ensures ∙ ap (λ (zs : List ℕ). slice_range zs c.in-Ok.place.start c.in-Ok.place.end)
    (with_items_is c.in_ok-copy.copy new size)) in
    ap (unsealed.Packet c.in-Ok.place.next) cut ∙ sym found
