use Rattle.std.proofs.Common.{◌≡◌, ◌++◌, List, ℕ, length, ap, sym, ◌∙◌}
use Rattle.std.proofs.lemmas.List.{with_items_is}
use Rattle.ikl_base.specs.Address.{is_one_family}
use Rattle.ip_packet.specs.Field.{next_header}
use Rattle.ip_packet.specs.View.{seen}
use Rattle.ip_packet.specs.Outer.{outer_header}
use Rattle.ip_packet.specs.declared.outer.Outer.{Outer}
use Rattle.esp_frame.specs.Esp.{Keying, esp, keying}
use Rattle.esp_frame.specs.Key.{keying_of}
use Rattle.hist_gateway.specs.Datagram.{datagram, outer_of}
use Rattle.gw_packets.proofs.Entries.{family-fits}
use Rattle.gw_packets.proofs.seal.sealed.Goals as goal

pub write_sealed-requires-clause-family : goal.write_sealed-requires-clause-family
write_sealed-requires-clause-family c = ap (λ (o : Outer). is_one_family o.src o.dst) c.outer-o.ensures
    ∙ family-fits c.args.e.now c.requires.sound

pub returns : goal.returns
unfolding datagram
returns c =
    let e = c.args.e.now in
    let n = c.args.number in
    let v = seen c.args.v.now in
    let p = c.args.packet.now in
    let next = next_header p in
    let new : List ℕ = c.write_sealed.new.out in
    let b : List ℕ = esp (keying e.spi e.key) n next p in
    let size = c.esp_len-size.ensures ∙ sym (c.seal_law.ensures.len (keying e.spi e.key) n next p) in
    let written : new ≡ outer_header (outer_of e n v (length b)) ++ b =
    c.write_sealed.ensures
    ∙ (ap (λ (o : Outer). outer_header o ++ esp (keying_of c.key_of.result) n next p) (c.outer-o.ensures ∙ ap (outer_of e n v) size)
    ∙ ap (λ (k : Keying). outer_header (outer_of e n v (length b)) ++ esp k n next p) c.key_of.ensures) in
    c.from_items.ensures ∙ (with_items_is c.in_ok-octets.octets new (c.write_sealed.auto.out ∙ c.deref_mut.ensures.len) ∙ written)
