use Rattle.std.proofs.Common.{◌≡◌, ◌+◌, ◌/◌, ◌%◌, ℕ, List, [], ◌∷◌, ◌++◌, length, take, drop, if◌then◌else◌, refl, ap, ◌∙◌, arith, length-append}
use Rattle.std.proofs.lemmas.List.{take_at}
use Rattle.ip_packet.specs.Field.{with_number}
use Rattle.ip_packet.specs.Ipv4.{sum_for}
use Rattle.ip_packet.proofs.Pieces.{piece-next}
use Rattle.ip_packet.proofs.outer.write_4.Goals as goal

pub returns-clause-octets : goal.returns-clause-octets
returns-clause-octets c =
    let o = c.args.o.now in
    let old = c.args.out.now in
    let src = c.args.src.now in
    let dst = c.args.dst.now in
    let front_with : ℕ → List ℕ = λ flags. 69 ∷ 0 ∷ ((o.payload + 20) / 256) ∷ ((o.payload + 20) % 256) ∷ (o.id / 256) ∷ (o.id % 256)
    ∷ flags ∷ 0 ∷ 64 ∷ 50 ∷ 0 ∷ 0 ∷ [] in
    let front : List ℕ = front_with (if o.df then 64 else 0) in
    let first : c.put.new.octets ≡ front ++ drop 12 old = c.put.ensures ∙ ap (λ f. front_with f ++ drop 12 old) c.flags.ensures in
    let second = piece-next front src old c.put.new.octets c.put-2.new.octets 12 16 first refl (omega arith) c.put-2.ensures in
    let third = piece-next (front ++ src) dst old c.put-2.new.octets c.put-3.new.octets 16 20 second
    (omega (arith, length-append front src)) (omega arith) c.put-3.ensures in
    let size : length (front ++ src ++ dst) ≡ 20 = omega (arith, length-append front src, length-append (front ++ src) dst) in
    let header : c.split_at.result.0.now ≡ front ++ src ++ dst = c.split_at.ensures.front ∙ ap (take 20) third
    ∙ take_at (front ++ src ++ dst) (drop 20 old) 20 size in
    let sum : c.checksum-sum.result ≡ sum_for (front ++ src ++ dst) = c.checksum-sum.ensures ∙ ap sum_for header in
    c.set_number.ensures
    ∙ ap (λ octets. with_number octets 10 c.checksum-sum.result) third
    ∙ ap (with_number (front ++ src ++ dst ++ drop 20 old) 10) sum
