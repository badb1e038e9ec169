use Rattle.std.proofs.Common.{◌≡◌, ◌/◌, ◌%◌, ℕ, List, [], ◌∷◌, ◌++◌, drop, refl, arith, length-append}
use Rattle.ip_packet.proofs.Pieces.{piece-next}
use Rattle.ip_packet.proofs.outer.write_6.Goals as goal

pub returns-clause-octets : goal.returns-clause-octets
returns-clause-octets c =
    let o = c.args.o.now in
    let old = c.args.out.now in
    let src = c.args.src.now in
    let front : List ℕ = 96 ∷ 0 ∷ 0 ∷ 0 ∷ (o.payload / 256) ∷ (o.payload % 256) ∷ 50 ∷ 64 ∷ [] in
    let first : c.put.new.octets ≡ front ++ drop 8 old = c.put.ensures in
    let second = piece-next front src old c.put.new.octets c.put-2.new.octets 8 24 first refl (omega arith) c.put-2.ensures in
    piece-next (front ++ src) c.args.dst.now old c.put-2.new.octets c.put-3.new.octets 24 40 second (omega (arith, length-append front src))
    (omega arith) c.put-3.ensures
