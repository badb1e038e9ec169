use Rattle.std.proofs.Common.{◌≡◌, length, arith}
use Rattle.live_client.proofs.Turns.{brings_some}
use Rattle.live_client.proofs.ask.read_once.Goals as goal

pub returns-in-Ok-Some-clause-brings : goal.returns-in-Ok-Some-clause-brings
returns-in-Ok-Some-clause-brings g c =
    let gives = rw c.in-Ok-Some.field-0-is at c.in-Ok-Some.ensures.gives in
    let room : length c.read.new.buf ≡ 65536 = omega (arith, c.read.auto.buf, c.requires.room) in
    brings_some _ _ c.read.new.buf c.args.reading.now.octets.items c.split_at.result.0.now c.in-Ok-Some.n c.take_read.new.reading.feeder
    c.take_read.new.reading.octets.items c.take_read.result room gives.0 gives.1 c.split_at.ensures.front
    c.take_read.ensures.end c.take_read.ensures.piece
