use Rattle.std.proofs.Common.{◌≡◌, ◌≤◌, take, length}
use Rattle.ip_packet.specs.View.{seen}
use Rattle.sad_store.specs.Halves.{newest_place}
use Rattle.sad_store.proofs.find.newest_up_to.Given as goal

abbrev pub invariant-loop-i : goal.invariant-loop-i
invariant-loop-i l = record {
  front : l.i ≤ length l.halves;
  rest : newest_place l.reqid (seen l.v) l.halves ≡ newest_place l.reqid (seen l.v) (take l.i l.halves);
}

abbrev pub decreases-loop-i : goal.decreases-loop-i
decreases-loop-i l = l.i
