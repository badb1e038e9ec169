use Rattle.std.proofs.Common.{◌≡◌, ◌≤◌, take, length}
use Rattle.sad_store.specs.Columns.{last_place}
use Rattle.sad_store.proofs.column.last_in.Given as goal

abbrev pub invariant-loop-i : goal.invariant-loop-i
invariant-loop-i l = record {
  front : l.i ≤ length l.keys;
  rest : last_place l.key l.keys ≡ last_place l.key (take l.i l.keys);
}

abbrev pub decreases-loop-i : goal.decreases-loop-i
decreases-loop-i l = l.i
