use Rattle.std.proofs.Common.{sym}
use Rattle.rc_http.proofs.PlaceLemmas.{scan_place, scan_len, scan_end, scan_through}
use Rattle.rc_http.proofs.place.scan.Goals as goal

pub returns-in-None : goal.returns-in-None
returns-in-None c = scan_end _ _ _ _ c.loop-i-test.true c.loop-i.invariant.len (sym c.in-None.ensures)

pub loop-i-preserved : goal.loop-i-preserved
loop-i-preserved c = record {
  place = scan_place _ _ _ _ _ c.loop-i-test.true c.loop-i.invariant.place (sym c.in-Some.ensures);
  len = scan_len _ _ _ _ _ c.loop-i-test.true c.loop-i.invariant.len (sym c.in-Some.ensures);
}

pub returns : goal.returns
returns c = scan_through _ _ _ _ c.loop-i-test.false c.loop-i.invariant.place
