use Rattle.std.proofs.Common.{◌≡◌, ◌+◌, drop, Some, option_map}
use Rattle.rc_http.specs.Places.{place_after, len_from}
use Rattle.rc_http.proofs.place.scan.Given as goal

abbrev pub invariant-loop-i : goal.invariant-loop-i
invariant-loop-i l = record {
  place : place_after (Some l.fn.place) l.piece ≡ place_after (Some l.place) (drop l.i l.piece);
  len : len_from (Some l.fn.place) l.piece ≡ option_map (λ k. l.i + k) (len_from (Some l.place) (drop l.i l.piece));
}
