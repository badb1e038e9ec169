use Rattle.std.proofs.Common.{◌≡◌, ◌≤◌, ◌∷◌, [], map, length, take}
use Rattle.httparse.specs.Spans.{header_bytes}
use Rattle.rc_http.specs.Heads.{values_of}
use Rattle.rc_http.proofs.values.values.Given as goal

abbrev pub invariant-loop-span : goal.invariant-loop-span
invariant-loop-span l = record {
  few : l.count ≤ l.span-index;
  count : l.count ≡ length (values_of l.name (map (header_bytes l.head) (take l.span-index l.spans)));
  lone : l.count ≡ 1 → values_of l.name (map (header_bytes l.head) (take l.span-index l.spans)) ≡ l.last ∷ [];
}
