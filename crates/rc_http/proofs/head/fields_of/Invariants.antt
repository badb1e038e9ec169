use Rattle.std.proofs.Common.{◌≡◌, map, take}
use Rattle.httparse.specs.Spans.{header_bytes}
use Rattle.rc_http.specs.Heads.{fields_map}
use Rattle.rc_http.proofs.head.fields_of.Given as goal

abbrev pub invariant-loop-span : goal.invariant-loop-span
invariant-loop-span l = l.fields ≡ fields_map (map (header_bytes l.head) (take l.span-index l.spans))
