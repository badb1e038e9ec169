use Rattle.std.proofs.Common.{◌≡◌, ◌+◌, ◌++◌, take, vec_len, vec_capacity}
use Rattle.live_devices.proofs.wire_memory.fill.Given as goal

abbrev pub invariant-loop-octet : goal.invariant-loop-octet
invariant-loop-octet l = record {
  items : l.octets.items ≡ l.initial.octets.items ++ take l.octet-index l.piece;
  len : vec_len l.octets ≡ vec_len l.initial.octets + l.octet-index;
  room : vec_capacity l.octets ≡ vec_capacity l.initial.octets;
}
