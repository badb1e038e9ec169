use Rattle.std.proofs.Common.{◌≡◌, ◌≤◌, length}
use Rattle.ip_packet.specs.Ipv6.{upper_of}
use Rattle.ip_packet.proofs.ipv6.upper_layer.Given as goal

abbrev pub invariant-loop-rest : goal.invariant-loop-rest
invariant-loop-rest l = record {
  upper : upper_of l.next l.rest ≡ upper_of l.first l.octets;
  shorter : length l.rest ≤ length l.octets;
}

abbrev pub decreases-loop-rest : goal.decreases-loop-rest
decreases-loop-rest l = length l.rest
