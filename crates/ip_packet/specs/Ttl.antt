-- A packet with another time to live or hop limit (RFC 791 section 3.1, RFC 8200 section 3).
use Rattle.std.specs.Prelude.{ℕ, ◌==◌, List, take, slice_set, is_ok, if◌then◌else◌}
use Rattle.ip_packet.specs.Field.{version, with_number}
use Rattle.ip_packet.specs.Ipv4.{header_length, sum_for}
use Rattle.ip_packet.specs.View.{view_of}

-- the octets with this time to live, and no sum
abbrev pub without_sum : ℕ → List ℕ → List ℕ
without_sum ttl o = with_number (slice_set o 8 ttl) 10 0

-- the sum is computed anew
abbrev pub with_ttl_4 : ℕ → List ℕ → List ℕ
with_ttl_4 ttl o = with_number (without_sum ttl o) 10 (sum_for (take (header_length o) (without_sum ttl o)))

-- octets that are no packet stay as they are
unfoldable pub with_ttl : ℕ → List ℕ → List ℕ
with_ttl ttl o = if is_ok (view_of o) then (if version o == 4 then with_ttl_4 ttl o else slice_set o 7 ttl) else o
