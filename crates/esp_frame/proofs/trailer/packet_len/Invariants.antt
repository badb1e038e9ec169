use Rattle.std.proofs.Common.{◌≡◌, ℕ, ◌+◌, ◌-◌, ◌<◌, get_or, length}
use Rattle.esp_frame.proofs.trailer.packet_len.Given as goal

abbrev pub invariant-octets : goal.invariant-octets
invariant-octets l = (k : ℕ) → k < l.i → get_or l.text (length l.text - 2 - l.pad + k) 0 ≡ k + 1
