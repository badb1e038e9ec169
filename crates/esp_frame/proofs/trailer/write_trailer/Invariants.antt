use Rattle.std.proofs.Common.{◌≡◌, ℕ, ◌+◌, ◌<◌, get_or}
use Rattle.esp_frame.proofs.trailer.write_trailer.Given as goal

abbrev pub invariant-octets : goal.invariant-octets
invariant-octets l = (k : ℕ) → k < l.i → get_or l.back k 0 ≡ k + 1
