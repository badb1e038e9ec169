use Rattle.std.proofs.Common.{◌≡◌, ◌<◌, ◌≤◌, ℕ, get_or, bit_xor}
use Rattle.aes_block.specs.Schedule.{cipher_of}
use Rattle.gcm_seal.specs.Gcm.{stream}
use Rattle.gcm_seal.proofs.plain.add_stream.Given as goal

abbrev pub invariant-octets : goal.invariant-octets
invariant-octets l = record {
  sealed : (k : ℕ) → k < l.i → get_or l.text k 0 ≡ bit_xor (get_or l.initial.text k 0) (stream (cipher_of l.k) l.nonce k);
  rest : (k : ℕ) → l.i ≤ k → get_or l.text k 0 ≡ get_or l.initial.text k 0;
}
