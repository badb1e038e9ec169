use Rattle.std.proofs.Common.{◌≡◌, ◌+◌, ◌*◌, ◌<◌, ◌≤◌, ℕ, get_or, bit_xor, length}
use Rattle.aes_block.specs.Schedule.{cipher_of}
use Rattle.aes_block.specs.Shared.{Shares}
use Rattle.gcm_seal.specs.Gcm.{counter, stream}
use Rattle.gcm_seal.proofs.counter.add_stream.Given as goal

abbrev pub invariant-chunks : goal.invariant-chunks
invariant-chunks l = record {
  sealed : (k : ℕ) → k < 16 * l.i → k < length l.initial.text → get_or l.text k 0 ≡ bit_xor (get_or l.initial.text k 0)
      (stream (cipher_of l.k) l.nonce k);
  rest : (k : ℕ) → 16 * l.i ≤ k → get_or l.text k 0 ≡ get_or l.initial.text k 0;
  shares : Shares l.shared l.k (counter l.nonce (l.i + 1));
}
