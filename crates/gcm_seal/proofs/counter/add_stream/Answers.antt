use Rattle.std.proofs.Common.{◌≡◌, ◌+◌, ◌*◌, ◌/◌, ◌∙◌, ℕ, List, ap, length, bit_xor, arith, inl, inr, refl}
use Rattle.std.proofs.lemmas.Bool.{cases_lt}
use Rattle.aes_block.specs.Schedule.{cipher_of}
use Rattle.gcm_seal.specs.Gcm.{counter}
use Rattle.gcm_seal.proofs.Counters.{with_own_last}
use Rattle.gcm_seal.proofs.Texts.{rest_stream, sealed_is}
use Rattle.gcm_seal.proofs.counter.add_stream.Goals as goal

pub chunks-preserved : goal.chunks-preserved
chunks-preserved c =
    let e : List ℕ → List ℕ = cipher_of c.args.k.now in
    let nonce = c.args.nonce.now in
    let i = c.chunks.i in
    let held = c.chunks.invariant in
    let stream_is : c.encrypt_after-stream.result ≡ e (counter nonce (i + 1)) =
    c.encrypt_after-stream.ensures (counter nonce (i + 1)) held.shares ∙ ap e (with_own_last nonce (i + 1) _ (omega arith) (omega arith)) in
    record {
      sealed = λ k below h. elim (cases_lt k (16 * i)) [
        | inl b ↦ c.add_block.ensures.before k b ∙ held.sealed k b h
        | inr a ↦
            c.add_block.ensures.within k a (omega arith)
            ∙ (λ j. bit_xor (held.rest k a j) (rest_stream e nonce c.encrypt_after-stream.result (counter nonce (i + 1)) i k stream_is refl
            a (omega arith) j))
      ];
      rest = λ k a. c.add_block.ensures.after k (omega arith) ∙ held.rest k (omega arith);
      shares = c.advance.ensures held.shares;
    }

pub returns : goal.returns
returns c =
    let e : List ℕ → List ℕ = cipher_of c.args.k.now in
    let nonce = c.args.nonce.now in
    let old = c.args.text.now in
    let n : ℕ = length old / 16 in
    let done : c.chunks.i ≡ n = omega (arith, c.chunks.auto.i-end) in
    let stream_is : c.encrypt_after-stream-2.result ≡ e (counter nonce (c.chunks.i + 1)) =
    c.encrypt_after-stream-2.ensures (counter nonce (c.chunks.i + 1)) c.chunks.invariant.shares
    ∙ ap e (with_own_last nonce (c.chunks.i + 1) _ (omega arith) (omega (arith, done))) in
    sealed_is e nonce old c.add_rest.new.text (omega arith) (λ k h. elim (cases_lt k (16 * n)) [
      | inl below ↦ c.add_rest.ensures.before k below ∙ c.chunks.invariant.sealed k (omega arith) h
      | inr above ↦
          c.add_rest.ensures.within k above (omega arith)
          ∙ (λ i. bit_xor (c.chunks.invariant.rest k (omega arith) i) (rest_stream e nonce c.encrypt_after-stream-2.result
          (counter nonce (c.chunks.i + 1)) n k stream_is (ap (λ (m : ℕ). counter nonce (m + 1)) done) above (omega arith) i))
    ])
