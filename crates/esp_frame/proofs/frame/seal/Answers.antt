use Rattle.std.proofs.Common.{◌≡◌, ◌+◌, ◌∙◌, ◌++◌, ℕ, length, arith}
use Rattle.aes_block.specs.Schedule.{cipher_of}
use Rattle.esp_frame.specs.Esp.{esp_len}
use Rattle.esp_frame.specs.Key.{keying_of}
use Rattle.esp_frame.proofs.Frames.{all_written, dropped, esp_is, opens_moved}
use Rattle.esp_frame.proofs.frame.seal.Goals as goal

pub returns-clause-octets : goal.returns-clause-octets
returns-clause-octets c =
    let sa = c.args.sa.now in
    let p = c.args.inner.now in
    let out = c.args.out.now in
    let rest = c.split_at_mut-icv.result.1.now in
    let opens = opens_moved (cipher_of sa.schedule) c.nonce.result (sa.salt ++ c.to_be_bytes-iv.result) c.aad-aad.result
    c.seal_in_place-tag.new.text c.seal_in_place-tag.result _ _
    c.nonce.ensures c.write_padded.ensures c.seal_in_place-tag.ensures in
    let written = esp_is (keying_of sa) c.args.seq c.args.next p c.aad-aad.result c.to_be_bytes-iv.result c.seal_in_place-tag.new.text
    c.seal_in_place-tag.result
    c.aad-aad.ensures c.to_be_bytes-iv.ensures opens in
    let n : ℕ = length p + c.pad_len.result + 2 in
    let len : 8 + 8 + n + 16 ≡ esp_len (length p) = omega (arith, c.pad_len.ensures) in
    let left = dropped n (esp_len (length p)) out c.split_at_mut-head.result.1.now c.split_at_mut-head-2.result.1.now
    c.split_at_mut-text.result.1.now rest
    c.split_at_mut-head.ensures.back c.split_at_mut-head-2.ensures.back c.split_at_mut-text.ensures.back c.split_at_mut-icv.ensures.back len
    in
    all_written _ _ _ _ _ _ _ rest c.copy_from_slice.ensures.after c.copy_from_slice-2.ensures.after c.copy_from_slice-3.ensures.after
    ∙ (λ i. written i ++ left i)
