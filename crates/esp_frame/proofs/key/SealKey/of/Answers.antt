use Rattle.std.proofs.Common.{◌≡◌, ◌-◌, ◌/◌, ◌∙◌, ℕ, length, arith}
use Rattle.aes_block.specs.Aes.{aes}
use Rattle.esp_frame.specs.Esp.{keying}
use Rattle.esp_frame.proofs.key.SealKey.of.Goals as goal

pub returns : goal.returns
unfolding keying
returns c =
    let key = c.args.key.now in
    let n : ℕ = length key - 4 in
    let cut = c.in-Some.ensures.cases in
    let len : length c.in-Some.cipher.now ≡ n = omega (arith, cut.2) in
    let under = c.schedule_of.ensures ∙ (λ i. aes (len i / 4) (cut.0 i)) in
    (λ i. record { spi = c.args.spi; cipher = under i; salt = cut.1 i })
