use Rattle.std.proofs.Common.{◌≡◌, ◌/◌, ◌∙◌, length, arith}
use Rattle.std.proofs.lemmas.List.{take_all}
use Rattle.aes_block.specs.Aes.{aes}
use Rattle.esp_frame.proofs.key.schedule_of.Goals as goal

pub returns-in-Some : goal.returns-in-Some
returns-in-Some c =
    let key = c.args.key.now in
    let cut = c.in-Some.ensures.cases in
    let words : 8 ≡ length key / 4 = omega (arith, cut.2) in
    let whole : c.in-Some.long.now ≡ key = cut.0 ∙ take_all 32 key (omega arith) in
    c.of_256.ensures ∙ (λ i. aes (words i) (whole i))
