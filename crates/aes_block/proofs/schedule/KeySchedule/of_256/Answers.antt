use Rattle.std.proofs.Common.{◌∙◌, List, ℕ, ap, take}
use Rattle.aes_block.specs.Aes.{aes, cipher}
use Rattle.aes_block.proofs.schedule.KeySchedule.of_256.Goals as goal

pub returns : goal.returns
unfolding aes
returns c =
    let words = ap (λ (ws : List (List ℕ)). take 60 ws) c.packed_words.ensures ∙ c.expand.ensures in
    (λ i b. cipher (words i) 14 b)
