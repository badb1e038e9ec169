use Rattle.std.proofs.Common.{◌∙◌, ap}
use Rattle.aes_block.specs.Schedule.{cipher_of}
use Rattle.gcm_seal.specs.Gcm.{add_blocks}
use Rattle.gcm_seal.proofs.tag.masked.Goals as goal

pub returns : goal.returns
returns c =
    let mask = c.encrypt-mask.ensures ∙ ap (cipher_of c.args.k.now) c.counter.ensures in
    c.sum.ensures ∙ (λ i. add_blocks (mask i) (c.block_of.ensures i))
