use Rattle.std.proofs.Common.{◌∙◌, ap, map, List, ℕ}
use Rattle.gcm_seal.specs.Gcm.{reversed}
use Rattle.gcm_seal.proofs.Elements.{block_of_is}
use Rattle.gcm_seal.proofs.field.block_of.Goals as goal

pub returns : goal.returns
returns c = c.reversed.ensures ∙ ap (λ (v : List ℕ). map reversed v) c.to_le_bytes.ensures ∙ block_of_is c.args.p
