use Rattle.aes_block.specs.Schedule.{cipher_of}
use Rattle.gcm_seal.proofs.Elements.{hash_key_is}
use Rattle.gcm_seal.proofs.tag.hash_key.Goals as goal

pub returns : goal.returns
returns c = hash_key_is (cipher_of c.args.k.now) c.element_at.result c.encrypt.result c.encrypt.ensures c.element_at.ensures
