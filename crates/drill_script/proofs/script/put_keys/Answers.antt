use Rattle.drill_script.proofs.DrawnLemmas.{key-more, no-keys}
use Rattle.drill_script.proofs.script.put_keys.Goals as goal

pub keys-init : goal.keys-init
keys-init c = no-keys c.args.out.now.items

pub keys-preserved : goal.keys-preserved
keys-preserved c = key-more c.keys.k c.args.out.now.items _ _ _ c.keys.invariant c.in_ok-put_key.ensures c.in_ok-put_octet.ensures
