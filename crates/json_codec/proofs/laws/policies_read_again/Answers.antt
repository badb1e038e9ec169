use Rattle.std.proofs.Common.{◌≡◌, None}
use Rattle.ikeless_tree.specs.Check.{spd_fault}
use Rattle.json_values.specs.Written.{all_policies}
use Rattle.json_values.specs.Json.{IsSpd}
use Rattle.json_tree.specs.PolicyRead.{spd_in}
use Rattle.json_tree.proofs.PolicyLaws.{spd_back}
use Rattle.json_codec.proofs.BodyLaws.{body_of}
use Rattle.json_tree.proofs.PolicyAgain.{all_again}
use Rattle.json_codec.proofs.laws.policies_read_again.Goals as goal

pub returns : goal.returns
returns c = λ text es typed h utf8 reads.
    body_of spd_in (λ d. IsSpd es d × (spd_fault es ≡ None)) es (λ d k. spd_back es d k.0 k.1) text
    (utf8, all_policies es, reads, (all_again es typed h, h))
