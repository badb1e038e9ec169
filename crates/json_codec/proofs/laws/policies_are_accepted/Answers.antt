use Rattle.std.proofs.Common.{◌≡◌, None}
use Rattle.ikeless_tree.specs.Check.{spd_fault}
use Rattle.json_values.specs.Json.{IsSpd}
use Rattle.json_tree.specs.PolicyRead.{spd_in}
use Rattle.json_tree.proofs.PolicyLaws.{spd_ok, spd_back}
use Rattle.json_codec.proofs.BodyLaws.{body_ok, body_of}
use Rattle.json_codec.proofs.laws.policies_are_accepted.Goals as goal

pub returns-clause-sound : goal.returns-clause-sound
returns-clause-sound c = λ body es h. body_ok spd_in (λ d. IsSpd es d × (spd_fault es ≡ None)) es (λ d k. spd_ok es d k) body h

pub returns-clause-complete : goal.returns-clause-complete
returns-clause-complete c = λ body es h. body_of spd_in (λ d. IsSpd es d × (spd_fault es ≡ None)) es (λ d k. spd_back es d k.0 k.1) body h
