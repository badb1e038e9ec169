use Rattle.std.proofs.Common.{◌≡◌, ◌∷◌, [], None}
use Rattle.ikeless_tree.specs.Check.{spd_fault}
use Rattle.json_values.specs.Json.{IsOneSpdEntry}
use Rattle.json_tree.specs.PolicyRead.{one_spd_entry_in}
use Rattle.json_tree.proofs.PolicyLaws.{one_spd_ok, one_spd_back}
use Rattle.json_codec.proofs.BodyLaws.{body_ok, body_of}
use Rattle.json_codec.proofs.laws.one_policy_is_accepted.Goals as goal

pub returns-clause-sound : goal.returns-clause-sound
returns-clause-sound c = λ body e h. body_ok one_spd_entry_in (λ d. IsOneSpdEntry e d × (spd_fault (e ∷ []) ≡ None)) e
    (λ d k. one_spd_ok e d k) body h

pub returns-clause-complete : goal.returns-clause-complete
returns-clause-complete c = λ body e h. body_of one_spd_entry_in (λ d. IsOneSpdEntry e d × (spd_fault (e ∷ []) ≡ None)) e
    (λ d k. one_spd_back e d k.0 k.1) body h
