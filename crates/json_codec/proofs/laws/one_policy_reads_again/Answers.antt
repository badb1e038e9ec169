use Rattle.std.proofs.Common.{◌≡◌, ◌∷◌, [], None}
use Rattle.ikeless_tree.specs.Check.{spd_fault}
use Rattle.json_values.specs.Written.{one_policy}
use Rattle.json_values.specs.Json.{IsOneSpdEntry}
use Rattle.json_tree.specs.PolicyRead.{one_spd_entry_in}
use Rattle.json_tree.proofs.PolicyLaws.{one_spd_back}
use Rattle.json_codec.proofs.BodyLaws.{body_of}
use Rattle.json_tree.proofs.PolicyAgain.{one_again}
use Rattle.json_codec.proofs.laws.one_policy_reads_again.Goals as goal

pub returns : goal.returns
returns c = λ text e typed h utf8 reads.
    body_of one_spd_entry_in (λ d. IsOneSpdEntry e d × (spd_fault (e ∷ []) ≡ None)) e (λ d k. one_spd_back e d k.0 k.1) text
    (utf8, one_policy e, reads, (one_again e typed h, h))
