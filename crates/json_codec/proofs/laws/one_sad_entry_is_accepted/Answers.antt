use Rattle.std.proofs.Common.{◌≡◌, None}
use Rattle.ikeless_tree.specs.Check.{sad_fault}
use Rattle.json_values.specs.Json.{IsOneSadEntry}
use Rattle.json_tree.specs.SadEntryRead.{one_sad_entry_in}
use Rattle.json_tree.proofs.HalfLaws.{one_sad_ok, one_sad_back}
use Rattle.json_codec.proofs.BodyLaws.{body_ok, body_of}
use Rattle.json_codec.proofs.laws.one_sad_entry_is_accepted.Goals as goal

pub returns-clause-sound : goal.returns-clause-sound
returns-clause-sound c = λ body e h. body_ok one_sad_entry_in (λ d. IsOneSadEntry e d × (sad_fault e ≡ None)) e (λ d k. one_sad_ok e d k)
    body h

pub returns-clause-complete : goal.returns-clause-complete
returns-clause-complete c = λ body e h. body_of one_sad_entry_in (λ d. IsOneSadEntry e d × (sad_fault e ≡ None)) e
    (λ d k. one_sad_back e d k.0 k.1) body h
