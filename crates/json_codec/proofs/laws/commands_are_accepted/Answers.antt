use Rattle.std.proofs.Common.{◌≡◌, None}
use Rattle.json_values.specs.Json.{IsCommand}
use Rattle.json_codec.specs.CommandRead.{command_in, command_fault}
use Rattle.json_codec.proofs.CommandLaws.{command_ok, command_back}
use Rattle.json_codec.proofs.BodyLaws.{body_ok, body_of}
use Rattle.json_codec.proofs.laws.commands_are_accepted.Goals as goal

pub returns-clause-sound : goal.returns-clause-sound
returns-clause-sound c = λ op body x lawful h. body_ok (command_in op) (λ d. IsCommand op x d × (command_fault x ≡ None)) x
    (λ d k. command_ok op x d lawful k) body h

pub returns-clause-complete : goal.returns-clause-complete
returns-clause-complete c = λ op body x h. body_of (command_in op) (λ d. IsCommand op x d × (command_fault x ≡ None)) x
    (λ d k. command_back op x d k.0 k.1) body h
