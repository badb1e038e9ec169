use Rattle.std.proofs.Common.{◌≡◌, None}
use Rattle.json_codec.specs.CommandWritten.{command_data}
use Rattle.json_values.specs.Json.{IsCommand}
use Rattle.json_codec.specs.CommandRead.{operation_of, command_in, command_fault}
use Rattle.json_codec.proofs.CommandLaws.{command_back}
use Rattle.json_codec.proofs.BodyLaws.{body_of}
use Rattle.json_codec.proofs.CommandAgain.{command_again, no_command_fault}
use Rattle.json_codec.proofs.laws.commands_read_again.Goals as goal

pub returns : goal.returns
returns c = λ text x typed lawful window utf8 reads.
    body_of (command_in (operation_of x)) (λ d. IsCommand (operation_of x) x d × (command_fault x ≡ None)) x
    (λ d k. command_back (operation_of x) x d k.0 k.1) text
    (utf8, command_data x, reads, (command_again c.hex_read_again.ensures x typed lawful window, no_command_fault x lawful))
