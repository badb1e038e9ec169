use Rattle.std.proofs.Common.{◌≡◌, ◌≤◌, arith, append_assoc}
use Rattle.serde_json.specs.Data.{depth}
use Rattle.json_values.proofs.TokenLemmas.{text_of, text_reads}
use Rattle.json_codec.specs.CommandWritten.{command_data}
use Rattle.json_codec.proofs.FlatCommand.{flat_command}
use Rattle.json_codec.proofs.WritableCommand.{write_command}
use Rattle.json_codec.proofs.command_write.write_command.Goals as goal

pub returns-clause-text : goal.returns-clause-text
returns-clause-text c = text_of _ c.end_object.new.self (command_data c.args.c.now) c.into_octets.ensures.text
    (simp (
      c.in_ok-end_object.ensures,
      c.in_ok-add_input.ensures,
      c.in_ok-name.ensures,
      c.in_ok-begin_object.ensures,
      c.new-out.ensures,
      append_assoc,
    ))

pub returns-clause-reads : goal.returns-clause-reads
returns-clause-reads c =
    let deep : depth (command_data c.args.c.now) ≤ 8 = (flat_command c.args.c.now).shallow in
    text_reads _ (command_data c.args.c.now) (returns-clause-text c) (write_command c.args.c.now c.numbers_fit.ensures c.requires)
    (omega arith)

pub returns-clause-again : goal.returns-clause-again
returns-clause-again c = λ window. c.commands_read_again.ensures _ c.args.c.now c.numbers_fit.ensures c.requires window
    c.into_octets.ensures.utf8 (returns-clause-reads c)
