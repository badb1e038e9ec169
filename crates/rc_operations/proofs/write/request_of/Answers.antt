use Rattle.std.proofs.Common.{◌≡◌, ℕ, List, Ok, subst}
use Rattle.json_codec.specs.Bodies.{command_of}
use Rattle.json_codec.specs.CommandRead.{operation_of}
use Rattle.rc_operations.proofs.write.request_of.Goals as goal

pub returns-clause-reads : goal.returns-clause-reads
returns-clause-reads c =
    let P : List ℕ → Type 0 = λ text. command_of (operation_of c.args.c.now) text ≡ Ok c.args.c.now in
    subst P c.in_ok-body.ensures.text (c.in_ok-body.ensures.again c.requires.sound.window)
