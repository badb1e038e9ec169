use Rattle.std.proofs.Common.{◌≡◌, ◌++◌, take}
use Rattle.script_lines.specs.Text.{text_of}
use Rattle.script_lines.proofs.write.put_acts.Given as goal

abbrev pub invariant-loop-act : goal.invariant-loop-act
invariant-loop-act l = l.out.items ≡ l.initial.out.items ++ text_of (take l.act-index l.act-items)
