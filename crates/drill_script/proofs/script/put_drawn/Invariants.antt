use Rattle.std.proofs.Common.{◌≡◌, ◌≤◌, ◌++◌}
use Rattle.drill_script.specs.Drawn.{drawn, is_let, is_now, many}
use Rattle.drill_script.specs.Script.{drawn_text}
use Rattle.drill_script.proofs.script.put_drawn.Given as goal

abbrev pub invariant-lines : goal.invariant-lines
invariant-lines l = record {
  text : l.out.items ≡ l.initial.out.items ++ drawn_text l.n l._line;
  number : l.x ≡ drawn l.n l._line;
  lets : l.lets ≡ many is_let l.n l._line;
  nows : l.nows ≡ many is_now l.n l._line;
  few_lets : l.lets ≤ l._line;
  few_nows : l.nows ≤ l._line;
}
