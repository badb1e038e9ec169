use Rattle.hist_wire.specs.Dates.{line_text}
use Rattle.text_bounds.proofs.Lines.{line_of}
use Rattle.text_bounds.proofs.laws.lines_are_short.Goals as goal

pub returns : goal.returns
returns c = record {
  line = line_of;
  heard = λ n seconds is typed few. c.written_is_heard.ensures n seconds (line_text n seconds) is typed (line_of n seconds is typed few);
}
