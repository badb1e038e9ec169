use Rattle.std.proofs.Common.{◌∙◌}
use Rattle.rc_http.specs.Written.{response_again}
use Rattle.text_bounds.proofs.Again.{response_looks, response_whole, same_answer}
use Rattle.text_bounds.proofs.laws.responses_are_read.Goals as goal

pub returns : goal.returns
returns c = record {
  looks = response_looks;
  same = same_answer;
  answers = λ m o a w says. (response_again m, response_whole m w, same_answer m o ∙ says);
}
