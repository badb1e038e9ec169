use Rattle.std.proofs.Common.{ap, subst}
use Rattle.hist_acts.specs.declared.act.Act.TheVariants as acts
use Rattle.hist_world.specs.Block.{nothing}
use Rattle.hist_wire.specs.Wire.{response_to}
use Rattle.hist_wire.specs.Replies.{AllReplied}
use Rattle.hist_wire.proofs.Replied.{block-replied, history-replied, replied-there}
use Rattle.hist_wire.proofs.laws.answers_are_of_replies.Goals as goal

pub returns : goal.returns
returns c = record {
  history = λ shows header es. history-replied shows header nothing es tt;
  event = block-replied;
  each = λ h older g s k a l f. replied-there f.0 older (acts.Handled g s k a) (subst AllReplied f.1 l);
  response = λ g h a o e. ap (response_to g h) e;
}
