use Rattle.text_bounds.proofs.Refusals.{refusal_text}
use Rattle.text_bounds.proofs.laws.refusals_are_text.Goals as goal

pub returns : goal.returns
returns c = refusal_text
