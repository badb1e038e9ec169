use Rattle.std.proofs.Common.{◌∙◌, ap}
use Rattle.spd_match.specs.Kept.{kept_at}
use Rattle.spd_match.proofs.KeptLemmas.{none-kept, nothing-else}
use Rattle.spd_match.proofs.decisions.Decisions.new.Goals as goal

pub returns : goal.returns
returns c = ap kept_at (c.in_ok-vec.ensures.items_if_clones_equal (nothing-else _ (λ x bad. bad))) ∙ none-kept c.args.places
