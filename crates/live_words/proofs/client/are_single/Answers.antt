use Rattle.std.proofs.Common.{◌∙◌, ℕ, List}
use Rattle.std.specs.Borrow.{Bor}
use Rattle.live_words.specs.Client.{has_no_space}
use Rattle.live_words.proofs.CommandLemmas.{all-mapped}
use Rattle.live_words.proofs.client.are_single.Goals as goal

pub returns : goal.returns
returns c = c.all_single.ensures ∙ all-mapped has_no_space (λ (word : Bor (List ℕ)). word.now) c.args.words.now
