use Rattle.std.proofs.Common.{◌∙◌, ap}
use Rattle.live_words.specs.Values.{address_in}
use Rattle.live_words.proofs.MatchLemmas.{value-missing, value-read}
use Rattle.live_words.proofs.values.address_named.Goals as goal

pub returns-in-Some : goal.returns-in-Some
returns-in-Some c = c.address.ensures ∙ ap address_in c.as_bytes.ensures.value ∙ value-read address_in _ _ c.in-Some.ensures

pub returns-in-None : goal.returns-in-None
returns-in-None c = value-missing address_in _ c.in-None.ensures
