use Rattle.std.proofs.Common.{◌∙◌, ap}
use Rattle.live_words.specs.Values.{count_of}
use Rattle.live_words.proofs.MatchLemmas.{value-missing, value-read}
use Rattle.live_words.proofs.values.count_named.Goals as goal

pub returns-in-Some : goal.returns-in-Some
returns-in-Some c = c.count.ensures ∙ ap count_of c.as_bytes.ensures.value ∙ value-read count_of _ _ c.in-Some.ensures

pub returns-in-None : goal.returns-in-None
returns-in-None c = value-missing count_of _ c.in-None.ensures
