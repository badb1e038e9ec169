use Rattle.std.proofs.Common.{◌∙◌, ap}
use Rattle.live_words.specs.Values.{port_of}
use Rattle.live_words.proofs.MatchLemmas.{value-missing, value-read}
use Rattle.live_words.proofs.values.port_named.Goals as goal

pub returns-in-Some : goal.returns-in-Some
returns-in-Some c = c.port.ensures ∙ ap port_of c.as_bytes.ensures.value ∙ value-read port_of _ _ c.in-Some.ensures

pub returns-in-None : goal.returns-in-None
returns-in-None c = value-missing port_of _ c.in-None.ensures
