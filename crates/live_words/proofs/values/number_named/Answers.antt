use Rattle.std.proofs.Common.{◌∙◌, ◌-◌, ◌^◌, ap}
use Rattle.ikl_base.specs.declared.status.LineFault.TheVariants as faults
use Rattle.line_words.specs.Words.{number_in}
use Rattle.live_words.proofs.MatchLemmas.{value-missing, value-read}
use Rattle.live_words.proofs.values.number_named.Goals as goal

pub returns-in-Some : goal.returns-in-Some
returns-in-Some c =
    c.u64_from.ensures ∙ ap (number_in faults.Number (2 ^ 64 - 1)) c.as_bytes.ensures.value
    ∙ value-read (number_in faults.Number (2 ^ 64 - 1)) _ _ c.in-Some.ensures

pub returns-in-None : goal.returns-in-None
returns-in-None c = value-missing (number_in faults.Number (2 ^ 64 - 1)) _ c.in-None.ensures
