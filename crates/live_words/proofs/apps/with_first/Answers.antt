use Rattle.std.proofs.Common.{◌∙◌, ap, codes}
use Rattle.std.proofs.lemmas.Result.{IfOk-weaker}
use Rattle.clap.specs.Words.{App}
use Rattle.live_words.specs.Apps.{with_option}
use Rattle.live_words.proofs.apps.with_first.Goals as goal

pub returns : goal.returns
returns c =
    IfOk-weaker c.with_value-3.result _ _
    (λ d h. h ∙ ap (λ (a : App). with_option a (codes "turns")) (c.in_ok-command-2.ensures
    ∙ ap (λ (a : App). with_option a (codes "seq-last")) c.in_ok-command.ensures))
    c.with_value-3.ensures
