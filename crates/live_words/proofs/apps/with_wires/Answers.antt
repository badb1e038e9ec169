use Rattle.std.proofs.Common.{◌∙◌, ap, codes}
use Rattle.std.proofs.lemmas.Result.{IfOk-weaker}
use Rattle.clap.specs.Words.{App}
use Rattle.live_words.specs.Apps.{with_option}
use Rattle.live_words.proofs.apps.with_wires.Goals as goal

pub returns : goal.returns
returns c =
    let two = c.in_ok-command-2.ensures ∙ ap (λ (a : App). with_option a (codes "inside-to")) c.in_ok-command.ensures in
    let three = c.in_ok-command-3.ensures ∙ ap (λ (a : App). with_option a (codes "outside")) two in
    IfOk-weaker c.with_value-4.result _ _ (λ d h. h ∙ ap (λ (a : App). with_option a (codes "outside-to")) three) c.with_value-4.ensures
