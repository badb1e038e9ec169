use Rattle.std.proofs.Common.{rules, ◌≡◌, ◌∙◌, ap}
use Rattle.std.proofs.lemmas.Result.{IfOk-weaker}
use Rattle.clap.specs.Words.{app_of, rule_of, with_rule, Rule}
use Rattle.live_words.specs.Apps.{word_rule}
use Rattle.live_words.proofs.apps.with_word.Goals as goal

pub returns : goal.returns
returns c =
    let rule : rule_of c.help-word.result ≡ word_rule c.args.name.now = search rules in
    IfOk-weaker c.arg.result _ _ (λ d h. h.shape (search rules) ∙ ap (λ (r : Rule). with_rule (app_of c.args.command) r) rule) c.arg.ensures
