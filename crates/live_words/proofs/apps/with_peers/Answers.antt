use Rattle.std.proofs.Common.{rules, ◌≡◌, ◌∙◌, ap, Some}
use Rattle.std.proofs.lemmas.Result.{IfOk-weaker}
use Rattle.clap.specs.Words.{app_of, rule_of, with_rule, Rule}
use Rattle.live_words.specs.Apps.{peers_rule}
use Rattle.live_words.proofs.AppLemmas.{some-is}
use Rattle.live_words.proofs.apps.with_peers.Goals as goal

pub returns : goal.returns
returns c =
    let range : c.num_args.result.num_vals ≡ Some (record { start_inclusive = 1; end_inclusive = 16 }) =
    rw (c.new-2.ensures.start, c.new-2.ensures.end) at (some-is _ _ c.num_args.ensures.1) in
    let rule : rule_of c.help-peers.result ≡ peers_rule = search (rules, range) in
    IfOk-weaker c.arg.result _ _ (λ d h. h.shape (search (rules, range)) ∙ ap (λ (r : Rule). with_rule (app_of c.args.command) r) rule)
    c.arg.ensures
