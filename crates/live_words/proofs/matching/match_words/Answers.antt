use Rattle.std.proofs.Common.{◌∙◌}
use Rattle.std.proofs.lemmas.Bool.{and_parts}
use Rattle.clap.specs.Words.{app_of}
use Rattle.live_words.proofs.MatchLemmas.{matched-ok, matched-err}
use Rattle.live_words.proofs.matching.match_words.Goals as goal

pub returns-in-Ok : goal.returns-in-Ok
returns-in-Ok c =
    matched-ok (app_of c.args.command) c.args.words.now _ (c.in-Ok.ensures.kinds c.requires)
    (c.in-Ok.ensures.matches (and_parts _ _ c.requires).0).0

pub returns : goal.returns
returns c =
    matched-err (app_of c.args.command) c.args.words.now c.in-Err.error (c.in-Err.ensures.kinds c.requires)
    (λ e. c.in_default.not-OutOfMemory (c.kind.ensures ∙ e))
