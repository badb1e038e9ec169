use Rattle.std.proofs.Common.{◌≡◌, true, sym, subst}
use Rattle.clap.specs.Words.{App, is_simple_and_free}
use Rattle.live_words.specs.Values.{matched, GivesRows}
use Rattle.live_words.proofs.AppLemmas.{controller-simple}
use Rattle.live_words.proofs.controller.matches_of.Goals as goal

pub match_words-requires : goal.match_words-requires
match_words-requires c = (let P : App → Type 0 = λ a. is_simple_and_free a ≡ true in subst P (sym c.in-Ok.ensures) controller-simple)

pub returns-in-Ok : goal.returns-in-Ok
returns-in-Ok c = (let P : App → Type 0 = λ a. GivesRows c.match_words.result (matched a c.args.words.now) in
    subst P c.in-Ok.ensures c.match_words.ensures)
