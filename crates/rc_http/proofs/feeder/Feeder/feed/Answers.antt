use Rattle.std.proofs.Common.{◌≡◌, ◌∙◌, sym, ap, Some}
use Rattle.rc_http.specs.Stages.{fault_of}
use Rattle.rc_http.proofs.FeedLemmas.{start_stage, failed_again}
use Rattle.rc_http.proofs.feeder.Feeder.feed.Goals as goal

pub returns-in-Err-clause-gives : goal.returns-in-Err-clause-gives
returns-in-Err-clause-gives c =
    let fault : c.args.self.now.fault ≡ Some c.in-Err.fault = ap (λ f. f.fault) (sym c.self.view_is) ∙ ap fault_of c.in-Err.is in
    λ since is. failed_again c.args.self.now c.in-Err.fault since c.args.piece.now fault is

pub invariant_of-self-in-Ok-Whole : goal.invariant_of-self-in-Ok-Whole
invariant_of-self-in-Ok-Whole c = start_stage _ c.clear.ensures.items
