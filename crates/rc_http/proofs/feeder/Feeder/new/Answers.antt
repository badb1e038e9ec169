use Rattle.rc_http.proofs.FeedLemmas.{start_stage}
use Rattle.rc_http.proofs.feeder.Feeder.new.Goals as goal

pub invariant_of-result : goal.invariant_of-result
invariant_of-result c = start_stage _ c.new.ensures.items
