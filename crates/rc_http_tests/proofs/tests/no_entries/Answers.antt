use Rattle.rc_http.proofs.SampleLemmas.{answer_is}
use Rattle.rc_http_tests.proofs.tests.no_entries.Goals as goal

pub returns : goal.returns
returns c = answer_is _ _ _ _ c.new.ensures c.new-2.ensures c.in_ok-body.ensures c.in_ok-fields.ensures
