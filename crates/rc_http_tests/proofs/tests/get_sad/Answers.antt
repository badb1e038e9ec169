use Rattle.rc_http.proofs.SampleLemmas.{get_is}
use Rattle.rc_http_tests.proofs.tests.get_sad.Goals as goal

pub returns : goal.returns
returns c = get_is _ _ _ _ c.in_ok-method.ensures c.in_ok-target.ensures c.new.ensures c.in_ok-fields.ensures
