use Rattle.rc_http.proofs.ValueLemmas.{named}
use Rattle.rc_http.proofs.values.is_named.Goals as goal

pub returns : goal.returns
returns c = named _ _ _ c.eq_ignore_ascii_case.ensures.test
