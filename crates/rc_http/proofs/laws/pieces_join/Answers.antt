use Rattle.rc_http.proofs.StreamLemmas.{pieces}
use Rattle.rc_http.proofs.laws.pieces_join.Goals as goal

pub returns : goal.returns
returns c = pieces
