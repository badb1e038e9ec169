use Rattle.rc_http.proofs.StreamLemmas.{front_gives, part_waits}
use Rattle.rc_http.proofs.laws.messages_are_whole.Goals as goal

pub returns : goal.returns
returns c = record { whole = front_gives; part = part_waits }
