use Rattle.notice_lines.proofs.Notifications.{notice_ok, notice_back}
use Rattle.notice_lines.proofs.laws.notices_are_accepted.Goals as goal

pub returns-clause-sound : goal.returns-clause-sound
returns-clause-sound c = λ line n h. (h.utf8, h.value, h.reads, notice_ok n h.value h.is)

pub returns-clause-complete : goal.returns-clause-complete
returns-clause-complete c = λ line n h. record { utf8 = h.0; value = h.1; reads = h.2; is = notice_back n h.1 h.3 }
