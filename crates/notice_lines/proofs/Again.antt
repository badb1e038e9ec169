-- What is written for a notice is the notification of that notice.
use Rattle.std.proofs.Common.{ℕ, ◌-◌, ◌^◌, List, refl, arith}
use Rattle.ikeless_tree.specs.declared.sad.Limits.{Limits}
use Rattle.ikeless_tree.specs.declared.order.Notice.{Notice}
use Rattle.ikeless_tree.specs.declared.order.Notice.TheVariants as notices
use Rattle.ikeless_tree.specs.Typed.{IsTypedLimits, IsTypedNotice}
use Rattle.json_tree.specs.SadEntryWritten.{counts_data}
use Rattle.json_tree.proofs.PolicyAgain.{number_again, wide_again, selector_again}
use Rattle.json_tree.proofs.HalfAgain.{small}
use Rattle.notice_lines.specs.Envelope.{acquire_data, expire_data, envelope_data, notice_data, IsNotice}
use Rattle.notice_lines.specs.Notifications.{IsCounts, IsNotification}

counts_again : (l : Limits) → IsTypedLimits l → IsCounts l (counts_data l)
counts_again l typed = record {
  members = refl;
  bytes = wide_again l.bytes typed.bytes;
  idle = number_again 0 (2 ^ 32 - 1) l.idle (omega arith) (small l.idle typed.idle);
  packets = number_again 0 (2 ^ 32 - 1) l.packets (omega arith) (small l.packets typed.packets);
  time = number_again 0 (2 ^ 32 - 1) l.time (omega arith) (small l.time typed.time);
}

pub notice_again : (n : Notice) (stamp : List ℕ) → IsNotice n → IsTypedNotice n → IsNotification n (notice_data n stamp)
unfolding envelope_data acquire_data expire_data
notice_again (notices.Acquire policy s) stamp is typed = (
  refl,
  record {
    members = refl;
    time = (stamp, refl);
    event = record { members = refl; policy = (refl, is.0); selector = selector_again s typed; whole = is.1 };
  },
)
notice_again (notices.Expire name soft l) stamp is typed = (
  refl,
  record {
    members = refl;
    time = (stamp, refl);
    event = record { members = refl; name = (refl, is); current = counts_again l typed; soft = refl };
  },
)
notice_again (notices.SeqOverflow name) stamp is typed = (refl, record { members = refl; time = (stamp, refl); event = (refl, (refl, is)) })
notice_again (notices.BadSpi spi) stamp is typed =
    (refl, record { members = refl; time = (stamp, refl); event = (refl, number_again 0 (2 ^ 32 - 1) spi (omega arith) (small spi typed)) })
