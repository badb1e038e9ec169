-- What every lawful history keeps, together.
use Rattle.std.proofs.Common.{List}
use Rattle.ikeless_tree.specs.declared.command.Peer.{Peer}
use Rattle.hist_acts.specs.declared.act.Act.{Act}
use Rattle.hist_safety.specs.Kept.{Kept}
use Rattle.hist_safety.specs.Law.{IsLawful}
use Rattle.hist_safety.proofs.Sessions.{answered-handled, cut-closed, handled-ordered, taken-last}
use Rattle.hist_safety.proofs.Orders.{place, put-order}
use Rattle.hist_safety.proofs.Finality.{doomed-ordered}
use Rattle.hist_safety.proofs.Removal.{left-off, off-dead}
use Rattle.hist_safety.proofs.Pairs.{ends, keys-differ, order-stands, pair}
use Rattle.hist_safety.proofs.Halves.{first-in, last, stays}
use Rattle.hist_safety.proofs.Keys.{used-by}
use Rattle.hist_safety.proofs.Live.{spi-finds, spi-is, stands, there}
use Rattle.hist_safety.proofs.Carried.{carried, given}
use Rattle.hist_safety.proofs.Numbers.{taken-sent}

pub kept : (gs : List Peer) (h : List Act) → IsLawful gs h → Kept h
kept gs h l = record {
  taken_last = λ g. taken-last gs g h l;
  cut_older = λ g s. cut-closed gs g s h l;
  heard_handled = λ g s. answered-handled gs g s h l;
  handled_ordered = λ g s. handled-ordered gs g s h l;
  ordered_once = λ g s k e. place gs g s k e h l;
  order_stands = λ x e. order-stands gs x e h l;
  put_as_ordered = λ g x e. put-order gs g x e h l;
  own_key = λ t. pair gs t h l;
  ends = λ x e. ends gs x e h l;
  keys_differ = λ t u d e. keys-differ gs t u d e h l;
  numbers = λ c iv. used-by gs c iv h l;
  doomed_ordered = λ x. doomed-ordered gs x h l;
  dead = λ x. off-dead gs x h l;
  known_dead = λ x. left-off gs x h l;
  inbound_first = λ t. first-in gs t h l;
  outbound_last = λ t. last gs t h l;
  stays = λ g x. stays gs g x h l;
  listed = λ g e. stands gs g e h l;
  live_listed = λ g x. there g x h;
  spi_names = λ g spi e. spi-is gs g spi e h l;
  spi_finds = λ g t spi e. spi-finds gs g t spi e h l;
  carried = λ g x n b p. carried gs g x n b p h l;
  given = λ x n. given gs x n h l;
  taken_sent = λ g x n. taken-sent gs g x n h l;
}
