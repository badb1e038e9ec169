use Rattle.std.proofs.Common.{◌≡◌, ◌<◌, true, false, length}
use Rattle.std.specs.Prelude.{IfSome}
use Rattle.live_devices.specs.Dialers.{StaysBut}
use Rattle.live_client.specs.Asking.{Gave}
use Rattle.live_client.specs.Replies.{IsWaiting}
use Rattle.live_client.proofs.ask.await_reply.Given as goal

abbrev pub invariant-turns : goal.invariant-turns
invariant-turns g l = record {
  waiting : IsWaiting l.reading.feeder l.reading.octets.items;
  gave : Gave (g.L.Dialer.held l.initial.dialer 0) l._turn l.reading.octets.items (g.L.Dialer.held l.dialer 0);
  room : length l.buf ≡ 65536;
  known : 0 < g.L.Dialer.peers l.dialer;
  up : g.L.Dialer.is_up l.dialer 0 ≡ true;
  kept : g.L.Dialer.faults l.dialer 0 ≡ g.L.Dialer.faults l.initial.dialer 0;
  calm : IfSome (g.L.Dialer.last_failed l.dialer 0) (λ failed. failed ≡ false);
  others : StaysBut 0 (g.L.Dialer.held l.initial.dialer) (g.L.Dialer.held l.dialer)
      × StaysBut 0 (g.L.Dialer.is_up l.initial.dialer) (g.L.Dialer.is_up l.dialer);
  counts : StaysBut 0 (g.L.Dialer.faults l.initial.dialer) (g.L.Dialer.faults l.dialer)
      × StaysBut 0 (g.L.Dialer.last_failed l.initial.dialer) (g.L.Dialer.last_failed l.dialer);
  peers : g.L.Dialer.peers l.dialer ≡ g.L.Dialer.peers l.initial.dialer;
}
