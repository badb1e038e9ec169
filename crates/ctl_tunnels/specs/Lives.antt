-- The life of an association left, as orders and answers tell it (the order of a rekey and of a recovery in RFC 9061).
use Rattle.std.specs.Prelude.{ℕ, Bool, true, false, ◌==◌, not, ◌&&◌, ◌||◌, nat_le, nat_lt, Option, Some, None, if◌then◌else◌}
use Rattle.ctl_tunnels.specs.declared.life.Life.{Life}
use Rattle.ctl_tunnels.specs.declared.life.HalfOrder.{HalfOrder}
use Rattle.ctl_tunnels.specs.declared.life.Task.{Task}
use Rattle.ctl_tunnels.specs.declared.life.Task.TheVariants as tasks

-- the order installs a half; the others remove one
abbrev pub puts : Task → Bool
puts tasks.PutIn = true
puts tasks.PutOut = true
puts tasks.RemoveIn = false
puts tasks.RemoveOut = false

-- at the receiver
abbrev pub is_inbound : Task → Bool
is_inbound tasks.PutIn = true
is_inbound tasks.PutOut = false
is_inbound tasks.RemoveIn = true
is_inbound tasks.RemoveOut = false

-- an inbound put, which begins an association
abbrev pub begins : Task → Bool
begins tasks.PutIn = true
begins tasks.PutOut = false
begins tasks.RemoveIn = false
begins tasks.RemoveOut = false

-- the association with this serial, where its inbound half was just ordered put
abbrev pub begun : ℕ → Life
begun n = record { serial = n; in_done = false; out_sent = false; out_done = false; out_gone = false; ended = false }

-- The association is in progress: it is not ended and the put of its outbound half is not answered.
abbrev pub is_open : Life → Bool
is_open x = not x.ended && not x.out_done

-- ended, where it was so before or this holds; it never ends being ended
abbrev pub ended_if : Bool → Life → Life
ended_if e x = record {
  serial = x.serial;
  in_done = x.in_done;
  out_sent = x.out_sent;
  out_done = x.out_done;
  out_gone = x.out_gone;
  ended =
      e || x.ended;
}

-- its outbound half was ordered put
abbrev pub sent : Life → Life
sent x = record { serial = x.serial; in_done = x.in_done; out_sent = true; out_done = x.out_done; out_gone = x.out_gone; ended = x.ended }

-- a later association of its direction took its place
abbrev pub is_replaced : Life → ℕ → ℕ → Task → Bool
is_replaced x n status tasks.PutIn = false
is_replaced x n status tasks.PutOut = nat_lt x.serial n && (status == 201)
is_replaced x n status tasks.RemoveIn = false
is_replaced x n status tasks.RemoveOut = false

-- after the answer to an order of its own
abbrev pub answered_own : Life → ℕ → Task → Option Life
answered_own x status tasks.PutIn =
    Some (record {
      serial = x.serial;
      in_done = true;
      out_sent = x.out_sent;
      out_done = x.out_done;
      out_gone = x.out_gone;
      ended =
          nat_le 400 status || x.ended;
    })
answered_own x status tasks.PutOut =
    Some (record {
      serial = x.serial;
      in_done = x.in_done;
      out_sent = x.out_sent;
      out_done = true;
      out_gone = x.out_gone;
      ended =
          nat_le 400 status || x.ended;
    })
answered_own x status tasks.RemoveIn = None
answered_own x status tasks.RemoveOut = Some (record {
  serial = x.serial;
  in_done = x.in_done;
  out_sent = x.out_sent;
  out_done = x.out_done;
  out_gone = true;
  ended = x.ended;
})

-- after the answer to an order of its direction; none once its inbound half is removed
abbrev pub answered : HalfOrder → ℕ → Life → Option Life
answered o status x = if x.serial == o.serial then answered_own x status o.task
    else Some (ended_if (is_replaced x o.serial status o.task) x)

-- its outbound half may be ordered removed: it is ended, the half was ordered put and no removal of it was answered, and the session at the
-- sender is read
abbrev pub is_out_removable : Bool → Life → Bool
is_out_removable sender x = x.ended && x.out_sent && not x.out_gone && sender

-- its inbound half may be ordered removed: it is ended, its outbound half was never ordered put or its removal was answered, and the
-- session at the receiver is read
abbrev pub is_in_removable : Bool → Life → Bool
is_in_removable receiver x = x.ended && (not x.out_sent || x.out_gone) && receiver

-- its outbound half may be ordered put: it is in progress, the put of its inbound half was answered, and the sessions at both ends are read
abbrev pub is_out_puttable : Bool → Bool → Life → Bool
is_out_puttable sender receiver x = is_open x && not x.out_sent && x.in_done && sender && receiver
