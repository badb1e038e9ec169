-- How far a direction has come, what each event makes of it, and the order that it gets next.
use Rattle.std.specs.Prelude.{ℕ, Bool, true, false, ◌==◌, not, ◌&&◌, ◌||◌, Option, Some, None, if◌then◌else◌}
use Rattle.ctl_tunnels.specs.declared.half.HalfName.{HalfName}
use Rattle.ctl_tunnels.specs.declared.half.Side.{Side}
use Rattle.ctl_tunnels.specs.declared.half.Side.TheVariants as sides
use Rattle.ctl_tunnels.specs.declared.life.Life.{Life}
use Rattle.ctl_tunnels.specs.declared.life.HalfOrder.{HalfOrder}
use Rattle.ctl_tunnels.specs.declared.life.Task.{Task}
use Rattle.ctl_tunnels.specs.declared.life.Task.TheVariants as tasks
use Rattle.ctl_tunnels.specs.declared.progress.Progress.{Progress}
use Rattle.ctl_tunnels.specs.Lives as lives

-- ## one association or none

-- this holds of the association; false where there is none
abbrev pub when : (Life → Bool) → Option Life → Bool
when p None = false
when p (Some x) = p x

-- what becomes of the association, if there is one; none comes anew
abbrev pub made : (Life → Life) → Option Life → Option Life
made f None = None
made f (Some x) = Some (f x)

-- the association after an answer, where it is still left
abbrev pub kept : (Life → Option Life) → Option Life → Option Life
kept f None = None
kept f (Some x) = f x

-- the order of this kind, where it passes
abbrev pub asked : Task → (Life → Bool) → Option Life → Option HalfOrder
asked t p None = None
asked t p (Some x) = if p x then Some (record { task = t; serial = x.serial }) else None

-- the first order, or the second where the first isn't due
abbrev pub either : Option HalfOrder → Option HalfOrder → Option HalfOrder
either None second = second
either (Some o) second = Some o

-- ## a direction

-- a direction whose tunnel was just commanded; with `now` an association is wanted at once
abbrev pub begun : Bool → Progress
begun now = record { over = false; wanted = now; waits = None; older = None; newer = None }

-- no association is left here
abbrev pub is_none : Option Life → Bool
is_none None = true
is_none (Some x) = false

-- the tunnel is ended and no association of this direction is left, so that nothing more is ordered for it
abbrev pub is_spent : Progress → Bool
is_spent p = p.over && is_none p.older && is_none p.newer

-- the tunnel of the direction is ended, and with it each association left; they are removed from now on
abbrev pub ended : Progress → Progress
ended p = record {
  over = true;
  wanted = p.wanted;
  waits = p.waits;
  older = made (lives.ended_if true) p.older;
  newer =
      made (lives.ended_if true) p.newer;
}

-- a new association is wanted, where it was so before or a cause came
abbrev pub wanted_if : Bool → Progress → Progress
wanted_if cause p = record { over = p.over; wanted = cause || p.wanted; waits = p.waits; older = p.older; newer = p.newer }

-- a lost put ends its association
abbrev pub lost_life : HalfOrder → Life → Life
lost_life o x = lives.ended_if (lives.puts o.task && (x.serial == o.serial)) x

-- The order that waited is lost with its session. Where it was a put, its association is ended and a new one is wanted.
abbrev pub lost : HalfOrder → Progress → Progress
lost o p = record {
  over = p.over;
  wanted = lives.puts o.task || p.wanted;
  waits = None;
  older = made (lost_life o) p.older;
  newer =
      made (lost_life o) p.newer;
}

-- an order of the direction is at its receiver or its sender
abbrev pub is_at : Bool → Bool → Task → Bool
is_at sends receives t = if lives.is_inbound t then receives else sends

-- the order that waits is lost, if it is at the gateway whose session is cut
abbrev pub cut_waits : Bool → Bool → Progress → Option HalfOrder → Progress
cut_waits sends receives p None = p
cut_waits sends receives p (Some o) = if is_at sends receives o.task then lost o p else p

-- the session of a gateway is cut, which may be the sender or the receiver of this direction, or neither
abbrev pub cut : Bool → Bool → Progress → Progress
cut sends receives p = cut_waits sends receives p p.waits

-- the order that waits has this serial
abbrev pub awaits : ℕ → Option HalfOrder → Bool
awaits n None = false
awaits n (Some o) = o.serial == n

-- after the answer, with this status, to an order of a half; if it isn't the order that waits here, nothing changes
abbrev pub answered : HalfOrder → ℕ → Progress → Progress
answered o status p =
    if awaits o.serial p.waits
    then record {
      over = p.over;
      wanted = p.wanted;
      waits = None;
      older = kept (lives.answered o status) p.older;
      newer =
          kept (lives.answered o status) p.newer;
    }
    else p

-- ended by a reading at the receiver that came before its outbound put was ordered
abbrev pub is_abandoned : Bool → (ℕ → Bool) → Life → Bool
is_abandoned receives has_in x = receives && x.in_done && not x.out_sent && not (has_in x.serial)

-- a half of it was put and a reading does not show it
abbrev pub is_missing : Bool → Bool → (ℕ → Bool) → (ℕ → Bool) → Life → Bool
is_missing sends receives has_in has_out x =
    not x.ended
    && ((receives && x.in_done && not (has_in x.serial))
    || (sends && x.out_done && not (has_out x.serial)))

-- an association after a reading of a gateway, which may be its receiver, by the inbound halves that it shows
abbrev pub read_life : Bool → (ℕ → Bool) → Life → Life
read_life receives has_in x = lives.ended_if (is_abandoned receives has_in x) x

-- After a reading of a gateway, by the inbound and outbound halves that it shows: a half that was put and isn't shown is a cause of a new
-- association.
abbrev pub read : Bool → Bool → (ℕ → Bool) → (ℕ → Bool) → Progress → Progress
read sends receives has_in has_out p =
    record {
      over = p.over;
      wanted = (when (is_missing sends receives has_in has_out) p.older || when (is_missing sends receives has_in has_out) p.newer)
          || p.wanted;
      waits = p.waits;
      older = made (read_life receives has_in) p.older;
      newer = made (read_life receives has_in) p.newer;
    }

-- no association is in progress, so that an acquire is a cause of a new one
abbrev pub is_settled : Progress → Bool
is_settled p = not (when lives.is_open p.older) && not (when lives.is_open p.newer)

-- a gateway has the half of this side: the receiver the inbound one, the sender the outbound one
abbrev pub is_side : Bool → Bool → Side → Bool
is_side sends receives sides.In = receives
is_side sends receives sides.Out = sends

-- a half of the association put last, which is not ended
abbrev pub has_newest : Bool → Bool → HalfName → Progress → Bool
has_newest sends receives half p = when (λ x. is_side sends receives half.side && (x.serial == half.serial) && not x.ended) p.newer

-- ## the next order

-- The put of a new association's inbound half: one is wanted, the tunnel isn't ended, the sessions at both ends are read, and a key is
-- left, which gives the serial.
abbrev pub in_put : Bool → Bool → Progress → Option ℕ → Option HalfOrder
in_put sender receiver p None = None
in_put sender receiver p (Some n) = if p.wanted && not p.over && sender && receiver then Some (record { task = tasks.PutIn; serial = n })
    else None

-- removals before puts, outbound ones before inbound ones, the oldest first
abbrev pub next_free : Bool → Bool → Option ℕ → Progress → Option HalfOrder
next_free sender receiver fresh p =
    either (either (asked tasks.RemoveOut (lives.is_out_removable sender) p.older) (asked tasks.RemoveOut (lives.is_out_removable sender)
    p.newer))
    (either (either (asked tasks.RemoveIn (lives.is_in_removable receiver) p.older) (asked tasks.RemoveIn (lives.is_in_removable receiver)
    p.newer))
    (either (either (asked tasks.PutOut (lives.is_out_puttable sender receiver) p.older)
    (asked tasks.PutOut (lives.is_out_puttable sender receiver) p.newer))
    (in_put sender receiver p fresh)))

-- while an order of its own waits, a direction gets none
abbrev pub next_waits : Bool → Bool → Option ℕ → Progress → Option HalfOrder → Option HalfOrder
next_waits sender receiver fresh p None = next_free sender receiver fresh p
next_waits sender receiver fresh p (Some o) = None

-- The order that the direction gets next, if any. The first two tell whether the sessions at its sender and its receiver are read, and the
-- third is the serial that a new association would have.
abbrev pub next : Bool → Bool → Option ℕ → Progress → Option HalfOrder
next sender receiver fresh p = next_waits sender receiver fresh p p.waits

-- the association put last becomes the older one; if there was none, the older one stays
abbrev pub newer_or : Option Life → Option Life → Option Life
newer_or None older = older
newer_or (Some x) older = Some x

-- the put of the outbound half of this serial was ordered
abbrev pub sent_life : ℕ → Life → Life
sent_life n x = if x.serial == n then lives.sent x else x

-- the direction once this order was given, which then waits; a put of an inbound half begins an association and answers what was wanted
abbrev pub ordered_by : HalfOrder → Progress → Task → Progress
ordered_by o p tasks.PutIn = record {
  over = p.over;
  wanted = false;
  waits = Some o;
  older = newer_or p.newer p.older;
  newer =
      Some (lives.begun o.serial);
}
ordered_by o p tasks.PutOut = record {
  over = p.over;
  wanted = p.wanted;
  waits = Some o;
  older = made (sent_life o.serial) p.older;
  newer =
      made (sent_life o.serial) p.newer;
}
ordered_by o p tasks.RemoveIn = record { over = p.over; wanted = p.wanted; waits = Some o; older = p.older; newer = p.newer }
ordered_by o p tasks.RemoveOut = record { over = p.over; wanted = p.wanted; waits = Some o; older = p.older; newer = p.newer }

-- after an order of its own
abbrev pub ordered : HalfOrder → Progress → Progress
ordered o p = ordered_by o p o.task
