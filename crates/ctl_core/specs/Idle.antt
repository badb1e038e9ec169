-- A tunnel in which an event changes nothing and nothing is due, by tests that make none of its directions.
use Rattle.std.specs.Prelude.{Bool, true, false, ◌==◌, not, ◌&&◌, Option, Some, None, ℕ}
use Rattle.ctl_tunnels.specs.declared.life.HalfOrder.{HalfOrder}
use Rattle.ctl_tunnels.specs.declared.life.Life.{Life}
use Rattle.ctl_tunnels.specs.declared.progress.Progress.{Progress}
use Rattle.ctl_tunnels.specs.declared.tunnel.Pair.{Pair}
use Rattle.ctl_tunnels.specs.declared.tunnel.Tunnel.{Tunnel}
use Rattle.ctl_core.specs.declared.change.Change.{Change}
use Rattle.ctl_core.specs.declared.change.Change.TheVariants as changes

-- a gateway is neither of a tunnel's
abbrev pub is_beside : ℕ → Tunnel → Bool
is_beside g t = not (t.first == g) && not (t.second == g)

-- it leaves the directions of a tunnel as they are that wait for no answer
abbrev pub spares : Change → Tunnel → Bool
spares changes.Nothing t = true
spares (changes.Ended r) t = not (t.reqid == r)
spares (changes.Rekeyed r) t = not (t.reqid == r)
spares (changes.Cut g) t = true
spares (changes.Answered o status) t = true
spares (changes.Read g shown) t = is_beside g t
spares (changes.Acquired g reqids) t = is_beside g t
spares (changes.Worn g half) t = is_beside g t

-- no order of its own waits for an answer
abbrev pub is_free : Option HalfOrder → Bool
is_free None = true
is_free (Some o) = false

-- none, or one that is put whole and not ended
abbrev pub is_whole : Option Life → Bool
is_whole None = true
is_whole (Some x) = x.out_done && not x.ended

-- a direction that waits for no answer, and gets no order whatever the sessions are
abbrev pub is_quiet : Progress → Bool
is_quiet p = is_free p.waits && not (p.wanted && not p.over) && is_whole p.older && is_whole p.newer

-- the change leaves the tunnel as it is, and no order is due in either direction
abbrev pub is_idle : Change → Tunnel → Pair → Bool
is_idle ch t p = is_quiet p.forth && is_quiet p.back && spares ch t
