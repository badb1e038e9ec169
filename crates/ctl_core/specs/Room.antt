-- Queues that are short enough to be added to.
use Rattle.std.specs.Prelude.{ℕ, ◌^◌, Bool, true, ◌&&◌, nat_lt, List, [], ◌∷◌, length}
use Rattle.ctl_core.specs.declared.peer.Station.{Station}
use Rattle.ctl_core.specs.declared.peer.Waiting.{Waiting}

-- both are below 2^62, so that their sum can be counted
abbrev pub is_short : ℕ → ℕ → Bool
is_short some more = nat_lt some (2 ^ 62) && nat_lt more (2 ^ 62)

-- each gateway's queue can take what it gets
abbrev pub has_room_for : List Station → List (List Waiting) → Bool
has_room_for [] qs = true
has_room_for (s ∷ ss) [] = true
has_room_for (s ∷ ss) (q ∷ qs) = is_short (length s.queue) (length q) && has_room_for ss qs
