-- Which halves end and which expiries are told at a look, exactly where limits are reached.
use Rattle.std.specs.Prelude.{ℕ, ◌&&◌, not, Bool, false, List}
use Rattle.std.specs.Str.{bytes_eq}
use Rattle.ikeless_tree.specs.declared.sad.SadEntry.{SadEntry}
use Rattle.ikeless_tree.specs.declared.order.Notice.{Notice}
use Rattle.ikeless_tree.specs.declared.order.Notice.TheVariants as notices
use Rattle.life_count.specs.Lifetime.{is_reached}
use Rattle.hist_acts.specs.declared.act.Act.{Act}
use Rattle.hist_acts.specs.declared.act.Act.TheVariants as acts
use Rattle.hist_halves.specs.Halves.{is_hard}
use Rattle.hist_gateway.specs.Uses.{counts}
use Rattle.hist_gateway.specs.Stands.{was_soft_given}

-- the half of this name is gone at a hard limit
abbrev pub is_hard_end : List ℕ → Act → Bool
is_hard_end x (acts.Gone f y w) = is_hard w && bytes_eq y x
is_hard_end x _ = false

-- the notice is that of a hard expiry of the half
abbrev pub is_hard_notice : List ℕ → Notice → Bool
is_hard_notice x (notices.Expire y is_soft c) = bytes_eq y x && not is_soft
is_hard_notice x _ = false

-- the notice is that of a soft expiry of the half
abbrev pub is_soft_notice : List ℕ → Notice → Bool
is_soft_notice x (notices.Expire y is_soft c) = bytes_eq y x && is_soft
is_soft_notice x _ = false

-- a hard, or a soft, expiry of the half is told
abbrev pub is_hard_expiry : List ℕ → Act → Bool
is_hard_expiry x (acts.Notice f s n) = is_hard_notice x n
is_hard_expiry x _ = false

-- a soft expiry of the half is told
abbrev pub is_soft_expiry : List ℕ → Act → Bool
is_soft_expiry x (acts.Notice f s n) = is_soft_notice x n
is_soft_expiry x _ = false

-- the half has this name, and a count has reached a hard limit
abbrev pub reaches_hard : List ℕ → List Act → List ℕ → SadEntry → Bool
reaches_hard g h x e = bytes_eq e.name x && is_reached e.hard (counts g e.name h)

-- or none has, but one a soft limit, and no soft expiry that stands was told
abbrev pub reaches_soft : List ℕ → List Act → List ℕ → SadEntry → Bool
reaches_soft g h x e = bytes_eq e.name x
    && (not (is_reached e.hard (counts g e.name h)) && (is_reached e.soft (counts g e.name h) && not (was_soft_given g e.name h)))
