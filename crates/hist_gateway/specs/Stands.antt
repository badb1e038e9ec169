-- Which notices stand, of this project: a notice that stands isn't given again. A past has its newest act first. In each test
-- the name in the act stands first and the name asked for second.
use Rattle.std.specs.Prelude.{ℕ, ◌==◌, ◌&&◌, ◌||◌, not, Bool, false, List, [], ◌∷◌, take, if◌then◌else◌}
use Rattle.std.specs.List.{list_any}
use Rattle.std.specs.Str.{bytes_eq}
use Rattle.ikeless_tree.specs.declared.entry.SpdEntry.{SpdEntry}
use Rattle.ikeless_tree.specs.declared.order.Notice.{Notice}
use Rattle.ikeless_tree.specs.declared.order.Notice.TheVariants as notices
use Rattle.ikeless_tree.specs.Check.{is_named}
use Rattle.ikeless_tree.specs.Half.{is_inbound}
use Rattle.hist_acts.specs.declared.act.Act.{Act}
use Rattle.hist_acts.specs.declared.act.Act.TheVariants as acts
use Rattle.hist_acts.specs.Past.{force}
use Rattle.hist_halves.specs.Halves.{is_half, is_live}

-- the notice is an acquire for the policy of this name
abbrev pub is_acquire_of : List ℕ → Notice → Bool
is_acquire_of name (notices.Acquire policy selector) = bytes_eq policy name
is_acquire_of name _ = false

-- the notice is a soft expiry of this half
abbrev pub is_soft_of : List ℕ → Notice → Bool
is_soft_of x (notices.Expire y soft counts) = soft && bytes_eq y x
is_soft_of x _ = false

-- the notice is an overflow of this half
abbrev pub is_overflow_of : List ℕ → Notice → Bool
is_overflow_of x (notices.SeqOverflow y) = bytes_eq y x
is_overflow_of x _ = false

-- the entry of this name has this reqid
abbrev pub has_reqid : List ℕ → ℕ → List SpdEntry → Bool
has_reqid name reqid list = list_any (λ e. is_named name e && (e.reqid == reqid)) list

-- An acquire stands until the list in force is another one, an outbound half with its entry's reqid is installed, a session is
-- taken, or the gateway restarts.
abbrev pub does_acquire_stand : List ℕ → List ℕ → List Act → Bool
does_acquire_stand g name [] = false
does_acquire_stand g name (acts.Notice f s n ∷ h) = (bytes_eq f g && is_acquire_of name n) || does_acquire_stand g name h
does_acquire_stand g name (acts.Policy f list ∷ h) = not (bytes_eq f g) && does_acquire_stand g name h
does_acquire_stand g name (acts.Put f e ∷ h) = not ((bytes_eq f g && not (is_inbound e.name)) && has_reqid name e.reqid (force g h))
    && does_acquire_stand g name h
does_acquire_stand g name (acts.Opened f s ∷ h) = not (bytes_eq f g) && does_acquire_stand g name h
does_acquire_stand g name (acts.Boot f ∷ h) = not (bytes_eq f g) && does_acquire_stand g name h
does_acquire_stand g name (_ ∷ h) = does_acquire_stand g name h

-- a soft expiry of the half was given since its installation, the last session taken and the last restart
abbrev pub was_soft_given : List ℕ → List ℕ → List Act → Bool
was_soft_given g x [] = false
was_soft_given g x (acts.Notice f s n ∷ h) = (bytes_eq f g && is_soft_of x n) || was_soft_given g x h
was_soft_given g x (acts.Put f e ∷ h) = not (is_half f e.name g x) && was_soft_given g x h
was_soft_given g x (acts.Opened f s ∷ h) = not (bytes_eq f g) && was_soft_given g x h
was_soft_given g x (acts.Boot f ∷ h) = not (bytes_eq f g) && was_soft_given g x h
was_soft_given g x (_ ∷ h) = was_soft_given g x h

-- an overflow of the half was given since its installation, the last session taken and the last restart
abbrev pub was_overflow_given : List ℕ → List ℕ → List Act → Bool
was_overflow_given g x [] = false
was_overflow_given g x (acts.Notice f s n ∷ h) = (bytes_eq f g && is_overflow_of x n) || was_overflow_given g x h
was_overflow_given g x (acts.Put f e ∷ h) = not (is_half f e.name g x) && was_overflow_given g x h
was_overflow_given g x (acts.Opened f s ∷ h) = not (bytes_eq f g) && was_overflow_given g x h
was_overflow_given g x (acts.Boot f ∷ h) = not (bytes_eq f g) && was_overflow_given g x h
was_overflow_given g x (_ ∷ h) = was_overflow_given g x h

-- a soft expiry of a half stands from its notice for as long as that half is live
abbrev pub does_soft_stand : List ℕ → List ℕ → List Act → Bool
does_soft_stand g x h = is_live g x h && was_soft_given g x h

-- an overflow that was given stands as long as the half is live
abbrev pub does_overflow_stand : List ℕ → List ℕ → List Act → Bool
does_overflow_stand g x h = is_live g x h && was_overflow_given g x h

-- the SPIs with the one that the notice tells in front, where it tells one
abbrev pub with_spi : Notice → List ℕ → List ℕ
with_spi (notices.BadSpi spi) spis = spi ∷ spis
with_spi _ spis = spis

-- the SPIs reported since the last session taken and the last restart, the newest first
abbrev pub bad_spis : List ℕ → List Act → List ℕ
bad_spis g [] = []
bad_spis g (acts.Notice f s n ∷ h) = if bytes_eq f g then with_spi n (bad_spis g h) else bad_spis g h
bad_spis g (acts.Opened f s ∷ h) = if bytes_eq f g then [] else bad_spis g h
bad_spis g (acts.Boot f ∷ h) = if bytes_eq f g then [] else bad_spis g h
bad_spis g (_ ∷ h) = bad_spis g h

-- a bad SPI stands while it is among the last 64
abbrev pub does_bad_spi_stand : List ℕ → ℕ → List Act → Bool
does_bad_spi_stand g spi h = list_any (λ k. k == spi) (take 64 (bad_spis g h))
