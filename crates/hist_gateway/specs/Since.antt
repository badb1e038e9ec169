-- Plain readings of what is counted since the installation of a half, and of which SPIs stand.
use Rattle.std.specs.Prelude.{◌≡◌, ℕ, ◌<◌, ◌&&◌, Bool, true, false, List, [], ◌∷◌, ◌++◌, filter, length, if◌then◌else◌}
use Rattle.std.specs.List.{list_any}
use Rattle.std.specs.Str.{bytes_eq}
use Rattle.ikeless_tree.specs.declared.order.Notice.{Notice}
use Rattle.ikeless_tree.specs.declared.order.Notice.TheVariants as notices
use Rattle.hist_acts.specs.declared.act.Act.{Act}
use Rattle.hist_acts.specs.declared.act.Act.TheVariants as acts
use Rattle.hist_halves.specs.Halves.{is_half}
use Rattle.hist_gateway.specs.Uses.{is_use, use_octets}

-- ---- the uses of a half

-- the act installs the half
abbrev pub is_put_at : List ℕ → List ℕ → Act → Bool
is_put_at g x (acts.Put f e) = is_half f e.name g x
is_put_at g x _ = false

-- the octets of each use of the half among these acts, the newest first, with what was before them
abbrev pub uses_among : List ℕ → List ℕ → List Act → List Act → List ℕ
uses_among g x [] old = []
uses_among g x (a ∷ recent) old = if is_use g x a (recent ++ old) then use_octets g a (recent ++ old) ∷ uses_among g x recent old
    else uses_among g x recent old

-- ---- the SPIs that were told

-- a session is taken at the gateway, or it restarts
abbrev pub is_fresh_start : List ℕ → Act → Bool
is_fresh_start g (acts.Opened f s) = bytes_eq f g
is_fresh_start g (acts.Boot f) = bytes_eq f g
is_fresh_start g _ = false

-- the notice tells an SPI, whichever
abbrev pub is_any_bad_spi : Notice → Bool
is_any_bad_spi (notices.BadSpi spi) = true
is_any_bad_spi _ = false

-- the gateway tells some SPI
abbrev pub is_spi_telling : List ℕ → Act → Bool
is_spi_telling g (acts.Notice f s n) = bytes_eq f g && is_any_bad_spi n
is_spi_telling g _ = false

-- The SPI was told at the gateway, since then no session was taken there and it has not restarted, and fewer than so many were
-- told after it.
pub record WasSpiTold (g : List ℕ) (spi n : ℕ) (h : List Act) : Type 0 where
  pub recent : List Act
  pub session : ℕ
  pub old : List Act
  pub all : h ≡ recent ++ acts.Notice g session (notices.BadSpi spi) ∷ old
  pub since : list_any (is_fresh_start g) recent ≡ false
  pub few : length (filter (is_spi_telling g) recent) < n
