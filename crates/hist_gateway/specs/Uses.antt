-- The uses of a half and its counts (the lifetimes of RFC 4301 section 4.4.2.1). A past has its newest act first. In each test
-- the name in the act stands first and the name asked for second.
use Rattle.std.specs.Prelude.{not, ◌||◌, ◌==◌, ℕ, ◌+◌, ◌&&◌, Bool, false, List, [], ◌∷◌, length, Option, Some, None, if◌then◌else◌}
use Rattle.std.specs.Str.{bytes_eq}
use Rattle.ikeless_tree.specs.declared.sad.Limits.{Limits}
use Rattle.ikeless_tree.specs.declared.sad.SadEntry.{SadEntry}
use Rattle.life_count.specs.Lifetime.{counts_at}
use Rattle.hist_acts.specs.declared.act.Act.{Act}
use Rattle.hist_acts.specs.declared.act.Act.TheVariants as acts
use Rattle.hist_acts.specs.Past.{clock}
use Rattle.esp_frame.specs.Esp.{spi_of}
use Rattle.hist_halves.specs.Sealed.{esp_of, by_spi, is_opened}
use Rattle.hist_halves.specs.Halves.{is_half, live, arrival_number, numbers_taken}

-- the datagram that arrived at the gateway, where that is the newest act
abbrev pub arrival : List ℕ → List Act → Option (List ℕ)
arrival g (acts.Arrived f o ∷ h) = if bytes_eq f g then Some o else None
arrival g _ = None

-- there is a half, and it has this name
abbrev pub is_named_half : List ℕ → Option SadEntry → Bool
is_named_half x None = false
is_named_half x (Some e) = bytes_eq e.name x

-- of these halves the datagram is for this one
abbrev pub is_for : List ℕ → List SadEntry → Option (List ℕ) → Bool
is_for x halves None = false
is_for x halves (Some o) = is_named_half x (by_spi (spi_of (esp_of o)) halves)

-- The act is a use of the half, after its past: a datagram is sealed under it, or one arrived for it whose tag was right.
abbrev pub is_use : List ℕ → List ℕ → Act → List Act → Bool
is_use g x (acts.Sent f y n o) h = is_half f y g x
is_use g x (acts.Gave f y n o) h = is_half f y g x
is_use g x (acts.Drop f w) h = (bytes_eq f g && is_opened w) && is_for x (live g h) (arrival g h)
is_use g x _ h = false

-- how many ESP octets a datagram has, 0 without one
abbrev pub octets_in : Option (List ℕ) → ℕ
octets_in None = 0
octets_in (Some o) = length (esp_of o)

-- the number of ESP octets of a use: those sent, or those that arrived just before
abbrev pub use_octets : List ℕ → Act → List Act → ℕ
use_octets g (acts.Sent f y n o) h = length (esp_of o)
use_octets g _ h = octets_in (arrival g h)

-- the octets of the uses since the installation, how many uses there were, and the clock at the last one or else at the installation
abbrev pub octets_used : List ℕ → List ℕ → List Act → ℕ
octets_used g x [] = 0
octets_used g x (acts.Put f e ∷ h) = if is_half f e.name g x then 0 else octets_used g x h
octets_used g x (a ∷ h) = if is_use g x a h then octets_used g x h + use_octets g a h else octets_used g x h

-- how many uses of the half there were since its installation
abbrev pub times_used : List ℕ → List ℕ → List Act → ℕ
times_used g x [] = 0
times_used g x (acts.Put f e ∷ h) = if is_half f e.name g x then 0 else times_used g x h
times_used g x (a ∷ h) = if is_use g x a h then times_used g x h + 1 else times_used g x h

-- the clock at the last use of the half, or at its installation where there was none
abbrev pub last_used : List ℕ → List ℕ → List Act → ℕ
last_used g x [] = 0
last_used g x (acts.Put f e ∷ h) = if is_half f e.name g x then clock h else last_used g x h
last_used g x (a ∷ h) = if is_use g x a h then clock h else last_used g x h

-- the clock at the installation
abbrev pub installed_at : List ℕ → List ℕ → List Act → ℕ
installed_at g x [] = 0
installed_at g x (acts.Put f e ∷ h) = if is_half f e.name g x then clock h else installed_at g x h
installed_at g x (_ ∷ h) = installed_at g x h

-- the counts of a half since its installation
abbrev pub counts : List ℕ → List ℕ → List Act → Limits
counts g x h = counts_at (clock h) (installed_at g x h) (last_used g x h) (octets_used g x h) (times_used g x h)

-- ---- a plain reading

-- there is a number, and it is this one
abbrev pub is_number : ℕ → Option ℕ → Bool
is_number s None = false
is_number s (Some n) = s == n

-- the number was taken under the half since its installation: with what was given, or with what was dropped after it had opened
abbrev pub was_taken : List ℕ → List ℕ → ℕ → List Act → Bool
was_taken g x s [] = false
was_taken g x s (acts.Put f e ∷ h) = not (is_half f e.name g x) && was_taken g x s h
was_taken g x s (acts.Gave f y n o ∷ h) = (is_half f y g x && (s == n)) || was_taken g x s h
was_taken g x s (acts.Drop f w ∷ h) = ((bytes_eq f g && is_opened w) && is_number s (arrival_number g x (numbers_taken g x h) h))
    || was_taken g x s h
was_taken g x s (_ ∷ h) = was_taken g x s h

-- a datagram was sent under the half with this number, since its installation
abbrev pub was_number_sent : List ℕ → List ℕ → ℕ → List Act → Bool
was_number_sent g x s [] = false
was_number_sent g x s (acts.Put f e ∷ h) = not (is_half f e.name g x) && was_number_sent g x s h
was_number_sent g x s (acts.Sent f y n o ∷ h) = (is_half f y g x && (s == n)) || was_number_sent g x s h
was_number_sent g x s (_ ∷ h) = was_number_sent g x s h
