-- What the past says of the halves at a gateway. A past has its newest act first. In each test the name in the act stands
-- first and the name asked for second.
use Rattle.std.specs.Prelude.{ℕ, ◌+◌, ◌&&◌, ◌||◌, not, Bool, true, false, List, [], ◌∷◌, ◌++◌, Option, Some, None, if◌then◌else◌}
use Rattle.std.specs.Str.{bytes_eq}
use Rattle.ikeless_tree.specs.declared.sad.SadEntry.{SadEntry}
use Rattle.ikeless_tree.specs.declared.ends.GoneWhy.{GoneWhy}
use Rattle.ikeless_tree.specs.declared.ends.GoneWhy.TheVariants as gone
use Rattle.hist_acts.specs.declared.act.Act.{Act}
use Rattle.hist_acts.specs.declared.act.Act.TheVariants as acts
use Rattle.replay_win.specs.Marks.{greatest}
use Rattle.esp_frame.specs.Esp.{spi_of}
use Rattle.hist_halves.specs.Sealed.{esp_of, by_spi, number_from, is_opened}

-- this half of this gateway
abbrev pub is_half : List ℕ → List ℕ → List ℕ → List ℕ → Bool
is_half f y g x = bytes_eq f g && bytes_eq y x

-- the half was installed at all
abbrev pub was_put : List ℕ → List ℕ → List Act → Bool
was_put g x [] = false
was_put g x (acts.Put f e ∷ h) = is_half f e.name g x || was_put g x h
was_put g x (_ ∷ h) = was_put g x h

-- what was installed under this name last
abbrev pub put_of : List ℕ → List ℕ → List Act → Option SadEntry
put_of g x [] = None
put_of g x (acts.Put f e ∷ h) = if is_half f e.name g x then Some e else put_of g x h
put_of g x (_ ∷ h) = put_of g x h

-- halves but those of this name
abbrev pub without : List ℕ → List SadEntry → List SadEntry
without x [] = []
without x (e ∷ es) = if bytes_eq e.name x then without x es else e ∷ without x es

-- the live halves, in the order of their installation
abbrev pub live : List ℕ → List Act → List SadEntry
live g [] = []
live g (acts.Put f e ∷ h) = if bytes_eq f g then live g h ++ e ∷ [] else live g h
live g (acts.Gone f x w ∷ h) = if bytes_eq f g then without x (live g h) else live g h
live g (acts.Boot f ∷ h) = if bytes_eq f g then [] else live g h
live g (_ ∷ h) = live g h

-- a half is live: it was installed, and since then it is not gone and its gateway has not restarted
abbrev pub is_live : List ℕ → List ℕ → List Act → Bool
is_live g x [] = false
is_live g x (acts.Put f e ∷ h) = is_half f e.name g x || is_live g x h
is_live g x (acts.Gone f y w ∷ h) = not (is_half f y g x) && is_live g x h
is_live g x (acts.Boot f ∷ h) = not (bytes_eq f g) && is_live g x h
is_live g x (_ ∷ h) = is_live g x h

-- the half is gone at a hard limit, and wasn't removed by an order
abbrev pub is_hard : GoneWhy → Bool
is_hard gone.Hard = true
is_hard gone.Removed = false

-- since its installation the half met a hard limit, or its gateway restarted
abbrev pub is_lapsed : List ℕ → List ℕ → List Act → Bool
is_lapsed g x [] = false
is_lapsed g x (acts.Put f e ∷ h) = not (is_half f e.name g x) && is_lapsed g x h
is_lapsed g x (acts.Gone f y w ∷ h) = (is_hard w && is_half f y g x) || is_lapsed g x h
is_lapsed g x (acts.Boot f ∷ h) = (bytes_eq f g && was_put g x h) || is_lapsed g x h
is_lapsed g x (_ ∷ h) = is_lapsed g x h

-- how many datagrams were sent under the half since its installation
abbrev pub sent : List ℕ → List ℕ → List Act → ℕ
sent g x [] = 0
sent g x (acts.Put f e ∷ h) = if is_half f e.name g x then 0 else sent g x h
sent g x (acts.Sent f y n o ∷ h) = if is_half f y g x then sent g x h + 1 else sent g x h
sent g x (_ ∷ h) = sent g x h

-- the number that the half finds in ESP octets, where it has this name
abbrev pub number_if : List ℕ → ℕ → List ℕ → Option SadEntry → Option ℕ
number_if x top b None = None
number_if x top b (Some e) = if bytes_eq e.name x then Some (number_from e top b) else None

-- the number of ESP octets for this half, where they are for it: of these halves their SPI is its
abbrev pub number_for : List ℕ → ℕ → List SadEntry → List ℕ → Option ℕ
number_for x top halves b = number_if x top b (by_spi (spi_of b) halves)

-- the number of the arrival that is the newest act, where it is one for this half, after these numbers were taken
abbrev pub arrival_number : List ℕ → List ℕ → List ℕ → List Act → Option ℕ
arrival_number g x numbers (acts.Arrived f o ∷ h) = if bytes_eq f g then number_for x (greatest numbers) (live g h) (esp_of o) else None
arrival_number g x numbers _ = None

-- the numbers with one more at the end, where there is one
abbrev pub with_number : List ℕ → Option ℕ → List ℕ
with_number numbers None = numbers
with_number numbers (Some n) = numbers ++ n ∷ []

-- the numbers taken under the half since its installation, the oldest first: of the arrivals whose tag was right
abbrev pub numbers_taken : List ℕ → List ℕ → List Act → List ℕ
numbers_taken g x [] = []
numbers_taken g x (acts.Put f e ∷ h) = if is_half f e.name g x then [] else numbers_taken g x h
numbers_taken g x (acts.Gave f y n o ∷ h) = if is_half f y g x then numbers_taken g x h ++ n ∷ [] else numbers_taken g x h
numbers_taken g x (acts.Drop f w ∷ h) = if bytes_eq f g && is_opened w then with_number (numbers_taken g x h)
    (arrival_number g x (numbers_taken g x h) h) else numbers_taken g x h
numbers_taken g x (_ ∷ h) = numbers_taken g x h

-- a datagram with these ESP octets was sent under a half of this name
abbrev pub is_sealed : List ℕ → List ℕ → List Act → Bool
is_sealed x b [] = false
is_sealed x b (acts.Sent f y n o ∷ h) = (bytes_eq y x && bytes_eq (esp_of o) b) || is_sealed x b h
is_sealed x b (_ ∷ h) = is_sealed x b h
