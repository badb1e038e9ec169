-- What the calls of the store say of the halves, looking back over them. The newest call stands first.
use Rattle.std.specs.Prelude.{ℕ, ◌+◌, ◌==◌, ◌&&◌, ◌||◌, nat_le, not, Bool, false, List, [], ◌∷◌, ◌++◌, length, slice_get, Option, Some, None, if◌then◌else◌}
use Rattle.std.specs.List.{list_any}
use Rattle.std.specs.Str.{bytes_eq}
use Rattle.ikeless_tree.specs.Half.{is_inbound}
use Rattle.ikeless_tree.specs.declared.sad.SadEntry.{SadEntry}
use Rattle.replay_win.specs.Marks.{window_after}
use Rattle.life_count.specs.Lifetime.{Lifetime, cut_32, cut_64}
use Rattle.life_count.specs.Calls as lives
use Rattle.sad_store.specs.declared.half.Half.{Half}
use Rattle.store_law.specs.Calls.{Call, Install, Remove, Next_number, Mark, Use, Look, Overflow, Session}

-- ---- which halves are there

-- the entry has this name
abbrev pub is_entry_named : List ℕ → SadEntry → Bool
is_entry_named name e = bytes_eq e.name name

-- one of the entries has this name
abbrev pub has_entry_named : List ℕ → List SadEntry → Bool
has_entry_named name es = list_any (is_entry_named name) es

-- the entry is inbound and has this SPI
abbrev pub is_entry_of_spi : ℕ → SadEntry → Bool
is_entry_of_spi spi e = is_inbound e.name && (e.spi == spi)

-- The entry may join these: none has its name, where it is inbound no inbound one has its SPI, and they aren't 4,096.
abbrev pub may_join : SadEntry → List SadEntry → Bool
may_join e es = not (has_entry_named e.name es) && (not (is_inbound e.name && list_any (is_entry_of_spi e.spi) es)
    && not (nat_le 4096 (length es)))

-- but those of this name
abbrev pub entries_without : List ℕ → List SadEntry → List SadEntry
entries_without name [] = []
entries_without name (e ∷ es) = if bytes_eq e.name name then entries_without name es else e ∷ entries_without name es

-- the entries that were installed and not removed since, in the order of their installation
abbrev pub there : List Call → List SadEntry
there [] = []
there (Install e now ∷ h) = if may_join e (there h) then there h ++ e ∷ [] else there h
there (Remove name ∷ h) = entries_without name (there h)
there (_ ∷ h) = there h

-- after these calls the entry is installed as the half of this name
abbrev pub is_put : SadEntry → List ℕ → List Call → Bool
is_put e name h = bytes_eq e.name name && may_join e (there h)

-- a half of this name was installed and not removed since
abbrev pub is_there : List ℕ → List Call → Bool
is_there name [] = false
is_there name (Install e now ∷ h) = is_put e name h || is_there name h
is_there name (Remove y ∷ h) = not (bytes_eq y name) && is_there name h
is_there name (_ ∷ h) = is_there name h

-- there is an entry, and it has this name
abbrev pub is_named : List ℕ → Option SadEntry → Bool
is_named name None = false
is_named name (Some e) = bytes_eq e.name name

-- after these calls the half of this name stands at this place
abbrev pub stands_at : ℕ → List ℕ → List Call → Bool
stands_at i name h = is_named name (slice_get (there h) i)

-- ---- what befell the half of a name since its installation

-- how many numbers it was given
abbrev pub numbers_given : List ℕ → List Call → ℕ
numbers_given name [] = 0
numbers_given name (Install e now ∷ h) = if is_put e name h then 0 else numbers_given name h
numbers_given name (Next_number i ∷ h) = if stands_at i name h then numbers_given name h + 1 else numbers_given name h
numbers_given name (_ ∷ h) = numbers_given name h

-- the numbers that were marked, the newest first
abbrev pub numbers_marked : List ℕ → List Call → List ℕ
numbers_marked name [] = []
numbers_marked name (Install e now ∷ h) = if is_put e name h then [] else numbers_marked name h
numbers_marked name (Mark i n ∷ h) = if stands_at i name h then n ∷ numbers_marked name h else numbers_marked name h
numbers_marked name (_ ∷ h) = numbers_marked name h

-- the clock at its installation
abbrev pub installed_at : List ℕ → List Call → ℕ
installed_at name [] = 0
installed_at name (Install e now ∷ h) = if is_put e name h then now else installed_at name h
installed_at name (_ ∷ h) = installed_at name h

-- its uses, the looks at it and the sessions, the newest first
abbrev pub befell : List ℕ → List Call → List lives.Call
befell name [] = []
befell name (Install e now ∷ h) = if is_put e name h then [] else befell name h
befell name (Use i size now ∷ h) = if stands_at i name h then lives.Use size now ∷ befell name h else befell name h
befell name (Look i now ∷ h) = if stands_at i name h then lives.Tick now ∷ befell name h else befell name h
befell name (Session ∷ h) = lives.Session ∷ befell name h
befell name (_ ∷ h) = befell name h

-- an overflow of its numbers was told since the last session
abbrev pub was_overflow_told : List ℕ → List Call → Bool
was_overflow_told name [] = false
was_overflow_told name (Install e now ∷ h) = not (is_put e name h) && was_overflow_told name h
was_overflow_told name (Overflow i ∷ h) = stands_at i name h || was_overflow_told name h
was_overflow_told name (Session ∷ h) = false
was_overflow_told name (_ ∷ h) = was_overflow_told name h

-- ---- the halves

-- its lifetime: the counts of its uses, and whether a look told of a soft limit since the last session
abbrev pub life_of : List Call → SadEntry → Lifetime
life_of h e = record {
  hard = e.hard;
  soft = e.soft;
  installed = installed_at e.name h;
  used = lives.last_use (installed_at e.name h) (befell e.name h);
  octets = cut_64 (lives.octets_of (befell e.name h));
  packets = cut_32 (lives.uses_of (befell e.name h));
  is_told = lives.was_told e.hard e.soft (installed_at e.name h) (befell e.name h);
}

-- the half of an entry that is there: all that befell it since its installation
abbrev pub half_of : List Call → SadEntry → Half
half_of h e = record {
  entry = e;
  sent = numbers_given e.name h;
  window = window_after e.window (numbers_marked e.name h);
  life = life_of h e;
  overflow = was_overflow_told e.name h;
}
