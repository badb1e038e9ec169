-- The places in a head, octet by octet.
use Rattle.std.specs.Prelude.{◌≡◌, ℕ, suc, ◌==◌, ◌||◌, List, [], ◌∷◌, if◌then◌else◌, Option, Some, None, option_map}
use Rattle.rc_http.specs.declared.place.Place.{Place}
use Rattle.rc_http.specs.declared.place.Place.TheVariants.{Before, Text, Line, Return}
use Rattle.rc_http.specs.declared.place.Scanned.{Scanned}
use Rattle.rc_http.specs.declared.place.Scanned.TheVariants.{Goes, Ends}

-- the place after one more octet; none where that octet ends the head
abbrev pub next_place : Place → ℕ → Option Place
next_place Before b = Some (if b == 13 || b == 10 then Before else Text)
next_place Text b = Some (if b == 10 then Line else Text)
next_place Line b = if b == 10 then None else Some (if b == 13 then Return else Text)
next_place Return b = if b == 10 then None else Some Text

-- the place after these octets, where none of them ends the head
unfoldable pub place_after : Option Place → List ℕ → Option Place
place_after None octets = None
place_after (Some place) [] = Some place
place_after (Some place) (b ∷ rest) = place_after (next_place place b) rest

-- the octets through the one that ends the head
unfoldable pub len_from : Option Place → List ℕ → Option ℕ
len_from None octets = Some 0
len_from (Some place) [] = None
len_from (Some place) (b ∷ rest) = option_map suc (len_from (next_place place b) rest)

-- what looking for the end of a head gives
abbrev pub ScanGives : Place → List ℕ → Scanned → Type 0
ScanGives place piece (Goes after) = place_after (Some place) piece ≡ Some after
ScanGives place piece (Ends n) = len_from (Some place) piece ≡ Some n
