-- What was taken of a script: whole lines, and the events that they say.
use Rattle.std.specs.Prelude.{◌≡◌, ◌==◌, ◌<◌, ◌≤◌, not, ℕ, Bool, true, List, [], ◌∷◌, ◌++◌, length, Option, Some, None, Ok}
use Rattle.std.specs.List.{flat_map, list_all}
use Rattle.hist_acts.specs.declared.event.Event.{Event}
use Rattle.hist_acts.specs.declared.event.Header.{Header}
use Rattle.event_lines.specs.Header.{header_of}
use Rattle.hist_scripts.specs.Script.{AreLinesOf}

-- the octet isn't an LF, so that it can stand inside a line
abbrev pub is_inside : ℕ → Bool
is_inside c = not (c == 10)

-- no LF stands in these octets
abbrev pub HasNoLf : List ℕ → Type 0
HasNoLf octets = list_all is_inside octets ≡ true

-- the octets of a line without its LF; with it they are at most 1 MiB
pub record IsLine (line : List ℕ) : Type 0 where
  pub inside : HasNoLf line
  pub short : length line < 1048576

-- each of these can be a line of a script, by its octets alone
abbrev pub AreLines : List (List ℕ) → Type 0
AreLines [] = Unit {0}
AreLines (l ∷ ls) = IsLine l × AreLines ls

-- the lines, each with its LF
abbrev pub joined : List (List ℕ) → List ℕ
joined lines = flat_map (λ line. line ++ 10 ∷ []) lines

-- the lines of a script up to here: none, or a header and a line for each event
abbrev pub IsScript : Option Header → List (List ℕ) → List Event → Type 0
IsScript None lines es = (lines ≡ []) × (es ≡ [])
IsScript (Some h) lines es = (first : List ℕ) × (more : List (List ℕ)) × (lines ≡ first ∷ more) × (header_of first ≡ Ok h) × AreLinesOf h
    more es

-- The octets read are whole lines, which are a script up to there, and a rest. The lines are within 64 MiB.
pub record Taken (input : List ℕ) : Type 0 where
  pub header : Option Header
  pub lines : List (List ℕ)
  pub events : List Event
  pub rest : List ℕ
  pub octets : input ≡ joined lines ++ rest
  pub each : AreLines lines
  pub within : length (joined lines) ≤ 67108864
  pub script : IsScript header lines events
