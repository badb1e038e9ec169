-- The words of a command line.
use Rattle.std.specs.Prelude.{Bool, false, List, [], ◌∷◌, codes}
use Rattle.std.specs.Str.{bytes_eq}
use Rattle.std.specs.String.{string_bytes}
use Rattle.std.specs.declared.string.String.{String}
use Rattle.std.specs.declared.alloc.Global.{Global}

-- the words are `replay` alone
abbrev pub is_replay : List (String Global) → Bool
is_replay [] = false
is_replay (word ∷ []) = bytes_eq (string_bytes word) (codes "replay")
is_replay (word ∷ next ∷ more) = false
