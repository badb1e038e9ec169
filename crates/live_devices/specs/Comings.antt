-- What comes to a device, call by call.
use Rattle.std.specs.Prelude.{List, [], ◌∷◌, Option, None}

-- what the next call finds, where something waits in it
abbrev pub found : {T : Type 0} → List (Option T) → Option T
found [] = None
found (x ∷ rest) = x

-- what comes after that call
abbrev pub later : {T : Type 0} → List T → List T
later [] = []
later (x ∷ rest) = rest
