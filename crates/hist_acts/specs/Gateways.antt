-- The gateways of a header.
use Rattle.std.specs.Prelude.{ℕ, Bool, List}
use Rattle.std.specs.List.{list_any}
use Rattle.std.specs.Str.{bytes_eq}
use Rattle.ikeless_tree.specs.declared.command.Peer.{Peer}

-- whether one of the gateways has this name
abbrev pub is_named : List Peer → List ℕ → Bool
is_named gateways g = list_any (λ p. bytes_eq p.name g) gateways
