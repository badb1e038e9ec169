-- Which values the words of a line can spell.
use Rattle.std.specs.Prelude.{◌≡◌, ℕ, Bool, IsTrue, List, None, All}
use Rattle.std.specs.List.{list_all}
use Rattle.ikeless_tree.specs.Check.{spd_fault, sad_fault, is_gateway, is_sad_name}
use Rattle.ikeless_tree.specs.declared.command.Peer.{Peer}
use Rattle.ikeless_tree.specs.declared.sad.SadEntry.{SadEntry}
use Rattle.ikeless_tree.specs.declared.entry.SpdEntry.{SpdEntry}
use Rattle.hist_acts.specs.Gateways.{is_named}

-- the gateways have names that a line can spell
abbrev pub are_spelled : List Peer → Bool
are_spelled gateways = list_all (λ p. is_gateway p.name) gateways

-- the anti-replay window of the entry is 64 numbers wide, the only one that its word stands for
abbrev pub HasWindow : SpdEntry → Type 0
HasWindow e = e.window ≡ 64

-- a list can be in force, and an entry's word has no window, which is 64
pub record IsListed (list : List SpdEntry) : Type 0 where
  pub fits : spd_fault list ≡ None
  pub windows : All HasWindow list

-- the name of a gateway of the header
abbrev pub IsKnown : List Peer → List ℕ → Type 0
IsKnown gateways g = IsTrue (is_named gateways g)

-- a half can have this name in the SAD's tree
abbrev pub IsHalfName : List ℕ → Type 0
IsHalfName name = IsTrue (is_sad_name name)

-- a half can be installed
abbrev pub IsInstallable : SadEntry → Type 0
IsInstallable e = sad_fault e ≡ None
