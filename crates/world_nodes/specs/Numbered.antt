-- What names the acts of a gateway, by its name and the numbers of its sessions and requests.
use Rattle.std.specs.Prelude.{ℕ, List}
use Rattle.gw_law.specs.Told.{Naming}
use Rattle.world_nodes.specs.declared.naming.Numbers.{Numbers}

-- the acts of the gateway of this name stand in the session that these numbers say, and its requests are counted in that
abbrev pub naming_by : List ℕ → Numbers → Naming
naming_by name n = record { name = name; openings = n.openings; session = n.session; requests = n.requests }
