-- The gateways of a script, their controller and the datagrams sent.
use Rattle.std.specs.Prelude.{ℕ, ◌-◌, ◌==◌, Bool, List, [], ◌∷◌, find, map, slice_get, unwrap_or, Option, if◌then◌else◌}
use Rattle.std.specs.List.{list_any, position_or_len}
use Rattle.std.specs.Str.{bytes_eq}
use Rattle.hist_acts.specs.declared.event.Header.{Header}
use Rattle.hist_halves.specs.Sealed.{esp_of}
use Rattle.ctl_core.specs.Core.{Core, told_nothing}
use Rattle.world_steps.specs.Nodes.{Node, begun}

-- All that is kept while a script is run. What happened isn't kept.
pub record World : Type 0 where
  -- one for each gateway of the header, in its order
  pub nodes : List Node
  pub controller : Core
  -- the datagrams sent, the first one first
  pub sent : List (List ℕ)
  -- the greatest reading so far, in seconds
  pub clock : ℕ
  -- how many events were taken
  pub taken : ℕ

-- nothing has happened
abbrev pub world_of : Header → World
world_of header = record {
  nodes = map (begun header.seq_last) header.gateways;
  controller = told_nothing header.gateways;
  sent = [];
  clock = 0;
  taken = 0;
}

-- ---- gateways by their names

-- the gateway of this name
abbrev pub node_at : List ℕ → World → Option Node
node_at g w = find (λ n. bytes_eq n.name g) w.nodes

-- its number among the peers of the controller
abbrev pub number_of : List ℕ → World → ℕ
number_of g w = position_or_len (λ n. bytes_eq n.name g) w.nodes

-- a gateway in the place of that of its name
abbrev pub placed : Node → List Node → List Node
placed n [] = []
placed n (m ∷ ms) = if bytes_eq m.name n.name then n ∷ ms else m ∷ placed n ms

-- the world with the gateway of this name as it is now; the same where it has none
abbrev pub with_node : Node → World → World
with_node n w = record w { nodes = placed n w.nodes }

-- ---- what was sent

-- a datagram with these ESP octets was sent
abbrev pub was_sent : List ℕ → List (List ℕ) → Bool
was_sent b sent = list_any (λ o. bytes_eq (esp_of o) b) sent

-- the datagram that was sent as this many-th, counted from 1; no octets if there are fewer
abbrev pub datagram : ℕ → List (List ℕ) → List ℕ
datagram k sent = if k == 0 then [] else unwrap_or (slice_get sent (k - 1)) []
