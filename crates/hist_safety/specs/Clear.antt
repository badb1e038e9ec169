-- Which packets leave in clear. A past has its newest act first.
use Rattle.std.specs.Prelude.{◌≡◌, List, ◌∷◌, ℕ, Some, Ok}
use Rattle.ip_packet.specs.View.{Packet, view_of}
use Rattle.ikeless_tree.specs.declared.entry.SpdEntry.{SpdEntry}
use Rattle.ikeless_tree.specs.declared.entry.Action.TheVariants as actions
use Rattle.ikeless_tree.specs.declared.entry.Direction.TheVariants.{Out}
use Rattle.spd_match.specs.Match.{first_entry}
use Rattle.hist_acts.specs.declared.act.Act.{Act}
use Rattle.hist_acts.specs.declared.act.Act.TheVariants as acts
use Rattle.hist_acts.specs.Past.{force}

-- the octets are a packet, and the first entry of the list that holds it says bypass
pub record Bypasses (list : List SpdEntry) (o : List ℕ) : Type 0 where
  pub packet : Packet
  pub entry : SpdEntry
  pub view : view_of o ≡ Ok packet
  pub first : first_entry list Out packet ≡ Some entry
  pub action : entry.action ≡ actions.Bypass

-- a packet that leaves in clear is that of the Let just before, and a bypass entry in force lets it
pub record ClearIsLet (h : List Act) (g o : List ℕ) : Type 0 where
  pub older : List Act
  pub let_before : h ≡ acts.Let g o ∷ older
  pub bypass : Bypasses (force g h) o
