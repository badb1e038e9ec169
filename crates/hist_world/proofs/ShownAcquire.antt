-- A packet that a policy protects where no association stands: it is dropped, and one acquire is told.
use Rattle.std.proofs.Common.{◌≡◌, ℕ, true, List, [], ◌∷◌, Some, codes, refl, lit≤}
use Rattle.ikl_base.specs.declared.address.Addr.TheVariants.{V4}
use Rattle.ikl_base.specs.declared.address.Prefix.{Prefix}
use Rattle.ip_packet.specs.View.{Packet, view_of}
use Rattle.ikeless_tree.specs.declared.entry.Selector.{Selector}
use Rattle.ikeless_tree.specs.declared.entry.SpdEntry.{SpdEntry}
use Rattle.ikeless_tree.specs.declared.order.Notice.TheVariants as notices
use Rattle.ikeless_tree.specs.declared.order.Order.TheVariants as asks
use Rattle.ikeless_tree.specs.declared.drops.DropWhy.TheVariants as why
use Rattle.reply_table.specs.Reply.{reply}
use Rattle.spd_match.specs.Match.{holds_packet}
use Rattle.hist_acts.specs.declared.act.Act.TheVariants as acts
use Rattle.hist_acts.specs.declared.event.Event.{Event}
use Rattle.hist_acts.specs.declared.event.Event.TheVariants as events
use Rattle.hist_acts.specs.declared.event.Header.{Header}
use Rattle.hist_gateway.specs.Datagram.{flow_of, whole}
use Rattle.hist_gateway.specs.Let.{let_acts}
use Rattle.hist_world.specs.Block.{Shows, history, nothing}
use Rattle.hist_world.proofs.Shown.{a, greatest, peer_a, plain, protects}

abbrev pub alone : Header
alone = record { seq_last = greatest; gateways = peer_a ∷ [] }

abbrev pub ten_one : Prefix
ten_one = record { addr = V4 (10 ∷ 1 ∷ 0 ∷ 0 ∷ []); len = 16; in_range = lit≤ tt; cleared = refl }

abbrev pub ten_two : Prefix
ten_two = record { addr = V4 (10 ∷ 2 ∷ 0 ∷ 0 ∷ []); len = 16; in_range = lit≤ tt; cleared = refl }

abbrev pub list_4 : List SpdEntry
list_4 = protects ten_one ten_two

-- a UDP packet from 10.1.0.5 to 10.2.0.9
abbrev pub packet_4 : List ℕ
packet_4 = 69 ∷ 0 ∷ 0 ∷ 32 ∷ 0 ∷ 0 ∷ 64 ∷ 0 ∷ 64 ∷ 17 ∷ 38 ∷ 189 ∷ 10 ∷ 1 ∷ 0 ∷ 5 ∷ 10 ∷ 2 ∷ 0 ∷ 9 ∷ 18 ∷ 52 ∷ 0 ∷ 53 ∷ 0 ∷ 12 ∷ 0 ∷ 0 ∷ 97
    ∷ 98 ∷ 99 ∷ 100 ∷ []

abbrev pub view_4 : Packet
view_4 = record {
  src = V4 (10 ∷ 1 ∷ 0 ∷ 5 ∷ []);
  dst = V4 (10 ∷ 2 ∷ 0 ∷ 9 ∷ []);
  proto = 17;
  ports = Some (4660, 53);
  df = true;
  payload =
      18 ∷ 52 ∷ 0 ∷ 53 ∷ 0 ∷ 12 ∷ 0 ∷ 0 ∷ 97 ∷ 98 ∷ 99 ∷ 100 ∷ [];
}

-- what the acquire tells of it: 10.1.0.5/32, 10.2.0.9/32, UDP, and the two ports
abbrev pub flow : Selector
flow = flow_of view_4

flow_says : (flow.local.addr ≡ V4 (10 ∷ 1 ∷ 0 ∷ 5 ∷ [])) × (flow.local.len ≡ 32) × (flow.remote.addr ≡ V4 (10 ∷ 2 ∷ 0 ∷ 9 ∷ []))
    × (flow.remote.len ≡ 32) × (flow.proto ≡ Some 17)
    × (flow.local_ports ≡ record { start = 4660; end = 4660 } ∷ []) × (flow.remote_ports ≡ record { start = 53; end = 53 } ∷ [])
unfolding whole
flow_says = (refl, refl, refl, refl, refl, refl, refl)

abbrev pub asked : List Event
asked =
    events.Policy a list_4 ∷ events.Open a ∷ events.Down a ∷ events.Down a ∷ events.Let a packet_4 ∷ events.Let a packet_4 ∷ []

-- the drop is the answer each time, and the acquire is told at the first one alone
pub shown-asked : (shows : Shows) → history shows alone nothing asked ≡
    acts.Took 1
    ∷ acts.Took 2 ∷ acts.Opened a 1 ∷ acts.Order a 1 1 asks.Read ∷ acts.Order a 1 2 (asks.Policy list_4)
    ∷ acts.Took 3 ∷ acts.Handled a 1 1 (plain 200)
    ∷ acts.Took 4 ∷ acts.Policy a list_4 ∷ acts.Handled a 1 2 (plain 204)
    ∷ acts.Took 5 ∷ acts.Let a packet_4 ∷ acts.Drop a why.NoSa ∷ acts.Notice a 1 (notices.Acquire (codes "o1") flow)
    ∷ acts.Took 6 ∷ acts.Let a packet_4 ∷ acts.Drop a why.NoSa ∷ []
unfolding let_acts view_of holds_packet reply
shown-asked shows = refl
