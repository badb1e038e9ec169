use Rattle.std.proofs.Common.{◌≡◌, Option, Some, sym, subst}
use Rattle.ikeless_tree.specs.declared.order.Lane.TheVariants as lanes
use Rattle.ikeless_tree.specs.declared.order.Order.{Order}
use Rattle.session_pipe.specs.UnderWay.{next_message}
use Rattle.world_steps.specs.Nodes.{Node}
use Rattle.world_steps.specs.Conditions.{Asks}
use Rattle.world_nodes.proofs.Requests.{asked-written}
use Rattle.world_nodes.proofs.node.Node.handle.Goals as goal

pub handle_request-requires-clause-written : goal.handle_request-requires-clause-written
handle_request-requires-clause-written c =
    let n : Node = record {
      name = c.self.inside.name;
      config = c.self.inside.gateway.config;
      kept = c.self.inside.gateway.kept;
      pipe = c.self.inside.pipe;
      orders = c.self.inside.orders;
      handled = c.self.inside.handled;
      answered = c.self.inside.answered;
    } in
    let same : n ≡ c.args.self.now = c.self.view_is in
    let asks : (x : Option Order) × Asks n x = subst (λ (m : Node). (x : Option Order) × Asks m x) (sym same) c.requires.asks in
    let next : next_message lanes.Down n.pipe ≡ Some c.as_slice.result.now = cc
    (c.in_ok-take.ensures.message, c.in-Some.is, c.as_slice.ensures) in
    asked-written n c.as_slice.result.now c.in_ok-request-in-Some.request next (λ host o. c.in_ok-request-in-Some.ensures.order host o) asks
