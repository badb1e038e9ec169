-- The next request of a gateway.
use Rattle.std.proofs.Common.{◌≡◌, List, ℕ, Option, Some, None, Result, Ok, sym, subst}
use Rattle.std.specs.List.{All}
use Rattle.ikl_base.specs.declared.address.Addr.{Addr}
use Rattle.ikeless_tree.specs.declared.order.Lane.TheVariants as lanes
use Rattle.ikeless_tree.specs.declared.order.Order.{Order}
use Rattle.reply_table.specs.declared.ask.Ask.{Ask}
use Rattle.reply_table.specs.Order.{ask_of}
use Rattle.rc_http.specs.Written.{request_text}
use Rattle.rc_request.specs.declared.error.RcError.{RcError}
use Rattle.rc_request.specs.Requests.{request_of}
use Rattle.rc_resource.specs.Messages.{order_message}
use Rattle.session_pipe.specs.UnderWay.{next_message}
use Rattle.gw_core.specs.Machine.{Handle}
use Rattle.world_steps.specs.Nodes.{Node, outcome}
use Rattle.world_steps.specs.Conditions.{Asks, IsSent, IsWritten}

-- these octets are read as what an order asks
abbrev pub IsReadAs : List ℕ → Result Ask RcError → Type 0
IsReadAs octets r = (host : Addr) (o : Order) → octets ≡ request_text (order_message host o) → IsSent host o
    → request_of (order_message host o) ≡ Ok (ask_of o) → r ≡ Ok (ask_of o)

-- what is done at the next request can be told
pub asked-written : (n : Node) (octets : List ℕ) (r : Result Ask RcError) → next_message lanes.Down n.pipe ≡ Some octets → IsReadAs octets r
    → ((x : Option Order) × Asks n x) → All IsWritten (outcome n (Handle r)).acts
asked-written n octets r e f (None, a) = absurd (cc)
asked-written n octets r e f (Some o, a) =
    let g = a.next in
    let same : octets ≡ request_text (order_message n.config.address o) = cc in
    subst (λ (z : Result Ask RcError). All IsWritten (outcome n (Handle z)).acts) (sym (f n.config.address o same a.sent a.asks)) a.tells
