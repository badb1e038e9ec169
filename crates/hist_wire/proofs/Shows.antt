-- What `wire` shows is what the pipe has.
use Rattle.std.proofs.Common.{◌≡◌, ℕ, ◌≤◌, List, [], length, take, map, drop, ◌==◌, Option, Some, None, sym, ◌∙◌, ap, arith, if◌then◌else◌}
use Rattle.std.proofs.lemmas.List.{length-take}
use Rattle.ikl_base.specs.declared.address.Addr.{Addr}
use Rattle.ikeless_tree.specs.declared.order.Lane.{Lane}
use Rattle.ikeless_tree.specs.declared.order.Order.{Order}
use Rattle.rc_http.specs.Written.{request_text}
use Rattle.rc_resource.specs.Messages.{order_message}
use Rattle.hist_acts.specs.declared.act.Act.{Act}
use Rattle.hist_acts.specs.declared.event.Header.{Header}
use Rattle.hist_acts.specs.Past.{after}
use Rattle.hist_acts.specs.Sessions.{handled, orders_given, session_taken}
use Rattle.hist_gateway.specs.Block as node
use Rattle.session_pipe.specs.Sessions.{KeepsSessions}
use Rattle.session_pipe.specs.UnderWay.{unread_octets}
use Rattle.hist_world.specs.Block.{gateway_at}
use Rattle.hist_sessions.specs.Pipes.{piped}
use Rattle.hist_sessions.proofs.Pipes.{down-is, pipe-follows}
use Rattle.hist_wire.specs.Wire.{first_octets, line_at, pipe_at, request_at, response_at, shown_at, under_way}

pub shows-pipe : (header : Header) (g : List ℕ) (c : node.Gateway) (lane : Lane) (h more : List Act) → gateway_at header g ≡ Some c
    → KeepsSessions (after h more)
    → under_way header g lane (after h more) ≡ first_octets lane (piped (request_at c.address) (response_at g) line_at g h more
    (pipe_at g c.address h))
shows-pipe header g c lane h more at k =
    ap (shown_at g lane (after h more)) at
    ∙ ap (first_octets lane) (sym (pipe-follows (request_at c.address) (response_at g) line_at g h more k))

pub shows-requests : (g : List ℕ) (host : Addr) (h : List Act)
    → (pipe_at g host h).down ≡ (if session_taken g h == 0 then [] else map (λ o. request_text (order_message host o))
    (drop (handled g (session_taken g h) h) (orders_given g (session_taken g h) h)))
shows-requests g host h = down-is (λ (o : Order). request_text (order_message host o)) (response_at g) line_at g h

few : (xs : List ℕ) → length (take 4096 xs) ≤ 4096
few xs = let e = length-take 4096 xs in grind (arith, e)

pub few-octets : (header : Header) (g : List ℕ) (lane : Lane) (h : List Act) → length (under_way header g lane h) ≤ 4096
few-octets header g lane h = by-gateway (gateway_at header g) where
  by-gateway : (c : Option node.Gateway) → length (shown_at g lane h c) ≤ 4096
  by-gateway None = omega arith
  by-gateway (Some c) = few (unread_octets lane (pipe_at g c.address h))
