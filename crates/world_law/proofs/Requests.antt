-- The next request of a gateway carries its next order, can be written, and is read as what the order asks; and so can its reply.
use Rattle.std.proofs.Common.{◌≡◌, ℕ, Bool, true, false, List, [], ◌∷◌, All, MatchOption, Option, Some, None, Ok, subst, if◌then◌else◌}
use Rattle.std.proofs.lemmas.Bool.{or_left, or_right}
use Rattle.std.proofs.lemmas.List.Elements.{All-head, All-tail, recursion_from_All}
use Rattle.std.specs.Prelude.{find}
use Rattle.std.specs.List.{AllByRecursion}
use Rattle.std.specs.Str.{bytes_eq}
use Rattle.ikl_base.specs.Address.{IsAddress}
use Rattle.ikl_base.specs.declared.address.Addr.{Addr}
use Rattle.ikeless_tree.specs.Typed.{IsTypedOrder}
use Rattle.ikeless_tree.specs.declared.command.Peer.{Peer}
use Rattle.ikeless_tree.specs.declared.order.Lane.TheVariants as lanes
use Rattle.ikeless_tree.specs.declared.order.Order.{Order}
use Rattle.reply_table.specs.Order.{ask_of}
use Rattle.reply_table.specs.Reply.{reply}
use Rattle.rc_http.specs.Written.{IsWritableResponse}
use Rattle.rc_request.specs.Requests.{request_of}
use Rattle.rc_resource.specs.Messages.{IsOrder, order_message, reply_message}
use Rattle.rc_resource.specs.Replies.{reply_of}
use Rattle.hist_acts.specs.Gateways.{is_named}
use Rattle.hist_acts.specs.declared.act.Act.{Act}
use Rattle.hist_acts.specs.declared.event.Header.{Header}
use Rattle.hist_acts.specs.Sessions.{next_request}
use Rattle.hist_gateway.proofs.KeepsLemmas.{same-refl}
use Rattle.hist_gateway.specs.Rows.{tree_of}
use Rattle.hist_safety.proofs.Basics.{some-is}
use Rattle.hist_world.specs.Block.{Past}
use Rattle.session_pipe.specs.Sessions.{KeepsSessions}
use Rattle.session_pipe.specs.UnderWay.{next_message}
use Rattle.session_pipe.proofs.Moves.{request_next}
use Rattle.hist_wire.specs.Wire.{line_at, pipe_at, request_at, response_at}
use Rattle.acts_spell.proofs.Found.{request-good}
use Rattle.acts_spell.specs.Spelled.{IsSpelled, IsSpelledHeader}
use Rattle.world_steps.specs.Worlds.{World}
use Rattle.world_law.specs.Stands.{StandsFor}
use Rattle.world_law.proofs.Gives.{Texts}
use Rattle.world_law.proofs.Replies.{IsGoodOrder, order-good}
use Rattle.world_law.proofs.Takes.{Requests}
use Rattle.world_law.proofs.Typed.{AreSpelled, policies-typed, rows-typed, tree-stands}

-- ---- the gateway

none-peer : (q : Peer) → None ≡ Some q → ⊥
none-peer q e = cc

found-address : (g : List ℕ) (q : Peer) (ps : List Peer) → All (λ p. IsAddress p.address) ps → find (λ r. bytes_eq r.name g) ps ≡ Some q
    → IsAddress q.address
found-address g q [] all e = absurd (none-peer q e)
found-address g q (p ∷ ps) all e = by-name (bytes_eq p.name g) e (found-address g q ps (All-tail (λ r. IsAddress r.address) p ps all)) where
  by-name : (b : Bool) → (if b then Some p else find (λ r. bytes_eq r.name g) ps) ≡ Some q
      → (find (λ r. bytes_eq r.name g) ps ≡ Some q → IsAddress q.address) → IsAddress q.address
  by-name true e ih = subst (λ (r : Peer). IsAddress r.address) (some-is p q e) (All-head (λ r. IsAddress r.address) p ps all)
  by-name false e ih = ih e

-- all gateways are known
known-more : (p : Peer) (ps xs : List Peer) → AllByRecursion (λ q. is_named ps q.name ≡ true) xs
    → AllByRecursion (λ q. is_named (p ∷ ps) q.name ≡ true) xs
known-more p ps [] a = tt
known-more p ps (x ∷ xs) a = (or_right (bytes_eq p.name x.name) (is_named ps x.name) a.0, known-more p ps xs a.1)

pub all-known : (ps : List Peer) → AllByRecursion (λ q. is_named ps q.name ≡ true) ps
all-known [] = tt
all-known (p ∷ ps) = (or_left (bytes_eq p.name p.name) (is_named ps p.name) (same-refl p.name), known-more p ps ps (all-known ps))

-- ---- the request

-- the request of an order is read as what it asks
abbrev pub Reads : Type 0
Reads = (host : Addr) (o : Order) → IsOrder o → IsTypedOrder o → request_of (order_message host o) ≡ Ok (ask_of o)

-- what was ordered has no fault
good-next : (header : Header) (g : List ℕ) (o : Order) (p : Past) → AreSpelled header.gateways p.world → next_request g p.world ≡ Some o
    → IsGoodOrder o
good-next header g o p spelled e =
    let good = request-good header.gateways g o p.world (recursion_from_All (IsSpelled header.gateways) p.world spelled) e in
    order-good o good.0 good.1

abbrev message_at : Past → Peer → Option (List ℕ)
message_at p q = next_message lanes.Down (pipe_at q.name q.address p.world)

-- the message is the request of the order, where there is one
abbrev Carries : Past → Peer → Option Order → Type 0
Carries p q order = MatchOption order (message_at p q ≡ None) (λ o. (k : List Act) × (message_at p q ≡ Some (request_at q.address k o)))

carries : (p : Past) (q : Peer) (order : Option Order) → KeepsSessions p.world → next_request q.name p.world ≡ order → Carries p q order
carries p q order keeps e = subst (Carries p q) e (request_next (request_at q.address) (response_at q.name) line_at q.name p.world keeps)

reply-writable : Texts → (header : Header) (p : Past) (w : World) (q : Peer) (o : Order) → IsSpelledHeader header → StandsFor header p w
    → IsGoodOrder o
    → IsWritableResponse (reply_message (reply_of (reply (tree_of q.name p.world) (ask_of o))))
reply-writable texts header p w q o i s good =
    let t = s.told in
    texts.replies (tree_of q.name p.world) o
    (tree-stands header.gateways q.name p.world p.controller t.lawful.lawful t.lawful.meet i.sound.named t.plain t.spelled)
    (rows-typed header.gateways q.name p.world t.lawful.lawful t.spelled)
    (policies-typed header.gateways q.name p.world t.spelled) good.0 good.1

pub requests-of : Texts → Reads → (header : Header) (p : Past) (w : World) → IsSpelledHeader header → StandsFor header p w
    → Requests header p
requests-of texts reads header p w i s =
    let good : (q : Peer) (o : Order) → next_request q.name p.world ≡ Some o → IsGoodOrder o =
    λ q o e. good-next header q.name o p s.told.spelled e in
    record {
      none = λ q e. carries p q None s.told.sessions e;
      next = λ q o e. (carries p q (Some o) s.told.sessions e).1;
      order = λ q o e. (good q o e).0;
      writable = λ q o found e. texts.orders q.address o (found-address q.name q header.gateways i.addresses found) (good q o e).0
          (good q o e).1;
      asks = λ q o e. reads q.address o (good q o e).0 (good q o e).1;
      reply = λ q o e. reply-writable texts header p w q o i s (good q o e);
    }
