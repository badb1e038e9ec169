-- The acts of a gateway at an event open and answer nothing, give no order, and handle one request at most.
use Rattle.std.proofs.Common.{◌≡◌, ℕ, ◌+◌, nat_lt, max, Bool, true, false, List, [], ◌∷◌, ◌++◌, Option, Some, None, Ok, refl, ◌∙◌, ap, arith, if◌then◌else◌}
use Rattle.std.proofs.lemmas.Bool.{and_from}
use Rattle.ip_packet.specs.Ttl.{with_ttl}
use Rattle.ikeless_tree.specs.declared.order.Answer.{Answer}
use Rattle.ikeless_tree.specs.declared.order.Order.{Order}
use Rattle.reply_table.specs.Order.{ask_of}
use Rattle.reply_table.specs.Reply.{Outcome, reply}
use Rattle.reply_table.specs.declared.ask.Change.{Change}
use Rattle.reply_table.specs.declared.ask.Change.TheVariants as changes
use Rattle.hist_acts.specs.declared.act.Act.{Act}
use Rattle.hist_acts.specs.declared.act.Act.TheVariants as acts
use Rattle.hist_acts.specs.declared.event.Event.{Event}
use Rattle.hist_acts.specs.declared.event.Event.TheVariants as events
use Rattle.hist_acts.specs.declared.event.Header.{Header}
use Rattle.hist_acts.specs.Past.{clock}
use Rattle.hist_acts.specs.Sessions.{next_request, session_taken}
use Rattle.hist_gateway.specs.Arrive.{arrive_acts}
use Rattle.hist_gateway.specs.Block as node
use Rattle.hist_gateway.specs.Handle.{answer_of, change_acts, requests}
use Rattle.hist_gateway.specs.Let.{let_acts}
use Rattle.hist_gateway.specs.Rows.{tree_of}
use Rattle.hist_safety.proofs.Basics.{both-left, both-right, no}
use Rattle.hist_world.specs.Arrivals.{flipped, is_forged, sent_at}
use Rattle.hist_world.specs.Block.{Shows, arrives_at, at_gateway, boots, gateway_acts, gateway_at, handles_at, looks, raised}
use Rattle.hist_world.proofs.Arrives.{ArriveAnswer, arrive-shape}
use Rattle.hist_world.proofs.Followers.{are_followers, is_follower, looks-follow}
use Rattle.hist_world.proofs.Lets.{LetAnswer, Shaped, let-shape}
use Rattle.acts_spell.proofs.Counts.{AreFew, are_quiet, is_quiet, quiet-few}

follower-quiet : (a : Act) → is_follower a ≡ true → is_quiet a ≡ true
follower-quiet (acts.Gone f x w) e = refl
follower-quiet (acts.Notice f s n) e = refl
follower-quiet a e = absurd (no e)

followers-quiet : (xs : List Act) → are_followers xs ≡ true → are_quiet xs ≡ true
followers-quiet [] e = refl
followers-quiet (a ∷ xs) e =
    and_from (is_quiet a) (are_quiet xs) (follower-quiet a (both-left (is_follower a) (are_followers xs) e))
    (followers-quiet xs (both-right (is_follower a) (are_followers xs) e))

let-quiet : (g : List ℕ) (a : Act) → LetAnswer g a → is_quiet a ≡ true
let-quiet g (acts.Clear f o) e = refl
let-quiet g (acts.Sent f x n d) e = refl
let-quiet g (acts.Drop f w) e = refl
let-quiet g a e = absurd e

arrive-quiet : (g : List ℕ) (a : Act) → ArriveAnswer g a → is_quiet a ≡ true
arrive-quiet g (acts.Gave f x n p) e = refl
arrive-quiet g (acts.Pass f o) e = refl
arrive-quiet g (acts.Drop f w) e = refl
arrive-quiet g a e = absurd e

shaped-quiet : (ok : Act → Type 0) (xs : List Act) → ((a : Act) → ok a → is_quiet a ≡ true) → Shaped ok xs → are_quiet xs ≡ true
shaped-quiet ok xs f s =
    ap are_quiet s.parts ∙ and_from (is_quiet s.first) (are_quiet s.rest) (f s.first s.fits) (followers-quiet s.rest s.follow)

lets-quiet : (h : List Act) (o : List ℕ) (c : Option node.Gateway) → are_quiet (at_gateway h (node.Let o) c) ≡ true
lets-quiet h o None = refl
lets-quiet h o (Some c) =
    let w : List Act = acts.Let c.name o ∷ h in shaped-quiet (LetAnswer c.name) (let_acts c.name c.seq_last w o) (let-quiet c.name)
    (let-shape c.name o c.seq_last w)

arrives-quiet : (h : List Act) (o : List ℕ) (c : Option node.Gateway) → are_quiet (arrives_at h o c) ≡ true
arrives-quiet h o None = refl
arrives-quiet h o (Some c) = by-forgery (is_forged c.name c.address h o) where
  by-forgery : (b : Bool) → are_quiet (if b then acts.Arrived c.name o ∷ [] else node.gw_block c h (node.Arrive o)) ≡ true
  by-forgery true = refl
  by-forgery false =
      let w : List Act = acts.Arrived c.name o ∷ h in
      shaped-quiet (ArriveAnswer c.name) (arrive_acts c.name c.address w o) (arrive-quiet c.name) (arrive-shape c.name c.address w o)

raised-quiet : (header : Header) (h : List Act) (b : Bool) → are_quiet (raised header h b) ≡ true
raised-quiet header h true = followers-quiet (looks h header.gateways) (looks-follow h header.gateways)
raised-quiet header h false = refl

boots-quiet : (g : List ℕ) (c : Option node.Gateway) → are_quiet (boots g c) ≡ true
boots-quiet g None = refl
boots-quiet g (Some c) = refl

change-few : (g : List ℕ) (s k : ℕ) (r : Outcome) (a : Answer) (c : Change) → AreFew (change_acts g r c ++ acts.Handled g s k a ∷ [])
change-few g s k r a changes.Nothing =
    record { taken = refl; opened = omega arith; handled = omega arith; answered = omega arith; orders = omega arith }
change-few g s k r a changes.Spd =
    record { taken = refl; opened = omega arith; handled = omega arith; answered = omega arith; orders = omega arith }
change-few g s k r a (changes.Put e) =
    record { taken = refl; opened = omega arith; handled = omega arith; answered = omega arith; orders = omega arith }
change-few g s k r a (changes.Gone x) =
    record { taken = refl; opened = omega arith; handled = omega arith; answered = omega arith; orders = omega arith }

request-few : (h : List Act) (o : Order) (c : Option node.Gateway) → AreFew (at_gateway h (node.Handle (Ok (ask_of o))) c)
request-few h o None = quiet-few [] refl
request-few h o (Some c) =
    let r : Outcome = reply (tree_of c.name h) (ask_of o) in
    change-few c.name (session_taken c.name h) (requests c.name h + 1) r (answer_of r) r.change

down-few : (h : List Act) (o : Option Order) (c : Option node.Gateway) → AreFew (handles_at h c o)
down-few h None c = quiet-few [] refl
down-few h (Some o) c = request-few h o c

pub gateway-few : (shows : Shows) (header : Header) (h : List Act) (e : Event) → AreFew (gateway_acts shows header h e)
gateway-few shows header h (events.Let g o) =
    quiet-few (gateway_acts shows header h (events.Let g o)) (lets-quiet h o (gateway_at header g))
gateway-few shows header h (events.Arrive g o) =
    quiet-few (gateway_acts shows header h (events.Arrive g o)) (arrives-quiet h o (gateway_at header g))
gateway-few shows header h (events.ArriveSent g k) =
    quiet-few (gateway_acts shows header h (events.ArriveSent g k)) (arrives-quiet h (sent_at k h) (gateway_at header g))
gateway-few shows header h (events.ArriveFlip g k n b) =
    quiet-few (gateway_acts shows header h (events.ArriveFlip g k n b)) (arrives-quiet h (flipped n b (sent_at k h)) (gateway_at header g))
gateway-few shows header h (events.ArriveTtl g k t) =
    quiet-few (gateway_acts shows header h (events.ArriveTtl g k t)) (arrives-quiet h (with_ttl t (sent_at k h)) (gateway_at header g))
gateway-few shows header h (events.Now t) =
    let a : Act = acts.Now (max t (clock h)) in
    quiet-few (gateway_acts shows header h (events.Now t)) (raised-quiet header (a ∷ h) (nat_lt (clock h) t))
gateway-few shows header h (events.Boot g) = quiet-few (gateway_acts shows header h (events.Boot g)) (boots-quiet g (gateway_at header g))
gateway-few shows header h (events.Down g) = down-few h (next_request g h) (gateway_at header g)
gateway-few shows header h (events.Wire g lane) = quiet-few (gateway_acts shows header h (events.Wire g lane)) refl
gateway-few shows header h e = quiet-few [] refl
