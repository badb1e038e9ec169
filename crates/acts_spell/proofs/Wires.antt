-- What `wire` shows is octets, no more than a line can spell.
use Rattle.std.proofs.Common.{◌≡◌, ℕ, ◌≤◌, ◌==◌, nat_le, Bool, true, false, List, [], ◌∷◌, ◌++◌, length, drop, Option, Some, None, refl, subst, arith, if◌then◌else◌}
use Rattle.std.specs.Prelude.{find, flat_map}
use Rattle.std.specs.List.{AllByRecursion}
use Rattle.std.specs.Str.{bytes_eq}
use Rattle.std.proofs.lemmas.List.Elements.{All-append, All-drop, All-from_recursion, All-take, recursion_from_All}
use Rattle.ikl_base.specs.declared.address.Addr.{Addr}
use Rattle.ikl_base.specs.Address.{IsAddress}
use Rattle.ikeless_tree.specs.Typed.{AreOctets}
use Rattle.ikeless_tree.specs.declared.command.Peer.{Peer}
use Rattle.ikeless_tree.specs.declared.order.Lane.{Lane}
use Rattle.ikeless_tree.specs.declared.order.Lane.TheVariants as lanes
use Rattle.ikeless_tree.specs.declared.order.Order.{Order}
use Rattle.ikeless_tree.specs.declared.order.Order.TheVariants as asks
use Rattle.ikeless_tree.specs.declared.ends.GoneWhy.TheVariants as gone
use Rattle.ikeless_tree.specs.declared.sad.SadEntry.{SadEntry}
use Rattle.ikeless_tree.specs.Check.{is_sad_name}
use Rattle.hist_acts.specs.declared.act.Act.{Act}
use Rattle.hist_acts.specs.declared.act.Act.TheVariants as acts
use Rattle.hist_acts.specs.declared.event.Header.{Header}
use Rattle.hist_acts.specs.Past.{clock}
use Rattle.hist_acts.specs.Sessions.{answered, handled, is_open, is_session, next_request, notices_heard, openings, session_taken}
use Rattle.hist_gateway.specs.Block as node
use Rattle.hist_gateway.specs.Rows.{tree_of}
use Rattle.hist_safety.specs.Law.{IsLawful}
use Rattle.hist_world.specs.Block.{gateway_at, with_peer}
use Rattle.hist_wire.specs.Wire.{before_change, line_at, pipe_at, request_at, response_at, response_to, shown_at, under_way}
use Rattle.hist_wire.proofs.Shows.{few-octets}
use Rattle.session_pipe.specs.Past.{lines, requests, responses}
use Rattle.session_pipe.specs.UnderWay.{unread, unread_octets}
use Rattle.acts_spell.proofs.Each.{each-append, each-if, some-is}
use Rattle.acts_spell.proofs.Octets.{IsOctet, none}
use Rattle.acts_spell.proofs.Found.{AreSpelled, IsGoodOrder, request-good}
use Rattle.acts_spell.proofs.Lines.{line-octets}
use Rattle.acts_spell.proofs.Messages.{request-octets, response-octets}
use Rattle.acts_spell.proofs.Notices.{half-named}
use Rattle.acts_spell.proofs.Rows.{tree-good}

-- ---- the messages of acts

requests-octets : (gs : List Peer) (host : Addr) (g : List ℕ) (s : ℕ) (h : List Act) → IsAddress host → AreSpelled gs h
    → AllByRecursion AreOctets (requests (request_at host) g s h)
requests-octets gs host g s [] a l = tt
requests-octets gs host g s (acts.Order f t k o ∷ h) a l =
    let more = requests-octets gs host g s h a l.1 in
    each-if AreOctets (is_session f t g s) (requests (request_at host) g s h ++ request_at host h o ∷ []) (requests (request_at host) g s h)
    (each-append AreOctets (requests (request_at host) g s h) (request_at host h o ∷ []) more
    (request-octets host o a (l.0.0.1, l.0.1.2), tt)) more
requests-octets gs host g s (x ∷ h) a l = requests-octets gs host g s h a l.1

before-spelled : (gs : List Peer) (h : List Act) → AreSpelled gs h → AreSpelled gs (before_change h)
before-spelled gs [] s = s
before-spelled gs (acts.Policy f list ∷ h) s = s.1
before-spelled gs (acts.Put f e ∷ h) s = s.1
before-spelled gs (acts.Gone f x gone.Removed ∷ h) s = s.1
before-spelled gs (a ∷ h) s = s

before-lawful : (gs : List Peer) (h : List Act) → IsLawful gs h → IsLawful gs (before_change h)
before-lawful gs [] s = s
before-lawful gs (acts.Policy f list ∷ h) s = s.1
before-lawful gs (acts.Put f e ∷ h) s = s.1
before-lawful gs (acts.Gone f x gone.Removed ∷ h) s = s.1
before-lawful gs (a ∷ h) s = s

put-named : (o : Order) (e : SadEntry) → IsGoodOrder o → o ≡ asks.Put e → is_sad_name e.name ≡ true
put-named o e g q = let p : IsGoodOrder (asks.Put e) = subst IsGoodOrder q g in half-named e p.0

to-octets : (gs : List Peer) (g : List ℕ) (h : List Act) (o : Option Order) → IsLawful gs h → AreSpelled gs h → next_request g h ≡ o
    → AreOctets (response_to g h o)
to-octets gs g h None l s e = none
to-octets gs g h (Some o) l s e =
    let good = request-good gs g o h s e in
    response-octets (tree_of g (before_change h)) o (tree-good gs g (before_change h) (before-lawful gs h l) (before-spelled gs h s))
    (λ d q. put-named o d good q)

responses-octets : (gs : List Peer) (g : List ℕ) (s : ℕ) (h : List Act) → IsLawful gs h → AreSpelled gs h
    → AllByRecursion AreOctets (responses (response_at g) g s h)
responses-octets gs g s [] l p = tt
responses-octets gs g s (acts.Handled f t k a ∷ h) l p =
    let more = responses-octets gs g s h l.1 p.1 in
    each-if AreOctets (is_session f t g s) (responses (response_at g) g s h ++ response_at g h a ∷ []) (responses (response_at g) g s h)
    (each-append AreOctets (responses (response_at g) g s h) (response_at g h a ∷ []) more
    (to-octets gs g h (next_request g h) l.1 p.1 refl, tt)) more
responses-octets gs g s (x ∷ h) l p = responses-octets gs g s h l.1 p.1

lines-octets : (gs : List Peer) (g : List ℕ) (s : ℕ) (h : List Act) → AreSpelled gs h → AllByRecursion AreOctets (lines line_at g s h)
lines-octets gs g s [] p = tt
lines-octets gs g s (acts.Notice f t n ∷ h) p =
    let more = lines-octets gs g s h p.1 in
    each-if AreOctets (is_session f t g s) (lines line_at g s h ++ line_at h n ∷ []) (lines line_at g s h)
    (each-append AreOctets (lines line_at g s h) (line_at h n ∷ []) more (line-octets n (clock h) (p.0.0.1, p.0.1.1), tt)) more
lines-octets gs g s (x ∷ h) p = lines-octets gs g s h p.1

-- ---- what is under way

dropped : (n : ℕ) (xs : List (List ℕ)) → AllByRecursion AreOctets xs → AllByRecursion AreOctets (drop n xs)
dropped n xs h = recursion_from_All AreOctets (drop n xs) (All-drop AreOctets n xs (All-from_recursion AreOctets xs h))

unread-octets : (gs : List Peer) (g : List ℕ) (host : Addr) (lane : Lane) (h : List Act) → IsAddress host → IsLawful gs h → AreSpelled gs h
    → AllByRecursion AreOctets (unread lane (pipe_at g host h))
unread-octets gs g host lanes.Down h a l s =
    let t : ℕ = session_taken g h in
    each-if AreOctets (t == 0) [] (drop (handled g t h) (requests (request_at host) g t h)) tt
    (dropped (handled g t h) (requests (request_at host) g t h) (requests-octets gs host g t h a s))
unread-octets gs g host lanes.Up h a l s =
    let t : ℕ = openings g h in
    each-if AreOctets (is_open g h) (drop (answered g t h) (responses (response_at g) g t h)) []
    (dropped (answered g t h) (responses (response_at g) g t h) (responses-octets gs g t h l s)) tt
unread-octets gs g host lanes.Note h a l s =
    let t : ℕ = openings g h in
    each-if AreOctets (is_open g h) (drop (notices_heard g t h) (lines line_at g t h)) []
    (dropped (notices_heard g t h) (lines line_at g t h) (lines-octets gs g t h s)) tt

joined : (xs : List (List ℕ)) → AllByRecursion AreOctets xs → AreOctets (flat_map (λ message. message) xs)
joined [] h = none
joined (x ∷ xs) h = All-append IsOctet x (flat_map (λ message. message) xs) h.0 (joined xs h.1)

-- what is known of a gateway by its name
pub record IsGatewayOf (header : Header) (g : List ℕ) (c : node.Gateway) : Type 0 where
  pub name : c.name ≡ g
  pub address : IsAddress c.address
  pub last : c.seq_last ≡ header.seq_last

of-peer : (header : Header) (g : List ℕ) (p : Option Peer) (c : node.Gateway) → ((q : Peer) → p ≡ Some q → IsAddress q.address)
    → with_peer header g p ≡ Some c → IsGatewayOf header g c
of-peer header g None c a e = cc
of-peer header g (Some p) c a e =
    let d : node.Gateway = record { name = g; address = p.address; seq_last = header.seq_last } in
    subst (IsGatewayOf header g) (some-is d c e) (record { name = refl; address = a p refl; last = refl })

peer-if : (b : Bool) (p q : Peer) (o : Option Peer) → IsAddress p.address → (o ≡ Some q → IsAddress q.address)
    → (if b then Some p else o) ≡ Some q → IsAddress q.address
peer-if true p q o a f e = subst (λ (z : Peer). IsAddress z.address) (some-is p q e) a
peer-if false p q o a f e = f e

found-peer : (t : Peer → Bool) (ps : List Peer) (q : Peer) → AllByRecursion (λ p. IsAddress p.address) ps → find t ps ≡ Some q
    → IsAddress q.address
found-peer t [] q a e = cc
found-peer t (p ∷ ps) q a e = peer-if (t p) p q (find t ps) a.0 (found-peer t ps q a.1) e

pub gateway-of : (header : Header) (g : List ℕ) (c : node.Gateway) → AllByRecursion (λ p. IsAddress p.address) header.gateways
    → gateway_at header g ≡ Some c → IsGatewayOf header g c
gateway-of header g c a e =
    of-peer header g (find (λ p. bytes_eq p.name g) header.gateways) c (λ q f. found-peer (λ p. bytes_eq p.name g) header.gateways q a f) e

shown-octets : (header : Header) (g : List ℕ) (lane : Lane) (h : List Act) → AllByRecursion (λ p. IsAddress p.address) header.gateways
    → IsLawful header.gateways h → AreSpelled header.gateways h
    → (c : Option node.Gateway) → gateway_at header g ≡ c → AreOctets (shown_at g lane h c)
shown-octets header g lane h a l s None e = none
shown-octets header g lane h a l s (Some c) e =
    let is = gateway-of header g c a e in
    All-take IsOctet 4096 (unread_octets lane (pipe_at g c.address h))
    (joined (unread lane (pipe_at g c.address h)) (unread-octets header.gateways g c.address lane h is.address l s))

pub wire-octets : (header : Header) (g : List ℕ) (lane : Lane) (h : List Act) → AllByRecursion (λ p. IsAddress p.address) header.gateways
    → IsLawful header.gateways h → AreSpelled header.gateways h
    → AreOctets (under_way header g lane h)
wire-octets header g lane h a l s = shown-octets header g lane h a l s (gateway_at header g) refl

no-more : (n : ℕ) → n ≤ 4096 → nat_le n 4096 ≡ true
no-more n l = grind (arith, l)

pub wire-few : (header : Header) (g : List ℕ) (lane : Lane) (h : List Act) → nat_le (length (under_way header g lane h)) 4096 ≡ true
wire-few header g lane h = no-more (length (under_way header g lane h)) (few-octets header g lane h)
